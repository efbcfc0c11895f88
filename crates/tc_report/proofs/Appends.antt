-- Lines that a loop appends one after another.
use Rattle.std.proofs.Common.{◌≡◌, ℕ, ◌+◌, ◌<◌, ◌≤◌, Bool, List, [], ◌++◌, length, get_or, drop, refl, sym, ◌∙◌}
use Rattle.std.proofs.Math.ListN.{drop_of_length-le}
use Rattle.std.proofs.lemmas.List.{drop_more}
use Rattle.std.specs.List.{flat_map}
use Rattle.tc_word.proofs.Items.{followed}
use Rattle.slot_arbiter.specs.declared.event.Access.{Access}
use Rattle.tc_report.specs.declared.rows.Row.{Row}
use Rattle.tc_report.specs.Line.{access_line, out_line, outs_from}
use Rattle.tc_report.specs.Report.{core_lines, cores_from}

pub more_outs : (core : ℕ) (unsigned : Bool) (words : List ℕ) (i : ℕ) (text more all : List ℕ) → i < length words → more
    ≡ text ++ out_line core unsigned i (get_or words i 0)
    → text ++ outs_from core unsigned i (drop i words) ≡ all → more
    ++ outs_from core unsigned (i + 1) (drop (i + 1) words) ≡ all
more_outs core unsigned words i text more all within appended held =
    followed text more all (out_line core unsigned i (get_or words i 0)) _ appended
    (sym (rw (drop_more words i 0 within) refl) ∙ held)

pub all_outs : (core : ℕ) (unsigned : Bool) (words : List ℕ) (i : ℕ) → length words ≤ i
    → outs_from core unsigned i (drop i words) ≡ []
all_outs core unsigned words i over = rw (drop_of_length-le words over) refl

pub more_accesses : (core : ℕ) (accesses : List Access) (i : ℕ) (d : Access) (text more all : List ℕ)
    → i < length accesses → more ≡ text ++ access_line core (get_or accesses i d)
    → text ++ flat_map (access_line core) (drop i accesses) ≡ all → more
    ++ flat_map (access_line core) (drop (i + 1) accesses) ≡ all
more_accesses core accesses i d text more all within appended held =
    followed text more all (access_line core (get_or accesses i d)) _ appended
    (sym (rw (drop_more accesses i d within) refl) ∙ held)

pub all_accesses : (core : ℕ) (accesses : List Access) (i : ℕ) → length accesses ≤ i
    → flat_map (access_line core) (drop i accesses) ≡ []
all_accesses core accesses i over = rw (drop_of_length-le accesses over) refl

pub more_cores : (rows : List Row) (i : ℕ) (d : Row) (text more all : List ℕ) → i < length rows → more ≡ text
    ++ core_lines i (get_or rows i d)
    → text ++ cores_from i (drop i rows) ≡ all → more ++ cores_from (i + 1) (drop (i + 1) rows) ≡ all
more_cores rows i d text more all within appended held =
    followed text more all (core_lines i (get_or rows i d)) _ appended (sym (rw (drop_more rows i d within) refl)
    ∙ held)

pub all_cores : (rows : List Row) (i : ℕ) → length rows ≤ i → cores_from i (drop i rows) ≡ []
all_cores rows i over = rw (drop_of_length-le rows over) refl

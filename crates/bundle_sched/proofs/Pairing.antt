-- One more bundle after the one that is held.
use Rattle.std.proofs.Common.{◌≡◌, ℕ, ◌+◌, ◌<◌, ◌≤◌, Option, Some, None, List, [], ◌∷◌, ◌++◌, length, drop, get_or, sym, ap, ◌∙◌, append-nil}
use Rattle.std.proofs.lemmas.List.{drop_all}
use Rattle.tc_word.proofs.Items.{drop_item}
use Rattle.patmos_instr.specs.Bundles.{PlainBundle}
use Rattle.bundle_sched.specs.Packing.{behind, paired, in_pairs}

pub bundle_held : (bs : List PlainBundle) (i : ℕ) (b : PlainBundle) (done next whole : List PlainBundle)
    (o p : Option PlainBundle)
    → i < length bs → b ≡ get_or bs i b
    → ((rest : List PlainBundle) → next ++ behind p rest ≡ done ++ behind o (b ∷ rest)) → done
    ++ behind o (drop i bs) ≡ whole
    → next ++ behind p (drop (i + 1) bs) ≡ whole
bundle_held bs i b done next whole o p within is added before =
    added (drop (i + 1) bs) ∙ ap (λ xs. done ++ behind o xs) (sym (drop_item bs i b within is)) ∙ before

pub none_held : (bs : List PlainBundle) (i : ℕ) (done whole : List PlainBundle) → length bs ≤ i → done
    ++ behind None (drop i bs)
    ≡ whole → done ≡ whole
none_held bs i done whole past before =
    sym (append-nil done) ∙ ap (λ xs. done ++ in_pairs xs) (sym (drop_all i bs past)) ∙ before

pub last_held : (bs : List PlainBundle) (i : ℕ) (a : PlainBundle) (done next whole : List PlainBundle)
    → length bs ≤ i → done
    ++ behind (Some a) (drop i bs) ≡ whole → next ≡ done ++ a ∷ [] → next ≡ whole
last_held bs i a done next whole past before added =
    added ∙ ap (λ xs. done ++ paired a xs) (sym (drop_all i bs past)) ∙ before

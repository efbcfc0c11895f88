-- A listed text is read line by line: comments leave nothing.
use Rattle.std.proofs.Common.{◌≡◌, ◌∙◌, ℕ, ◌+◌, ◌^◌, ◌<◌, ◌==◌, ◌&&◌, not, Bool, true, false, List, [], ◌∷◌, ◌++◌, refl, sym, ap, append_assoc, Option, Some, None, codes}
use Rattle.std.specs.List.{list_all}
use Rattle.std.proofs.lemmas.Bool.{and_parts}
use Rattle.patmos_instr.specs.declared.instructions.Instr.{Instr}
use Rattle.patmos_syntax.specs.declared.statements.Where.{Where}
use Rattle.patmos_syntax.specs.declared.statements.Where.TheVariants.{Plain, Braces, Comment}
use Rattle.patmos_forms.specs.Readers.{is_name}
use Rattle.patmos_syntax.specs.Where.{is_end, after_byte, is_comment}
use Rattle.patmos_syntax.specs.Statements.{put_before, kept, not_blank, statements_of}
use Rattle.patmos_syntax.specs.Drafts.{ready, DraftInstr, DraftBundle}
use Rattle.patmos_syntax.specs.Items.{Item, function, label, bundle, items_from}
use Rattle.patmos_syntax.proofs.Scanned.{scanned, statements_scanned}
use Rattle.patmos_syntax.proofs.Pieces.{scanned-byte}
use Rattle.patmos_asm.specs.Printed.{label_name}
use Rattle.patmos_asm.specs.Written.{instr_text, plain_text, bundle_text}
use Rattle.patmos_asm.proofs.Lines.{is_harmless, none_of, stays, lacks, line_stated}
use Rattle.patmos_asm.proofs.Harmless.{AreHarmless}
use Rattle.patmos_asm.proofs.ReadBundles.{IsPrintable, IsPrintableDraft, IsPrintableSecond, first_harmless, second_no_flow, drafted, part_text, braces_text}
use Rattle.patmos_asm.proofs.ReadLines.{IsLine, bundle_line, bundle_read, label_read, function_read}
use Rattle.patmos_asm.proofs.Counted.{label_is_name}
use Rattle.code_text.specs.Lines.{Line, remark, begins, marks, does, lines_text}

is_other : (a : Bool) → not a ≡ true → a ≡ false
is_other true h = cc
is_other false h = refl

-- ---- comments

-- a comment goes on to the end of its line
comment_read : (line : ℕ) (note rest : List ℕ) → lacks 10 note ≡ true → scanned line Comment (note ++ 10 ∷ rest)
    ≡ (line, []) ∷ scanned (line + 1) Plain rest
comment_read line [] rest e = refl
comment_read line (b ∷ bs) rest e =
    let t = and_parts (not (b == 10)) (lacks 10 bs) e in
    let n : b == 10 ≡ false = is_other (b == 10) t.0 in
    rw n (comment_read line bs rest t.1)

remark_read : (line : ℕ) (note rest : List ℕ) → lacks 10 note ≡ true
    → statements_of line (35 ∷ 32 ∷ (note ++ 10 ∷ rest)) ≡ statements_of (line + 1) rest
remark_read line note rest e =
    statements_scanned line (35 ∷ 32 ∷ (note ++ 10 ∷ rest))
    ∙ ap not_blank (comment_read line note rest e)
    ∙ sym (statements_scanned (line + 1) rest)

-- ---- a semicolon and a comment after a bundle

-- where the byte after a text stands
abbrev where_after : Where → List ℕ → Where
where_after at [] = at
where_after at (b ∷ bs) = where_after (after_byte at b) bs

after_both : (at : Where) (text rest : List ℕ) → where_after at (text ++ rest) ≡ where_after (where_after at text) rest
after_both at [] rest = refl
after_both at (b ∷ bs) rest = after_both (after_byte at b) bs rest

harmless_after : (at : Where) (text : List ℕ) → AreHarmless text → where_after at text ≡ at
harmless_after at [] e = refl
harmless_after Plain (b ∷ bs) e =
    let t = and_parts (is_harmless b) (list_all is_harmless bs) e in
    let n = none_of (b == 10) (b == 59) (b == 35) (b == 123) (b == 125) (b == 58) (b == 46) t.0 in
    rw (n.2, n.3) (harmless_after Plain bs t.1)
harmless_after Braces (b ∷ bs) e =
    let t = and_parts (is_harmless b) (list_all is_harmless bs) e in
    let n = none_of (b == 10) (b == 59) (b == 35) (b == 123) (b == 125) (b == 58) (b == 46) t.0 in
    rw (n.2, n.4) (harmless_after Braces bs t.1)
harmless_after Comment (b ∷ bs) e = harmless_after Comment bs (and_parts (is_harmless b) (list_all is_harmless bs) e).1

part_after : (text : List ℕ) → AreHarmless text → where_after Braces (part_text text) ≡ Braces
part_after text e =
    after_both Braces text (32 ∷ []) ∙ ap (λ at. where_after at (32 ∷ [])) (harmless_after Braces text e)

braces_after : (a b : List ℕ) → AreHarmless a → AreHarmless b → where_after Braces ((part_text a ++ 59 ∷ part_text b)
    ++ 125 ∷ []) ≡ Plain
braces_after a b h k =
    after_both Braces (part_text a ++ 59 ∷ part_text b) (125 ∷ [])
    ∙ ap (λ at. where_after at (125 ∷ [])) (after_both Braces (part_text a) (59 ∷ part_text b)
    ∙ ap (λ at. where_after at (59 ∷ part_text b)) (part_after a h) ∙ part_after b k)

second_after : (first : DraftInstr) (second : Option Instr) → first.guard.pred < 8 → IsPrintableDraft first.draft
    → IsPrintableSecond first.draft second
    → where_after Plain (bundle_text (record { first = first; second = second })) ≡ Plain
unfolding bundle_text
second_after first None h f s = harmless_after Plain (instr_text first) (first_harmless first h f)
second_after first (Some i) h f s =
    let fits : IsPrintableDraft (ready i.op) = (s.1, second_no_flow i.op s.2) in
    ap (where_after Plain) (braces_text (instr_text first) (plain_text i))
    ∙ braces_after (instr_text first) (plain_text i) (first_harmless first h f) (first_harmless (drafted i) s.0 fits)

bundle_after : (b : DraftBundle) → IsPrintable b → where_after Plain (codes "  " ++ bundle_text b) ≡ Plain
bundle_after b p = second_after b.first b.second p.guard p.draft p.second

both_not : (a b c : Bool) → not a && (not b && c) ≡ true → (a ≡ false) × (b ≡ false) × (c ≡ true)
both_not true b c e = cc
both_not false true c e = cc
both_not false false c e = (refl, refl, e)

-- a semicolon ends the piece before it
piece_read : (line : ℕ) (at : Where) (text rest : List ℕ) → stays at text ≡ true → where_after at text ≡ Plain
    → scanned line at (text ++ 59 ∷ rest) ≡ (line, text) ∷ scanned line Plain rest
piece_read line at [] rest e w = ap (λ a. scanned line a (59 ∷ rest)) w
piece_read line at (b ∷ bs) rest e w =
    let t = both_not (is_end at b) (is_comment (after_byte at b)) (stays (after_byte at b) bs) e in
    scanned-byte line b at (bs ++ 59 ∷ rest) t.0 t.1 ∙ ap (put_before (b ∷ [])) (piece_read line
    (after_byte at b) bs rest t.2 w)

-- so the line has the statements that it has without them
commented : (line : ℕ) (text note rest : List ℕ) → stays Plain text ≡ true → where_after Plain text ≡ Plain
    → lacks 10 note ≡ true
    → statements_of line (text ++ 59 ∷ 32 ∷ 32 ∷ 35 ∷ 32 ∷ (note ++ 10 ∷ rest)) ≡ statements_of line (text ++ 10 ∷ rest)
commented line text note rest e w n =
    statements_scanned line (text ++ 59 ∷ 32 ∷ 32 ∷ 35 ∷ 32 ∷ (note ++ 10 ∷ rest))
    ∙ ap not_blank (piece_read line Plain text (32 ∷ 32 ∷ 35 ∷ 32 ∷ (note ++ 10 ∷ rest)) e w)
    ∙ ap (λ ps. kept line text (not_blank (put_before (32 ∷ []) (put_before (32 ∷ []) ps))))
    (comment_read line note rest n)
    ∙ ap (kept line text) (sym (statements_scanned (line + 1) rest))
    ∙ sym (line_stated line text rest e)

does_read : (line : ℕ) (b : DraftBundle) (note rest : List ℕ) → IsPrintable b → lacks 10 note ≡ true
    → items_from (statements_of line ((codes "  " ++ bundle_text b) ++ 59 ∷ 32 ∷ 32 ∷ 35 ∷ 32 ∷ (note ++ 10 ∷ rest)))
    ≡ bundle line b ∷ items_from (statements_of (line + 1) rest)
does_read line b note rest p n =
    let l : IsLine (bundle_text b) = bundle_line b p in
    ap items_from (commented line (codes "  " ++ bundle_text b) note rest l.stays_plain (bundle_after b p) n)
    ∙ bundle_read line b rest p

-- ---- lines

-- lines that can be read back
abbrev pub IsReadable : Line → Type 0
IsReadable (remark note) = lacks 10 note ≡ true
IsReadable (begins name) = is_name name ≡ true
IsReadable (marks loop) = loop < 2 ^ 64
IsReadable (does b note) = IsPrintable b × (lacks 10 note ≡ true)

abbrev pub AreReadable : List Line → Type 0
AreReadable [] = Unit {0}
AreReadable (l ∷ ls) = IsReadable l × AreReadable ls

-- the statements of lines, the first of which has this number
abbrev pub items_at : ℕ → List Line → List Item
items_at line [] = []
items_at line (remark note ∷ ls) = items_at (line + 1) ls
items_at line (begins name ∷ ls) = function line name ∷ items_at (line + 1) ls
items_at line (marks loop ∷ ls) = label line (label_name loop) ∷ items_at (line + 1) ls
items_at line (does b note ∷ ls) = bundle line b ∷ items_at (line + 1) ls

remark_text : (note rest : List ℕ) → (codes "# " ++ note ++ 10 ∷ []) ++ rest ≡ 35 ∷ 32 ∷ (note ++ 10 ∷ rest)
remark_text note rest = simp append_assoc

does_text : (text note rest : List ℕ) → (codes "  " ++ text ++ codes ";  # " ++ note ++ 10 ∷ []) ++ rest
    ≡ (codes "  " ++ text) ++ 59 ∷ 32 ∷ 32 ∷ 35 ∷ 32 ∷ (note ++ 10 ∷ rest)
does_text text note rest = simp append_assoc

-- a text of such lines is read as their statements
pub lines_read : (line : ℕ) (ls : List Line) → AreReadable ls → items_from (statements_of line (lines_text ls))
    ≡ items_at line ls
lines_read line [] r = refl
lines_read line (remark note ∷ ls) r =
    ap (λ t. items_from (statements_of line t)) (remark_text note (lines_text ls))
    ∙ ap items_from (remark_read line note (lines_text ls) r.0) ∙ lines_read (line + 1) ls r.1
lines_read line (begins name ∷ ls) r =
    ap (λ t. items_from (statements_of line t)) (append_assoc (codes ".func " ++ name) (10 ∷ []) (lines_text ls))
    ∙ function_read line name (lines_text ls) r.0 ∙ ap (λ is. function line name ∷ is) (lines_read (line + 1) ls r.1)
lines_read line (marks loop ∷ ls) r =
    ap (λ t. items_from (statements_of line t)) (append_assoc (label_name loop ++ 58 ∷ []) (10 ∷ []) (lines_text ls))
    ∙ label_read line (label_name loop) (lines_text ls) (label_is_name loop r.0)
    ∙ ap (λ is. label line (label_name loop) ∷ is) (lines_read (line + 1) ls r.1)
lines_read line (does b note ∷ ls) r =
    ap (λ t. items_from (statements_of line t)) (does_text (bundle_text b) note (lines_text ls))
    ∙ does_read line b note (lines_text ls) r.0.0 r.0.1 ∙ ap (λ is. bundle line b ∷ is) (lines_read (line + 1) ls r.1)

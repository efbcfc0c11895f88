-- Printed statements are read back.
use Rattle.std.proofs.Common.{arith, ◌≡◌, ◌∙◌, ℕ, zero, suc, ◌+◌, ◌<◌, ◌==◌, ◌&&◌, not, Bool, true, false, cond, List, [], ◌∷◌, ◌++◌, length, take, refl, sym, ap, append_assoc, subst, bytes_eq, Option, Some, None, option_map, codes}
use Rattle.std.specs.Fmt.{decimal}
use Rattle.std.specs.List.{list_all}
use Rattle.std.proofs.lemmas.Bool.Decides.{nat_tests}
use Rattle.std.proofs.lemmas.List.{append-nil}
use Rattle.std.proofs.lemmas.List.Folds.{list_all-append}
use Rattle.std.proofs.lemmas.Bool.{and_parts}
use Rattle.patmos_instr.specs.declared.guards.Guard.{Guard}
use Rattle.patmos_instr.specs.declared.instructions.Instr.{Instr}
use Rattle.patmos_syntax.specs.declared.statements.Where.TheVariants.{Plain, Braces}
use Rattle.patmos_forms.specs.Readers.{is_in_word, is_name, without_blanks, word_len, word_at, sign_at, at_end}
use Rattle.patmos_syntax.specs.Statements.{Piece, kept, statements_of}
use Rattle.patmos_syntax.specs.Drafts.{Draft, ready, DraftInstr, DraftBundle}
use Rattle.patmos_syntax.specs.Items.{Item, function, label, bundle, faulty, label_at, function_item, statement_of, items_in, items_from}
use Rattle.patmos_asm.specs.Written.{draft_text, guard_text, is_nop, instr_text, plain_text, bundle_text}
use Rattle.patmos_syntax.proofs.Labels.{label_first, no_label}
use Rattle.patmos_asm.proofs.Lines.{is_harmless, lacks, harmless_lacks, lacks_blanks, no_colon, stays, harmless_stays, line_stated}
use Rattle.patmos_asm.proofs.Harmless.{AreHarmless, name_harmless}
use Rattle.patmos_asm.proofs.ReadWords.{some_word_read, no_blank}
use Rattle.patmos_asm.proofs.ReadForms.{IsRead, name_words}
use Rattle.patmos_asm.proofs.ReadBundles.{IsPrintable, IsPrintableDraft, IsPrintableSecond, draft_read, nothing_trails, first_harmless, drafted, second_no_flow, part_text, part_lacks, braces_text, bundle_back}

-- a text that does not begin with a blank
pub record Begins (text : List ℕ) : Type 0 where
  pub some : 0 < length text
  pub blanks : without_blanks text ≡ text

begins_word : (word tail : List ℕ) → 0 < length word → list_all is_in_word word ≡ true → Begins (word ++ tail)
begins_word [] tail s e = absurd (omega arith)
begins_word (b ∷ w) tail s e = record {
  some = omega arith;
  blanks = no_blank b (w ++ tail)
      (and_parts (is_in_word b) (list_all is_in_word w) e).0;
}

guard_begins : (t n : Bool) (p : List ℕ) (text : List ℕ) → Begins text
    → Begins (cond t [] (codes "(" ++ cond n (codes "!") [] ++ codes "p" ++ p ++ codes ") ") ++ text)
guard_begins true n p text b = b
guard_begins false true p text b = record { some = omega arith; blanks = refl }
guard_begins false false p text b = record { some = omega arith; blanks = refl }

instr_begins : (nop : Bool) (g : Guard) (text : List ℕ) → Begins text
    → Begins (cond nop (codes "nop") (guard_text g ++ text))
instr_begins true g text b = record { some = omega arith; blanks = refl }
instr_begins false g text b = guard_begins (not g.negated && g.pred == 0) g.negated (decimal g.pred) text b

draft_begins : (d : Draft) → IsRead [] (draft_text d) d → Begins (draft_text d)
draft_begins d r =
    let whole : draft_text d ≡ r.word ++ r.tail = sym (append-nil (draft_text d)) ∙ r.split in
    subst Begins (sym whole) (begins_word r.word r.tail r.some r.all)

first_begins : (i : DraftInstr) → IsPrintableDraft i.draft → Begins (instr_text i)
first_begins i f = instr_begins (is_nop i.guard i.draft) i.guard (draft_text i.draft)
    (draft_begins i.draft (draft_read [] i.draft nothing_trails f))

-- what is known of the text of a bundle
pub record IsLine (text : List ℕ) : Type 0 where
  pub begins : Begins text
  pub colon : lacks 58 text ≡ true
  pub dot : lacks 46 text ≡ true
  pub stays_plain : stays Plain (codes "  " ++ text) ≡ true

harmless_line : (text : List ℕ) → Begins text → AreHarmless text → IsLine text
harmless_line text b h = record {
  begins = b;
  colon = harmless_lacks 58 text refl h;
  dot = harmless_lacks 46 text refl h;
  stays_plain = ap (stays Plain) (sym (append-nil text)) ∙ harmless_stays Plain text [] refl h;
}

part_harmless : (text : List ℕ) → AreHarmless text → AreHarmless (part_text text)
part_harmless text h = rw (list_all-append is_harmless text (32 ∷ []), h) refl

braces_lack : (s : ℕ) (a b : List ℕ) → not (123 == s) ≡ true → not (32 == s) ≡ true → not (59 == s) ≡ true
    → not (125 == s) ≡ true → lacks s a ≡ true → lacks s b ≡ true →
    lacks s (123 ∷ ((part_text a ++ 59 ∷ part_text b) ++ 125 ∷ [])) ≡ true
braces_lack s a b o p q r f g =
    rw (
      o,
      list_all-append (λ c. not (c == s)) (part_text a ++ 59 ∷ part_text b) (125 ∷ []),
      list_all-append (λ c. not (c == s)) (part_text a) (59 ∷ part_text b),
      part_lacks s a p f,
      part_lacks s b p g,
      q,
      r,
    ) refl

braces_stay : (a b : List ℕ) → AreHarmless a → AreHarmless b → stays Braces ((part_text a ++ 59 ∷ part_text b)
    ++ 125 ∷ []) ≡ true
braces_stay a b h k =
    ap (stays Braces) (append_assoc (part_text a) (59 ∷ part_text b) (125 ∷ []))
    ∙ harmless_stays Braces (part_text a) (59 ∷ (part_text b ++ 125 ∷ [])) refl (part_harmless a h)
    ∙ harmless_stays Braces (part_text b) (125 ∷ []) refl (part_harmless b k)

braces_line : (a b : List ℕ) → AreHarmless a → AreHarmless b
    → IsLine (123 ∷ ((part_text a ++ 59 ∷ part_text b) ++ 125 ∷ []))
braces_line a b h k = record {
  begins = record { some = omega arith; blanks = refl };
  colon = braces_lack 58 a b refl refl refl refl (harmless_lacks 58 a refl h) (harmless_lacks 58 b refl k);
  dot = braces_lack 46 a b refl refl refl refl (harmless_lacks 46 a refl h) (harmless_lacks 46 b refl k);
  stays_plain = braces_stay a b h k;
}

second_line : (first : DraftInstr) (second : Option Instr) → first.guard.pred < 8 → IsPrintableDraft first.draft
    → IsPrintableSecond first.draft second →
    IsLine (bundle_text (record { first = first; second = second }))
unfolding bundle_text
second_line first None h f s = harmless_line (instr_text first) (first_begins first f) (first_harmless first h f)
second_line first (Some i) h f s =
    let fits : IsPrintableDraft (ready i.op) = (s.1, second_no_flow i.op s.2) in
    subst IsLine (sym (braces_text (instr_text first) (plain_text i)))
    (braces_line (instr_text first) (plain_text i) (first_harmless first h f) (first_harmless (drafted i) s.0 fits))

pub bundle_line : (b : DraftBundle) → IsPrintable b → IsLine (bundle_text b)
bundle_line b p = second_line b.first b.second p.guard p.draft p.second

-- a line that begins with no blank is kept as it is
kept_line : (line : ℕ) (text : List ℕ) (others : List Piece) → Begins text → kept line text others
    ≡ (line, text) ∷ others
kept_line line [] others b = let some = b.some in absurd (omega arith)
kept_line line (c ∷ cs) others b = rw b.blanks refl

some_left : (text : List ℕ) → Begins text → at_end text ≡ false
some_left text b = let e : length (without_blanks text) ≡ length text = ap length b.blanks in let s = b.some in
    grind (arith, nat_tests)

lacks_take : (s k : ℕ) (text : List ℕ) → lacks s text ≡ true → lacks s (take k text) ≡ true
lacks_take s zero text e = refl
lacks_take s (suc k) [] e = refl
lacks_take s (suc k) (b ∷ bs) e =
    let t = and_parts (not (b == s)) (lacks s bs) e in rw (t.0, lacks_take s k bs t.1) refl

no_dot_word : (word rest : List ℕ) → lacks 46 word ≡ true → bytes_eq word (46 ∷ rest) ≡ false
no_dot_word [] rest e = refl
no_dot_word (b ∷ bs) rest e =
    let n : b == 46 ≡ false = is_other (b == 46) (and_parts (not (b == 46)) (lacks 46 bs) e).0 in rw n refl
  where
    is_other : (a : Bool) → not a ≡ true → a ≡ false
    is_other true h = cc
    is_other false h = refl

no_func : (text : List ℕ) → lacks 46 text ≡ true → bytes_eq (word_at text).0 (codes ".func") ≡ false
no_func text e = no_dot_word (word_at text).0 (codes "func") (lacks_take 46 (word_len (without_blanks text))
    (without_blanks text) (lacks_blanks 46 text e))

bundle_stated : (line : ℕ) (b : DraftBundle) → IsPrintable b → IsLine (bundle_text b)
    → statement_of line (bundle_text b) ≡ bundle line b
unfolding statement_of
bundle_stated line b p l = rw (no_func (bundle_text b) l.dot, bundle_back b p) refl

one_item : (line : ℕ) (text : List ℕ) → Begins text → label_at text ≡ None → items_in line (length text) text
    ≡ statement_of line text ∷ []
one_item line text b none = no_label line text none ∙ rw (some_left text b) refl

-- the line of a bundle is read as that bundle
pub bundle_read : (line : ℕ) (b : DraftBundle) (rest : List ℕ) → IsPrintable b →
    items_from (statements_of line ((codes "  " ++ bundle_text b) ++ 10 ∷ rest)) ≡ bundle line b
    ∷ items_from (statements_of (line + 1) rest)
bundle_read line b rest p =
    let l : IsLine (bundle_text b) = bundle_line b p in
    let one : items_in line (length (bundle_text b)) (bundle_text b) ≡ bundle line b ∷ [] =
    one_item line (bundle_text b) l.begins (no_colon (bundle_text b) l.colon)
    ∙ ap (λ i. i ∷ []) (bundle_stated line b p l) in
    ap items_from (line_stated line (codes "  " ++ bundle_text b) rest l.stays_plain)
    ∙ ap items_from (kept_line line (bundle_text b) (statements_of (line + 1) rest) l.begins)
    ∙ ap (λ is. is ++ items_from (statements_of (line + 1) rest)) one

-- the line of a label
label_found : (name : List ℕ) → is_name name ≡ true → label_at (name ++ 58 ∷ []) ≡ Some (name, [])
label_found name e =
    let n = name_words name e in
    let w : word_at (name ++ 58 ∷ []) ≡ (name, 58 ∷ []) = some_word_read name (58 ∷ []) n.1 n.0 refl in
    ap (λ (x : List ℕ × List ℕ). cond (is_name x.0) (option_map {U = List ℕ × List ℕ} (λ (rest : List ℕ). (x.0, rest))
    (sign_at 58 x.1)) None) w ∙ rw e refl

pub label_read : (line : ℕ) (name rest : List ℕ) → is_name name ≡ true →
    items_from (statements_of line ((name ++ 58 ∷ []) ++ 10 ∷ rest)) ≡ label line name
    ∷ items_from (statements_of (line + 1) rest)
label_read line name rest e =
    let n = name_words name e in
    let b : Begins (name ++ 58 ∷ []) = begins_word name (58 ∷ []) n.1 n.0 in
    let s : stays Plain (name ++ 58 ∷ []) ≡ true = harmless_stays Plain name (58 ∷ []) refl (name_harmless name e) in
    let one : items_in line (length (name ++ 58 ∷ [])) (name ++ 58 ∷ []) ≡ label line name ∷ [] =
    label_first line (name ++ 58 ∷ []) name [] (label_found name e) in
    ap items_from (line_stated line (name ++ 58 ∷ []) rest s)
    ∙ ap items_from (kept_line line (name ++ 58 ∷ []) (statements_of (line + 1) rest) b)
    ∙ ap (λ is. is ++ items_from (statements_of (line + 1) rest)) one

-- the line that begins a function
function_stated : (line : ℕ) (name : List ℕ) → is_name name ≡ true → statement_of line (codes ".func " ++ name)
    ≡ function line name
unfolding statement_of
function_stated line name e =
    let n = name_words name e in
    let u : word_at name ≡ (name, []) = ap word_at (sym (append-nil name)) ∙ some_word_read name [] n.1 n.0 refl in
    ap (λ (x : List ℕ × List ℕ). function_item line (cond (is_name x.0 && at_end x.1) (Some x.0) None)) u ∙ rw e refl

pub function_read : (line : ℕ) (name rest : List ℕ) → is_name name ≡ true →
    items_from (statements_of line ((codes ".func " ++ name) ++ 10 ∷ rest)) ≡ function line name
    ∷ items_from (statements_of (line + 1) rest)
function_read line name rest e =
    let b : Begins (codes ".func " ++ name) = record { some = omega arith; blanks = refl } in
    let s : stays Plain name ≡ true =
    ap (stays Plain) (sym (append-nil name)) ∙ harmless_stays Plain name [] refl (name_harmless name e) in
    let one : items_in line (length (codes ".func " ++ name)) (codes ".func " ++ name) ≡ function line name ∷ [] =
    one_item line (codes ".func " ++ name) b refl ∙ ap (λ i. i ∷ []) (function_stated line name e) in
    ap items_from (line_stated line (codes ".func " ++ name) rest s)
    ∙ ap items_from (kept_line line (codes ".func " ++ name) (statements_of (line + 1) rest) b)
    ∙ ap (λ is. is ++ items_from (statements_of (line + 1) rest)) one

-- the line of a statement
abbrev pub line_text : Item → List ℕ
line_text (function _ name) = codes ".func " ++ name ++ 10 ∷ []
line_text (label _ name) = name ++ 58 ∷ [] ++ 10 ∷ []
line_text (bundle _ b) = codes "  " ++ bundle_text b ++ 10 ∷ []
line_text (faulty _ _) = []

abbrev pub text_of : List Item → List ℕ
text_of [] = []
text_of (i ∷ is) = line_text i ++ text_of is

-- statements on lines of their own, from this line on
abbrev pub on_line : ℕ → Item → Item
on_line line (function _ name) = function line name
on_line line (label _ name) = label line name
on_line line (bundle _ b) = bundle line b
on_line line (faulty _ fault) = faulty line fault

abbrev pub numbered : ℕ → List Item → List Item
numbered line [] = []
numbered line (i ∷ is) = on_line line i ∷ numbered (line + 1) is

-- statements that can be printed
abbrev pub IsPrintableItem : Item → Type 0
IsPrintableItem (function _ name) = is_name name ≡ true
IsPrintableItem (label _ name) = is_name name ≡ true
IsPrintableItem (bundle _ b) = IsPrintable b
IsPrintableItem (faulty _ _) = ⊥

abbrev pub ArePrintable : List Item → Type 0
ArePrintable [] = Unit {0}
ArePrintable (i ∷ is) = IsPrintableItem i × ArePrintable is

-- printed statements are read back, each on its line
pub text_read : (line : ℕ) (is : List Item) → ArePrintable is → items_from (statements_of line (text_of is))
    ≡ numbered line is
text_read line [] p = refl
text_read line (function l name ∷ is) p =
    ap (λ t. items_from (statements_of line t)) (append_assoc (codes ".func " ++ name) (10 ∷ []) (text_of is))
    ∙ function_read line name (text_of is) p.0 ∙ ap (λ r. function line name ∷ r) (text_read (line + 1) is p.1)
text_read line (label l name ∷ is) p =
    ap (λ t. items_from (statements_of line t)) (append_assoc (name ++ 58 ∷ []) (10 ∷ []) (text_of is))
    ∙ label_read line name (text_of is) p.0 ∙ ap (λ r. label line name ∷ r) (text_read (line + 1) is p.1)
text_read line (bundle l b ∷ is) p =
    ap (λ t. items_from (statements_of line t)) (append_assoc (codes "  " ++ bundle_text b) (10 ∷ []) (text_of is))
    ∙ bundle_read line b (text_of is) p.0 ∙ ap (λ r. bundle line b ∷ r) (text_read (line + 1) is p.1)
text_read line (faulty l fault ∷ is) p = absurd p.0

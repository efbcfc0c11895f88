-- What is read can be printed.
use Rattle.std.proofs.Common.{◌≡◌, ◌∙◌, ℕ, zero, suc, ◌<◌, ◌&&◌, Bool, true, false, cond, List, [], ◌∷◌, ◌++◌, length, refl, sym, subst, bytes_eq, codes, Option, Some, None, Result, Ok, Err}
use Rattle.std.specs.Option.{ok_or, option_map}
use Rattle.patmos_instr.specs.Instructions.{FitsOp, is_second_kind}
use Rattle.patmos_instr.specs.declared.guards.Guard.{Guard}
use Rattle.patmos_instr.specs.declared.instructions.Instr.{Instr}
use Rattle.patmos_forms.specs.declared.faults.AsmKind.{AsmKind}
use Rattle.patmos_forms.specs.declared.faults.AsmKind.TheVariants.{Mnemonic, Operand, Slot}
use Rattle.patmos_forms.specs.declared.forms.JumpKind.{JumpKind}
use Rattle.patmos_forms.specs.Faults.{◌>>=◌}
use Rattle.patmos_forms.specs.Readers.{word_at, is_name, sign_at, at_end}
use Rattle.patmos_forms.specs.Operands.{read}
use Rattle.patmos_forms.specs.Forms.{flow_of, form_of, operands, op_of, op_in, guard_at, guard_of}
use Rattle.patmos_syntax.specs.Drafts.{Draft, ready, to, DraftInstr, DraftBundle, name_in, jump_in, plain_in, draft_in, instr_of, second_of, is_long_draft, pair_of, cut_at, parts_of, two_parts, both_of, halves_of, is_closed, braces_of, bundle_of}
use Rattle.patmos_syntax.specs.Statements.{Piece, statements_of}
use Rattle.patmos_syntax.specs.Items.{Item, function, label, bundle, faulty, label_at, function_item, bundle_item, statement_of, items_after, items_in, items_from, items_of}
use Rattle.patmos_asm.proofs.ReadBundles.{IsPrintableDraft, IsPrintable}
use Rattle.patmos_asm.proofs.ParsedFits.{bind_ok, guard_ok, op_fits}

ok_some : {A : Type 0} (o : Option A) (k : AsmKind) (x : A) → ok_or o k ≡ Ok x → o ≡ Some x
ok_some None k x e = cc
ok_some (Some y) k x e = cc

chosen_name : (a b : Bool) (w name : List ℕ) → is_name w ≡ a → cond (a && b) (Some w) None ≡ Some name
    → is_name name ≡ true
chosen_name true true w name h e = let k : w ≡ name = cc in rw (← k) h
chosen_name true false w name h e = cc
chosen_name false b w name h e = cc

pub name_ok : (text name : List ℕ) → name_in text ≡ Some name → is_name name ≡ true
name_ok text name e = chosen_name (is_name (word_at text).0) (at_end (word_at text).1) (word_at text).0 name refl e

jump_ok : (flow : JumpKind) (text : List ℕ) (d : Draft) → jump_in flow text ≡ Ok d → IsPrintableDraft d
jump_ok flow text d e =
    let t = bind_ok (ok_or (name_in text) Operand) (λ name. Ok (to flow name)) d e in
    let n : is_name t.0 ≡ true = name_ok text t.0 (ok_some (name_in text) Operand t.0 t.1) in
    let k : to flow t.0 ≡ d = cc in
    subst IsPrintableDraft k n

plain_ok : (word text : List ℕ) (d : Draft) → plain_in word text ≡ Ok d → IsPrintableDraft d
plain_ok word text d e =
    let t = bind_ok (ok_or (form_of word) Mnemonic) (λ form. op_in form text >>= λ o. Ok (ready o)) d e in
    let u = bind_ok (op_in t.0 text) (λ o. Ok (ready o)) d t.2 in
    let v = bind_ok (ok_or (read (operands t.0) text) Operand) (op_of t.0) u.0 u.1 in
    let k : ready u.0 ≡ d = cc in
    subst IsPrintableDraft k (op_fits t.0 v.0 u.0 v.2)

jump_step : (flow : JumpKind) (word text : List ℕ) → flow_of word ≡ Some flow → draft_in word text ≡ jump_in flow text
unfolding draft_in
jump_step flow word text h = rw h refl

plain_step : (word text : List ℕ) → flow_of word ≡ None → draft_in word text ≡ plain_in word text
unfolding draft_in
plain_step word text h = rw h refl

draft_ok : (word text : List ℕ) (d : Draft) → draft_in word text ≡ Ok d → IsPrintableDraft d
draft_ok word text d e = by_flow (flow_of word) refl
  where
    by_flow : (o : Option JumpKind) → flow_of word ≡ o → IsPrintableDraft d
    by_flow (Some flow) h = jump_ok flow text d (sym (jump_step flow word text h) ∙ e)
    by_flow None h = plain_ok word text d (sym (plain_step word text h) ∙ e)

-- an instruction that can be printed
pub record FitsDraft (i : DraftInstr) : Type 0 where
  pub guard : i.guard.pred < 8
  pub draft : IsPrintableDraft i.draft

instr_ok : (text : List ℕ) (i : DraftInstr) → instr_of text ≡ Ok i → FitsDraft i
unfolding instr_of
instr_ok text i e =
    let t = bind_ok (ok_or (guard_at text) Mnemonic) (λ g. draft_in (word_at g.2).0 (word_at g.2).1 >>= λ draft.
    guard_of g.0 g.1 >>= λ guard. Ok (record { guard = guard; draft = draft })) i e in
    let u = bind_ok (draft_in (word_at t.0.2).0 (word_at t.0.2).1) (λ draft. guard_of t.0.0 t.0.1 >>= λ guard. Ok
    (record { guard = guard; draft = draft })) i t.2 in
    let v = bind_ok (guard_of t.0.0 t.0.1) (λ guard. Ok (record { guard = guard; draft = u.0 })) i u.2 in
    let k : record { guard = v.0; draft = u.0 } ≡ i = cc in
    subst FitsDraft k (record {
      guard = guard_ok t.0.0 t.0.1 v.0 v.1;
      draft = draft_ok (word_at t.0.2).0
          (word_at t.0.2).1 u.0 u.1;
    })

second_ok : (g : Guard) (d : Draft) (i : Instr) → g.pred < 8 → IsPrintableDraft d
    → second_of (record { guard = g; draft = d }) ≡ Ok i → (i.guard.pred < 8) × FitsOp i.op
second_ok g (ready o) i h f e =
    let k : record { guard = g; op = o } ≡ i = cc in
    subst (λ (j : Instr). (j.guard.pred < 8) × FitsOp j.op) k (h, f.0)
second_ok g (to flow name) i h f e = cc

chosen_pair : (long second : Bool) (first : DraftInstr) (i : Instr) (b : DraftBundle) → is_long_draft first.draft ≡ long
    → is_second_kind i.op ≡ second → FitsDraft first → (i.guard.pred < 8) × FitsOp i.op →
    cond long (Err Slot) (cond second (Ok (record { first = first; second = Some i })) (Err Slot)) ≡ Ok b
    → IsPrintable b
chosen_pair false true first i b l s f h e =
    let k : record { first = first; second = Some i } ≡ b = cc in
    subst IsPrintable k (record { guard = f.guard; draft = f.draft; second = (h.0, h.1, s, l) })
chosen_pair false false first i b l s f h e = cc
chosen_pair true second first i b l s f h e = cc

pair_ok : (first second : DraftInstr) (b : DraftBundle) → FitsDraft first → FitsDraft second → pair_of first second
    ≡ Ok b → IsPrintable b
pair_ok first second b f g e =
    let t = bind_ok (second_of second) (λ i. cond (is_long_draft first.draft) (Err Slot)
    (cond (is_second_kind i.op) (Ok (record { first = first; second = Some i })) (Err Slot))) b e in
    chosen_pair (is_long_draft first.draft) (is_second_kind t.0.op) first t.0 b refl refl f
    (second_ok second.guard second.draft t.0 g.guard g.draft t.1) t.2

both_ok : (r s : Result DraftInstr AsmKind) (b : DraftBundle) → ((i : DraftInstr) → r ≡ Ok i → FitsDraft i)
    → ((i : DraftInstr) → s ≡ Ok i → FitsDraft i) → both_of r s ≡ Ok b → IsPrintable b
both_ok (Ok i) (Ok j) b f g e = pair_ok i j b (f i refl) (g j refl) e
both_ok (Ok i) (Err k) b f g e = cc
both_ok (Err k) s b f g e = cc

halves_ok : (parts : List (List ℕ)) (two : Option (List ℕ × List ℕ)) (b : DraftBundle) → halves_of parts two ≡ Ok b
    → IsPrintable b
halves_ok parts None b e = cc
halves_ok parts (Some t) b e = both_ok (instr_of t.0) (instr_of t.1) b (instr_ok t.0) (instr_ok t.1) e

braces_ok : (text : List ℕ) (b : DraftBundle) → braces_of text ≡ Ok b → IsPrintable b
unfolding braces_of
braces_ok text b e = halves_ok (parts_of (cut_at 125 text).0) (cond (is_closed (cut_at 125 text).1)
    (two_parts (parts_of (cut_at 125 text).0)) None) b e

alone_ok : (r : Result DraftInstr AsmKind) (b : DraftBundle) → ((i : DraftInstr) → r ≡ Ok i → FitsDraft i)
    → (r >>= λ i. Ok (record { first = i; second = None })) ≡ Ok b → IsPrintable b
alone_ok (Ok i) b f e =
    let k : record { first = i; second = None } ≡ b = cc in
    subst IsPrintable k (record { guard = (f i refl).guard; draft = (f i refl).draft; second = tt })
alone_ok (Err k) b f e = cc

in_braces : (text inside : List ℕ) → sign_at 123 text ≡ Some inside → bundle_of text ≡ braces_of inside
unfolding bundle_of
in_braces text inside h = rw h refl

no_braces : (text : List ℕ) → sign_at 123 text ≡ None → bundle_of text
    ≡ (instr_of text >>= λ i. Ok (record { first = i; second = None }))
unfolding bundle_of
no_braces text h = rw h refl

pub bundle_ok : (text : List ℕ) (b : DraftBundle) → bundle_of text ≡ Ok b → IsPrintable b
bundle_ok text b e = by_sign (sign_at 123 text) refl
  where
    by_sign : (o : Option (List ℕ)) → sign_at 123 text ≡ o → IsPrintable b
    by_sign (Some inside) h = braces_ok inside b (sym (in_braces text inside h) ∙ e)
    by_sign None h = alone_ok (instr_of text) b (instr_ok text) (sym (no_braces text h) ∙ e)

-- what is known of each statement of a text
abbrev pub FitsItem : Item → Type 0
FitsItem (function _ name) = is_name name ≡ true
FitsItem (label _ name) = is_name name ≡ true
FitsItem (bundle _ b) = IsPrintable b
FitsItem (faulty _ _) = Unit {0}

abbrev pub FitAll : List Item → Type 0
FitAll [] = Unit {0}
FitAll (i ∷ is) = FitsItem i × FitAll is

function_fits : (line : ℕ) (o : Option (List ℕ)) → ((name : List ℕ) → o ≡ Some name → is_name name ≡ true)
    → FitsItem (function_item line o)
function_fits line None f = tt
function_fits line (Some name) f = f name refl

bundle_fits : (line : ℕ) (r : Result DraftBundle AsmKind) → ((b : DraftBundle) → r ≡ Ok b → IsPrintable b)
    → FitsItem (bundle_item line r)
bundle_fits line (Ok b) f = f b refl
bundle_fits line (Err k) f = tt

statement_when : (t : Bool) (line : ℕ) (text : List ℕ)
    → FitsItem (cond t (function_item line (name_in (word_at text).1)) (bundle_item line (bundle_of text)))
statement_when true line text = function_fits line (name_in (word_at text).1) (name_ok (word_at text).1)
statement_when false line text = bundle_fits line (bundle_of text) (bundle_ok text)

statement_fits : (line : ℕ) (text : List ℕ) → FitsItem (statement_of line text)
unfolding statement_of
statement_fits line text = statement_when (bytes_eq (word_at text).0 (codes ".func")) line text

label_named : (a : Bool) (w : List ℕ) (o : Option (List ℕ)) (l : List ℕ × List ℕ) → is_name w ≡ a
    → cond a (option_map {U = List ℕ × List ℕ} (λ (rest : List ℕ). (w, rest)) o) None ≡ Some l → is_name l.0 ≡ true
label_named true w (Some rest) l h e =
    let k : (w, rest) ≡ l = cc in subst (λ (p : List ℕ × List ℕ). is_name p.0 ≡ true) k h
label_named true w None l h e = cc
label_named false w o l h e = cc

last_fits : (t : Bool) (line : ℕ) (text : List ℕ) → FitAll (cond t [] (statement_of line text ∷ []))
last_fits true line text = tt
last_fits false line text = (statement_fits line text, tt)

after_fits : (line n : ℕ) (text : List ℕ) (o : Option (List ℕ × List ℕ)) → label_at text ≡ o
    → ((t : List ℕ) → FitAll (items_in line n t)) → FitAll (items_after line text o (items_in line n))
after_fits line n text None h rest = last_fits (at_end text) line text
after_fits line n text (Some l) h rest =
    (label_named (is_name (word_at text).0) (word_at text).0 (sign_at 58 (word_at text).1) l refl h, rest l.1)

in_fits : (line n : ℕ) (text : List ℕ) → FitAll (items_in line n text)
in_fits line zero text = tt
in_fits line (suc n) text = after_fits line n text (label_at text) refl (in_fits line n)

joined_fits : (a b : List Item) → FitAll a → FitAll b → FitAll (a ++ b)
joined_fits [] b f g = g
joined_fits (i ∷ is) b f g = (f.0, joined_fits is b f.1 g)

from_fits : (ps : List Piece) → FitAll (items_from ps)
from_fits [] = tt
from_fits (p ∷ ps) =
    joined_fits (items_in p.0 (length p.1) p.1) (items_from ps) (in_fits p.0 (length p.1) p.1) (from_fits ps)

-- each statement of a text fits
pub text_fits : (text : List ℕ) → FitAll (items_of text)
unfolding items_of
text_fits text = from_fits (statements_of 1 text)

-- What resolved expressions, arguments and targets name outside of frames is there, and registers suffice for them.
use Rattle.std.proofs.Common.{◌≡◌, ℕ, ◌+◌, ◌≤◌, max, Bool, true, false, if◌then◌else◌, List, [], ◌∷◌, Option, refl, arith, le-leb, lt-ltb}
use Rattle.std.proofs.lemmas.Bool.{and_from, ltb-true, ltb-false}
use Rattle.std.specs.List.{AllByRecursion as Each}
use Rattle.std.specs.Prelude.{nat_lt, ⊤}
use Rattle.c_tree.specs.declared.expressions.BinaryOp.{BinaryOp}
use Rattle.c_tree.specs.declared.expressions.UnaryOp.{UnaryOp}
use Rattle.c_tree.specs.declared.expressions.UnaryOp.TheVariants as unary
use Rattle.c_tree.specs.Depth.{expr_depth, steps_depth}
use Rattle.c_tree.specs.Names.{Named}
use Rattle.c_tree.specs.Plain.{PlainExpr, PlainSteps}
use Rattle.c_tree.specs.Plain as plain
use Rattle.c_tree.specs.Typed.{WholeTyped}
use Rattle.sp_tree.specs.Formed.{cell_formed, array_formed, names_words, expr_formed, args_formed}
use Rattle.sp_tree.specs.Need.{need, both_need}
use Rattle.sp_tree.specs.Plain.{PlainSp, constant, frame_word, cell_word, array_word, before_one, between_two}
use Rattle.c_meaning.specs.Operators.{works_unsigned, gives_unsigned}
use Rattle.c_meaning.specs.Resolve.{operator_of, is_exchanged, resolved_between, resolved_sign, resolved_signs, is_fresh, resolved_variable, resolved_element, resolved, resolved_steps}
use Rattle.c_meaning.specs.Scope.{Stands, level, outside}
use Rattle.c_meaning.specs.Scope as scope
use Rattle.c_meaning.specs.Values.{Names, named, expr_unsigned}
use Rattle.single_path.specs.Widths.{expr_words, args_words}
use Rattle.single_path.proofs.Placed.{SlotFits, slot_cell_formed, slot_array_formed, StandsFit, named_fits}

-- ---- what is named outside of frames

abbrev pub Ranged : PlainSp → Type 0
Ranged (constant n) = ⊤
Ranged (frame_word slot) = ⊤
Ranged (cell_word cell) = cell_formed cell ≡ true
Ranged (array_word array index) = (array_formed array ≡ true) × Ranged index
Ranged (before_one op of) = Ranged of
Ranged (between_two op a b) = Ranged a × Ranged b

between_ranged : (op : BinaryOp) (u : Bool) (a b : PlainSp) → Ranged a → Ranged b → Ranged (resolved_between op u a b)
between_ranged op u a b ha hb = by (is_exchanged op)
  where
    by : (exchanged : Bool) → Ranged (if exchanged then between_two (operator_of op u) b a else between_two
        (operator_of op u) a b)
    by true = (hb, ha)
    by false = (ha, hb)

sign_ranged : (op : UnaryOp) (e : PlainSp) → Ranged e → Ranged (resolved_sign op e)
sign_ranged unary.Minus e h = h
sign_ranged _ e h = h

signs_ranged : (ops : List UnaryOp) (e : PlainSp) → Ranged e → Ranged (resolved_signs ops e)
signs_ranged [] e h = h
signs_ranged (op ∷ ops) e h = sign_ranged op (resolved_signs ops e) (signs_ranged ops e h)

variable_ranged : (fresh : Option ℕ) (stands : Stands) → StandsFit stands → Ranged (resolved_variable fresh stands)
variable_ranged fresh (level at unsigned) fits = by (is_fresh fresh at)
  where
    by : (known : Bool) → Ranged (if known then constant 0 else frame_word at)
    by true = tt
    by false = tt
variable_ranged fresh (outside slot) fits = slot_cell_formed slot fits
variable_ranged fresh scope.nothing fits = tt

element_ranged : (stands : Stands) (index : PlainSp) → StandsFit stands → Ranged index
    → Ranged (resolved_element stands index)
element_ranged (level at unsigned) index fits h = tt
element_ranged (outside slot) index fits h = (slot_array_formed slot fits, h)
element_ranged scope.nothing index fits h = tt

mutual
  resolved_ranged : (names : Names) → Each SlotFits names.slots → (fresh : Option ℕ) (e : PlainExpr)
      → Ranged (resolved names fresh e)
  resolved_ranged names each fresh (plain.chain at first rest) =
      steps_ranged names each fresh (expr_unsigned names first) (resolved names fresh first) rest
      (resolved_ranged names each fresh first)
  resolved_ranged names each fresh (plain.unary ops of) =
      signs_ranged ops (resolved names fresh of) (resolved_ranged names each fresh of)
  resolved_ranged names each fresh (plain.number n unsigned) = tt
  resolved_ranged names each fresh (plain.name text) =
      variable_ranged fresh (named names text) (named_fits names text each)
  resolved_ranged names each fresh (plain.element text index) =
      element_ranged (named names text) (resolved names fresh index) (named_fits names text each)
      (resolved_ranged names each fresh index)
  resolved_ranged names each fresh (plain.paren of) = resolved_ranged names each fresh of

  steps_ranged : (names : Names) → Each SlotFits names.slots → (fresh : Option ℕ) (u : Bool) (a : PlainSp)
      (steps : PlainSteps) → Ranged a
      → Ranged (resolved_steps names fresh u a steps)
  steps_ranged names each fresh u a plain.no_step h = h
  steps_ranged names each fresh u a (plain.step op operand rest) h =
      let v = works_unsigned op u (expr_unsigned names operand) in
      let b = resolved names fresh operand in
      steps_ranged names each fresh (gives_unsigned op u (expr_unsigned names operand)) (resolved_between op v a b) rest
      (between_ranged op v a b h (resolved_ranged names each fresh operand))

-- ---- an expression takes at most as many registers as it is deep

some_depth : (e : PlainExpr) → 1 ≤ expr_depth e
unfolding expr_depth
some_depth (plain.chain at first rest) = let inner = some_depth first in omega (arith, inner)
some_depth (plain.unary ops of) = some_depth of
some_depth (plain.number n unsigned) = omega arith
some_depth (plain.name text) = omega arith
some_depth (plain.element text index) = some_depth index
some_depth (plain.paren of) = some_depth of

-- an operand waits for one that is worked out before it, whichever of the two stands on the left
pub both_needed : (a b : ℕ) → (both_need a b ≤ max a (1 + b)) × (both_need b a ≤ max a (1 + b))
both_needed a b = (by (nat_lt a b) refl, exchanged (nat_lt b a) refl)
  where
    by : (less : Bool) → nat_lt a b ≡ less → (if less then max b (a + 1) else max a (b + 1)) ≤ max a (1 + b)
    by true is = let below = ltb-true a b is in omega (arith, below)
    by false is = omega arith

    exchanged : (less : Bool) → nat_lt b a ≡ less → (if less then max a (b + 1) else max b (a + 1)) ≤ max a (1 + b)
    exchanged true is = omega arith
    exchanged false is = let above = ltb-false b a is in omega (arith, above)

between_need : (op : BinaryOp) (u : Bool) (a b : PlainSp) → need (resolved_between op u a b) ≤ max (need a) (1 + need b)
between_need op u a b = by (is_exchanged op)
  where
    by : (exchanged : Bool) → need (if exchanged then between_two (operator_of op u) b a else between_two
        (operator_of op u) a b)
        ≤ max (need a) (1 + need b)
    by true = (both_needed (need a) (need b)).1
    by false = (both_needed (need a) (need b)).0

sign_need : (op : UnaryOp) (e : PlainSp) → need (resolved_sign op e) ≤ need e
sign_need unary.Minus e = omega arith
sign_need _ e = omega arith

signs_need : (ops : List UnaryOp) (e : PlainSp) → need (resolved_signs ops e) ≤ need e
signs_need [] e = omega arith
signs_need (op ∷ ops) e = let rest = signs_need ops e in omega (arith, rest, sign_need op (resolved_signs ops e))

variable_need : (fresh : Option ℕ) (stands : Stands) → need (resolved_variable fresh stands) ≤ 1
variable_need fresh (level at unsigned) = by (is_fresh fresh at)
  where
    by : (known : Bool) → need (if known then constant 0 else frame_word at) ≤ 1
    by true = omega arith
    by false = omega arith
variable_need fresh (outside slot) = omega arith
variable_need fresh scope.nothing = omega arith

element_need : (stands : Stands) (index : PlainSp) → need (resolved_element stands index) ≤ max 1 (need index)
element_need (level at unsigned) index = omega arith
element_need (outside slot) index = omega arith
element_need scope.nothing index = omega arith

mutual
  unfolding expr_depth steps_depth

  resolved_need : (names : Names) (fresh : Option ℕ) (e : PlainExpr) → need (resolved names fresh e) ≤ expr_depth e
  resolved_need names fresh (plain.chain at first rest) =
      let begun = resolved_need names fresh first in
      let all = steps_need names fresh (expr_unsigned names first) (resolved names fresh first) rest in
      omega (arith, begun, all)
  resolved_need names fresh (plain.unary ops of) =
      let inner = resolved_need names fresh of in omega (arith, inner, signs_need ops (resolved names fresh of))
  resolved_need names fresh (plain.number n unsigned) = omega arith
  resolved_need names fresh (plain.name text) = variable_need fresh (named names text)
  resolved_need names fresh (plain.element text index) =
      let inner = resolved_need names fresh index in
      omega (arith, inner, some_depth index, element_need (named names text) (resolved names fresh index))
  resolved_need names fresh (plain.paren of) = resolved_need names fresh of

  steps_need : (names : Names) (fresh : Option ℕ) (u : Bool) (a : PlainSp) (steps : PlainSteps)
      → need (resolved_steps names fresh u a steps) ≤ max (need a) (steps_depth steps)
  steps_need names fresh u a plain.no_step = omega arith
  steps_need names fresh u a (plain.step op operand rest) =
      let v = works_unsigned op u (expr_unsigned names operand) in
      let b = resolved names fresh operand in
      let inner = resolved_need names fresh operand in
      let more = steps_need names fresh (gives_unsigned op u (expr_unsigned names operand))
      (resolved_between op v a b) rest in
      omega (arith, inner, more, between_need op v a b)

-- ---- expressions and arguments without faults

-- what it names outside of frames is there, and registers suffice for it
pub record Sound (e : PlainSp) : Type 0 where
  pub ranged : Ranged e
  pub few : need e ≤ 12

pub sound_constant : (n : ℕ) → Sound (constant n)
sound_constant n = record { ranged = tt; few = omega arith }

pub sound_word : (slot : ℕ) → Sound (frame_word slot)
sound_word slot = record { ranged = tt; few = omega arith }

pub whole_sound : (of : Names) → Each SlotFits of.slots → (fresh : Option ℕ) (names : List Named) (e : PlainExpr)
    → WholeTyped names e → Sound (resolved of fresh e)
whole_sound of each fresh names e typed = record {
  ranged = resolved_ranged of each fresh e;
  few = omega (arith, resolved_need of fresh e, typed.0);
}

-- ---- what is sound is well formed over the words that it names

names_formed : (slots : ℕ) (e : PlainSp) → Ranged e → expr_words e ≤ slots → names_words slots e ≡ true
names_formed slots (constant n) h within = refl
names_formed slots (frame_word slot) h within = lt-ltb slot slots (omega (arith, within))
names_formed slots (cell_word cell) h within = h
names_formed slots (array_word array index) h within = and_from _ _ h.0 (names_formed slots index h.1 within)
names_formed slots (before_one op of) h within = names_formed slots of h within
names_formed slots (between_two op a b) h within =
    and_from _ _ (names_formed slots a h.0 (omega (arith, within))) (names_formed slots b h.1 (omega (arith, within)))

pub sound_formed : (slots : ℕ) (e : PlainSp) → Sound e → expr_words e ≤ slots → expr_formed slots e ≡ true
sound_formed slots e sound within =
    and_from _ _ (names_formed slots e sound.ranged within) (le-leb (need e) 12 sound.few)

pub sound_args_formed : (slots : ℕ) (args : List PlainSp) → Each Sound args → args_words args ≤ slots
    → args_formed slots args ≡ true
sound_args_formed slots [] each within = refl
sound_args_formed slots (e ∷ args) each within =
    and_from _ _ (sound_formed slots e each.0 (omega (arith, within))) (sound_args_formed slots args each.1
    (omega (arith, within)))

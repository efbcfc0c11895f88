-- What resolved expressions are worth: what the expressions are that they stand for.
use Rattle.std.proofs.Common.{◌≡◌, ℕ, Bool, true, false, cond, ◌==◌, List, [], ◌∷◌, Option, None, Some, if◌then◌else◌, refl, ap, ap₂, ◌∙◌}
use Rattle.c_tree.specs.Plain.{PlainExpr, PlainSteps}
use Rattle.c_tree.specs.Plain as plain
use Rattle.sp_tree.specs.Plain.{PlainSp, constant, frame_word}
use Rattle.c_world.specs.World.{element}
use Rattle.c_meaning.specs.Operators.{signs_value, between_value, works_unsigned, gives_unsigned}
use Rattle.c_meaning.specs.Resolve.{resolved, resolved_steps, resolved_args, resolved_variable, resolved_element, resolved_between, fresh_at}
use Rattle.c_meaning.specs.Resolved.{worth, args_worth}
use Rattle.c_meaning.specs.Scope.{Stands, level, outside, nothing, slot_region, slot_word}
use Rattle.c_meaning.specs.Values.{State, Names, named, variable_value, element_value, expr_value, expr_unsigned, steps_value, args_value}
use Rattle.c_meaning.proofs.Operations.{between_worth, signs_worth}

either_worth : (b : Bool) (at : ℕ) (s : State) → worth (if b then constant 0 else frame_word at) s
    ≡ cond b 0 (s.locals at)
either_worth true at s = refl
either_worth false at s = refl

variable_worth : (fresh : Option ℕ) (stands : Stands) (s : State) → worth (resolved_variable fresh stands) s
    ≡ variable_value stands (fresh_at fresh s)
variable_worth None (level at unsigned) s = refl
variable_worth (Some k) (level at unsigned) s = either_worth (k == at) at s
variable_worth None (outside slot) s = refl
variable_worth (Some k) (outside slot) s = refl
variable_worth None nothing s = refl
variable_worth (Some k) nothing s = refl

element_worth : (fresh : Option ℕ) (stands : Stands) (index : PlainSp) (n : ℕ) (s : State) → worth index s ≡ n
    → worth (resolved_element stands index) s ≡ element_value stands n (fresh_at fresh s)
element_worth fresh (level at unsigned) index n s is = refl
element_worth None (outside slot) index n s is =
    ap (λ i. element (slot_region slot) (slot_word slot) slot.length i s.world) is
element_worth (Some k) (outside slot) index n s is =
    ap (λ i. element (slot_region slot) (slot_word slot) slot.length i s.world) is
element_worth fresh nothing index n s is = refl

mutual
  pub worth_of : (names : Names) (fresh : Option ℕ) (e : PlainExpr) (s : State) → worth (resolved names fresh e) s
      ≡ expr_value names (fresh_at fresh s) e
  worth_of names fresh (plain.chain at first rest) s =
      worth_of_steps names fresh (expr_unsigned names first) (resolved names fresh first) rest
      (expr_value names (fresh_at fresh s) first) s
      (worth_of names fresh first s)
  worth_of names fresh (plain.unary ops of) s =
      signs_worth ops (resolved names fresh of) s ∙ ap (signs_value ops) (worth_of names fresh of s)
  worth_of names fresh (plain.number n unsigned) s = refl
  worth_of names fresh (plain.name text) s = variable_worth fresh (named names text) s
  worth_of names fresh (plain.element text index) s =
      element_worth fresh (named names text) (resolved names fresh index) (expr_value names (fresh_at fresh s) index) s
      (worth_of names fresh index s)
  worth_of names fresh (plain.paren of) s = worth_of names fresh of s

  worth_of_steps : (names : Names) (fresh : Option ℕ) (u : Bool) (a : PlainSp) (steps : PlainSteps) (n : ℕ) (s : State)
      → worth a s ≡ n
      → worth (resolved_steps names fresh u a steps) s ≡ steps_value names (fresh_at fresh s) u n steps
  worth_of_steps names fresh u a plain.no_step n s is = is
  worth_of_steps names fresh u a (plain.step op operand rest) n s is =
      let v = works_unsigned op u (expr_unsigned names operand) in
      worth_of_steps names fresh (gives_unsigned op u (expr_unsigned names operand))
      (resolved_between op v a (resolved names fresh operand)) rest
      (between_value op v n (expr_value names (fresh_at fresh s) operand)) s
      (between_worth op v a (resolved names fresh operand) s
      ∙ ap₂ (between_value op v) is (worth_of names fresh operand s))

pub worth_of_args : (names : Names) (fresh : Option ℕ) (args : List PlainExpr) (s : State)
    → args_worth (resolved_args names fresh args) s ≡ args_value names (fresh_at fresh s) args
worth_of_args names fresh [] s = refl
worth_of_args names fresh (e ∷ args) s =
    ap₂ (λ n ns. n ∷ ns) (worth_of names fresh e s) (worth_of_args names fresh args s)

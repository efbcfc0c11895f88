-- What the actions of typed statements do with memories has a property, where it holds of what their names stand for:
-- names of variables are read and set as variables there, and names of arrays as arrays.
use Rattle.std.proofs.Common.{ℕ, Bool, true, List, [], length, Option}
use Rattle.std.specs.Prelude.{is_some}
use Rattle.c_tree.specs.declared.layout.Slot.{Slot}
use Rattle.c_tree.specs.declared.statements.Kind.{Kind}
use Rattle.c_tree.specs.declared.units.Parameter.{Parameter}
use Rattle.c_tree.specs.Names.{Named, declared}
use Rattle.c_tree.specs.Plain.{PlainExpr, PlainSteps, PlainStmt}
use Rattle.c_tree.specs.Plain as plain
use Rattle.c_tree.specs.Typed.{ExprTyped, StepsTyped, names_inside, FunctionTyped}
use Rattle.c_tree.specs.Valid.{function_means}
use Rattle.sp_tree.specs.Plain.{PlainSp}
use Rattle.sp_tree.specs.Uses.{Use}
use Rattle.c_meaning.specs.Meaning.{parameter_variables}
use Rattle.c_meaning.specs.Operators.{works_unsigned, gives_unsigned}
use Rattle.c_meaning.specs.Resolve.{resolved, resolved_steps, resolved_between, resolved_body}
use Rattle.c_meaning.specs.Values.{Names, named, expr_unsigned}
use Rattle.single_path.proofs.Doing.{ExprDoes, uses, AllDo}
use Rattle.single_path.proofs.Followed.{Grounds, body_does}
use Rattle.single_path.proofs.OpenNames.{Keeps, keeps_variable, keeps_function, keeps_parameters}
use Rattle.single_path.proofs.Resolving.{variable_does, element_does, variable_target_does, element_target_does, between_does, signs_do}

module _ (P : Use → Type 0) where
  mutual
    expr_checked : (names : List Named) (of : Names) → Keeps P names of → (fresh : Option ℕ) (e : PlainExpr)
        → ExprTyped names e → ExprDoes P (resolved of fresh e)
    expr_checked names of k fresh (plain.chain l first rest) typed =
        steps_checked names of k fresh (expr_unsigned of first) (resolved of fresh first) rest
        (expr_checked names of k fresh first typed.0) typed.1
    expr_checked names of k fresh (plain.unary ops e) typed =
        signs_do P ops (resolved of fresh e) (expr_checked names of k fresh e typed)
    expr_checked names of k fresh (plain.number n unsigned) typed = tt
    expr_checked names of k fresh (plain.name text) typed =
        variable_does P fresh (named of text) (k.scalars text typed).0
    expr_checked names of k fresh (plain.element text index) typed =
        element_does P (named of text) (resolved of fresh index) (k.arrays text typed.0).0
        (expr_checked names of k fresh index typed.1)
    expr_checked names of k fresh (plain.paren e) typed = expr_checked names of k fresh e typed

    steps_checked : (names : List Named) (of : Names) → Keeps P names of → (fresh : Option ℕ) (u : Bool) (a : PlainSp)
        (steps : PlainSteps) → ExprDoes P a → StepsTyped names steps
        → ExprDoes P (resolved_steps of fresh u a steps)
    steps_checked names of k fresh u a plain.no_step does typed = does
    steps_checked names of k fresh u a (plain.step op operand rest) does typed =
        let v = works_unsigned op u (expr_unsigned of operand) in
        let b = resolved of fresh operand in
        steps_checked names of k fresh (gives_unsigned op u (expr_unsigned of operand)) (resolved_between op v a b) rest
        (between_does P op v a b does (expr_checked names of k fresh operand typed.0)) typed.1

  checked_grounds : (cores own : ℕ) (fs : List (List ℕ)) → Grounds (uses P) cores own fs (Keeps P)
  checked_grounds cores own fs = record {
    zero = tt;
    level = λ at. tt;
    expr = λ names of k fresh e typed. expr_checked names of k fresh e typed.1;
    variable = λ names of k text typed. variable_target_does P (named of text) (k.scalars text typed).1;
    element = λ names of k text index typed does. element_target_does P (named of text) index
        (k.arrays text typed).1 does;
    call = λ names of k text arguments typed number is. tt;
    send = λ names of k core typed. k.sends core;
    more = λ names of k kind text. keeps_variable P names of kind text k;
  }

  pub function_checked : (cores own : ℕ) (names : List Named) (slots : List Slot) (fs : List (List ℕ))
      (kind : Option Kind) (name : List ℕ) (ps : List Parameter) (body : List PlainStmt)
      → Keeps P names (record { slots = slots; variables = [] }) → FunctionTyped cores own names kind name ps body
      → AllDo P (resolved_body fs (record { slots = slots; variables = parameter_variables ps }) body)
  function_checked cores own names slots fs kind name ps body k typed =
      body_does (uses P) cores own fs (Keeps P) (checked_grounds cores own fs) true (names_inside names kind name ps)
      (record { slots = slots; variables = parameter_variables ps })
      (keeps_parameters P (declared names name (function_means true kind ps)) slots [] ps
      (keeps_function P names (record { slots = slots; variables = [] }) name (length ps) (is_some kind) true k))
      body typed.inside

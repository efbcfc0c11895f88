-- An operator and an operand after an expression are an expression: the operand goes where its operator's level says.
use Rattle.std.proofs.Common.{◌≡◌, ℕ, ◌+◌, ◌<◌, ◌≤◌, nat_lt, Bool, true, false, List, [], ◌∷◌, ◌++◌, refl, ap, sym, subst, ◌∙◌, append_assoc, append-nil, arith, lit≤}
use Rattle.std.proofs.lemmas.Grind.{common_steps}
use Rattle.std.specs.declared.boxed.Box.{Box}
use Rattle.std.specs.Global.{Global}
use denote.RawPtr.{null_ptr}
use Rattle.c_tree.specs.declared.tokens.Token.{Token}
use Rattle.c_tree.specs.declared.expressions.BinaryOp.{BinaryOp}
use Rattle.c_tree.specs.declared.expressions.BinaryOp.TheVariants as binary
use Rattle.c_tree.specs.declared.expressions.Expr.{Expr, Chain', Unary'}
use Rattle.c_tree.specs.declared.expressions.Expr.TheViews.{Chain}
use Rattle.c_tree.specs.declared.expressions.Expr.TheBlock.{Row_of-Step, end_of-Step, more_of-Step}
use Rattle.c_tree.specs.declared.expressions.Step.{Step}
use Rattle.c_tree.specs.Tokens.{expr_tokens, steps_tokens, one, binary_sign}
use Rattle.c_tree.specs.Fits.{ExprFits, StepsFit, has_step, rank, level_of}
use Rattle.c_tree.proofs.Chains.{tokens_of_steps, AllStepsFit, chain_tokens, chain_fits}

-- in a box, wherever that stands
abbrev pub boxed : Expr → Box Expr Global
boxed e = record { ptr = null_ptr; alloc = record { memory = record { seal = tt } }; value = e }

level_within : (op : BinaryOp) → (1 ≤ level_of op) × (level_of op ≤ 10)
level_within binary.Or = (lit≤ tt, lit≤ tt)
level_within _ = (lit≤ tt, lit≤ tt)

-- an expression that is written so, of at least this rank
pub record Fitting (least : ℕ) (ts : List Token) : Type 0 where
  pub expr : Expr
  pub above : least ≤ rank expr
  pub fits : ExprFits expr
  pub written : expr_tokens expr ≡ ts

-- steps of this level that are written so
record Stepping (level : ℕ) (ts : List Token) : Type 0 where
  first : Step
  steps : List Step
  fits : AllStepsFit level (first ∷ steps)
  written : tokens_of_steps (first ∷ steps) ≡ ts

-- first operand and steps make a chain
chained : (level : ℕ) (first : Expr) (ts : List Token) → 1 ≤ level → level ≤ 10 → level + 1 ≤ rank first
    → ExprFits first → Stepping level ts
    → Fitting level (expr_tokens first ++ ts)
chained level first ts low high above fits s = record {
  expr = Chain level (boxed first) (s.first ∷ s.steps);
  above = omega arith;
  fits = chain_fits level (boxed first) s.first s.steps low high above fits s.fits;
  written = chain_tokens level (boxed first) (s.first ∷ s.steps) ∙ ap (λ l. expr_tokens first ++ l) s.written;
}

more_steps : (level : ℕ) (op : BinaryOp) (operand : Expr) (ts : List Token) → level_of op ≡ level
    → level + 1 ≤ rank operand → ExprFits operand → Stepping level ts
    → Stepping level (one (binary_sign op) ∷ (expr_tokens operand ++ ts))
more_steps level op operand ts same above fits s = record {
  first = record { op = op; operand = operand };
  steps = s.first ∷ s.steps;
  fits = (same, above, fits, s.fits);
  written = ap (λ l. one (binary_sign op) ∷ (expr_tokens operand ++ l)) s.written;
}

one_step : (level : ℕ) (op : BinaryOp) (operand : Expr) (ts : List Token) → level_of op ≡ level
    → level + 1 ≤ rank operand → ExprFits operand → expr_tokens operand ≡ ts
    → Stepping level (one (binary_sign op) ∷ ts)
one_step level op operand ts same above fits e = record {
  first = record { op = op; operand = operand };
  steps = [];
  fits = (same, above, fits, tt);
  written = ap (λ l. one (binary_sign op) ∷ l) (append-nil (expr_tokens operand) ∙ e);
}

-- steps of one level, and one more
steps_then : {k : _} (level : ℕ) (row : Row_of-Step k) → StepsFit level row → (ts : List Token) → Stepping level ts
    → Stepping level (steps_tokens row ++ ts)
unfolding steps_tokens StepsFit
steps_then level end_of-Step f ts s = s
steps_then level (more_of-Step op operand row) f ts s =
    let P : List Token → Type 0 = λ l. Stepping level (one (binary_sign op) ∷ l) in
    subst P (sym (append_assoc (expr_tokens operand) (steps_tokens row) ts)) (more_steps level op operand
    (steps_tokens row ++ ts) f.0 f.1 f.2 (steps_then level row f.3 ts s))

-- the operator and the operand after an expression that binds closer
alone : (least : ℕ) (e : Expr) (op : BinaryOp) (x : Expr) → ExprFits e → level_of op + 1 ≤ rank e → 11 ≤ rank x
    → ExprFits x → least ≤ level_of op
    → Fitting least (expr_tokens e ++ one (binary_sign op) ∷ expr_tokens x)
alone least e op x f closer above g within =
    let levels : (1 ≤ level_of op) × (level_of op ≤ 10) = level_within op in
    let made : Fitting (level_of op) (expr_tokens e ++ one (binary_sign op) ∷ expr_tokens x) =
    chained (level_of op) e (one (binary_sign op) ∷ expr_tokens x) levels.0 levels.1 closer f
    (one_step (level_of op) op x (expr_tokens x) refl (omega (arith, levels)) g refl) in
    record { expr = made.expr; above = omega (arith, made.above); fits = made.fits; written = made.written }

mutual
  unfolding expr_tokens steps_tokens ExprFits StepsFit

  -- The operator and the operand after an expression, whatever its level is.
  pub pushed : (e : Expr) → ExprFits e → (least : ℕ) → least ≤ rank e → (op : BinaryOp) → least ≤ level_of op
      → (x : Expr) → 11 ≤ rank x → ExprFits x
      → Fitting least (expr_tokens e ++ one (binary_sign op) ∷ expr_tokens x)
  pushed (Chain' level p first l row) f least low op within x above g =
      by_level (nat_lt (level_of op) level) (nat_lt level (level_of op)) refl refl
      (pushed_row level row f.2 f.5 op x above g)
    where
      behind : List Token
      behind = one (binary_sign op) ∷ expr_tokens x

      whole : Stepping level (steps_tokens row ++ behind) → Fitting least ((expr_tokens first ++ steps_tokens row)
          ++ behind)
      whole s =
          let made : Fitting level (expr_tokens first ++ (steps_tokens row ++ behind)) =
          chained level first (steps_tokens row ++ behind) f.0 f.1 f.3 f.4 s in
          record {
            expr = made.expr;
            above = omega (arith, made.above, low);
            fits = made.fits;
            written = made.written
                ∙ sym (append_assoc (expr_tokens first) (steps_tokens row) behind);
          }

      same : nat_lt (level_of op) level ≡ false → nat_lt level (level_of op) ≡ false → level_of op ≡ level
      same c d = grind (arith, common_steps)

      closer : nat_lt (level_of op) level ≡ true → level_of op + 1 ≤ level
      closer c = grind (arith, common_steps)

      further : nat_lt level (level_of op) ≡ true → level < level_of op
      further c = grind (arith, common_steps)

      by_level : (a b : Bool) → nat_lt (level_of op) level ≡ a → nat_lt level (level_of op) ≡ b
          → (level < level_of op → Stepping level (steps_tokens row ++ behind))
          → Fitting least ((expr_tokens first ++ steps_tokens row) ++ behind)
      by_level true b c d inner = alone least (Chain' level p first l row) op x f (closer c) above g within
      by_level false true c d inner = whole (inner (further d))
      by_level false false c d inner =
          whole (steps_then level row f.5 behind (one_step level op x (expr_tokens x) (same c d)
          (omega (arith, above, f.1)) g refl))
  pushed (Unary' ops p of) f least low op within x above g =
      alone least (Unary' ops p of) op x f (omega (arith, level_within op)) above g within
  pushed other f least low op within x above g =
      alone least other op x f (omega (arith, level_within op)) above g within

  -- The operator binds closer than the steps: it goes into the last operand.
  pushed_row : {k : _} (level : ℕ) (row : Row_of-Step k) → has_step row → StepsFit level row → (op : BinaryOp)
      (x : Expr) → 11 ≤ rank x → ExprFits x
      → level < level_of op → Stepping level (steps_tokens row ++ one (binary_sign op) ∷ expr_tokens x)
  pushed_row level end_of-Step some f op x above g further = absurd some
  pushed_row level (more_of-Step o operand end_of-Step) some f op x above g further =
      let y : Fitting (level + 1) (expr_tokens operand ++ one (binary_sign op) ∷ expr_tokens x) =
      pushed operand f.2 (level + 1) f.1 op (omega (arith, further)) x above g in
      let P : List Token → Type 0 =
      λ l. Stepping level (one (binary_sign o) ∷ (l ++ one (binary_sign op) ∷ expr_tokens x)) in
      subst P (sym (append-nil (expr_tokens operand))) (one_step level o y.expr _ f.0 y.above y.fits y.written)
  pushed_row level (more_of-Step o operand (more_of-Step o' operand' row)) some f op x above g further =
      let P : List Token → Type 0 = λ l. Stepping level (one (binary_sign o) ∷ l) in
      subst P (sym (append_assoc (expr_tokens operand) (steps_tokens (more_of-Step o' operand' row))
      (one (binary_sign op) ∷ expr_tokens x)))
      (more_steps level o operand _ f.0 f.1 f.2 (pushed_row level (more_of-Step o' operand' row) tt f.3 op x
      above g further))

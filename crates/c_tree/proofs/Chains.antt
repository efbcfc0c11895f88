-- What a chain is, by the list of its steps.
use Rattle.std.proofs.Common.{◌≡◌, ℕ, ◌+◌, ◌≤◌, List, [], ◌∷◌, ◌++◌, refl, ap, ◌∙◌, append_assoc, append-nil}
use Rattle.std.specs.Prelude.{⊤}
use denote.Hole.Carrier.{hidden}
use Rattle.std.specs.declared.boxed.Box.{Box}
use Rattle.std.specs.Global.{Global}
use Rattle.c_tree.specs.declared.tokens.Token.{Token}
use Rattle.c_tree.specs.declared.expressions.Expr.{Expr, Chain'}
use Rattle.c_tree.specs.declared.expressions.Expr.TheViews.{Chain}
use Rattle.c_tree.specs.declared.expressions.Expr.TheBlock.{hidden-the_row-Step-0}
use Rattle.c_tree.specs.declared.expressions.Step.{Step}
use Rattle.c_tree.specs.Tokens.{expr_tokens, steps_tokens, one, binary_sign}
use Rattle.c_tree.specs.Fits.{ExprFits, StepsFit, rank, level_of}

-- the tokens of steps
abbrev pub tokens_of_steps : List Step → List Token
tokens_of_steps [] = []
tokens_of_steps (s ∷ steps) = one (binary_sign s.op) ∷ (expr_tokens s.operand ++ tokens_of_steps steps)

-- what a chain has after its first operand
unfoldable behind : Expr → List Token
behind (Chain' level p first l rest) = steps_tokens rest
behind _ = []

after_chain : (level : ℕ) (b : Box Expr Global) (steps : List Step) → behind (Chain level b steps)
    ≡ tokens_of_steps steps
unfolding expr_tokens steps_tokens behind hidden-the_row-Step-0 hidden
after_chain level b [] = refl
after_chain level b (s ∷ steps) =
    ap (λ ts. one (binary_sign s.op) ∷ (expr_tokens s.operand ++ ts)) (after_chain level b steps)

pub chain_tokens : (level : ℕ) (b : Box Expr Global) (steps : List Step) → expr_tokens (Chain level b steps)
    ≡ expr_tokens b.value ++ tokens_of_steps steps
unfolding expr_tokens steps_tokens behind
chain_tokens level b steps = ap (λ ts. expr_tokens b.value ++ ts) (after_chain level b steps)

-- one step more
pub tokens_of_steps_push : (steps : List Step) (s : Step)
    → tokens_of_steps (steps ++ s ∷ []) ≡ tokens_of_steps steps ++ one (binary_sign s.op) ∷ expr_tokens s.operand
tokens_of_steps_push [] s = simp append-nil
tokens_of_steps_push (t ∷ steps) s =
    ap (λ ts. one (binary_sign t.op) ∷ (expr_tokens t.operand ++ ts)) (tokens_of_steps_push steps s) ∙ simp append_assoc

-- steps of one level, with operands of a greater rank
abbrev pub AllStepsFit : ℕ → List Step → Type 0
AllStepsFit level [] = ⊤
AllStepsFit level (s ∷ steps) =
    (level_of s.op ≡ level) × (level + 1 ≤ rank s.operand) × ExprFits s.operand × AllStepsFit level steps

pub steps_fit_push : (level : ℕ) (steps : List Step) (s : Step) → AllStepsFit level steps
    → level_of s.op ≡ level → level + 1 ≤ rank s.operand → ExprFits s.operand → AllStepsFit level (steps ++ s ∷ [])
steps_fit_push level [] s h a b c = (a, b, c, tt)
steps_fit_push level (t ∷ steps) s h a b c = (h.0, h.1, h.2, steps_fit_push level steps s h.3 a b c)

-- what a chain has after its first operand fits
unfoldable AfterFits : Expr → Type 0
AfterFits (Chain' level p first l rest) = StepsFit level rest
AfterFits _ = ⊤

after_fits : (level : ℕ) (b : Box Expr Global) (steps : List Step) → AllStepsFit level steps
    → AfterFits (Chain level b steps)
unfolding ExprFits StepsFit AfterFits hidden-the_row-Step-0 hidden
after_fits level b [] h = tt
after_fits level b (s ∷ steps) h = (h.0, h.1, h.2, after_fits level b steps h.3)

pub chain_fits : (level : ℕ) (b : Box Expr Global) (s : Step) (steps : List Step) → 1 ≤ level → level ≤ 10
    → level + 1 ≤ rank b.value → ExprFits b.value
    → AllStepsFit level (s ∷ steps) → ExprFits (Chain level b (s ∷ steps))
unfolding ExprFits StepsFit AfterFits hidden-the_row-Step-0 hidden
chain_fits level b s steps low high above fits all = (low, high, tt, above, fits, after_fits level b (s ∷ steps) all)

-- What a block is, by the list of its statements.
use Rattle.std.proofs.Common.{◌≡◌, List, [], ◌∷◌, ◌++◌, Option, None, Some, refl, ap, ◌∙◌}
use Rattle.std.specs.Prelude.{⊤}
use Rattle.std.specs.List.{AllByRecursion as Each}
use denote.Hole.Carrier.{hidden}
use Rattle.c_tree.specs.declared.tokens.Token.{Token}
use Rattle.c_tree.specs.declared.statements.Head.{Head}
use Rattle.c_tree.specs.declared.statements.Bound.{Bound}
use Rattle.c_tree.specs.declared.statements.Arm.{Arm}
use Rattle.c_tree.specs.declared.statements.Stmt.{Stmt, Loop', Inner'}
use Rattle.c_tree.specs.declared.statements.Stmt.TheViews.{Inner, Loop, If}
use Rattle.c_tree.specs.declared.statements.Stmt.TheBlock.{hidden-the_row-Stmt-0, hidden-the_row-Arm-1}
use Rattle.c_tree.specs.declared.tokens.Keyword.TheVariants as keyword
use Rattle.c_tree.specs.Tokens.{stmt_tokens, block_tokens, arms_tokens, further_tokens, otherwise_tokens, arm_tokens, body_tokens, braced, bound_tokens, head_tokens, word}
use Rattle.c_tree.specs.Fits.{ExprFits, HeadFits, StmtFits, BlockFits, ArmsFit, OtherwiseFits, has_arm}

unfoldable inside : Stmt → List Token
inside (Inner' l body) = block_tokens body
inside s = []

inside_inner : (body : List Stmt) → inside (Inner body) ≡ body_tokens body
unfolding stmt_tokens block_tokens inside hidden-the_row-Stmt-0 hidden
inside_inner [] = refl
inside_inner (s ∷ body) = ap (λ ts. stmt_tokens s ++ ts) (inside_inner body)

pub inner_tokens : (body : List Stmt) → stmt_tokens (Inner body) ≡ braced (body_tokens body)
unfolding stmt_tokens block_tokens inside
inner_tokens body = ap braced (inside_inner body)

-- what a loop does in each iteration
unfoldable iterated : Stmt → List Token
iterated (Loop' bound head l body) = block_tokens body
iterated s = []

iterated_loop : (bound : Option Bound) (head : Head) (body : List Stmt) → iterated (Loop bound head body)
    ≡ body_tokens body
unfolding stmt_tokens block_tokens iterated hidden-the_row-Stmt-0 hidden
iterated_loop bound head [] = refl
iterated_loop bound head (s ∷ body) = ap (λ ts. stmt_tokens s ++ ts) (iterated_loop bound head body)

pub loop_tokens : (bound : Option Bound) (head : Head) (body : List Stmt)
    → stmt_tokens (Loop bound head body) ≡ bound_tokens bound ++ (head_tokens head ++ braced (body_tokens body))
unfolding stmt_tokens block_tokens iterated
loop_tokens bound head body =
    ap (λ ts. bound_tokens bound ++ (head_tokens head ++ braced ts)) (iterated_loop bound head body)

-- the block of a list, by its row
pub row_tokens : (body : List Stmt) → block_tokens (hidden-the_row-Stmt-0 body) ≡ body_tokens body
unfolding stmt_tokens block_tokens hidden-the_row-Stmt-0 hidden
row_tokens [] = refl
row_tokens (s ∷ body) = ap (λ ts. stmt_tokens s ++ ts) (row_tokens body)

-- arms, and each but the first after `else`
abbrev pub tokens_of_further : List Arm → List Token
tokens_of_further [] = []
tokens_of_further (a ∷ arms) =
    word keyword.Else ∷ (arm_tokens a.condition (body_tokens a.body) ++ tokens_of_further arms)

abbrev pub tokens_of_arms : List Arm → List Token
tokens_of_arms [] = []
tokens_of_arms (a ∷ arms) = arm_tokens a.condition (body_tokens a.body) ++ tokens_of_further arms

abbrev pub tokens_otherwise : Option (List Stmt) → List Token
tokens_otherwise None = []
tokens_otherwise (Some body) = word keyword.Else ∷ braced (body_tokens body)

row_further : (arms : List Arm) → further_tokens (hidden-the_row-Arm-1 arms) ≡ tokens_of_further arms
unfolding stmt_tokens block_tokens further_tokens hidden-the_row-Arm-1 hidden
row_further [] = refl
row_further (a ∷ arms) =
    ap (λ ts. word keyword.Else ∷ (arm_tokens a.condition ts ++ further_tokens (hidden-the_row-Arm-1 arms)))
    (row_tokens a.body)
    ∙ ap (λ ts. word keyword.Else ∷ (arm_tokens a.condition (body_tokens a.body) ++ ts)) (row_further arms)

pub row_arms : (arms : List Arm) → arms_tokens (hidden-the_row-Arm-1 arms) ≡ tokens_of_arms arms
unfolding stmt_tokens block_tokens arms_tokens further_tokens hidden-the_row-Arm-1 hidden
row_arms [] = refl
row_arms (a ∷ arms) =
    ap (λ ts. arm_tokens a.condition ts ++ further_tokens (hidden-the_row-Arm-1 arms)) (row_tokens a.body)
    ∙ ap (λ ts. arm_tokens a.condition (body_tokens a.body) ++ ts) (row_further arms)

pub if_tokens : (arms : List Arm) (otherwise : Option (List Stmt)) → stmt_tokens (If arms otherwise)
    ≡ tokens_of_arms arms ++ tokens_otherwise otherwise
unfolding stmt_tokens block_tokens arms_tokens otherwise_tokens
if_tokens arms None = ap (λ ts. ts ++ []) (row_arms arms)
if_tokens arms (Some body) =
    ap (λ ts. ts ++ word keyword.Else ∷ braced (block_tokens (hidden-the_row-Stmt-0 body))) (row_arms arms)
    ∙ ap (λ ts. tokens_of_arms arms ++ word keyword.Else ∷ braced ts) (row_tokens body)

-- ---- what fits

row_fits : (body : List Stmt) → Each StmtFits body → BlockFits (hidden-the_row-Stmt-0 body)
unfolding StmtFits BlockFits hidden-the_row-Stmt-0 hidden
row_fits [] h = tt
row_fits (s ∷ body) h = (h.0, row_fits body h.1)

pub inner_fits : (body : List Stmt) → Each StmtFits body → StmtFits (Inner body)
unfolding StmtFits BlockFits
inner_fits body h = row_fits body h

pub loop_fits : (bound : Option Bound) (head : Head) (body : List Stmt) → HeadFits head → Each StmtFits body
    → StmtFits (Loop bound head body)
unfolding StmtFits BlockFits
loop_fits bound head body a h = (a, row_fits body h)

abbrev pub ArmFits : Arm → Type 0
ArmFits a = ExprFits a.condition × Each StmtFits a.body

row_arms_fit : (arms : List Arm) → Each ArmFits arms → ArmsFit (hidden-the_row-Arm-1 arms)
unfolding StmtFits BlockFits ArmsFit hidden-the_row-Arm-1 hidden
row_arms_fit [] h = tt
row_arms_fit (a ∷ arms) h = (h.0.0, row_fits a.body h.0.1, row_arms_fit arms h.1)

abbrev pub OtherwiseFitting : Option (List Stmt) → Type 0
OtherwiseFitting None = ⊤
OtherwiseFitting (Some body) = Each StmtFits body

first_arm : (a : Arm) (arms : List Arm) → has_arm (hidden-the_row-Arm-1 (a ∷ arms))
unfolding hidden-the_row-Arm-1 hidden
first_arm a arms = tt

pub if_fits : (a : Arm) (arms : List Arm) (otherwise : Option (List Stmt)) → Each ArmFits (a ∷ arms)
    → OtherwiseFitting otherwise
    → StmtFits (If (a ∷ arms) otherwise)
unfolding StmtFits BlockFits ArmsFit OtherwiseFits
if_fits a arms None h o = (first_arm a arms, row_arms_fit (a ∷ arms) h, tt)
if_fits a arms (Some body) h o = (first_arm a arms, row_arms_fit (a ∷ arms) h, row_fits body o)

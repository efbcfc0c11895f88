-- Sizes, weights and frames of plain trees, as sums over the lists that a tree has.
use Rattle.std.proofs.Common.{◌≡◌, ℕ, Bool, ◌+◌, ◌<◌, List, [], ◌∷◌, length, refl, ap, ◌∙◌, arith}
use Rattle.std.specs.Prelude.{sum_by, map}
use Rattle.std.proofs.lemmas.List.Sums.{sum_by-cons}
use Rattle.c_tree.specs.declared.expressions.Expr.{Expr}
use Rattle.c_tree.specs.declared.expressions.Step.{Step}
use Rattle.c_tree.specs.declared.statements.Arm.{Arm}
use Rattle.c_tree.specs.declared.statements.Stmt.{Stmt}
use Rattle.c_tree.specs.declared.statements.Stmt.TheViews.{Inner}
use Rattle.c_tree.specs.declared.units.Item.{Item}
use Rattle.c_tree.specs.Frame.{stmt_frame, block_frame, arms_frame, body_frame}
use Rattle.c_tree.specs.Plain.{plain_expr, plain_stmt, plain_item}
use Rattle.c_tree.specs.Sizes.{expr_size, steps_size, argument_size, call_size, stmt_size, block_size, arms_size, further_size, item_size}
use Rattle.c_tree.specs.Valid.{item_words, words_in}
use Rattle.c_tree.specs.Weight.{operator_weight, expr_weight, steps_weight, stmt_weight, block_weight, arms_weight, body_weight, item_weight, items_weight}
use Rattle.c_tree.specs.Plains.{steps_of, block_of, arms_of}
use Rattle.c_tree.proofs.Plains.{plain_inner}

pub sum_mapped : {A B : Type 0} (f : B → ℕ) (g : A → B) (xs : List A) → sum_by f (map g xs) ≡ sum_by (λ x. f (g x)) xs
sum_mapped f g [] = refl
sum_mapped f g (x ∷ xs) =
    omega (arith, sum_by-cons f (g x) (map g xs), sum_by-cons (λ y. f (g y)) x xs, sum_mapped f g xs)

-- ---- weights

abbrev pub step_weight : Step → ℕ
step_weight s = operator_weight s.op + expr_weight (plain_expr s.operand)

pub steps_weighed : (steps : List Step) → steps_weight (steps_of steps) ≡ sum_by step_weight steps
unfolding steps_weight
steps_weighed [] = refl
steps_weighed (s ∷ steps) = omega (arith, sum_by-cons step_weight s steps, steps_weighed steps)

abbrev pub argument_weight : Expr → ℕ
argument_weight e = 6 + expr_weight (plain_expr e)

pub args_weighed : (args : List Expr) → sum_by (λ e. 6 + expr_weight e) (map plain_expr args)
    ≡ sum_by argument_weight args
args_weighed args = sum_mapped (λ e. 6 + expr_weight e) plain_expr args

abbrev pub statement_weight : Stmt → ℕ
statement_weight s = stmt_weight (plain_stmt s)

pub block_weighed : (body : List Stmt) → block_weight (block_of body) ≡ sum_by statement_weight body
unfolding block_weight
block_weighed [] = refl
block_weighed (s ∷ body) = omega (arith, sum_by-cons statement_weight s body, block_weighed body)

pub body_weighed : (body : List Stmt) → body_weight (map plain_stmt body) ≡ block_weight (block_of body)
body_weighed body = omega (arith, sum_mapped stmt_weight plain_stmt body, block_weighed body)

abbrev pub arm_weight : Arm → ℕ
arm_weight a = 24 + expr_weight (plain_expr a.condition) + block_weight (block_of a.body)

pub arms_weighed : (arms : List Arm) → arms_weight (arms_of arms) ≡ sum_by arm_weight arms
unfolding arms_weight
arms_weighed [] = refl
arms_weighed (a ∷ arms) = omega (arith, sum_by-cons arm_weight a arms, arms_weighed arms)

pub inner_weighed : (s : Stmt) (body : List Stmt) → s ≡ Inner body → stmt_weight (plain_stmt s)
    ≡ block_weight (block_of body)
unfolding stmt_weight
inner_weighed s body is = ap (λ x. stmt_weight (plain_stmt x)) is ∙ ap stmt_weight (plain_inner body)

abbrev pub weight_of_item : Item → ℕ
weight_of_item i = item_weight (plain_item i)

pub items_weighed : (items : List Item) → items_weight (map plain_item items) ≡ sum_by weight_of_item items
items_weighed items = sum_mapped item_weight plain_item items

-- ---- frames

abbrev pub statement_frame : Stmt → ℕ
statement_frame s = stmt_frame (plain_stmt s)

pub block_framed : (body : List Stmt) → block_frame (block_of body) ≡ sum_by statement_frame body
unfolding block_frame
block_framed [] = refl
block_framed (s ∷ body) = omega (arith, sum_by-cons statement_frame s body, block_framed body)

pub body_framed : (body : List Stmt) → body_frame (map plain_stmt body) ≡ block_frame (block_of body)
body_framed body = omega (arith, sum_mapped stmt_frame plain_stmt body, block_framed body)

abbrev pub arm_frame : Arm → ℕ
arm_frame a = 1 + block_frame (block_of a.body)

pub arms_framed : (arms : List Arm) → arms_frame (arms_of arms) ≡ sum_by arm_frame arms
unfolding arms_frame
arms_framed [] = refl
arms_framed (a ∷ arms) = omega (arith, sum_by-cons arm_frame a arms, arms_framed arms)

pub inner_framed : (s : Stmt) (body : List Stmt) → s ≡ Inner body → stmt_frame (plain_stmt s)
    ≡ block_frame (block_of body)
unfolding stmt_frame
inner_framed s body is = ap (λ x. stmt_frame (plain_stmt x)) is ∙ ap stmt_frame (plain_inner body)

-- ---- sizes

abbrev pub step_size : Step → ℕ
step_size s = 1 + expr_size (plain_expr s.operand)

pub steps_sized : (steps : List Step) → steps_size (steps_of steps) ≡ sum_by step_size steps
unfolding steps_size
steps_sized [] = refl
steps_sized (s ∷ steps) = omega (arith, sum_by-cons step_size s steps, steps_sized steps)

abbrev pub size_of_argument : Expr → ℕ
size_of_argument e = argument_size (plain_expr e)

pub args_sized : (args : List Expr) → sum_by argument_size (map plain_expr args) ≡ sum_by size_of_argument args
args_sized args = sum_mapped argument_size plain_expr args

pub call_sized : (args : List Expr) → 0 < length args → call_size (map plain_expr args)
    ≡ 2 + sum_by argument_size (map plain_expr args)
call_sized [] h = absurd (omega arith)
call_sized (e ∷ args) h = refl

abbrev pub statement_size : Stmt → ℕ
statement_size s = stmt_size (plain_stmt s)

pub block_sized : (body : List Stmt) → block_size (block_of body) ≡ sum_by statement_size body
unfolding block_size
block_sized [] = refl
block_sized (s ∷ body) = omega (arith, sum_by-cons statement_size s body, block_sized body)

pub body_sized : (body : List Stmt) → sum_by stmt_size (map plain_stmt body) ≡ block_size (block_of body)
body_sized body = omega (arith, sum_mapped stmt_size plain_stmt body, block_sized body)

abbrev pub arm_size : Arm → ℕ
arm_size a = expr_size (plain_expr a.condition) + block_size (block_of a.body) + 5

-- an arm and the `else` after it
abbrev pub next_size : Arm → ℕ
next_size a = arm_size a + 1

further_sized : (arms : List Arm) → further_size (arms_of arms) ≡ sum_by next_size arms
unfolding further_size
further_sized [] = refl
further_sized (a ∷ arms) = omega (arith, sum_by-cons next_size a arms, further_sized arms)

pub arms_sized : (arms : List Arm) → 0 < length arms → sum_by next_size arms ≡ arms_size (arms_of arms) + 1
unfolding arms_size
arms_sized [] h = absurd (omega arith)
arms_sized (a ∷ arms) h = omega (arith, sum_by-cons next_size a arms, further_sized arms)

abbrev pub size_of_item : Item → ℕ
size_of_item i = item_size (plain_item i)

pub items_sized : (items : List Item) → sum_by item_size (map plain_item items) ≡ sum_by size_of_item items
items_sized items = sum_mapped item_size plain_item items

-- ---- items

abbrev pub words_of_item : Bool → Item → ℕ
words_of_item scratch i = item_words scratch (plain_item i)

pub words_summed : (scratch : Bool) (items : List Item) → words_in scratch (map plain_item items)
    ≡ sum_by (words_of_item scratch) items
words_summed scratch items = sum_mapped (item_words scratch) plain_item items

-- The faults of the rest of a list: those of its first item, and then those of the rest after it.
use Rattle.std.proofs.Common.{◌≡◌, ℕ, ◌+◌, ◌<◌, Bool, true, false, List, ◌++◌, length, get_or, drop, Option, ◌∙◌, ap}
use Rattle.std.specs.Prelude.{◌||◌, map}
use Rattle.std.proofs.lemmas.List.Sums.{sum_by-cons}
use Rattle.tc_word.proofs.Items.{drop_item}
use Rattle.c_tree.specs.declared.checks.Fault.{Fault}
use Rattle.c_tree.specs.declared.checks.Meaning.TheVariants as meaning
use Rattle.c_tree.specs.declared.checks.Within.{Within}
use Rattle.c_tree.specs.declared.expressions.Expr.{Expr}
use Rattle.c_tree.specs.declared.expressions.Step.{Step}
use Rattle.c_tree.specs.declared.statements.Arm.{Arm}
use Rattle.c_tree.specs.declared.statements.Stmt.{Stmt}
use Rattle.c_tree.specs.declared.units.Item.{Item}
use Rattle.c_tree.specs.declared.units.Parameter.{Parameter}
use Rattle.c_tree.specs.Least.{least_with}
use Rattle.c_tree.specs.Names.{Named, declared}
use Rattle.c_tree.specs.Plain.{plain_expr, plain_stmt, plain_item}
use Rattle.c_tree.specs.Sizes.{expr_size, argument_size, kind_size, parameter_size, stmt_size, item_size}
use Rattle.c_tree.specs.Checks.{expr_faults, steps_faults, whole_faults, args_faults, stmt_faults, block_faults, after, arms_faults, opened, twice_faults}
use Rattle.c_tree.specs.Valid.{parameters_faults, with_parameters, item_faults, items_faults, with_item, item_words, words_in, is_main, has_main}
use Rattle.c_tree.specs.Layout.{item_slots, slots_from}
use Rattle.c_tree.proofs.Leasts.{least_of_both}
use Rattle.c_tree.specs.Plains.{steps_of, block_of, arms_of}
use Rattle.c_check.proofs.Sums.{step_size, next_size}

pub chain_next : (least : Option Fault) (names : List Named) (at : ℕ) (steps : List Step) (i : ℕ) (s : Step)
    → i < length steps → s ≡ get_or steps i s
    → least_with least (steps_faults names at (steps_of (drop i steps)))
    ≡ least_with (least_with least (expr_faults names (at + 1) (plain_expr s.operand))) (steps_faults names
    (at + step_size s) (steps_of (drop (i + 1) steps)))
unfolding steps_faults
chain_next least names at steps i s h is =
    ap (λ ss. least_with least (steps_faults names at (steps_of ss))) (drop_item steps i s h is)
    ∙ least_of_both least (expr_faults names (at + 1) (plain_expr s.operand)) (steps_faults names (at + step_size s)
    (steps_of (drop (i + 1) steps)))

pub args_next : (least : Option Fault) (names : List Named) (at : ℕ) (args : List Expr) (i : ℕ) (e : Expr)
    → i < length args → e ≡ get_or args i e
    → least_with least (args_faults names at (map plain_expr (drop i args)))
    ≡ least_with (least_with least (whole_faults names at (plain_expr e))) (args_faults names
    (at + argument_size (plain_expr e)) (map plain_expr (drop (i + 1) args)))
args_next least names at args i e h is =
    ap (λ es. least_with least (args_faults names at (map plain_expr es))) (drop_item args i e h is)
    ∙ least_of_both least (whole_faults names at (plain_expr e)) (args_faults names (at + argument_size (plain_expr e))
    (map plain_expr (drop (i + 1) args)))

pub body_next : (least : Option Fault) (w : Within) (names : List Named) (at : ℕ) (body : List Stmt) (i : ℕ) (s : Stmt)
    → i < length body → s ≡ get_or body i s
    → least_with least (block_faults w names at (block_of (drop i body)))
    ≡ least_with (least_with least (stmt_faults w names at (plain_stmt s)))
    (block_faults w (after names (plain_stmt s)) (at + stmt_size (plain_stmt s)) (block_of (drop (i + 1) body)))
unfolding block_faults
body_next least w names at body i s h is =
    ap (λ ss. least_with least (block_faults w names at (block_of ss))) (drop_item body i s h is)
    ∙ least_of_both least (stmt_faults w names at (plain_stmt s))
    (block_faults w (after names (plain_stmt s)) (at + stmt_size (plain_stmt s)) (block_of (drop (i + 1) body)))

pub branches_next : (least : Option Fault) (w : Within) (names : List Named) (at : ℕ) (arms : List Arm) (i : ℕ)
    (a : Arm) → i < length arms → a ≡ get_or arms i a
    → least_with least (arms_faults w names at (arms_of (drop i arms)))
    ≡ least_with (least_with (least_with least (whole_faults names (at + 2) (plain_expr a.condition)))
    (block_faults (opened w (length names)) names (at + 2 + expr_size (plain_expr a.condition) + 2) (block_of a.body)))
    (arms_faults w names (at + next_size a) (arms_of (drop (i + 1) arms)))
unfolding arms_faults
branches_next least w names at arms i a h is =
    let condition = whole_faults names (at + 2) (plain_expr a.condition) in
    let block = block_faults (opened w (length names)) names (at + 2 + expr_size (plain_expr a.condition) + 2)
    (block_of a.body) in
    let rest = arms_faults w names (at + next_size a) (arms_of (drop (i + 1) arms)) in
    ap (λ them. least_with least (arms_faults w names at (arms_of them))) (drop_item arms i a h is)
    ∙ least_of_both least (condition ++ block) rest
    ∙ ap (λ l. least_with l rest) (least_of_both least condition block)

pub parameters_next : (least : Option Fault) (outer : ℕ) (names : List Named) (at : ℕ) (ps : List Parameter) (i : ℕ)
    (p : Parameter)
    → i < length ps → p ≡ get_or ps i p
    → least_with least (parameters_faults outer names at (drop i ps))
    ≡ least_with (least_with least (twice_faults outer names (at + kind_size p.kind) p.name))
    (parameters_faults outer (declared names p.name meaning.Scalar) (at + parameter_size p) (drop (i + 1) ps))
parameters_next least outer names at ps i p h is =
    ap (λ qs. least_with least (parameters_faults outer names at qs)) (drop_item ps i p h is)
    ∙ least_of_both least (twice_faults outer names (at + kind_size p.kind) p.name)
    (parameters_faults outer (declared names p.name meaning.Scalar) (at + parameter_size p) (drop (i + 1) ps))

pub with_parameters_next : (names : List Named) (ps : List Parameter) (i : ℕ) (p : Parameter) → i < length ps → p
    ≡ get_or ps i p
    → with_parameters names (drop i ps) ≡ with_parameters (declared names p.name meaning.Scalar) (drop (i + 1) ps)
with_parameters_next names ps i p h is = ap (with_parameters names) (drop_item ps i p h is)

pub items_next : (least : Option Fault) (cores own : ℕ) (names : List Named) (at : ℕ) (items : List Item)
    (i : ℕ) (t : Item)
    → i < length items → t ≡ get_or items i t
    → least_with least (items_faults cores own names at (map plain_item (drop i items)))
    ≡ least_with (least_with least (item_faults cores own names at (plain_item t)))
    (items_faults cores own (with_item names (plain_item t)) (at + item_size (plain_item t))
    (map plain_item (drop (i + 1) items)))
items_next least cores own names at items i t h is =
    ap (λ ts. least_with least (items_faults cores own names at (map plain_item ts))) (drop_item items i t h is)
    ∙ least_of_both least (item_faults cores own names at (plain_item t))
    (items_faults cores own (with_item names (plain_item t)) (at + item_size (plain_item t))
    (map plain_item (drop (i + 1) items)))

pub slots_next : (private scratch : ℕ) (items : List Item) (i : ℕ) (t : Item) → i < length items → t ≡ get_or items i t
    → slots_from private scratch (map plain_item (drop i items))
    ≡ item_slots private scratch (plain_item t)
    ++ slots_from (private + item_words false (plain_item t)) (scratch + item_words true (plain_item t)) (map plain_item
    (drop (i + 1) items))
slots_next private scratch items i t h is =
    ap (λ ts. slots_from private scratch (map plain_item ts)) (drop_item items i t h is)

pub words_next : (scratch : Bool) (items : List Item) (i : ℕ) (t : Item) → i < length items → t ≡ get_or items i t
    → words_in scratch (map plain_item (drop i items)) ≡ item_words scratch (plain_item t)
    + words_in scratch (map plain_item (drop (i + 1) items))
words_next scratch items i t h is =
    ap (λ ts. words_in scratch (map plain_item ts)) (drop_item items i t h is)
    ∙ sum_by-cons (item_words scratch) (plain_item t) (map plain_item (drop (i + 1) items))

pub main_next : (items : List Item) (i : ℕ) (t : Item) → i < length items → t ≡ get_or items i t
    → has_main (map plain_item (drop i items))
    ≡ (is_main (plain_item t) || has_main (map plain_item (drop (i + 1) items)))
main_next items i t h is = ap (λ ts. has_main (map plain_item ts)) (drop_item items i t h is)

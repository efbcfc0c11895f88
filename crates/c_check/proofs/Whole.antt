-- The least fault of a declaration outside functions, of a function's block and of a program, told one after another.
use Rattle.std.proofs.Common.{◌≡◌, ℕ, ◌+◌, List, [], ◌∷◌, ◌++◌, length, Option, None, refl, ap, sym, ◌∙◌}
use Rattle.std.specs.Prelude.{map, sum_by, ◌==◌, ◌&&◌, ◌||◌, nat_lt, if◌then◌else◌}
use Rattle.c_tree.specs.declared.checks.CheckFault.TheVariants as fault
use Rattle.c_tree.specs.declared.checks.Fault.{Fault}
use Rattle.c_tree.specs.declared.units.Global.{Global}
use Rattle.c_tree.specs.declared.checks.Within.{Within}
use Rattle.c_tree.specs.declared.statements.Stmt.{Stmt}
use Rattle.c_tree.specs.Least.{least_with, where_so}
use Rattle.c_tree.specs.Names.{Named, given}
use Rattle.c_tree.specs.Plain.{PlainItem, plain_stmt}
use Rattle.c_tree.specs.Sizes.{kind_size, stmt_size, item_size}
use Rattle.c_tree.specs.Checks.{twice_faults, stmt_faults, block_faults, body_faults, after}
use Rattle.c_tree.specs.Valid.{words_of, global_faults, items_faults, end_faults, fault_of}
use Rattle.c_tree.proofs.Leasts.{least_of_both}
use Rattle.c_tree.specs.Plains.{block_of}

pub global_told : (least : Option Fault) (names : List Named) (at name_at : ℕ) (g : Global) → name_at
    ≡ at + (if g.scratch then 1 else 0) + kind_size g.kind
    → least_with least (global_faults names at g)
    ≡ least_with (least_with (least_with least (twice_faults 0 names name_at g.name))
    (where_so (g.scratch && nat_lt 0 (length g.initial)) name_at fault.WrongType))
    (where_so (words_of g == 0 || nat_lt (words_of g) (length g.initial)) name_at fault.Data)
global_told least names at name_at g place =
    ap (λ n. least_with least (twice_faults 0 names n g.name
    ++ (where_so (g.scratch && nat_lt 0 (length g.initial)) n fault.WrongType
    ++ where_so (words_of g == 0 || nat_lt (words_of g) (length g.initial)) n fault.Data))) (sym place)
    ∙ least_of_both least (twice_faults 0 names name_at g.name) _
    ∙ least_of_both (least_with least (twice_faults 0 names name_at g.name)) (where_so
    (g.scratch && nat_lt 0 (length g.initial)) name_at fault.WrongType) _

-- a function's block, as a block of statements
pub body_told : (w : Within) (names : List Named) (at : ℕ) (body : List Stmt)
    → body_faults w names at (map plain_stmt body) ≡ block_faults w names at (block_of body)
unfolding block_faults
body_told w names at [] = refl
body_told w names at (s ∷ body) =
    ap (λ fs. stmt_faults w names at (plain_stmt s) ++ fs) (body_told w (after names (plain_stmt s))
    (at + stmt_size (plain_stmt s)) body)

pub unit_told : (items : List PlainItem) (cores own : ℕ)
    → fault_of items cores own ≡ least_with (least_with None (items_faults cores own given 0 items)) (end_faults
    (sum_by item_size items) items)
unit_told items cores own =
    least_of_both None (items_faults cores own given 0 items) (end_faults (sum_by item_size items) items)

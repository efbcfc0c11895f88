-- What is so of all trees that are made.
use Rattle.std.proofs.Common.{◌≡◌, ◌≢◌, ℕ, [], List}
use Rattle.c_tree.specs.Layout.{layout_of}
use Rattle.c_tree.specs.Plain.{PlainItem}
use Rattle.c_world.specs.World.{World}
use Rattle.sp_tree.specs.Straight.{serves}
use Rattle.c_meaning.specs.Resolve.{resolved_items, parameters_in}
use Rattle.single_path.specs.Single.{with_calls}
use Rattle.single_path.proofs.Functions.{functions_quiet}

pub quiet : (items : List PlainItem) (n k under : ℕ) (args : List ℕ) (w : World) → under ≢ 1
    → (serves (with_calls items).functions n k under args w).world ≡ w
quiet items n k under args w other =
    (functions_quiet (parameters_in items) (resolved_items (layout_of items) [] items) n).world k under args w other

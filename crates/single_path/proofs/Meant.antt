-- What the tree of a valid program comes to is what the program means.
use Rattle.std.proofs.Common.{◌≡◌, ℕ, ◌≤◌, List, [], length, ap, ap₂, sym, ◌∙◌, arith}
use Rattle.c_tree.specs.Layout.{layout_of}
use Rattle.c_tree.specs.Plain.{PlainItem}
use Rattle.c_tree.specs.Valid.{IsValid}
use Rattle.c_world.specs.World.{World}
use Rattle.sp_tree.specs.Begun as begins
use Rattle.sp_tree.specs.Straight as straight
use Rattle.c_meaning.specs.Actions.{PlainActions}
use Rattle.c_meaning.specs.Begun.{begun, meaning}
use Rattle.c_meaning.specs.Meaning.{Outcome}
use Rattle.c_meaning.specs.Resolve.{resolved_items, numbered, parameters_in}
use Rattle.c_meaning.specs.Resolved as resolved
use Rattle.c_meaning.proofs.Programs.{program_means}
use Rattle.single_path.specs.Meant.{IsMeant}
use Rattle.single_path.specs.Single.{entry_of, made_functions, with_calls}
use Rattle.single_path.proofs.Calling.{Serving}
use Rattle.single_path.proofs.Formed.{as_many, functions_sound, made_length}
use Rattle.single_path.proofs.Functions.{functions_serve}
use Rattle.single_path.proofs.Sound.{Callable}
use Rattle.single_path.proofs.Main.{MainThere, main_there}

pub meant : (cores own : ℕ) (items : List PlainItem) → cores ≤ 16 → IsValid items cores own → (input : List ℕ)
    (shared comm : ℕ → ℕ)
    → IsMeant (begins.straight (with_calls items) input shared comm) (meaning items input shared comm)
meant cores own items few valid input shared comm = record {
  value = ap (λ (g : straight.Outcome). g.value) entered ∙ serving.value main.number [] world callable
      ∙ sym (ap (λ (g : Outcome). g.value) means);
  world = ap (λ (g : straight.Outcome). g.world) entered ∙ serving.world main.number [] world callable
      ∙ sym (ap (λ (g : Outcome). g.world) means);
}
  where
    counts : List ℕ
    counts = parameters_in items

    bodies : List PlainActions
    bodies = resolved_items (layout_of items) [] items

    world : World
    world = begun items input shared comm

    main : MainThere items
    main = main_there cores own items valid

    same : length counts ≡ length bodies
    same = as_many (layout_of items) [] items

    serving : Serving (Callable counts (length bodies)) (resolved.serves bodies (length bodies))
        (straight.serves (made_functions counts bodies) (length bodies))
    serving = functions_serve counts bodies same
        (λ k within. (functions_sound cores own items few valid k within).sound) (length bodies) (omega arith)

    callable : Callable counts (length bodies) main.number 0
    callable = (main.within, sym main.bare)

    entered : begins.straight (with_calls items) input shared comm ≡ straight.serves (made_functions counts bodies)
        (length bodies) main.number 1 [] world
    entered =
        ap₂ (λ n k. straight.serves (made_functions counts bodies) n k 1 [] world) (made_length counts bodies same)
        (ap entry_of main.is)

    means : meaning items input shared comm ≡ resolved.serves bodies (length bodies) main.number [] world
    means = program_means items world ∙ ap (λ m. numbered (resolved.serves bodies (length bodies)) m [] world) main.is

-- What a tree comes to on a core is what its text means.
use Rattle.std.proofs.Common.{ℕ, List, subst}
use Rattle.slot_arbiter.specs.declared.place.Place.{Place}
use Rattle.shared_order.specs.declared.operation.Operation.{Operation}
use Rattle.c_tree.specs.Plain.{PlainItem}
use Rattle.c_tree.specs.Valid.{IsValid}
use Rattle.c_world.specs.World.{World}
use Rattle.patmos_model.specs.State.{Core}
use Rattle.single_path.specs.Meant.{IsMeant}
use Rattle.single_path.specs.Single.{single}
use Rattle.single_path.proofs.TakenIn.{taken_meant}
use Rattle.task_words.specs.Meant as tree
use Rattle.task_words.specs.Meant.{comm_in, HasMeaning, Leaves}
use Rattle.c_task.specs.Programs.{said, HasProgramMeaning}
use Rattle.c_task.specs.Translation.{times}

pub program_meaning : (place : Place) (items : List PlainItem) → IsValid items place.cores place.core → (input : List ℕ)
    (world : ℕ → ℕ) (cycles : ℕ) (own : List Operation) (c : Core)
    → HasMeaning (single items) place input world cycles own c → HasProgramMeaning items place input world cycles own c
program_meaning place items valid input world cycles own c has =
    let is : IsMeant (tree.meant (single items) place input world) (said items place input world) =
    taken_meant place.cores place.core items place.in_range.cores_most valid input world (comm_in place world) in
    subst (λ value. Leaves place world cycles (times place items).end value (said items place input world).world own c)
    is.value
    (subst (λ (w : World). Leaves place world cycles (times place items).end
    (tree.meant (single items) place input world).value w own c) is.world has)

-- To be believed. What a C program means on a core and what it touches there, and what is
-- known of the tasks of a job by their texts.
use Rattle.std.specs.Prelude.{◌≡◌, ℕ, ◌<◌, ◌⊎◌, true, List, slice_index_or}
use Rattle.std.specs.List.{AllByRecursion as Each}
use Rattle.argo_ni.specs.declared.packet.Packet.{Packet}
use Rattle.c_tree.specs.Plain.{PlainItem}
use Rattle.c_meaning.specs.Begun.{meaning}
use Rattle.c_meaning.specs.Meaning.{Outcome}
use Rattle.c_mentions.specs.Alone.{Running, idle, assembly, program}
use Rattle.c_mentions.specs.Mentions.{comm_array, shared_array, mentions, assigns, sends_to}
use Rattle.local_store.specs.declared.map.TheConstants.{SHARED_WORDS}
use Rattle.patmos_code.specs.Images.{Parts}
use Rattle.patmos_model.specs.Apart.{apart_at, own_operations, sendings_at}
use Rattle.patmos_model.specs.State.{Core, Sending}
use Rattle.shared_order.specs.declared.operation.Operation.{Operation}
use Rattle.shared_order.specs.SomeWords.{LoadsOnly, StoresOnly}
use Rattle.single_path.specs.Single.{single}
use Rattle.slot_arbiter.specs.declared.place.Place.{Place}
use Rattle.task_machine.specs.Machines.{IsCommOf, KnownTask, none, unknown, compiled}
use Rattle.task_words.specs.Meant.{comm_in, Leaves}
use Rattle.c_task.specs.Translation.{times}

-- what the text means on its input, from a world
abbrev pub said : List PlainItem → Place → List ℕ → (ℕ → ℕ) → Outcome
said items place input world = meaning items input world (comm_in place world)

-- a core after so many cycles, whose task itself made these operations, has what the text means
abbrev pub HasProgramMeaning : List PlainItem → Place → List ℕ → (ℕ → ℕ) → ℕ → List Operation → Core → Type 0
HasProgramMeaning items place input world cycles own c =
    Leaves place world cycles (times place items).end (said items place input world).value
    (said items place input world).world own c

-- the words that its own loads may read: those of shared memory where its text mentions `shared`, and those of its own
-- communication memory where it mentions `comm`
abbrev pub MayLoad : List PlainItem → ℕ → ℕ → Type 0
MayLoad items core word =
    ((word < SHARED_WORDS) × (mentions shared_array items ≡ true))
    ⊎ (IsCommOf core word × (mentions comm_array items ≡ true))

-- the words that its own stores may change: those of shared memory where it assigns an element of
-- `shared`, and those of its own communication memory
abbrev pub MayStore : List PlainItem → ℕ → ℕ → Type 0
MayStore items core word = ((word < SHARED_WORDS) × (assigns shared_array items ≡ true)) ⊎ IsCommOf core word

-- after so many cycles, whatever was put in and read, a program's task has touched such words alone of those that
-- others reach, and has asked for transfers, and its packets go, only to cores that its text sends to
pub record Touches (items : List PlainItem) (place : Place) (image : Parts) (input values : List ℕ) (cycles : ℕ) : Type 0 where
  pub loads : Each (LoadsOnly (MayLoad items place.core)) (own_operations place image input values cycles)
  pub stores : Each (StoresOnly (MayStore items place.core)) (own_operations place image input values cycles)
  pub sendings : Each (λ (s : Sending). sends_to s.target items ≡ true) (sendings_at place image input values cycles)
  pub packets : Each (λ (p : Packet). sends_to p.target items
      ≡ true) (apart_at place image input values cycles).core.plain.interface.under_way

-- ---- the tasks of a job

-- the task of a core by what it runs
abbrev pub task_of : Running → KnownTask
task_of idle = none
task_of assembly = unknown
task_of (program items) = compiled (single items)

-- the tasks of a job stand by their cores
abbrev pub task_on : List Running → ℕ → Running
task_on tasks core = slice_index_or tasks core idle

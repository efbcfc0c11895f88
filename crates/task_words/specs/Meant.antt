-- To be believed. What a task's core comes to, and what it asks of the others.
use Rattle.std.specs.Prelude.{◌≡◌, ℕ, ◌-◌, ◌<◌, ◌≤◌, List, map}
use Rattle.std.specs.List.{Contains, AllByRecursion as Each}
use Rattle.c_world.specs.Numbers.{flag}
use Rattle.c_world.specs.World.{World}
use Rattle.slot_arbiter.specs.declared.place.Place.{Place}
use Rattle.shared_order.specs.declared.operation.Operation.{Operation}
use Rattle.shared_order.specs.Words.{after}
use Rattle.local_store.specs.declared.map.TheConstants.{COMM_WORDS, SHARED_WORDS}
use Rattle.stack_cache.specs.declared.stack.TheConstants.{STACK_LOWEST}
use Rattle.argo_ni.specs.Interface.{port_to}
use Rattle.argo_ni.specs.Packet.{comm_word}
use Rattle.argo_ni.specs.declared.packet.Packet.{Packet}
use Rattle.patmos_model.specs.Apart.{apart_at, own_operations, sendings_at}
use Rattle.patmos_model.specs.Outcome.{state_at}
use Rattle.patmos_model.specs.State.{Core, Sending}
use Rattle.patmos_model.specs.declared.state.CoreState.TheVariants.{Done}
use Rattle.sp_tree.specs.Begun as tree
use Rattle.sp_tree.specs.Statements.{PlainUnit}
use Rattle.sp_tree.specs.Straight.{Outcome}
use Rattle.sp_tree.specs.Uses.{sends_to, uses_of}
use Rattle.sp_emit.specs.Means.{HoldsWords, start_of}
use Rattle.tc_link.specs.Placed.{linked}
use Rattle.code_words.specs.May.{MayMake}
use Rattle.code_words.specs.Own.{sending_of}
use Rattle.task_words.specs.Reach.{MayLoadWord, MayStoreWord, MaySendTo}
use Rattle.task_core.specs.Tasks.{code_of, times_of}

-- the words of its own communication memory
abbrev pub comm_in : Place → (ℕ → ℕ) → ℕ → ℕ
comm_in place world word = world (comm_word place.core word)

-- what the tree means, from a world
abbrev pub meant : PlainUnit → Place → List ℕ → (ℕ → ℕ) → Outcome
meant u place input world = tree.straight u input world (comm_in place world)

-- input, initial words and the world are words
abbrev pub HasWorld : PlainUnit → Place → List ℕ → (ℕ → ℕ) → Type 0
HasWorld u place input world = HoldsWords (tree.begun u input world (comm_in place world))

-- a core after so many cycles, whose task itself made these operations and ends in a cycle, is done with a value and
-- the flag of a world, has the words of that world, and has asked for its sends
pub record Leaves (place : Place) (world : ℕ
    → ℕ) (cycles end value : ℕ) (w : World) (own : List Operation) (c : Core) : Type 0 where
  pub state : state_at cycles c.plain ≡ Done value (flag w.overrun) (end - place.start)
  pub sendings : c.seen.sendings ≡ map sending_of (map start_of w.sends)
  pub scratch : (word : ℕ) → c.plain.scratch word ≡ w.scratch word
  pub private : (word : ℕ) → 1 ≤ word → word < STACK_LOWEST → c.plain.private word ≡ w.private word
  pub shared : (word : ℕ) → word < SHARED_WORDS → after own world word ≡ w.shared word
  pub comm : (word : ℕ) → word < COMM_WORDS → after own world (comm_word place.core word) ≡ w.comm word

-- it has what the tree means
abbrev pub HasMeaning : PlainUnit → Place → List ℕ → (ℕ → ℕ) → ℕ → List Operation → Core → Type 0
HasMeaning u place input world cycles own c =
    Leaves place world cycles (times_of u place).end (meant u place input world).value
    (meant u place input world).world own c

-- the run apart has so
abbrev pub ComesAt : PlainUnit → Place → List ℕ → (ℕ → ℕ) → List ℕ → ℕ → Type 0
ComesAt u place input world values limit =
    HasMeaning u place input world limit (own_operations place (linked (code_of u)) input values limit)
    (apart_at place (linked (code_of u)) input values limit).core

-- after so many cycles the task itself has loaded and stored, of the words that others reach, only where its tree names
-- them; it has asked for transfers, and packets go, only to cores that it names
pub record Names (u : PlainUnit) (place : Place) (input values : List ℕ) (cycles : ℕ) : Type 0 where
  pub operations : Each (MayMake (MayLoadWord (Contains (uses_of u)) place.core)
      (MayStoreWord (Contains (uses_of u)) place.core) (MaySendTo (Contains (uses_of u))))
      (own_operations place (linked (code_of u)) input values cycles)
  pub sendings : Each (λ (s : Sending). Contains (uses_of u) (sends_to s.target))
      (sendings_at place (linked (code_of u)) input values cycles)
  pub channels : (d : ℕ) → 0 < (port_to
      (apart_at place (linked (code_of u)) input values cycles).core.plain.interface d).channel.left
      → Contains (uses_of u) (sends_to d)
  pub packets : Each (λ (p : Packet). Contains (uses_of u) (sends_to p.target))
      (apart_at place (linked (code_of u)) input values cycles).core.plain.interface.under_way

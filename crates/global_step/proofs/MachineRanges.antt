-- A machine keeps its ranges.
use Rattle.std.proofs.Common.{◌≡◌, ℕ, ◌*◌, ◌^◌, ◌<◌, ◌≤◌, List, [], ◌∷◌, length, Option, None, Some, IfSome, slice_get, sym, subst, arith, inl, inr}
use Rattle.std.specs.List.{AllByRecursion as Each}
use Rattle.std.proofs.lemmas.Bool.{cases_lt}
use Rattle.std.proofs.lemmas.Nat.{mul-le}
use Rattle.std.proofs.lemmas.Option.{slice_get_past}
use Rattle.shared_order.specs.Fit.{Fits}
use Rattle.shared_order.specs.Apart.{apart}
use Rattle.shared_order.specs.Course.{IsCourse}
use Rattle.shared_order.proofs.Courses.{is_course}
use Rattle.shared_order.proofs.Fits.{good_kept, words_kept, operations_fit}
use Rattle.slot_arbiter.specs.declared.place.Place.{Place}
use Rattle.argo_ni.specs.Packet.{comm_word}
use Rattle.patmos_code.specs.Images.{Parts}
use Rattle.patmos_model.specs.Begin.{begun, idle, no_code}
use Rattle.patmos_model.specs.Cycle.{turn}
use Rattle.patmos_model.specs.Apart.{site_of}
use Rattle.patmos_model.specs.Range.{IsWord, HasCode, InRange}
use Rattle.patmos_model.proofs.CoreRanges.{core_keeps, begun_in_range, idle_in_range}
use Rattle.global_step.specs.declared.loaded.LoadedCore.{LoadedCore}
use Rattle.global_step.specs.Loaded.{Machine, IsBeside, AreOnePlatform}
use Rattle.global_step.specs.Machine.{first_core, core_among, machine, all_operations}
use Rattle.global_step.specs.Range.{HoldsWords, IsOfWords, board_words}

-- the place is that of one of n cores
record IsAmong (n : ℕ) (place : Place) : Type 0 where
  cores : place.cores ≡ n
  core : place.core < n

among : (n k : ℕ) (other : Place) (found : Option LoadedCore) → k < n → IfSome found (λ c. IsBeside n k other c.place)
    → IfSome found (λ c. IsAmong n c.place)
among n k other None below h = tt
among n k other (Some c) below h = record { cores = h.cores; core = omega (arith, h.core, below) }

-- each core of a machine is one of its cores
placed : (cores : List LoadedCore) (k : ℕ) → AreOnePlatform cores → IfSome (slice_get cores k) (λ c. IsAmong
    (length cores) c.place)
placed [] k h = tt
placed (first ∷ others) k h =
    let cores : List LoadedCore = first ∷ others in
    elim (cases_lt k (length cores)) [
      | inl below ↦ among (length cores) k first.place (slice_get cores k) below (h k below)
      | inr past ↦ subst (λ c. IfSome c (λ c. IsAmong (length cores) c.place)) (sym (slice_get_past cores k past)) tt
    ]

no_code_fits : HasCode no_code
no_code_fits = record { words = λ place. omega arith; starts = tt }

-- stamps have 64 bits
pub room_for : (limit cores : ℕ) → limit ≤ 20000000 → cores ≤ 16 → 2 * limit * cores ≤ 2 ^ 64
room_for limit cores most few =
    let most_of_all : 2 * limit * cores ≤ 40000000 * 16 =
    mul-le (2 * limit) cores 40000000 16 (omega (arith, most)) few in omega arith

-- a core that is loaded with words begins in range
begun_fits : (words n : ℕ) (place : Place) (image : Option Parts) (input : List ℕ) → comm_word n 0 ≤ words
    → IsAmong n place
    → IfSome image HasCode → IfSome image (λ i. Each IsWord i.initial) → Each IsWord input
    → InRange words (elim image [ None ↦ idle (site_of place no_code) | Some i ↦ begun (site_of place i) input ])
begun_fits words n place None input room is code initial given =
    idle_in_range words (site_of place no_code) (record {
      among = omega (arith, is.core, is.cores);
      room = omega (arith, is.cores);
      code = no_code_fits;
    })
begun_fits words n place (Some i) input room is code initial given =
    begun_in_range words (site_of place i) input (record {
      among = omega (arith, is.core, is.cores);
      room = omega (arith, is.cores);
      code = code;
    }) initial given

module _ (m : Machine) (h : IsOfWords m) where
  found_fits : (found : Option LoadedCore) → IfSome found (λ c. IsAmong (length m.cores) c.place)
      → IfSome found HoldsWords
      → InRange (board_words m) (elim found [
        | None ↦ idle (record { cores = 1; core = 0; slot = 0; table = []; start = 0; image = no_code })
        | Some c ↦ first_core c
      ])
  found_fits None is words =
      idle_in_range (board_words m) (record { cores = 1; core = 0; slot = 0; table = []; start = 0; image = no_code })
      (record {
        among = omega arith;
        room = omega (arith, h.loaded.some_worker, h.loaded.most_workers);
        code = no_code_fits;
      })
  found_fits (Some c) is words =
      begun_fits (board_words m) (length m.cores) c.place c.image c.input (omega arith) is words.code
      words.initial words.input

  first_fits : (k : ℕ) → InRange (board_words m) (core_among m.cores k)
  first_fits k = found_fits (slice_get m.cores k) (placed m.cores k h.loaded.platform) (h.words k)

pub cores_keep : (m : Machine) (t core : ℕ) → IsOfWords m → InRange (board_words m) ((machine m t).cores core)
unfolding machine
cores_keep m t core h = good_kept turn (length m.cores) (InRange (board_words m)) (board_words m) (core_among m.cores) t
    (core_keeps (board_words m)) (first_fits m h) core

pub board_keeps : (m : Machine) (t word : ℕ) → IsOfWords m → (machine m t).words word < 2 ^ 32
unfolding machine
board_keeps m t word h = words_kept turn (length m.cores) (InRange (board_words m)) (board_words m) (core_among m.cores)
    t (core_keeps (board_words m)) (first_fits m h) word

pub operations_keep : (m : Machine) → IsOfWords m → Each (Fits (board_words m)) (all_operations m)
unfolding machine
operations_keep m h =
    let room : 2 * m.limit * length m.cores ≤ 2 ^ 64 = room_for m.limit (length m.cores) h.loaded.most_cycles h.few in
    operations_fit turn (length m.cores) (InRange (board_words m)) (board_words m) (core_among m.cores) m.limit
    (core_keeps (board_words m)) (first_fits m h) room

-- so the machine's list is a course of its cores
pub machine_course : (m : Machine) → IsOfWords m → IsCourse (length m.cores) (board_words m) (all_operations m)
    (λ core values. (apart turn (length m.cores) core (core_among m.cores core) values m.limit).made)
unfolding machine
machine_course m h =
    let some : 0 < length m.cores = omega (arith, h.loaded.some_worker, h.loaded.most_workers) in
    let room : 2 * m.limit * length m.cores ≤ 2 ^ 64 = room_for m.limit (length m.cores) h.loaded.most_cycles h.few in
    is_course turn (length m.cores) (board_words m) (InRange (board_words m)) (core_among m.cores) m.limit some room
    (core_keeps (board_words m)) (first_fits m h)

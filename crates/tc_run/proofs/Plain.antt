-- The cores of a plain run: as they were loaded, and as it leaves them.
use Rattle.std.proofs.Common.{◌≡◌, ℕ, ◌<◌, List, [], length, map, get_or, Some, IfSome, slice_get, sym, ap, ◌∙◌, subst, arith}
use Rattle.std.proofs.lemmas.List.{length-map, get_or-map}
use Rattle.slot_arbiter.specs.declared.place.Place.{Place}
use Rattle.shared_order.specs.Operation.{operations_of as operations_among}
use Rattle.shared_order.specs.Machine.{cycled}
use Rattle.patmos_model.specs.Cycle.{turn}
use Rattle.patmos_core.specs.declared.cpu.Core.{Core as Cpu}
use Rattle.patmos_core.specs.Position.{StandsFor, limit_of, place_of, room_of, IsThrough}
use Rattle.global_step.specs.declared.loaded.LoadedCore.{LoadedCore}
use Rattle.global_step.specs.Loaded.{Machine, AreOnePlatform}
use Rattle.global_step.specs.Machine.{core_among, machine, at_limit, operations_of}
use Rattle.global_step.specs.PlainRun.{Every, IsSeated, IsFree, Begins}
use Rattle.global_step.proofs.PlainEvery.{every_at, every_from}
use Rattle.tc_run.specs.Begun.{IsBegun, AreBegun}
use Rattle.tc_run.specs.Final.{IsFinalCore, AreFinal}
use Rattle.tc_run.proofs.AtEnd.{there}
use Rattle.tc_run.proofs.Begins.{among_is, placed}

-- what is the same of two lists, is the same of their members
same_at : {A : Type 0} (f : Cpu → A) (xs ys : List Cpu) → map f ys ≡ map f xs → (k : ℕ) (d : Cpu) → k < length ys
    → f (get_or ys k d) ≡ f (get_or xs k d)
same_at f xs ys e k d low =
    sym (get_or-map f ys k d (f d) low)
    ∙ ap (λ zs. get_or zs k (f d)) e
    ∙ get_or-map f xs k d (f d) (omega (arith, low, ap length e, length-map xs f, length-map ys f))

module _ (m : Machine) (cores : List Cpu) (b : AreBegun m cores) (one : AreOnePlatform m.cores) where
  -- a core, and what was loaded for it
  pub record Loading (k : ℕ) (c : Cpu) : Type 0 where
    pub loaded : LoadedCore
    pub is : slice_get m.cores k ≡ Some loaded
    pub begun : IsBegun m.trace loaded c

  loading : (k : ℕ) (d : Cpu) → k < length cores → Loading k (get_or cores k d)
  loading k d low =
      let found = there m.cores k (omega (arith, low, b.count)) in
      record {
        loaded = found.0;
        is = found.1;
        begun = subst (λ o. IfSome o (λ l. IsBegun m.trace l (get_or cores k d))) found.1
            (every_at (λ j c. IfSome (slice_get m.cores j) (λ l. IsBegun m.trace l c)) cores k d b.each low);
      }

  pub all_seated : Every (IsSeated (length cores)) cores
  all_seated = every_from (IsSeated (length cores)) cores (λ k d low.
      let l = loading k d low in let at = placed m.cores k l.loaded one l.is in
      record {
        cores = ap (λ (p : Place). p.cores) l.begun.place ∙ at.0 ∙ sym b.count;
        core = ap (λ (p : Place). p.core) l.begun.place ∙ at.1;
      })

  pub all_free : Every (λ k. IsFree m.limit) cores
  all_free = every_from (λ k. IsFree m.limit) cores (λ k d low.
      let l = loading k d low in record { waiting = l.begun.waiting; limit = omega (arith, l.begun.limit) })

  pub all_begin : Begins (core_among m.cores) cores
  all_begin = every_from (λ k c. StandsFor c (core_among m.cores k) []) cores (λ k d low.
      let l = loading k d low in
      subst (λ x. StandsFor (get_or cores k d) x []) (sym (among_is m.cores k l.loaded l.is)) l.begun.stands)

  module _ (left : List Cpu) (limit : ℕ) (e : limit ≡ m.limit) (places : map place_of left ≡ map place_of cores)
      (rooms : map room_of left ≡ map room_of cores)
      (stands : Every (λ k c. StandsFor c (core_among m.cores k) (operations_among (length cores) k
      (cycled turn (length cores) (core_among m.cores) limit).made)) left)
      (through : Every (λ k. IsThrough) left) (limits : Every (λ k c. limit_of c ≡ limit) left) where
    as_many : length left ≡ length cores
    as_many = sym (length-map left place_of) ∙ ap length places ∙ length-map cores place_of

    all_stand : Every (λ k c. StandsFor c (core_among m.cores k) (operations_of m k)) left
    unfolding machine
    all_stand =
        subst (λ n. Every (λ k c. StandsFor c (core_among m.cores k)
        (operations_among n k (cycled turn n (core_among m.cores) m.limit).made)) left) b.count
        (subst (λ t. Every (λ k c. StandsFor c (core_among m.cores k) (operations_among (length cores) k
        (cycled turn (length cores) (core_among m.cores) t).made)) left) e stands)

    final : (k : ℕ) (d : Cpu) → k < length left → IsFinalCore m k (get_or left k d)
    final k d low =
        let within : k < length cores = omega (arith, low, as_many) in let l = loading k d within in
        record {
          among = omega (arith, within, b.count);
          platform = one;
          stands = every_at (λ j c. StandsFor c (core_among m.cores j) (operations_of m j)) left k d all_stand low;
          through = every_at (λ j. IsThrough) left k d through low;
          limit = every_at (λ j c. limit_of c ≡ limit) left k d limits low ∙ e;
          place = subst (λ o. IfSome o (λ c. place_of (get_or left k d) ≡ c.place)) (sym l.is)
              (same_at place_of cores left places k d low ∙ l.begun.place);
          room = subst (λ o. IfSome o (λ c. IfSome c.image (λ image. room_of (get_or left k d) ≡ m.trace))) (sym l.is)
              (subst (λ n. IfSome l.loaded.image (λ image. n ≡ m.trace))
              (sym (same_at room_of cores left rooms k d low)) l.begun.room);
        }

    pub all_final : AreFinal m left
    all_final = record { count = as_many ∙ b.count; each = every_from (IsFinalCore m) left final }

  -- the words that it leaves
  pub words_at_end : (limit w value : ℕ) → limit ≡ m.limit → value
      ≡ (cycled turn (length cores) (core_among m.cores) limit).words w → value ≡ (at_limit m).words w
  unfolding machine
  words_at_end limit w value e h =
      h ∙ ap (λ n. (cycled turn n (core_among m.cores) limit).words w) b.count
      ∙ ap (λ t. (cycled turn (length m.cores) (core_among m.cores) t).words w) e

-- The workers of a machine's cores: as they begin, later, and at their end.
use Rattle.std.proofs.Common.{◌≡◌, ℕ, ◌*◌, ◌<◌, ◌≤◌, List, [], length, Some, IfSome, slice_get, refl, sym, ap, ◌∙◌, subst, arith, All, slice_index_or}
use Rattle.std.proofs.lemmas.Option.{slice_get_within, get_or_from_slice_get, slice_get-get_or}
use Rattle.shared_order.specs.Operation.{loads, operations_of as operations_among}
use Rattle.shared_order.specs.Apart.{apart}
use Rattle.shared_order.proofs.ByCycles.{operations_are_apart}
use Rattle.clock_board.specs.declared.known.View.{View}
use Rattle.clock_board.specs.Record.{empty, clock_of}
use Rattle.clock_board.specs.View.{own}
use Rattle.clock_board.specs.Board.{BoardFace, PassFace}
use Rattle.slot_arbiter.specs.declared.place.Place.{Place}
use Rattle.patmos_core.specs.declared.cpu.Core.{Core as Cpu}
use Rattle.patmos_model.specs.State.{Core}
use Rattle.patmos_model.specs.Cycle.{turn}
use Rattle.patmos_core.specs.Position.{StandsFor, place_of, room_of}
use Rattle.core_worker.specs.Runs.{IsNextWhole, listed, Makes, RunsAs}
use Rattle.core_worker.specs.Worker.{WorkerFace, face, IsLater, AreLater, IsOn, IsDone}
use Rattle.global_step.specs.declared.loaded.LoadedCore.{LoadedCore}
use Rattle.global_step.specs.Loaded.{Machine, AreOnePlatform}
use Rattle.global_step.specs.Machine.{core_among, machine, all_operations, operations_of}
use Rattle.tc_run.specs.Final.{IsFinalCore}
use Rattle.tc_run.specs.Worked.{number, number_of, HasWorker, IsFirst, IsWorkerOf, IsAtWork, IsThroughWith}
use Rattle.tc_run.proofs.Begins.{among_is, placed}
use Rattle.tc_run.proofs.AtEnd.{site_cores, site_core}

-- the machine's core by itself, on its own loads, makes what it makes in the machine
first_makes : (m : Machine) (k : ℕ) (l : LoadedCore) → AreOnePlatform m.cores → slice_get m.cores k ≡ Some l
    → Makes (core_among m.cores k) (operations_of m k) m.limit
unfolding machine
first_makes m k l platform is =
    let at = placed m.cores k l platform is in
    let n_is : (core_among m.cores k).plain.site.cores ≡ length m.cores =
    ap (λ (x : Core). x.plain.site.cores) (among_is m.cores k l is) ∙ site_cores l ∙ at.0 in
    let k_is : (core_among m.cores k).plain.site.core ≡ k =
    ap (λ (x : Core). x.plain.site.core) (among_is m.cores k l is) ∙ site_core l ∙ at.1 in
    ap (λ n. (apart turn n (core_among m.cores k).plain.site.core (core_among m.cores k) (loads (operations_of m k))
    m.limit).made) n_is
    ∙ ap (λ j. (apart turn (length m.cores) j (core_among m.cores k) (loads (operations_of m k)) m.limit).made) k_is
    ∙ operations_are_apart turn (length m.cores) (core_among m.cores) m.limit k (slice_get_within m.cores k l is)

-- the course's list of a pass is the machine's of its core
listed_is : (m : Machine) (k : ℕ) (v : View) → v.cores ≡ length m.cores → (own v).core ≡ k → v.course ≡ all_operations m
    → listed v ≡ operations_of m k
listed_is m k v cores core course =
    ap (λ n. operations_among n (own v).core v.course) cores ∙ ap (λ j. operations_among (length m.cores) j v.course)
    core ∙ ap (operations_among (length m.cores) k) course

module _ (m : Machine) (platform : AreOnePlatform m.cores) (c : Cpu) (v : View) (first : IsFirst m c)
    (fresh : own v ≡ empty (number c))
    (cores : v.cores ≡ length m.cores) (course : v.course ≡ all_operations m) where
  pub first_stands : StandsFor c (core_among m.cores (number c)) []
  first_stands =
      subst (λ x. StandsFor c x []) (sym (among_is m.cores (number c) first.loaded first.there)) first.begun.stands

  pub makes_listed : Makes (core_among m.cores (number c)) (listed v) m.limit
  makes_listed =
      subst (λ list. Makes (core_among m.cores (number c)) list m.limit)
      (sym (listed_is m (number c) v cores (ap (λ r. r.core) fresh) course))
      (first_makes m (number c) first.loaded platform first.there)

  pub begins_as : RunsAs (core_among m.cores (number c)) m.limit c v
  begins_as = record {
    stands = subst (StandsFor c (core_among m.cores (number c))) (sym (ap (λ r. r.made) fresh)) first_stands;
    makes = makes_listed;
    next = subst (λ o. IfSome o (IsNextWhole (core_among m.cores (number c)) (own v).made m.limit))
        (sym first.begun.waiting) tt;
  }

-- a worker that was made so
pub new_worker : (m : Machine) (c : Cpu) (p : PassFace) → AreOnePlatform m.cores → IsFirst m c → own p.view
    ≡ empty (number c)
    → p.view.cores ≡ length m.cores → p.view.course ≡ all_operations m → IsWorkerOf m (face c p m.limit)
new_worker m c p platform first fresh cores course = record {
  among = slice_get_within m.cores (number c) first.loaded first.there;
  platform = platform;
  run = begins_as m platform c p.view first fresh cores course;
  cores = cores;
  course = course;
  core = ap (λ r. r.core) fresh;
  place = subst (λ o. IfSome o (λ l. place_of c ≡ l.place)) (sym first.there) first.begun.place;
  room = subst (λ o. IfSome o (λ l. IfSome l.image (λ image. room_of c ≡ m.trace))) (sym first.there) first.begun.room;
  limit = refl;
}

-- and later
pub later_worker : (m : Machine) (w w' : WorkerFace) → IsLater w w' → IsWorkerOf m w → IsWorkerOf m w'
later_worker m w w' later is =
    let same : number_of w ≡ number_of w' = ap (λ (p : Place). p.core) (sym later.goes_on.place) in
    let runs : RunsAs (core_among m.cores (number_of w)) w'.limit w'.core w'.pass.view =
    subst (λ t. RunsAs (core_among m.cores (number_of w)) t w'.core w'.pass.view) (sym later.limit)
    (later.goes_on.runs (core_among m.cores (number_of w))
    (subst (λ t. RunsAs (core_among m.cores (number_of w)) t w.core w.pass.view) (sym is.limit) is.run)) in
    record {
      among = subst (λ k. k < length m.cores) same is.among;
      platform = is.platform;
      run = subst (λ k. RunsAs (core_among m.cores k) m.limit w'.core w'.pass.view) same
          (subst (λ t. RunsAs (core_among m.cores (number_of w)) t w'.core w'.pass.view) (later.limit ∙ is.limit) runs);
      cores = later.goes_on.cores ∙ is.cores;
      course = later.goes_on.course ∙ is.course;
      core = later.goes_on.core ∙ is.core ∙ same;
      place = subst (λ k. IfSome (slice_get m.cores k) (λ l. place_of w'.core ≡ l.place)) same
          (subst (λ p. IfSome (slice_get m.cores (number_of w)) (λ l. p ≡ l.place)) (sym later.goes_on.place) is.place);
      room = subst (λ k. IfSome (slice_get m.cores k) (λ l. IfSome l.image (λ image. room_of w'.core ≡ m.trace))) same
          (subst (λ r. IfSome (slice_get m.cores (number_of w)) (λ l. IfSome l.image (λ image. r ≡ m.trace)))
          (sym later.goes_on.room) is.room);
      limit = later.limit ∙ is.limit;
    }

module _ (m : Machine) (w : WorkerFace) (is : IsWorkerOf m w) (done : IsDone w) where
  -- at its end its core is the machine's
  pub ends_as : IsFinalCore m (number_of w) w.core
  ends_as = record {
    among = is.among;
    platform = is.platform;
    stands = subst (StandsFor w.core (core_among m.cores (number_of w)))
        (done.made ∙ listed_is m (number_of w) w.pass.view is.cores is.core is.course) is.run.stands;
    through = done.through;
    limit = done.at ∙ is.limit;
    place = is.place;
    room = is.room;
  }

  -- and its clock is past all that the machine makes
  pub ends_past : 2 * m.limit * length m.cores ≤ clock_of (own w.pass.view).published
  ends_past = subst (λ n. 2 * m.limit * n ≤ clock_of (own w.pass.view).published) is.cores
      (subst (λ t. 2 * t * w.pass.view.cores ≤ clock_of (own w.pass.view).published) is.limit done.past)

module _ (ws ws' : List WorkerFace) (later : AreLater ws ws') where
  -- workers at work are so later
  pub later_at_work : (m : Machine) (b : BoardFace) → All (IsOn b) ws' → All (IsAtWork m b) ws → All (IsAtWork m b) ws'
  later_at_work m b on work k d below =
      let low : k < length ws = omega (arith, below, later.count) in
      record {
        of = later_worker m (slice_index_or ws k d) (slice_index_or ws' k d) (later.later k d low)
            (work k d low).of;
        on = on k d below;
      }

  -- and of the same cores
  pub later_have : (j : ℕ) → HasWorker ws j → HasWorker ws' j
  later_have j (k, w, below, is, h) =
      let low : k < length ws' = omega (arith, below, later.count) in
      let w' : WorkerFace = slice_index_or ws' k w in (
        k,
        w',
        low,
        get_or_from_slice_get ws' k w' w' (slice_get-get_or ws' k w low),
        ap (λ (p : Place). p.core) (later.later k w below).goes_on.place ∙ ap number_of is ∙ h,
      )

-- at work and done is through
pub done_through : (m : Machine) (b : BoardFace) (ws : List WorkerFace) → All (IsAtWork m b) ws → All IsDone ws
    → All (IsThroughWith m b) ws
done_through m b ws work done k d below =
    record { of = (work k d below).of; on = (work k d below).on; done = done k d below }

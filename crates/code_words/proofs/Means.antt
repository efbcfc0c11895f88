-- A task whose own loads of the words that others reach are true does what its code does by words.
use Rattle.std.proofs.Common.{◌≡◌, ℕ, ◌<◌, List, refl, sym, ◌∙◌, subst}
use Rattle.slot_arbiter.specs.declared.place.Place.{Place}
use Rattle.patmos_sem.specs.Registers.{FitsRegisters}
use Rattle.patmos_model.specs.Apart.{site_of}
use Rattle.patmos_model.specs.Begin.{begun, entry}
use Rattle.patmos_model.specs.Site.{Site}
use Rattle.core_pace.specs.Moment.{Moment, core_in}
use Rattle.core_pace.specs.Run.{after_bundles}
use Rattle.core_pace.specs.Spans.{IsSlotted}
use Rattle.sp_shape.specs.Memory.{Memory}
use Rattle.sp_shape.specs.Parts.{PlainShape}
use Rattle.sp_shape.specs.Run.{Run, at_begin, by_words, run_late}
use Rattle.sp_shape.specs.Trail.{trail}
use Rattle.tc_link.proofs.Followed.{shape_followed}
use Rattle.tc_link.specs.Backs.{back, backs_of}
use Rattle.tc_link.specs.Dues.{dues_of}
use Rattle.tc_link.specs.Placed.{linked}
use Rattle.tc_link.specs.Walk.{Walk, Follows, walk_from}
use Rattle.code_words.specs.Board.{HoldsBoard}
use Rattle.code_core.specs.Fixed.{IsLinkable, Behaves}
use Rattle.code_core.specs.Goes.{by_stack, loads_from, Ended}
use Rattle.code_core.specs.Held.{HoldsPorts}
use Rattle.code_words.specs.Own.{HoldsOwn, AreOwn, KeepsApart, AllApart}
use Rattle.code_words.proofs.Along.{Ever}
use Rattle.code_words.proofs.Beginning.{CarriedTo, carried_to}
use Rattle.code_words.proofs.OwnAlong.{OwnBeside, carries_own, own_first}
use Rattle.code_words.proofs.BoardAlong.{BoardBeside, TrueSoFar, carries_board, none_made}
use Rattle.code_words.proofs.Saying.{IsOwnWord, IsBoardWord}
use Rattle.code_core.specs.Sound.{bundles_in}
use Rattle.code_core.specs.Words.{AreGiven}
use Rattle.code_core.proofs.InRange.{loads_are_words}
use Rattle.patmos_model.specs.Range.{IsWord}
use Rattle.std.specs.List.{AllByRecursion as Each}
use Rattle.shared_order.specs.Words.{after, Sees}
use Rattle.code_core.proofs.Beginning.{first, RunsAs, runs_as}
use Rattle.code_core.proofs.Shapes.{starts_after}
use Rattle.code_words.proofs.Told.{told}

-- ---- a shape, from a memory that the core has when the task begins

module _ (place : Place) (s : PlainShape) (addresses : List ℕ) (link : IsLinkable s)
    (behaves : Behaves s place addresses) (slots : IsSlotted (site_of place (linked s)))
    (among : place.core < place.cores) (memory : Memory) (Cached : ℕ → Type 0) (are_own : AreOwn Cached) where
  -- the task has ended as its code does by words: its registers and all words that it reaches are those of that run
  pub record Means (world : ℕ → ℕ) (input values : List ℕ) : Type 0 where
    pub loads : List ℕ
    pub last : Walk
    pub run : last.run ≡ run_late by_words (trail s) (at_begin memory loads (backs_of s))
    pub ended : Ended place.cores place.core last (after_bundles place.cores place.core
        (begun (site_of place (linked s)) input) values (bundles_in (trail s)))
    pub own : HoldsOwn Cached last.run.memory
        (core_in (after_bundles place.cores place.core (begun (site_of place (linked s)) input) values
        (bundles_in (trail s))))
    pub board : HoldsBoard place.core last.run.memory
        (after (after_bundles place.cores place.core (begun (site_of place (linked s)) input) values
        (bundles_in (trail s))).told.own world)

  pub means : (world : ℕ → ℕ) (input values : List ℕ) → AreGiven input values → ((loads : List ℕ) → Each IsWord loads
      → AllApart Cached by_stack (trail s) (at_begin memory loads (backs_of s)))
      → HoldsPorts memory (begun (site_of place (linked s)) input).plain.interface
      → HoldsOwn Cached memory (begun (site_of place (linked s)) input) → HoldsBoard place.core memory world
      → Sees world (after_bundles place.cores place.core (begun (site_of place (linked s)) input) values
      (bundles_in (trail s))).told.own → Means world input values
  means world input values given keeps_apart ports own board so =
      let site : Site = site_of place (linked s) in
      let f0 : Moment = first place.cores place.core site input values in
      let loads : List ℕ = loads_from place.cores place.core (bundles_in (trail s)) f0 in
      let m : Run = at_begin memory loads (backs_of s) in
      let words : Each IsWord loads = loads_are_words place.cores place.core site input values (bundles_in (trail s))
      among link.words link.initial given in
      let fits : FitsRegisters m.regs = record { count = refl; pred_count = refl; zero = refl; always = refl } in
      let f : Follows (linked s) by_stack (trail s) (dues_of s (back 0 0)) (walk_from (entry (linked s)) m) =
      shape_followed s by_stack m link.formed link.fits link.bundles fits refl
      (behaves.iterations memory loads words) in
      let r : RunsAs place.cores place.core site input values (trail s) (dues_of s (back 0 0)) m f.last =
      runs_as place.cores place.core site input values (trail s) (dues_of s (back 0 0)) memory (backs_of s) f.last 0
      ports slots (starts_after s) f.does_so (behaves.sound memory loads words) f.returns in
      let o : CarriedTo place.cores place.core site input values (KeepsApart Cached) IsOwnWord
      (OwnBeside place.cores place.core (begun site input) values Cached are_own) Ever (trail s) m f.last =
      carried_to place.cores place.core site input values (KeepsApart Cached) IsOwnWord
      (OwnBeside place.cores place.core (begun site input) values Cached are_own) Ever
      (carries_own place.cores place.core (begun site input) values Cached are_own)
      (trail s) (dues_of s (back 0 0)) memory (backs_of s) f.last 0 ports slots (starts_after s) f.does_so
      (behaves.sound memory loads words) (keeps_apart loads words) f.returns
      (own_first place.cores place.core site input values Cached memory own) tt in
      let b : CarriedTo place.cores place.core site input values (KeepsApart Cached) IsBoardWord
      (BoardBeside place.cores place.core (begun site input) values Cached are_own world site.core refl)
      (TrueSoFar place.cores place.core (begun site input) values Cached are_own world site.core refl)
      (trail s) m f.last =
      carried_to place.cores place.core site input values (KeepsApart Cached) IsBoardWord
      (BoardBeside place.cores place.core (begun site input) values Cached are_own world site.core refl)
      (TrueSoFar place.cores place.core (begun site input) values Cached are_own world site.core refl)
      (carries_board place.cores place.core (begun site input) values Cached are_own world site.core refl)
      (trail s) (dues_of s (back 0 0)) memory (backs_of s) f.last 0 ports slots (starts_after s) f.does_so
      (behaves.sound memory loads words) (keeps_apart loads words) f.returns
      (subst (λ ops. HoldsBoard site.core memory (after ops world))
      (sym (none_made place.cores place.core site input values)) board) so in
      record {
        loads = loads;
        last = f.last;
        run = f.run ∙ told site (trail s) m (behaves.sound memory loads words) o.loads b.loads;
        ended = r.ended;
        own = o.beside;
        board = b.beside;
      }

-- The run apart at each limit from the bound on: what the task's tree means, and when.
use Rattle.std.proofs.Common.{◌≡◌, ℕ, ◌-◌, ◌<◌, ◌≤◌, List, inl, inr, ap, ◌∙◌, subst, arith}
use Rattle.std.proofs.lemmas.Bool.{cases_lt}
use Rattle.slot_arbiter.specs.declared.place.Place.{Place}
use Rattle.argo_ni.specs.Packet.{comm_word}
use Rattle.shared_order.specs.declared.operation.Operation.{Operation}
use Rattle.shared_order.specs.Words.{after, Sees}
use Rattle.patmos_model.specs.Apart.{site_of, apart_at, own_operations}
use Rattle.patmos_model.specs.Begin.{begun}
use Rattle.patmos_model.specs.Site.{Site}
use Rattle.patmos_model.specs.State.{Core}
use Rattle.patmos_model.specs.declared.state.CoreState.TheVariants.{Done}
use Rattle.core_pace.specs.Growth.{IsSameTask}
use Rattle.core_pace.specs.Moment.{Moment, core_in}
use Rattle.core_pace.specs.Run.{after_bundles}
use Rattle.core_pace.specs.Spans.{IsSlotted}
use Rattle.core_pace.proofs.Outcomes.{ended_is_done}
use Rattle.sp_tree.specs.Begun as tree
use Rattle.sp_tree.specs.Statements.{PlainUnit}
use Rattle.sp_emit.specs.Means.{HoldsWords}
use Rattle.sp_shape.specs.Parts.{PlainShape}
use Rattle.sp_shape.specs.Trail.{trail}
use Rattle.tc_link.specs.Placed.{linked}
use Rattle.code_core.specs.Followed.{IsFollowed}
use Rattle.code_core.specs.Fixed.{IsLinkable}
use Rattle.code_core.specs.Sound.{bundles_in}
use Rattle.code_core.proofs.Shapes.{ends}
use Rattle.task_words.specs.Meant.{ComesAt}
use Rattle.task_core.specs.Tasks.{code_of, IsRunnable, IsCode, times_of}
use Rattle.task_core.proofs.Behaving.{link, asking, behaves}
use Rattle.code_times.proofs.Exact.{stands_from, ended_cycle}
use Rattle.core_pace.proofs.Owned.{own_ended, own_ended_there}
use Rattle.task_words.proofs.Whole.{comm_of, Comes, comes}
use Rattle.code_core.specs.Words.{AreGiven}

module _ (u : PlainUnit) (place : Place) (input : List ℕ) (world : ℕ → ℕ) where
  module _ (r : IsRunnable u place) (code : IsCode u)
      (holds : HoldsWords (tree.begun u input world (comm_of u place input world)))
      (slots : IsSlotted (site_of place (linked (code_of u)))) (among : place.core < place.cores) where
    pub comes_at : (values : List ℕ) → AreGiven input values → (limit : ℕ) → (times_of u place).end ≤ limit
        → Sees world (own_operations place (linked (code_of u)) input values limit)
        → ComesAt u place input world values limit
    comes_at values given limit enough so =
        let s : PlainShape = code_of u in
        let site : Site = site_of place (linked s) in
        let count : ℕ = bundles_in (trail s) in
        let m : Moment = after_bundles place.cores place.core (begun site input) values count in
        let k : IsLinkable s = link u code r.formed in
        let e : IsFollowed place s (asking u r.formed).cached input values =
        ends place s (asking u r.formed).cached k (behaves u place r code) slots among input values given in
        let end : m.cycle ≡ (times_of u place).end =
        ended_cycle place s (asking u r.formed).cached k (behaves u place r code) slots among input values given in
        let same : IsSameTask (core_in m) (apart_at place (linked s) input values limit).core =
        stands_from place s (asking u r.formed).cached k (behaves u place r code) slots among input values given
        limit (omega (arith, end, enough)) in
        let own_is : own_operations place (linked s) input values limit ≡ m.told.own = elim (cases_lt m.cycle limit) [
          | inl late ↦ own_ended place.cores place.core site input values count slots limit e.still late
          | inr there ↦
              let at : m.cycle ≡ limit = omega (arith, end, enough, there) in
              subst (λ t. own_operations place (linked s) input values t ≡ m.told.own) at
              (own_ended_there place.cores place.core site input values count slots e.status e.still)
        ] in
        let c : Comes u place input world r code holds slots among values =
        comes u place input world r code holds slots among values given (subst (λ o. Sees world o) own_is so) in
        record {
          state = ended_is_done place.cores place.core site input values count limit slots e.status e.still (omega
              (arith, end, enough)) ∙ (λ i. Done (c.value i) (c.flagged i) (end i - place.start));
          sendings = ap (λ (x : Core). x.seen.sendings) same ∙ c.sendings;
          scratch = λ word. ap (λ (x : Core). x.plain.scratch word) same ∙ c.scratch word;
          private = λ word some low. ap (λ (x : Core). x.plain.private word) same ∙ c.private word some low;
          shared = λ word low. ap (λ (o : List Operation). after o world word) own_is ∙ c.shared word low;
          comm = λ word low. ap (λ (o : List Operation). after o world (comm_word place.core word)) own_is
              ∙ c.comm word low;
        }

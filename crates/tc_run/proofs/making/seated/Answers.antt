use Rattle.std.proofs.Common.{◌≡◌, Some, slice_get, sym, ap, subst}
use Rattle.slot_arbiter.specs.declared.place.Place.{Place}
use Rattle.tc_run.specs.Begun.{IsBegun}
use Rattle.tc_run.proofs.making.seated.Goals as goal

pub worker_of-requires-clause-first : goal.worker_of-requires-clause-first
worker_of-requires-clause-first g c =
    let m = c.args.machine.now in let l = c.args.loaded.now in let core = c.in_ok-core.core in
    let begun : IsBegun m.trace l core = subst (λ t. IsBegun t l core) c.trace.ensures.value c.in_ok-core.ensures in
    record {
      loaded = l;
      there = subst (λ k. slice_get m.cores k ≡ Some l) (sym (ap (λ (p : Place). p.core) begun.place)) c.requires.there;
      begun = begun;
    }

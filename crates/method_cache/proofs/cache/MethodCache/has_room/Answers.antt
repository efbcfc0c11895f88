use Rattle.std.proofs.Common.{arith}
use Rattle.std.proofs.lemmas.Bool.Decides.{nat_tests}
use Rattle.method_cache.proofs.RingLemmas.{fits_ring}
use Rattle.method_cache.proofs.cache.MethodCache.has_room.Goals as goal

pub returns-then-self-lt-MOST_METHODS : goal.returns-then-self-lt-MOST_METHODS
returns-then-self-lt-MOST_METHODS c =
    let q = c.self.inside in
    rw (← c.self.view_is, fits_ring q.places c.args.method q.first q.count q.words c.self.invariant)
    (grind (arith, nat_tests))

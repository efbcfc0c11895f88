use Rattle.std.proofs.Common.{◌∙◌, ◌<◌, sym, ap, length, arith}
use Rattle.method_cache.proofs.RingLemmas.{length_ring, oldest_first, put_out, words_split}
use Rattle.method_cache.proofs.cache.MethodCache.put_out.Goals as goal

pub overflow_sub-self-2 : goal.overflow_sub-self-2
overflow_sub-self-2 c =
    let q = c.self.inside in
    let some : 0 < q.count = omega (arith, length_ring q.places q.first q.count, ap length c.self.view_is) in
    omega (arith, words_split q.places q.first q.count q.words c.self.invariant some)

pub invariant_of-self : goal.invariant_of-self
invariant_of-self c =
    let q = c.self.inside in
    let some : 0 < q.count = omega (arith, length_ring q.places q.first q.count, ap length c.self.view_is) in
    put_out q.places q.first q.count q.words c.self.invariant some

pub returns : goal.returns
returns c =
    let q = c.self.inside in
    let some : 0 < q.count = omega (arith, length_ring q.places q.first q.count, ap length c.self.view_is) in
    sym c.self.view_is ∙ oldest_first q.places q.first q.count c.self.invariant.first some

use Rattle.std.proofs.Common.{◌≡◌, ◌∙◌, ◌<◌, ap, refl, true, List, [], ◌∷◌, ◌++◌, sym, arith, rules}
use Rattle.std.proofs.lemmas.Bool.Decides.{nat_tests}
use Rattle.method_cache.specs.declared.cache.Method.{Method}
use Rattle.method_cache.specs.Residents.{fits}
use Rattle.method_cache.specs.Ring.{ring}
use Rattle.method_cache.proofs.RingLemmas.{fits_ring, put_after, ring_push}
use Rattle.method_cache.proofs.cache.MethodCache.append.Goals as goal

pub invariant_of-self : goal.invariant_of-self
invariant_of-self c =
    let q = c.self.inside in
    let room : fits (ring q.places q.first q.count ++ c.args.method ∷ []) ≡ true = rw c.self.view_is (search rules) in
    put_after q.places c.args.method q.first q.count q.words _ c.self.invariant room refl (search rules)

pub returns : goal.returns
returns c =
    let q = c.self.inside in
    let room : fits (ring q.places q.first q.count ++ c.args.method ∷ []) ≡ true = rw c.self.view_is (search rules) in
    let fitting = sym (fits_ring q.places c.args.method q.first q.count q.words c.self.invariant) ∙ room in
    let one_more : q.count < 16 = grind (arith, nat_tests, fitting) in
    ring_push q.places c.args.method q.first q.count _ refl one_more (search rules)
    ∙ ap (λ (ms : List Method). ms ++ c.args.method ∷ []) c.self.view_is

use Rattle.std.proofs.Common.{◌≡◌, ◌∙◌, length, refl, ap, arith}
use Rattle.local_store.specs.Memory.{Memory}
use Rattle.local_store.specs.Lending.{with_private}
use Rattle.local_store.proofs.store.Store.private.Goals as goal

pub returns : goal.returns
returns c =
    let whole : c.self.inside.private.len ≡ length c.self.inside.private.items = omega arith in (
      (refl, λ w. rw whole (ap (λ (m : Memory). with_private m w) c.self.view_is)),
      record { writes_back = tt; words = c.as_mut_slice.ensures.value ∙ ap (λ (m : Memory). m.private) c.self.view_is },
    )

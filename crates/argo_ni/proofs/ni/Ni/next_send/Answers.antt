use Rattle.argo_ni.proofs.Windows.{never_left}
use Rattle.argo_ni.proofs.ni.Ni.next_send.Goals as goal

pub returns-clause-left : goal.returns-clause-left
returns-clause-left c = rw (← c.self.view_is)
    (λ none d h. never_left c.self.inside.cores c.self.inside.core d c.self.inside.ports c.self.invariant.sound.among
    h.among h.other (c.self.invariant.none none))

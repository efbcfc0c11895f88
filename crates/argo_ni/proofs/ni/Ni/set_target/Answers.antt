use Rattle.std.proofs.Common.{refl}
use Rattle.argo_ni.specs.Seen.{seen}
use Rattle.argo_ni.specs.Port.{port_at}
use Rattle.argo_ni.proofs.Kept.{kept_with_port}
use Rattle.argo_ni.proofs.ni.Ni.set_target.Goals as goal

pub invariant_of-self : goal.invariant_of-self
invariant_of-self c =
    kept_with_port (seen c.self.inside) c.args.self.now c.args.d (record (port_at c.self.inside.ports c.args.d) {
      target = c.args.word;
    }) c.self.inside.sending
    c.self.view_is c.self.invariant c.requires.target refl

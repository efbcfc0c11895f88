-- A core of which nothing comes when its words have moved.
use Rattle.std.proofs.Common.{sym, subst}
use Rattle.patmos_step.specs.declared.body.Body.{Body}
use Rattle.patmos_step.specs.Ready.{IsAtRest, CanGoOn, CanMove}

pub can_at_rest : (b : Body) → IsAtRest b → CanGoOn b
can_at_rest b rest = record {
  can = subst (CanMove b.regs) (sym rest.idle) tt;
  idle = λ none. rest.idle;
  near = rest.near;
}

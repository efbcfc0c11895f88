-- The memories stand where the world of a tree does.
use Rattle.std.proofs.Common.{◌≡◌, map, ap, sym, ◌∙◌}
use Rattle.c_world.specs.Numbers.{flag}
use Rattle.c_world.specs.World.{World}
use Rattle.sp_shape.specs.Run.{Run}
use Rattle.sp_emit.specs.Holding.{held}
use Rattle.sp_emit.specs.Means.{start_of, HasWords}
use Rattle.sp_emit.specs.Serving.{WorldStands}
use Rattle.sp_emit.specs.declared.registers.TheConstants.{OVERRUN}

pub world_stands : (v w : World) (m t : Run) → v ≡ w → HasWords w m.memory → HasWords v t.memory → held OVERRUN m
    ≡ flag w.overrun → held OVERRUN t ≡ flag v.overrun → WorldStands m t
world_stands v w m t same before after was set = record {
  scratch = λ x. after.scratch x ∙ ap (λ z. z.scratch x) same ∙ sym (before.scratch x);
  comm = λ x. after.comm x ∙ ap (λ z. z.comm x) same ∙ sym (before.comm x);
  private = λ x some. after.private x some ∙ ap (λ z. z.private x) same ∙ sym (before.private x some);
  shared = λ x. after.shared x ∙ ap (λ z. z.shared x) same ∙ sym (before.shared x);
  starts = after.starts ∙ ap (λ z. map start_of z.sends) same ∙ sym before.starts;
  flag = set ∙ ap (λ z. flag z.overrun) same ∙ sym was;
}

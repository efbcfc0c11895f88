use Rattle.std.proofs.Common.{◌∙◌, arith}
use Rattle.tccode.proofs.Naming.{next_name}
use Rattle.tccode.proofs.texts.names_of.Goals as goal

pub loop-item-preserved : goal.loop-item-preserved
loop-item-preserved c =
    next_name c.loop-item.names.items c.push_name.new.names.items c.as_slice-item-items.result.now
    c.loop-item.item-index c.item-item.result (omega arith) c.item-item.is c.in_ok-push_name.ensures
    ∙ c.loop-item.invariant

-- For proofs. That some facts which go by cases hold in one way only.
use Rattle.std.proofs.Props.{props}
use Rattle.patmos_sem.specs.Registers.{Registers}
use Rattle.patmos_model.specs.declared.transfer.Then.{Then}
use Rattle.patmos_model.specs.declared.transfer.Then.TheVariants as moved
use Rattle.patmos_step.specs.Ready.{CanMove}

pub can_move_once : (regs : Registers) (t : Then) → IsProp (CanMove regs t)
can_move_once regs moved.Nothing = Prim.hlevel props
can_move_once regs (moved.Load rd width address) = Prim.hlevel props
can_move_once regs (moved.Line rd width address) = Prim.hlevel props
can_move_once regs (moved.Store cached width address value) = Prim.hlevel props

pub ruleset facts = (props, can_move_once)

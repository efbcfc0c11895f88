use Rattle.sp_shape.specs.Shown.{plain_shape}
use Rattle.bundle_sched.proofs.AllPacked.{packed_as}
use Rattle.bundle_sched.proofs.Kept.{steady_as, room_as}
use Rattle.bundle_sched.proofs.Runs.{runs_as}
use Rattle.bundle_sched.proofs.Iterations.{iterations_as, loops_as}
use Rattle.bundle_sched.proofs.WellFormed.{formed_as}
use Rattle.bundle_sched.proofs.shapes.schedule.Goals as goal

pub returns-clause-formed : goal.returns-clause-formed
returns-clause-formed c = formed_as (plain_shape c.args.shape) (plain_shape c.in_ok-shape.shape)
    c.in_ok-shape.ensures.is c.requires.formed c.requires.slots

pub returns-clause-preserves : goal.returns-clause-preserves
returns-clause-preserves c =
    runs_as (plain_shape c.args.shape) (plain_shape c.in_ok-shape.shape) c.in_ok-shape.ensures.is

pub returns-clause-iterations : goal.returns-clause-iterations
returns-clause-iterations c = iterations_as (plain_shape c.args.shape) (plain_shape c.in_ok-shape.shape)
    c.in_ok-shape.ensures.is c.requires.formed

pub returns-clause-loops : goal.returns-clause-loops
returns-clause-loops c =
    loops_as (plain_shape c.args.shape) (plain_shape c.in_ok-shape.shape) c.in_ok-shape.ensures.is c.requires.formed

pub returns-clause-steady : goal.returns-clause-steady
returns-clause-steady c =
    steady_as (plain_shape c.args.shape) (plain_shape c.in_ok-shape.shape) c.in_ok-shape.ensures.is

pub returns-clause-room : goal.returns-clause-room
returns-clause-room c = room_as (plain_shape c.args.shape) (plain_shape c.in_ok-shape.shape) c.in_ok-shape.ensures.is

pub returns-clause-packed : goal.returns-clause-packed
returns-clause-packed c = packed_as (plain_shape c.args.shape) (plain_shape c.in_ok-shape.shape)
    c.in_ok-shape.ensures.is c.requires.formed c.requires.slots c.in_ok-shape.ensures.legal

use Rattle.std.proofs.Common.{[], sym, subst}
use Rattle.sp_tree.specs.Begun.{straight}
use Rattle.sp_tree.specs.Shown.{plain_unit}
use Rattle.sp_shape.specs.Run.{at_begin, by_words, run}
use Rattle.sp_shape.specs.Shown.{plain_shape}
use Rattle.sp_shape.specs.Trail.{trail}
use Rattle.sp_emit.specs.Ran.{begun_memory}
use Rattle.sp_emit.specs.Serving.{Answers}
use Rattle.sp_emit.proofs.Formed.{formed_as}
use Rattle.sp_emit.proofs.Kept.{idle_as, alone_as, steady_as, frames_as, room_as}
use Rattle.sp_emit.proofs.Tasks.{task_does}
use Rattle.sp_emit.proofs.functions.emit.Goals as goal

pub returns-clause-formed : goal.returns-clause-formed
returns-clause-formed c =
    formed_as (plain_shape c.in_ok-shape.shape) (plain_unit c.args.unit.now) c.in_ok-shape.ensures c.requires.formed

pub returns-clause-preserves : goal.returns-clause-preserves
returns-clause-preserves c = λ input shared comm backs constants words.
    let u = plain_unit c.args.unit.now in let m = at_begin (begun_memory u input shared comm) [] backs in
    subst (λ s. Answers (straight u input shared comm) m (run by_words (trail s) m)) (sym c.in_ok-shape.ensures)
    (task_does u input shared comm backs c.requires.formed constants words)

pub returns-clause-slots : goal.returns-clause-slots
returns-clause-slots c =
    λ k below. idle_as (plain_shape c.in_ok-shape.shape) (plain_unit c.args.unit.now) c.in_ok-shape.ensures
    c.requires.formed k
    below

pub returns-clause-alone : goal.returns-clause-alone
returns-clause-alone c =
    λ k below. alone_as (plain_shape c.in_ok-shape.shape) (plain_unit c.args.unit.now) c.in_ok-shape.ensures
    c.requires.formed k
    below

pub returns-clause-steady : goal.returns-clause-steady
returns-clause-steady c =
    λ k below. steady_as (plain_shape c.in_ok-shape.shape) (plain_unit c.args.unit.now) c.in_ok-shape.ensures
    c.requires.formed k
    below

pub returns-clause-frames : goal.returns-clause-frames
returns-clause-frames c = λ k below. frames_as (plain_shape c.in_ok-shape.shape) (plain_unit c.args.unit.now)
    c.in_ok-shape.ensures c.requires.formed k below

pub returns-clause-room : goal.returns-clause-room
returns-clause-room c = λ k below. room_as (plain_shape c.in_ok-shape.shape) (plain_unit c.args.unit.now)
    c.in_ok-shape.ensures c.requires.formed k below

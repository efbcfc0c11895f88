use Rattle.std.proofs.Common.{◌≡◌, Some, sym}
use Rattle.slot_arbiter.specs.declared.event.Event.{Event}
use Rattle.patmos_core.specs.Position.{waiting_of}
use Rattle.core_worker.proofs.Going.{both, kept_looking}
use Rattle.core_worker.proofs.Turns.{waits_at, blocked_turn, moved_turn}
use Rattle.core_worker.proofs.progress.Progress.turn.Goals as goal

pub make-requires-clause-kept : goal.make-requires-clause-kept
make-requires-clause-kept g c = (kept_looking c.next_event.new.self.limit c.next_event.new.self.reached
    c.next_event.new.self.ended c.next_event.new.self.core c.next_event.new.self.pass.view c.look_around.new.pass.view
    c.in-Some.ensures.kept c.look_around.ensures.same).0

pub returns-in-Some-look_around-clause-kept : goal.returns-in-Some-look_around-clause-kept
returns-in-Some-look_around-clause-kept g c = (kept_looking c.next_event.new.self.limit c.next_event.new.self.reached
    c.next_event.new.self.ended c.next_event.new.self.core c.next_event.new.self.pass.view c.look_around.new.pass.view
    c.in-Some.ensures.kept c.look_around.ensures.same).0

pub returns-in-Some-look_around-clause-goes_on : goal.returns-in-Some-look_around-clause-goes_on
returns-in-Some-look_around-clause-goes_on g c =
    both c.args.self.now.limit c.next_event.new.self.limit c.args.self.now.core c.next_event.new.self.core
    c.next_event.new.self.core c.args.self.now.pass.view c.next_event.new.self.pass.view c.look_around.new.pass.view
    c.in-Some.ensures.limit c.in-Some.ensures.goes_on
    (kept_looking c.next_event.new.self.limit c.next_event.new.self.reached c.next_event.new.self.ended
    c.next_event.new.self.core c.next_event.new.self.pass.view c.look_around.new.pass.view c.in-Some.ensures.kept
    c.look_around.ensures.same).1

pub returns-in-Some-look_around-clause-turn : goal.returns-in-Some-look_around-clause-turn
returns-in-Some-look_around-clause-turn g c =
    let found : (e : Event) × ((waiting_of c.next_event.new.self.core ≡ Some e) × (c.in-Some.wanted ≡ e.stamp)) =
    waits_at (waiting_of c.next_event.new.self.core) c.in-Some.wanted (sym c.in-Some.ensures.stamp) in
    blocked_turn c.args.self.now.limit c.next_event.new.self.limit c.next_event.new.self.reached
    c.next_event.new.self.ended c.args.self.now.core c.next_event.new.self.core c.args.self.now.pass
    c.next_event.new.self.pass c.in-Some.ensures.kept c.in-Some.ensures.goes_on c.in-Some.ensures.same
    c.in-Some.ensures.limit
    found.0 c.in-Some.wanted found.1.0 found.1.1 c.in-Some.ensures.before
    c.in-Some-look_around.core c.in-Some-look_around.seen c.look_around.new.pass c.look_around.ensures.same
    c.in-Some-look_around.ensures.looks

pub returns-in-None-clause-goes_on : goal.returns-in-None-clause-goes_on
returns-in-None-clause-goes_on g c =
    both c.args.self.now.limit c.next_event.new.self.limit c.args.self.now.core c.next_event.new.self.core
    c.make.new.self.core c.args.self.now.pass.view c.look_around.new.pass.view c.make.new.self.pass.view
    c.in-Some.ensures.limit
    (both c.args.self.now.limit c.next_event.new.self.limit c.args.self.now.core c.next_event.new.self.core
    c.next_event.new.self.core c.args.self.now.pass.view c.next_event.new.self.pass.view c.look_around.new.pass.view
    c.in-Some.ensures.limit c.in-Some.ensures.goes_on
    (kept_looking c.next_event.new.self.limit c.next_event.new.self.reached c.next_event.new.self.ended
    c.next_event.new.self.core c.next_event.new.self.pass.view c.look_around.new.pass.view c.in-Some.ensures.kept
    c.look_around.ensures.same).1)
    c.make.ensures.goes_on

pub returns-in-None-clause-turn : goal.returns-in-None-clause-turn
returns-in-None-clause-turn g c =
    let found : (e : Event) × ((waiting_of c.next_event.new.self.core ≡ Some e) × (c.in-Some.wanted ≡ e.stamp)) =
    waits_at (waiting_of c.next_event.new.self.core) c.in-Some.wanted (sym c.in-Some.ensures.stamp) in
    moved_turn c.args.self.now.limit c.next_event.new.self.limit c.next_event.new.self.reached
    c.next_event.new.self.ended c.args.self.now.core c.next_event.new.self.core c.args.self.now.pass
    c.next_event.new.self.pass c.in-Some.ensures.kept c.in-Some.ensures.goes_on c.in-Some.ensures.same
    c.in-Some.ensures.limit
    found.0 c.in-Some.wanted found.1.0 found.1.1 c.in-Some.ensures.before
    c.make.new.self.core c.look_around.new.pass c.make.new.self.pass c.make.new.self.limit c.look_around.ensures.same
    c.in-None.ensures.looks c.in-None.ensures.seen c.make.ensures.same c.make.ensures.made

use Rattle.std.proofs.Common.{rules, ◌≡◌, ◌+◌, ◌≤◌, ◌++◌, [], length, vec_capacity, ap, ◌∙◌, subst, arith, append-nil, All}
use Rattle.std.proofs.lemmas.List.{length-append, nil_from_length}
use Rattle.core_worker.specs.Worker.{IsOn}
use Rattle.tc_run.specs.Carried.{Carries, workers_in, workers_of}
use Rattle.tc_run.proofs.Lists.{all_back}
use Rattle.tc_run.proofs.Carried.{flat_last, carried_on, last_taken}
use Rattle.tc_run.proofs.crew.Crew.take_all_on.Goals as goal

pub take_on-requires-clause-on : goal.take_on-requires-clause-on
take_on-requires-clause-on g c κs within =
    let gs = c.loop-group.groups.items in let rest = c.pop.new.self.items in let b = c.args.common.board.now in
    all_back (IsOn b) (workers_in rest) c.in-Some.group.items
    (subst (All (IsOn b)) (flat_last (λ ws. ws.items) gs rest c.in-Some.group c.in-Some.ensures.items)
    (all_back (IsOn b) (workers_of c.loop-group.self) (workers_in gs) c.loop-group.invariant.ready.on))

pub loop-group-preserved-then-not-is_empty : goal.loop-group-preserved-then-not-is_empty
loop-group-preserved-then-not-is_empty g c =
    let b = c.args.common.board.now in let was =
    c.loop-group.invariant in let gs = c.loop-group.groups.items in let rest = c.pop.new.self.items in
    let crew = workers_of c.loop-group.self in let crew' = workers_of c.take_on.new.self in
    let step : Carries b (crew ++ workers_in gs) (crew' ++ workers_in rest) =
    last_taken b (λ ws. ws.items) crew crew' gs rest c.in-Some.group c.in-Some.ensures.items
    c.take_on.ensures.carries in
    record {
      ready = record {
        on = step.on was.ready.on;
        away = c.take_on.ensures.away;
        room = omega (
          arith,
          was.ready.room,
          step.count,
          length-append crew (workers_in gs),
          length-append crew'
              (workers_in rest),
          c.take_on.ensures.room,
        );
        threads = omega (
          arith,
          was.ready.threads,
          c.take_on.ensures.one,
          c.take_on.ensures.threads,
          c.in-Some.ensures.len,
        );
      };
      flags = search rules;
      carries = carried_on b (workers_of c.args.self.now ++ workers_in c.args.groups.items) (crew ++ workers_in gs)
          (crew' ++ workers_in rest) was.carries step;
    }

pub loop-group-preserved : goal.loop-group-preserved
loop-group-preserved g c =
    let b = c.args.common.board.now in let was =
    c.loop-group.invariant in let gs = c.loop-group.groups.items in let rest = c.pop.new.self.items in
    let crew = workers_of c.loop-group.self in
    let none : c.in-Some.group.items ≡ [] = nil_from_length c.in-Some.group.items (search rules) in
    let is : workers_in gs ≡ workers_in rest =
    flat_last (λ ws. ws.items) gs rest c.in-Some.group c.in-Some.ensures.items ∙ ap (λ ws. workers_in rest ++ ws) none
    ∙ append-nil (workers_in rest) in
    record {
      ready = record {
        on = subst (λ ws. All (IsOn b) (crew ++ ws)) is was.ready.on;
        away = was.ready.away;
        room = subst (λ ws. length crew + length ws ≤ vec_capacity c.loop-group.self.here) is was.ready.room;
        threads = omega (arith, was.ready.threads, c.in-Some.ensures.len);
      };
      flags = search rules;
      carries = subst (λ ws. Carries b (workers_of c.args.self.now ++ workers_in c.args.groups.items) (crew ++ ws))
          is was.carries;
    }

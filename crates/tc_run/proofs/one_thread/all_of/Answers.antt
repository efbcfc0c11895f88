use Rattle.std.proofs.Common.{rules, ◌≡◌, ◌++◌, [], length, ap, ◌∙◌, subst, arith, append-nil}
use Rattle.std.proofs.lemmas.List.{length-append}
use Rattle.tc_run.specs.Carried.{Carries, workers_in}
use Rattle.tc_run.proofs.Carried.{flat_last, same_carried, carried_on, last_taken}
use Rattle.tc_run.proofs.one_thread.all_of.Goals as goal

pub loop-group-init : goal.loop-group-init
loop-group-init c =
    let given = workers_in c.args.groups.items in
    record {
      carries = λ board. same_carried board given (c.in_ok-all.all.items ++ given)
          (ap (λ ws. ws ++ given) c.in_ok-all.ensures.items);
      room = omega (arith, c.requires.room, ap length c.in_ok-all.ensures.items, c.in_ok-all.ensures.capacity);
    }

pub loop-group-preserved : goal.loop-group-preserved
loop-group-preserved c =
    let was = c.loop-group.invariant in let all = c.loop-group.all.items in let all' = c.gather.new.all.items in
    let gs = c.loop-group.groups.items in let rest = c.pop.new.self.items in let group = c.in-Some.group in
    let last = flat_last (λ ws. ws.items) gs rest group c.in-Some.ensures.items in
    record {
      carries = λ board.
          carried_on board (workers_in c.args.groups.items) (all ++ workers_in gs) (all' ++ workers_in rest)
          (was.carries board)
          (last_taken board (λ ws. ws.items) all all' gs rest group c.in-Some.ensures.items
          (same_carried board (all ++ group.items) all' c.gather.ensures.items));
      room = omega (
        arith,
        was.room,
        ap length last ∙ length-append (workers_in rest) group.items,
        ap length c.gather.ensures.items ∙ length-append all group.items,
        c.gather.ensures.room,
      );
    }

pub returns : goal.returns
returns c =
    let none : c.loop-group.groups.items ≡ [] = search rules in
    record {
      carries = λ board.
          subst (Carries board (workers_in c.args.groups.items))
          (ap (λ gs. c.loop-group.all.items ++ workers_in gs) none ∙ append-nil c.loop-group.all.items)
          (c.loop-group.invariant.carries board);
    }

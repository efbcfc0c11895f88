use Rattle.std.proofs.Common.{◌≡◌, sym, subst, arith, rules, true, false}
use Rattle.std.specs.Prelude.{IfOk}
use Rattle.sp_tree.specs.Shown.{plain_function, stmts_of}
use Rattle.sp_inline.specs.Shown.{plain_caller, args_of, statements_for}
use Rattle.sp_inline.specs.Taken.{is_taken, callee, room_after, with_room, taken_after}
use Rattle.sp_inline.proofs.Walks.{call_stays, call_taken_in, callable}
use Rattle.sp_inline.proofs.walk.take_call.Goals as goal

pub keep-requires : goal.keep-requires
keep-requires c = omega (arith, c.requires.words, c.requires.word)

pub add_call-requires : goal.add_call-requires
add_call-requires c =
    let caller = plain_caller c.args.caller.now in
    let m = c.in-Some.callee.now in
    let call = c.args.call.now in
    let f = callee caller call.function in
    let chosen : is_taken caller c.args.depth c.args.room call.function (statements_for caller.words f call)
    (args_of call) ≡ true = search rules in
    let same : plain_function m.function ≡ f = search rules in
    let k = callable caller c.args.depth c.args.room m call c.requires.frame chosen same in
    record { room = k.room; few = k.few; reach = k.reach; mask = k.mask; result = k.result }

pub returns-in-None : goal.returns-in-None
returns-in-None c =
    let caller = plain_caller c.args.caller.now in
    let call = c.args.call.now in
    let more = statements_for caller.words (callee caller call.function) call in
    let away : is_taken caller c.args.depth c.args.room call.function more (args_of call) ≡ false = search rules in
    subst (λ x. IfOk c.keep.result (λ r. with_room (stmts_of c.keep.new.out.items) r
    ≡ taken_after (stmts_of c.args.out.now.items) x))
    (sym (call_stays caller c.args.depth c.args.room c.args.t.now call c.requires.call away)) c.keep.ensures

pub returns-in_ok-add_call-in-Some : goal.returns-in_ok-add_call-in-Some
returns-in_ok-add_call-in-Some c =
    let caller = plain_caller c.args.caller.now in
    let m = c.in-Some.callee.now in
    let call = c.args.call.now in
    let f = callee caller call.function in
    let more = statements_for caller.words f call in
    let chosen : is_taken caller c.args.depth c.args.room call.function more (args_of call) ≡ true = search rules in
    let same : plain_function m.function ≡ f = search rules in
    let room : c.in-Some.after ≡ room_after caller c.args.depth c.args.room f more (args_of call) = search rules in
    call_taken_in caller c.args.depth c.args.room c.in-Some.after c.args.t.now call (plain_function m.function)
    (stmts_of c.args.out.now.items)
    (stmts_of c.add_call.new.out.items) c.requires.call chosen same room c.in_ok-add_call-in-Some.ensures

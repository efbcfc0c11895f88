use Rattle.std.proofs.Common.{◌+◌, ◌∙◌, ap, sym, arith}
use Rattle.sp_inline.specs.Taken.{call_mask, entered, shortened}
use Rattle.sp_inline.proofs.Shortened.{short_slots}
use Rattle.sp_inline.specs.Capped.{capped}
use Rattle.sp_tree.specs.Cost.{expr_cost, stmts_cost}
use Rattle.sp_tree.specs.Shown.{plain_function}
use Rattle.sp_inline.proofs.Growth.{grown}
use Rattle.sp_inline.proofs.callers.growth.Goals as goal

pub returns : goal.returns
returns c = λ o.
    let m = c.args.callee.now in
    let call = c.args.call.now in
    let less = shortened (plain_function m.function) in
    let cost = m.kept_cost_is ∙ ap (λ b. capped (stmts_cost (entered b less.body))) m.tests_are in
    let own = c.mask_cost.ensures.cost call.mask ∙ ap (λ b. expr_cost (call_mask b call.mask)) m.tests_are in
    let same = grown o call.mask less call.args.now call.result m.words m.kept_cost c.mask_cost.result
    c.given_cost.result (m.words_are ∙ sym (short_slots (plain_function m.function)))
    cost own (c.given_cost.ensures.cost call.mask (o + m.function.result)) c.requires.few c.requires.mask in
    omega (arith, c.min.ensures, c.saturating_sub.ensures, c.saturating_add.ensures, c.from.ensures, same)

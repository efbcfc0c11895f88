use Rattle.std.proofs.Common.{◌∙◌, map, slice_index, slice_set, ap, sym, arith}
use Rattle.std.proofs.lemmas.List.{get_or-set_other}
use Rattle.std.proofs.lemmas.List.Edits.{fill_by_more}
use Rattle.sp_tree.specs.Plain.{plain_sp}
use Rattle.c_meaning.specs.Resolved.{args_worth}
use Rattle.c_run.specs.Ran.{state_of}
use Rattle.c_run.proofs.Arguments.{worth_at, words_passed}
use Rattle.c_run.proofs.settings.pass.Goals as goal

pub loop-number-preserved : goal.loop-number-preserved
loop-number-preserved c =
    let n = c.loop-number.number in
    let own = c.loop-number.own in
    record {
      passed = λ sends k below.
          let s = state_of c.args.frame.now c.args.memory.now sends in
          let given = c.value.ensures sends ∙ sym (worth_at c.args.args.now n c.index-args-number.result s
          (omega arith) c.index-args-number.is) in
          ap (λ v. slice_index (slice_set own n v) k) given
          ∙ fill_by_more (slice_index (args_worth (map plain_sp c.args.args.now) s)) own n 0 (omega arith)
          (c.loop-number.invariant.passed sends) k below;
      cleared = λ k past. get_or-set_other own n k c.value.result 0 (omega arith)
          ∙ c.loop-number.invariant.cleared k (omega arith);
    }

pub returns : goal.returns
returns c = λ sends.
    words_passed c.args.args.now c.loop-number.own (state_of c.args.frame.now c.args.memory.now sends)
    (λ k below. c.loop-number.invariant.passed sends k (omega arith)) (λ k past. c.loop-number.invariant.cleared
    k (omega arith))

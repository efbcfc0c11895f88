use Rattle.std.proofs.Common.{◌++◌, ◌∙◌, ap, arith, codes}
use Rattle.std.specs.Fmt.{decimal}
use Rattle.job_gen.specs.declared.task.TheConstants.{WORDS}
use Rattle.job_gen.proofs.Appends.{all_moved, all_words, more_words, moved_once}
use Rattle.job_gen.proofs.task.put_more_draws.Goals as goal

pub loop-place-preserved : goal.loop-place-preserved
loop-place-preserved c =
    let drawn = c.in_ok-put_with.ensures ∙ ap (λ n. c.loop-place.text.items ++ (codes ", " ++ decimal n))
    (c.from.ensures ∙ c.draw.ensures.drawn) in
    record {
      appended = more_words WORDS _ _ _ _ _ _ (omega arith) drawn c.draw.ensures.state c.loop-place.invariant.appended;
      left = moved_once WORDS _ _ _ _ (omega arith) c.draw.ensures.state c.loop-place.invariant.left;
    }

pub returns : goal.returns
returns c = record {
  appended = all_words WORDS _ _ _ _ c.loop-place-test.false c.loop-place.invariant.appended;
  left = all_moved WORDS _ _ _ c.loop-place-test.false c.loop-place.invariant.left;
}

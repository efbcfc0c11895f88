use Rattle.std.proofs.Common.{rules, ◌≡◌, ◌+◌, ◌^◌, ◌<◌, get_or, subst}
use Rattle.std.specs.Mem.Slots.{slots_items}
use Rattle.clock_board.proofs.Ends.{read_at, copied_more}
use Rattle.clock_board.proofs.board.copy_words.Goals as goal

pub overflow_cast-word : goal.overflow_cast-word
overflow_cast-word c =
    let read : get_or (slots_items c.args.closed.now.words) (c.args.first + c.loop-j.j) 0 ≡ c.word.result =
    read_at (slots_items c.args.closed.now.words) (c.args.first + c.loop-j.j) c.word.result c.word.ensures in
    let small : c.word.result < 2 ^ 32 =
    subst (λ x. x < 2 ^ 32) read (c.requires.small c.loop-j.j c.loop-j-test.true) in
    search rules

pub loop-j-preserved : goal.loop-j-preserved
loop-j-preserved c = (
  search rules,
  search rules,
  rw c.push_reserved.ensures.items (copied_more _ (slots_items c.args.closed.now.words) c.args.first c.loop-j.j
      c.word.result c.loop-j.invariant.0 c.loop-j.invariant.2 (read_at (slots_items c.args.closed.now.words)
      (c.args.first + c.loop-j.j) c.word.result c.word.ensures)),
)

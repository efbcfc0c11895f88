use Rattle.std.proofs.Common.{◌≡◌, ℕ, ◌+◌, ◌*◌, length, sym, ap, ◌∙◌, subst, arith}
use Rattle.argo_ni.specs.Packet.{comm_word}
use Rattle.shared_order.specs.Apart.{apart}
use Rattle.shared_order.specs.Course.{IsCourse}
use Rattle.patmos_model.specs.Cycle.{turn}
use Rattle.global_step.specs.Loaded.{Machine}
use Rattle.global_step.specs.Machine.{core_among, all_operations}
use Rattle.global_step.specs.Range.{board_words}
use Rattle.global_step.proofs.MachineRanges.{machine_course}
use Rattle.tc_run.proofs.making.board_of.Goals as goal

-- how many words a board of n cores has
words_of : (n : ℕ) → comm_word n 0 ≡ 4096 + 512 * n
words_of n = omega arith

pub new-requires-clause-course : goal.new-requires-clause-course
new-requires-clause-course c =
    let m : Machine = c.args.machine.now in
    let n_is : length m.cores ≡ c.count_of-cores.result = sym c.count_of-cores.ensures.count in
    let words_are : board_words m ≡ 4096 + 512 * c.count_of-cores.result =
    words_of (length m.cores) ∙ ap (λ n. 4096 + 512 * n) n_is in
    subst (λ n. IsCourse n (4096 + 512 * c.count_of-cores.result) (all_operations m)
    (λ core values. (apart turn (length m.cores) core (core_among m.cores core) values m.limit).made)) n_is
    (subst (λ w. IsCourse (length m.cores) w (all_operations m)
    (λ core values. (apart turn (length m.cores) core (core_among m.cores core) values m.limit).made)) words_are
    (machine_course m c.loaded_with_words.ensures))

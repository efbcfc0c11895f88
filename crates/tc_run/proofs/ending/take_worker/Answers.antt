use Rattle.std.proofs.Common.{rules, ◌≡◌, sym, subst, slice_index_or, vec_len}
use Rattle.core_worker.specs.Worker.{WorkerFace}
use Rattle.tc_run.specs.Worked.{number_of, HasWorker, IsThroughWith}
use Rattle.tc_run.proofs.Taking.{all_left, others_left}
use Rattle.tc_run.proofs.ending.take_worker.Goals as goal

pub place_among-at-requires : goal.place_among-at-requires
place_among-at-requires c =
    record { there = subst (λ xs. HasWorker xs c.args.core) (sym c.as_slice.ensures.value) c.requires.there }

pub returns-clause-left : goal.returns-clause-left
returns-clause-left c = λ m board.
    all_left c.args.workers.now.items c.swap_remove.new.self.items c.place_among-at.result
    (record {
      n = vec_len c.args.workers.now;
      size = search rules;
      size' = search rules;
      within = search rules;
      here = c.swap_remove.ensures.by_index.0;
      others = c.swap_remove.ensures.by_index.1;
    }) (IsThroughWith m board)

pub returns-clause-others : goal.returns-clause-others
returns-clause-others c = λ k other.
    others_left c.args.workers.now.items c.swap_remove.new.self.items c.place_among-at.result
    (record {
      n = vec_len c.args.workers.now;
      size = search rules;
      size' = search rules;
      within = search rules;
      here = c.swap_remove.ensures.by_index.0;
      others = c.swap_remove.ensures.by_index.1;
    }) c.args.core k (subst (λ xs. (d : WorkerFace) → number_of (slice_index_or xs c.place_among-at.result d)
    ≡ c.args.core) c.as_slice.ensures.value c.place_among-at.ensures.number) other

use Rattle.std.proofs.Common.{◌∙◌, [], length, map, subst}
use Rattle.c_world.specs.Shown.{shown}
use Rattle.sp_tree.specs.Plain.{plain_sp}
use Rattle.c_meaning.specs.Resolved.{args_worth, serves}
use Rattle.c_meaning.specs.Shown.{bodies_of}
use Rattle.c_run.specs.Ran.{HasOutcome, state_of}
use Rattle.c_run.proofs.outcome.first_called.Goals as goal

pub returns : goal.returns
returns c =
    subst (λ args. HasOutcome (serves (bodies_of c.args.routines.now) (length c.args.routines.now) c.args.function
    (args_worth (map plain_sp args) (state_of [] c.args.memory.now [])) (shown c.args.memory.now [])) c.called.result
    c.called.new.memory)
    (c.of.ensures ∙ c.new.ensures.items) (c.called.ensures.given [])

use Rattle.std.proofs.Common.{true, false, ap, sym, ◌∙◌}
use Rattle.sp_tree.specs.Shown.{plain_function}
use Rattle.sp_emit.specs.Flags.{function_stands}
use Rattle.sp_emit.proofs.FlagsStand.{more_flags}
use Rattle.sp_emit.proofs.flags.+most.Goals as goal

pub returns-then-function_stands : goal.returns-then-function_stands
returns-then-function_stands t c =
    let f = plain_function c.args.f.now in
    let stands = ap (λ flags. function_stands flags f) (sym c.first_flags-fewer.ensures) ∙ sym c.function_stands.ensures
    ∙ c.if-function_stands.true in
    c.first_flags-fewer.ensures ∙ sym (more_flags c.args.count c.args.flags f true c.if-count-eq0.false stands)

pub returns-else-function_stands : goal.returns-else-function_stands
returns-else-function_stands t c =
    let f = plain_function c.args.f.now in
    let stands = ap (λ flags. function_stands flags f) (sym c.first_flags-fewer.ensures) ∙ sym c.function_stands.ensures
    ∙ c.if-function_stands.false in
    c.most_flags.ensures ∙ sym (more_flags c.args.count c.args.flags f false c.if-count-eq0.false stands)

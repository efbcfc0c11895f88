use Rattle.std.proofs.Common.{string_bytes}
use Rattle.patmos_asm.specs.Targets.{branched_in, name_in}
use Rattle.patmos_asm.proofs.Targets.{function_parts}
use Rattle.patmos_asm.proofs.printing.write_function.Goals as goal

pub returns : goal.returns
returns c =
    function_parts (name_in c.args.functions.now) (branched_in c.in_ok-targets.targets) c.args.name.now c.args.body.now
    (string_bytes c.args.text.now) (string_bytes c.write_head.new.text) (string_bytes c.write_body.new.text)
    (string_bytes c.write_label.new.text)
    c.in_ok-targets.ensures c.in_ok-write_head.ensures c.in_ok-write_body.ensures c.in_ok-write_label.ensures

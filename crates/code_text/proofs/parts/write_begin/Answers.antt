use Rattle.std.proofs.Common.{◌≡◌, OnOk, string_bytes, codes, sym, subst}
use Rattle.std.specs.Fmt.{decimal}
use Rattle.patmos_asm.specs.Printed.{label_name}
use Rattle.code_text.proofs.Writing.{begin_nested}
use Rattle.code_text.proofs.parts.write_begin.Goals as goal

pub returns : goal.returns
returns c =
    subst (λ t. OnOk c.write.result (string_bytes c.write.new.self ≡ t))
    (sym (begin_nested (string_bytes c.args.text.now) (codes "# ") (codes "loop ") (label_name c.args.loop_number)
    (codes " iterations ") (decimal c.args.count) (codes "\n") (codes ":"))) c.write.ensures.bytes

use Rattle.std.proofs.Common.{◌≡◌, ◌+◌, arith, drop, map, sym, subst}
use Rattle.sp_shape.specs.Parts.{joined}
use Rattle.sp_shape.specs.Shown.{parts_of}
use Rattle.sp_tree.specs.Plain.{plain_sp}
use Rattle.sp_emit.specs.Fits.{ArgsFit}
use Rattle.sp_emit.specs.Statements.{args_code}
use Rattle.tc_word.proofs.Items.{drop_item}
use Rattle.sp_emit.proofs.Fitting.{first_argument}
use Rattle.sp_emit.proofs.Looping.{argument_added, arguments_done, others_fit}
use Rattle.sp_emit.proofs.statements.arguments.Goals as goal

pub expression-requires : goal.expression-requires
expression-requires c =
    let rest = drop (c.loop-e.e-index + 1) c.args.args.now in
    first_argument (plain_sp c.e-item.result) (map plain_sp rest) (subst (λ es. ArgsFit (map plain_sp es) c.loop-e.rd)
    (drop_item c.args.args.now c.loop-e.e-index c.e-item.result (omega arith) c.e-item.is) c.loop-e.invariant.0)

pub loop-e-preserved : goal.loop-e-preserved
loop-e-preserved c =
    let whole = joined (parts_of c.args.out.now.items) (args_code c.args.homes (map plain_sp c.args.args.now)
    c.args.first) in
    let rest = map plain_sp (drop (c.loop-e.e-index + 1) c.args.args.now) in
    let fits = others_fit c.args.args.now c.loop-e.e-index c.loop-e.rd c.e-item.result (omega arith) c.e-item.is
    c.loop-e.invariant.0 in
    let code = argument_added c.args.homes c.args.args.now c.loop-e.e-index c.loop-e.rd c.e-item.result
    (parts_of c.loop-e.out.items) (parts_of c.expression.new.out.items) whole
    (omega arith) c.e-item.is c.loop-e.invariant.1 c.in_ok-expression.ensures in
    subst (λ r. ArgsFit rest r × (joined (parts_of c.expression.new.out.items) (args_code c.args.homes rest r) ≡ whole))
    (sym c.register_after-rd.ensures) (fits, code)

pub returns : goal.returns
returns c =
    arguments_done c.args.homes c.args.args.now c.loop-e.e-index c.loop-e.rd (parts_of c.loop-e.out.items)
    (joined (parts_of c.args.out.now.items) (args_code c.args.homes (map plain_sp c.args.args.now) c.args.first))
    (omega arith) c.loop-e.invariant.1

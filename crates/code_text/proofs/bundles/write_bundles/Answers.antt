use Rattle.std.proofs.Common.{ap, arith}
use Rattle.tc_word.proofs.Items.{drop_item}
use Rattle.sp_shape.specs.Words.{bundles_words}
use Rattle.code_text.proofs.Writing.{bundle_some}
use Rattle.code_text.proofs.bundles.write_bundles.Goals as goal

pub write_line-requires : goal.write_line-requires
write_line-requires c =
    let front = ap bundles_words (drop_item c.args.bundles.now c.loop-bundle.bundle-index c.bundle-item.result
    (omega arith) c.bundle-item.is) in
    omega (arith, front, bundle_some c.bundle-item.result, c.loop-bundle.invariant.at, c.requires.small)

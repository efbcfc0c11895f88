use Rattle.std.proofs.Common.{◌-◌, subst, sym}
use Rattle.sp_emit.specs.Fits.{StmtsFit}
use Rattle.sp_emit.proofs.Fitting.{body_fits}
use Rattle.sp_emit.proofs.functions.function.Goals as goal

pub statements-requires : goal.statements-requires
statements-requires c = record {
  fits = subst (StmtsFit c.frame_words-frame.result (c.args.f.now.frame - 3))
      (sym c.begun_body-body.ensures) (body_fits c.args.homes.flags c.frame_words-frame.ensures.few c.requires.fits);
}

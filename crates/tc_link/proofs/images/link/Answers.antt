use Rattle.std.proofs.Common.{◌≡◌, ◌<◌, subst, sym, rules}
use Rattle.patmos_code.specs.Images.{Parts}
use Rattle.patmos_model.specs.Begin.{entry}
use Rattle.sp_shape.specs.Shown.{plain_shape}
use Rattle.sp_shape.specs.Trail.{trail}
use Rattle.sp_shape.specs.Iterating.{back_of}
use Rattle.sp_shape.proofs.Plain.{functions_count}
use Rattle.tc_link.specs.Dues.{dues_of}
use Rattle.tc_link.specs.Placed.{linked}
use Rattle.tc_link.specs.Walk.{Follows, walk_from}
use Rattle.tc_link.proofs.Followed.{shape_followed}
use Rattle.tc_link.proofs.Kept.{image_so}
use Rattle.tc_link.proofs.images.link.Goals as goal

pub of-requires : goal.of-requires
of-requires c =
    image_so (plain_shape c.args.shape.now) c.in_ok-words.words c.in_ok-words.starts c.of-initial.result
    c.in_ok-words.ensures.words c.in_ok-words.ensures.starts
    (search rules) c.requires.formed c.requires.fits

pub returns-clause-preserves : goal.returns-clause-preserves
returns-clause-preserves c = λ from m registers backs iterations.
    let s = plain_shape c.args.shape.now in
    let is : c.of.result ≡ linked s = search rules in
    subst (λ (image : Parts). Follows image from (trail s) (dues_of s (back_of m)) (walk_from (entry image) m)) (sym is)
    (shape_followed s from m c.requires.formed c.requires.fits
    (λ k below. c.in_ok-words.ensures.fit k (subst (λ n. k < n) (functions_count c.args.shape.now.functions) below))
    registers backs iterations)

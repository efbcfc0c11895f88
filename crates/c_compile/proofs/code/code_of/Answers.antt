use Rattle.std.proofs.Common.{◌≡◌, ◌<◌, true, length, ap, ◌∙◌, subst, rules}
use Rattle.std.specs.List.{AllByRecursion as Each}
use Rattle.patmos_model.specs.Range.{IsWord}
use Rattle.sp_tree.specs.Shown.{plain_unit}
use Rattle.sp_shape.proofs.Plain.{functions_count}
use Rattle.sp_shape.specs.Formed.{is_formed}
use Rattle.sp_shape.specs.Shown.{plain_shape}
use Rattle.sp_shape.specs.Parts.{PlainShape}
use Rattle.sp_emit.proofs.Codes.{codes_length}
use Rattle.bundle_sched.specs.Scheduled.{scheduled}
use Rattle.task_core.specs.Tasks.{code_of}
use Rattle.c_compile.proofs.Carrying.{Fit, carried_out}
use Rattle.c_compile.proofs.code.code_of.Goals as goal

pub schedule-requires-clause-slots : goal.schedule-requires-clause-slots
schedule-requires-clause-slots c =
    let count = ap (λ (s : PlainShape). length s.functions) c.in_ok-shape.ensures.is
    ∙ codes_length (plain_unit c.args.unit.now).functions in
    λ k less. c.in_ok-shape.ensures.slots k (subst (λ n. k < n) count less)

pub returns-clause-code : goal.returns-clause-code
returns-clause-code c =
    let u = plain_unit c.args.unit.now in
    let shape = c.in_ok-shape-2.shape in
    let is : plain_shape shape ≡ code_of u = c.in_ok-shape-2.ensures.is ∙ ap scheduled c.in_ok-shape.ensures.is in
    let fit : Fit (plain_shape shape) =
    λ k less. c.in_ok-image.ensures.fit k (subst (λ n. k < n) (functions_count shape.functions) less) in
    let initial : Each IsWord u.initial = search rules in
    record {
      formed = subst (λ s. is_formed s ≡ true) is c.in_ok-shape-2.ensures.formed;
      fits = c.requires.fits;
      bundles = subst Fit is fit;
      initial = initial;
    }

pub returns-clause-preserves : goal.returns-clause-preserves
returns-clause-preserves c =
    let u = plain_unit c.args.unit.now in
    let shape = c.in_ok-shape-2.shape in
    let is : plain_shape shape ≡ code_of u = c.in_ok-shape-2.ensures.is ∙ ap scheduled c.in_ok-shape.ensures.is in
    let formed = subst (λ s. is_formed s ≡ true) is c.in_ok-shape-2.ensures.formed in
    let fit : Fit (plain_shape shape) =
    λ k less. c.in_ok-image.ensures.fit k (subst (λ n. k < n) (functions_count shape.functions) less) in
    λ input shared comm words. carried_out u c.requires.formed formed c.requires.fits (subst Fit is fit) input
    shared comm words

-- A walk over the image of a task's tree carries out what the tree means.
use Rattle.std.proofs.Common.{◌≡◌, inl, inr, ℕ, ◌<◌, true, List, [], length, slice_index_or, refl, sym, ap, ◌∙◌, subst, arith}
use Rattle.std.proofs.Math.ListN.{get_or-eq_default}
use Rattle.std.proofs.lemmas.Bool.{cases_lt}
use Rattle.std.specs.List.{All}
use Rattle.patmos_instr.specs.Bundles.{FitsBundle}
use Rattle.sp_tree.specs.Begun.{begun, straight}
use Rattle.sp_tree.specs.Formed as tree
use Rattle.sp_tree.specs.Statements.{PlainUnit}
use Rattle.sp_shape.specs.Bundles.{has_word, parts_all}
use Rattle.sp_shape.specs.Formed as shape
use Rattle.sp_shape.specs.Parts.{no_part, PlainShape}
use Rattle.sp_shape.specs.Run.{IsWhole, by_words}
use Rattle.sp_emit.proofs.Constants.{constants_are_words, counts_are_words}
use Rattle.sp_emit.proofs.FunctionIterations.{task_iterations}
use Rattle.sp_emit.proofs.Tasks.{task_does}
use Rattle.sp_emit.specs.Functions.{emitted}
use Rattle.sp_emit.specs.Means.{HoldsWords}
use Rattle.sp_emit.specs.Ran.{begun_memory}
use Rattle.sp_emit.specs.Serving.{Answers}
use Rattle.bundle_sched.proofs.Kept.{none_lost, word_dropped, word_paired, word_apart}
use Rattle.bundle_sched.proofs.Runs.{runs_as}
use Rattle.bundle_sched.proofs.Iterations.{iterations_as}
use Rattle.sp_emit.proofs.Formed.{emitted_formed}
use Rattle.tc_link.proofs.Constants.{function_words_fit}
use Rattle.tc_link.proofs.Followed.{shape_followed}
use Rattle.tc_link.specs.Backs.{backs_of}
use Rattle.tc_link.specs.Fits.{FitsImage}
use Rattle.tc_link.specs.Placed.{flat}
use Rattle.c_compile.specs.Code.{begun_run, CarriesOut}
use Rattle.task_core.specs.Tasks.{code_of}

-- all bundles have their fields in their ranges
abbrev pub Fit : PlainShape → Type 0
Fit s = (k : ℕ) → k < length s.functions → All FitsBundle (flat s k)

-- where no function is there are no bundles
words_at : (s : PlainShape) → Fit s → (k : ℕ) → parts_all has_word (slice_index_or s.functions k no_part) ≡ true
words_at s fits k = elim (cases_lt k (length s.functions)) [
  | inl less ↦ function_words_fit s k (fits k less)
  | inr past ↦ ap (parts_all has_word) (get_or-eq_default s.functions no_part (omega (arith, past)))
]

code_words : (u : PlainUnit) → Fit (code_of u) → (k : ℕ) → parts_all has_word (slice_index_or (emitted u).functions k
    no_part) ≡ true
code_words u fits k = none_lost has_word word_dropped word_paired word_apart (emitted u) k (words_at (code_of u) fits k)

begun_whole : (u : PlainUnit) (input : List ℕ) (shared comm : ℕ → ℕ) → IsWhole (begun_run u input shared comm)
begun_whole u input shared comm =
    record { fits = record { count = refl; pred_count = refl; zero = refl; always = refl }; pending = refl }

pub carried_out : (u : PlainUnit) → tree.is_formed u ≡ true → shape.is_formed (code_of u) ≡ true → FitsImage (code_of u)
    → Fit (code_of u)
    → (input : List ℕ) (shared comm : ℕ → ℕ) → HoldsWords (begun u input shared comm) → CarriesOut u input shared comm
carried_out u formed well_formed small fits input shared comm words =
    let m = begun_run u input shared comm in
    let whole = begun_whole u input shared comm in
    let backs = backs_of (code_of u) in
    let iterations = task_iterations u by_words (begun_memory u input shared comm) [] backs refl formed
    (counts_are_words u (code_words u fits)) in
    let follows = shape_followed (code_of u) by_words m well_formed small fits whole.fits refl
    (iterations_as (emitted u) (code_of u) refl (emitted_formed u formed) by_words m whole iterations) in
    let does = task_does u input shared comm backs formed (constants_are_words u (code_words u fits)) words in
    let same = follows.run ∙ runs_as (emitted u) (code_of u) refl by_words m whole in
    record { follows = follows; answers = subst (Answers (straight u input shared comm) m) (sym same) does }

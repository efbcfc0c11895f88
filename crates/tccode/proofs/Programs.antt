-- The code of a program, as the listing of its shape and its image tells it.
use Rattle.std.proofs.Common.{◌≡◌, ◌∙◌, ℕ, ◌+◌, ◌*◌, ◌-◌, List, length, map, Global, String, string_bytes, sym, ap, IfOk}
use Rattle.std.specs.Prelude.{Result, Ok, Err}
use Rattle.std.proofs.lemmas.List.{length-map}
use Rattle.c_meaning.specs.Resolve.{names_in}
use Rattle.c_tree.specs.Plain.{plain}
use Rattle.c_task.specs.Translation.{translation}
use Rattle.code_text.specs.Lines.{lines_text}
use Rattle.code_text.specs.Listing.{name_of, task_lines}
use Rattle.code_text.specs.Names.{names_for}
use Rattle.code_text.specs.Tally.{task_bundles, task_moves}
use Rattle.patmos_asm.specs.Assembly.{code_of}
use Rattle.patmos_code.specs.Images.{Parts}
use Rattle.sp_shape.specs.Parts.{PlainShape}
use Rattle.sp_shape.specs.Shown.{plain_shape, parts_of}
use Rattle.sp_shape.specs.declared.parts.Part.{Part}
use Rattle.tc_job.specs.declared.job.Job.{Job}
use Rattle.tc_link.specs.Placed.{order}
use Rattle.job_tasks.specs.Coding.{bounded}
use Rattle.job_tasks.specs.Tasks.{Bounded}
use Rattle.job_tasks.specs.declared.program.Program.{Program}
use Rattle.tccode.specs.Codes.{names_of, each_of, program_text, TellsCode}

-- the names that a listing has are those of its program
pub same_names : (p : Program) (names found given : List (List ℕ)) (functions : List (List Part)) → plain_shape p.shape
    ≡ (translation (plain p.checked.unit)).scheduled → functions ≡ p.shape.functions
    → given ≡ names_in (plain p.checked.unit) → found ≡ names_for given (length functions) → names ≡ found → names
    ≡ names_of (bounded p)
same_names p names found given functions shape all of_items is same =
    let count : length functions ≡ length (translation (plain p.checked.unit)).scheduled.functions =
    ap length all ∙ sym (length-map p.shape.functions parts_of) ∙ ap (λ s. length s.functions) shape in
    same ∙ is ∙ ap (λ ns. names_for ns (length functions)) of_items
    ∙ ap (names_for (names_in (plain p.checked.unit))) count

-- a listing is its program's text
pub text_is : {E : Type 0} (result : Result (String Global) E) (job : Job) (core : ℕ) (p : Bounded)
    (names : List (List ℕ)) (each : ℕ) (s : PlainShape) (words : List ℕ)
    → names ≡ names_of p → each ≡ each_of job core → s ≡ (translation p.items).scheduled → words
    ≡ (translation p.items).image.words
    → IfOk result (λ text. string_bytes text
    ≡ lines_text (task_lines names (record { core = core; bound = p.bound; persist = p.persist }) each s words))
    → IfOk result (λ text. string_bytes text ≡ program_text job core p)
text_is (Ok text) job core p names each s words named same shaped worded is =
    is ∙ ap (λ ns. lines_text (task_lines ns (record { core = core; bound = p.bound; persist = p.persist }) each
    s words)) named
    ∙ ap (λ e. lines_text (task_lines (names_of p) (record { core = core; bound = p.bound; persist = p.persist })
    e s words)) same
    ∙ ap (λ t. lines_text (task_lines (names_of p) (record { core = core; bound = p.bound; persist = p.persist })
    (each_of job core) t words)) shaped
    ∙ ap (λ ws. lines_text (task_lines (names_of p) (record { core = core; bound = p.bound; persist = p.persist })
    (each_of job core) (translation p.items).scheduled ws)) worded
text_is (Err e) job core p names each s words named same shaped worded is = tt

-- and tells what it is to
pub tells_is : {E : Type 0} (result : Result (String Global) E) (job : Job) (core : ℕ) (p : Bounded)
    (names : List (List ℕ)) (s : PlainShape) (image : Parts)
    → names ≡ names_of p → s ≡ (translation p.items).scheduled → image ≡ (translation p.items).image
    → p.bound ≡ task_bundles (translation p.items).scheduled + each_of job core
    * task_moves (translation p.items).scheduled
    → IfOk result (λ text. string_bytes text ≡ program_text job core p)
    → IfOk result (λ text. code_of (string_bytes text)
    ≡ Ok (record { names = map (name_of names) (order s); starts = image.starts; words = image.words }))
    → IfOk result (λ _. TellsCode job core p)
tells_is (Ok text) job core p names s image named shaped imaged bound is assembles = record {
  assembles = ap code_of (sym is) ∙ assembles
      ∙ ap (λ ns. Ok (record { names = map (name_of ns) (order s); starts = image.starts; words = image.words })) named
      ∙ ap (λ t. Ok (record {
        names = map (name_of (names_of p)) (order t);
        starts = image.starts;
        words = image.words;
      })) shaped
      ∙ ap (λ i. Ok (record {
        names = map (name_of (names_of p)) (order (translation p.items).scheduled);
        starts = i.starts;
        words = i.words;
      })) imaged;
  adds_up = bound;
}
tells_is (Err e) job core p names s image named shaped imaged bound is assembles = tt

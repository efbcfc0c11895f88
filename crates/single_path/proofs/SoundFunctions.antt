-- The actions of typed functions are sound.
use Rattle.std.proofs.Common.{ℕ, ◌≤◌, true, false, List, length, Option, arith}
use Rattle.std.specs.List.{AllByRecursion as Each}
use Rattle.std.specs.Prelude.{is_some}
use Rattle.c_tree.specs.declared.checks.Meaning.TheVariants as means
use Rattle.c_tree.specs.declared.layout.Slot.{Slot}
use Rattle.c_tree.specs.declared.statements.Kind.{Kind}
use Rattle.c_tree.specs.declared.units.Parameter.{Parameter}
use Rattle.c_tree.specs.Names.{Named, declared}
use Rattle.c_tree.specs.Plain.{PlainStmt}
use Rattle.c_tree.specs.Typed.{names_inside, FunctionTyped}
use Rattle.c_tree.specs.Valid.{function_means}
use Rattle.sp_tree.specs.Plain.{PlainSp}
use Rattle.c_meaning.specs.Meaning.{parameter_variables}
use Rattle.c_meaning.specs.Resolve.{resolved_body, variable_target, element_target}
use Rattle.c_meaning.specs.Scope.{Stands, level, outside}
use Rattle.c_meaning.specs.Scope as scope
use Rattle.c_meaning.specs.Values.{Names, named}
use Rattle.single_path.proofs.Acts.{Gives}
use Rattle.single_path.proofs.Followed.{Grounds, body_does}
use Rattle.single_path.proofs.FunctionNames.{Knows, may_call, knows_more, knows_parameters, scalar_hides, inside_hides}
use Rattle.single_path.proofs.Needs.{Sound, sound_constant, whole_sound}
use Rattle.single_path.proofs.Sound.{Callable, SoundTarget, sound, AllSound}
use Rattle.single_path.proofs.Placed.{SlotFits, slot_cell_formed, slot_array_formed, StandsFit, named_fits}

-- ---- what names stand for

variable_sound : (stands : Stands) → StandsFit stands → Gives SoundTarget (variable_target stands)
variable_sound (level at unsigned) fits = tt
variable_sound (outside slot) fits = slot_cell_formed slot fits
variable_sound scope.nothing fits = tt

element_sound : (stands : Stands) (index : PlainSp) → StandsFit stands → Sound index
    → Gives SoundTarget (element_target stands index)
element_sound (level at unsigned) index fits of = tt
element_sound (outside slot) index fits of = (slot_array_formed slot fits, of)
element_sound scope.nothing index fits of = tt

-- ---- functions

module _ (cores own : ℕ) (few : cores ≤ 16) (fs : List (List ℕ)) (counts : List ℕ) where
  -- names of functions are known, and slots lie within their memories
  abbrev Open : List Named → Names → Type 0
  Open names of = Knows names fs counts × Each SlotFits of.slots

  sound_grounds : Grounds (sound (Callable counts (length fs))) cores own fs Open
  sound_grounds = record {
    zero = sound_constant 0;
    level = λ at. tt;
    expr = λ names of k fresh e typed. whole_sound of k.1 fresh names e typed;
    variable = λ names of k text typed. variable_sound (named of text) (named_fits of text k.1);
    element = λ names of k text index typed i. element_sound (named of text) index (named_fits of text k.1) i;
    call = λ names of k. may_call names fs counts k.0;
    send = λ names of k core typed. omega (arith, typed.0, few);
    more = λ names of k kind text. (knows_more names fs counts text means.Scalar scalar_hides k.0, k.1);
  }

  pub function_sound : (slots : List Slot) → Each SlotFits slots → (names : List Named) → Knows names fs counts
      → (kind : Option Kind) (text : List ℕ) (ps : List Parameter) (body : List PlainStmt)
      → FunctionTyped cores own names kind text ps body
      → AllSound (Callable counts (length fs)) false
      (resolved_body fs (record { slots = slots; variables = parameter_variables ps }) body)
  function_sound slots each names k kind text ps body typed =
      let inner = declared names text (function_means true kind ps) in
      body_does (sound (Callable counts (length fs))) cores own fs Open sound_grounds false
      (names_inside names kind text ps) (record { slots = slots; variables = parameter_variables ps }) (
        knows_parameters inner fs counts ps (knows_more names fs counts text (function_means true kind ps)
            (inside_hides (length ps) (is_some kind)) k),
        each,
      ) body typed.inside

-- The delay slots of compiled code do nothing.
use Rattle.std.proofs.Common.{◌≡◌, ℕ, true, List, [], ◌∷◌, refl}
use Rattle.std.proofs.lemmas.Bool.{and_parts, and_from}
use Rattle.patmos_instr.specs.declared.functions.CmpFunc.TheVariants as cmp
use Rattle.patmos_instr.specs.declared.functions.ImmFunc.TheVariants as imm
use Rattle.sp_tree.specs.Statements.{PlainFunction}
use Rattle.sp_shape.specs.Bundles.{iteration_idles, part_idle, parts_idle}
use Rattle.sp_shape.specs.Parts.{PlainParts, no_part, part, joined}
use Rattle.sp_emit.specs.Flags.{begun_body}
use Rattle.sp_emit.specs.Functions.{first_counter, function_rest, body_code, function_code, frame_words}
use Rattle.sp_emit.specs.Instructions.{always, idle, with_short, compare_short, branch}
use Rattle.sp_emit.specs.Places.{fetched_at, keep_word}
use Rattle.sp_emit.specs.declared.registers.TheConstants.{MORE}
use Rattle.sp_emit.specs.Statements.{iterations_tail}
use Rattle.sp_emit.proofs.WordPlaces.{fetch_is, keep_is}
use Rattle.sp_tree.specs.Formed.{slots_of}
use Rattle.sp_emit.proofs.Effects.{everything}
use Rattle.sp_emit.proofs.Walks.{Walk, walk_of, Flows, wide_within, stmts_flow, body_is}
use Rattle.sp_emit.proofs.Windows.{InWindow}
use Rattle.sp_emit.specs.declared.stands.Homes.{Homes}

abbrev Idles : PlainParts → Type 0
Idles parts = parts_idle parts ≡ true

both : (a b : PlainParts) → Idles a → Idles b → Idles (joined a b)
both no_part b ia ib = ib
both (part p a) b ia ib =
    let parts = and_parts (part_idle p) (parts_idle a) ia in
    and_from (part_idle p) (parts_idle (joined a b)) parts.0 (both a b parts.1 ib)

walk : Walk Idles everything
walk = walk_of everything refl both (λ bs all. refl) refl

tail_idles : (homes counter : ℕ) → iteration_idles (iterations_tail homes counter) ≡ true
tail_idles homes counter =
    let left = fetched_at homes counter in
    let last = compare_short cmp.Neq MORE left 0 ∷ branch MORE ∷ idle ∷ idle ∷ [] in
    let kept = keep_is (λ b. iteration_idles (b ∷ last) ≡ true) homes counter refl (λ out. refl) in
    fetch_is (λ b. iteration_idles (b ∷ with_short always imm.Sub left left 1 ∷ keep_word homes counter ∷ last) ≡ true)
    homes counter kept (λ out. kept)

flows : (tops : List ℕ) (homes : Homes) (fs : List PlainFunction) (number slots frame most : ℕ)
    → Flows Idles tops homes fs number slots frame most (λ k. Unit {0}) (λ count. Unit {0})
flows tops homes fs number slots frame most = record {
  called = λ mask k result lt earlier top formed may. refl;
  repeated = λ count counter body some one within placed may all. rw (all, tail_idles homes.first counter) refl;
}

pub function_idle : {homes : Homes} {tops : List ℕ} {fs : List PlainFunction} {number : ℕ} {f : PlainFunction}
    → InWindow homes tops fs number f → Idles (function_code homes f)
function_idle {homes} {tops} {fs} {number} {f} w =
    both (body_code homes f) (function_rest homes.first f) (body_is walk refl refl w
    (wide_within (record {
      sets = λ r. refl;
      reads = λ word. refl;
      stores = λ word. refl;
    }) homes (first_counter f) (λ slot p is. refl))
    (flows tops homes fs number (slots_of f) (frame_words homes.first f) (first_counter f))
    (stmts_flow (begun_body homes.flags f))) refl

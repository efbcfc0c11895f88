-- What holds of each bundle of a function: it is one instruction, which is always done where it may have a transaction
-- with main memory, and takes no more words of the stack than the tree's frame has.
use Rattle.std.proofs.Common.{◌≡◌, ℕ, ◌<◌, Bool, true, List, refl, arith}
use Rattle.std.specs.Prelude.{nat_le, is_none}
use Rattle.std.proofs.lemmas.Bool.{le-leb}
use Rattle.patmos_instr.specs.Bundles.{PlainBundle}
use Rattle.patmos_instr.specs.declared.functions.StackFunc.{StackFunc}
use Rattle.patmos_instr.specs.declared.functions.StackFunc.TheVariants.{Sres, Sens}
use Rattle.sp_tree.specs.Statements.{PlainFunction}
use Rattle.sp_shape.specs.Bundles.{is_steady, parts_all}
use Rattle.sp_shape.proofs.Along.{have_so}
use Rattle.sp_emit.specs.Chains.{takes_at_most}
use Rattle.sp_emit.specs.Flags.{begun_body}
use Rattle.sp_emit.specs.Functions.{function_code, frame_words}
use Rattle.sp_emit.specs.declared.registers.TheConstants.{FLAGS}
use Rattle.sp_emit.specs.declared.stands.Homes.{Homes}
use Rattle.sp_emit.proofs.Codes.{words_few}
use Rattle.sp_emit.proofs.Effects.{Footprint, is_in, any, everything}
use Rattle.sp_emit.proofs.Walks.{CodeIn, IsFull, function_in, stmts_flow}
use Rattle.sp_emit.proofs.Windows.{InWindow}

-- a footprint that may leave out predicates and stack instructions alone
pub full : (tells : ℕ → Bool) (passing : (p : ℕ) → p < FLAGS → tells p ≡ true) (stacks : StackFunc → ℕ → Bool)
    → ((count : ℕ) → stacks Sens count ≡ true)
    → IsFull (record everything { tells = tells; stacks = stacks; passing = passing })
full tells passing stacks brings = record {
  wide = record { sets = λ r. refl; reads = λ word. refl; stores = λ word. refl };
  flows = record { branches = refl; calls = refl; brings = brings };
  loads = refl;
  writes = refl;
  specials = refl;
  returns = refl;
}

-- no more words of the stack are taken
abbrev takes_few : ℕ → StackFunc → ℕ → Bool
takes_few most Sres count = nat_le count most
takes_few most _ count = true

abbrev taking : ℕ → Footprint
taking most = record everything { stacks = takes_few most }

module _ {homes : Homes} {tops : List ℕ} {fs : List PlainFunction} {number : ℕ} {f : PlainFunction}
    (w : InWindow homes tops fs number f) where
  whole : CodeIn (taking f.frame) any (function_code homes f)
  whole = function_in (full any (λ p lt. refl) (takes_few f.frame) (λ count. refl)) any w (λ slot p is. refl)
      (le-leb (frame_words homes.first f) f.frame (words_few homes.first f (omega (arith, w.parts.room)))) refl
      (λ k earlier window called. refl) (stmts_flow (begun_body homes.flags f))

  each : (holds : PlainBundle → Bool) → ((b : PlainBundle) → is_in (taking f.frame) b ≡ true → holds b ≡ true)
      → parts_all holds (function_code homes f) ≡ true
  each holds so = have_so (is_in (taking f.frame)) holds so any (function_code homes f) whole

  pub function_steady : parts_all is_steady (function_code homes f) ≡ true
  function_steady = each is_steady (λ b within. grind (arith, within))

  pub function_alone : parts_all (λ b. is_none b.second) (function_code homes f) ≡ true
  function_alone = each (λ b. is_none b.second) (λ b within. grind (arith, within))

  pub function_takes : parts_all (takes_at_most f.frame) (function_code homes f) ≡ true
  function_takes = each (takes_at_most f.frame) (λ b within. grind (arith, within))

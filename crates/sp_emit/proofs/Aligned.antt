-- Code reaches whole words.
use Rattle.std.proofs.Common.{◌≡◌, ℕ, ◌%◌, inl, inr, refl, arith}
use Rattle.c_world.specs.declared.region.Region.{Region}
use Rattle.c_world.specs.declared.region.Region.TheVariants as region
use Rattle.patmos_instr.specs.declared.memories.Mem.{Mem}
use Rattle.sp_tree.specs.Uses.{Use}
use Rattle.sp_emit.specs.Accesses.{IsReadPlace, IsStoredPlace}
use Rattle.sp_emit.specs.Expressions.{base_of}

base_aligned : (r : Region) → base_of r % 4 ≡ 0
base_aligned region.Scratch = refl
base_aligned _ = refl

pub read_aligned : (Named : Use → Type 0) (space : Mem) (address : ℕ) → IsReadPlace Named space address
    → address % 4 ≡ 0
read_aligned Named space address (inl v) = omega (arith, v.2.address_is, base_aligned v.0.region)
read_aligned Named space address (inr (inl v)) = omega (arith, v.2.address_is, base_aligned v.0.region)
read_aligned Named space address (inr (inr v)) = omega (arith, v.2.address_is)

pub stored_aligned : (Named : Use → Type 0) (space : Mem) (address : ℕ) → IsStoredPlace Named space address
    → address % 4 ≡ 0
stored_aligned Named space address (inl v) = omega (arith, v.2.address_is, base_aligned v.0.region)
stored_aligned Named space address (inr (inl v)) = omega (arith, v.2.address_is, base_aligned v.0.region)
stored_aligned Named space address (inr (inr (inl v))) = omega (arith, v.address_is)
stored_aligned Named space address (inr (inr (inr v))) = omega (arith, v.2.address_is)

-- What two bundles have that can be one.
use Rattle.std.proofs.Common.{◌≡◌, Bool, true, false, refl}
use Rattle.std.specs.Prelude.{◌&&◌, not, is_none}
use Rattle.std.proofs.lemmas.Bool.{and_parts, not-true}
use Rattle.patmos_instr.specs.Bundles.{PlainBundle}
use Rattle.patmos_instr.specs.Instructions.{is_long, is_second_kind}
use Rattle.sp_shape.specs.Bundles.{is_idle_op, is_idle}
use Rattle.sp_shape.specs.Formed.{is_always}
use Rattle.bundle_sched.specs.Packed.{is_small, is_free, can_join, pair}

pub record CanJoin (a b : PlainBundle) : Type 0 where
  pub first_alone : is_none a.second ≡ true
  pub first_short : is_long a.first.op ≡ false
  pub second_alone : is_none b.second ≡ true
  pub kind : is_second_kind b.first.op ≡ true
  pub free : is_free a.first b.first ≡ true

pub pairs : (a b : PlainBundle) → can_join a b ≡ true → CanJoin a b
pairs a b h =
    let one = and_parts (is_small a) (is_small b && (is_second_kind b.first.op && is_free a.first b.first)) h in
    let two = and_parts (is_small b) (is_second_kind b.first.op && is_free a.first b.first) one.1 in
    let three = and_parts (is_second_kind b.first.op) (is_free a.first b.first) two.1 in
    let first = and_parts (is_none a.second) (not (is_long a.first.op)) one.0 in
    record {
      first_alone = first.0;
      first_short = not-true (is_long a.first.op) first.1;
      second_alone = (and_parts (is_none b.second) (not (is_long b.first.op)) two.0).0;
      kind = three.0;
      free = three.1;
    }

-- it does something
pub second_false : (x y : Bool) → y ≡ false → (x && y) ≡ false
second_false true y h = h
second_false false y h = refl

pub pair_idle : (a b : PlainBundle) → is_idle (pair a b) ≡ false
pair_idle a b = second_false (is_always a.first.guard) (is_idle_op a.first.op && false)
    (second_false (is_idle_op a.first.op) false refl)

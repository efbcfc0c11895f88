-- Conditions as words that are 0 or 1.
use Rattle.std.proofs.Common.{◌≡◌, ℕ, Bool, true, false, if◌then◌else◌, refl}
use Rattle.c_world.specs.Numbers.{flag, is_true}
use Rattle.sp_tree.specs.Operators.{unary_value, binary_value}
use Rattle.sp_tree.specs.Plain.{PlainSp, before_one, between_two}
use Rattle.sp_tree.specs.Straight.{State, worth}
use Rattle.sp_tree.specs.declared.operators.SpUnary.{SpUnary}
use Rattle.sp_tree.specs.declared.operators.SpUnary.TheVariants as unary
use Rattle.sp_tree.specs.declared.operators.SpBinary.{SpBinary}
use Rattle.sp_tree.specs.declared.operators.SpBinary.TheVariants as binary
use Rattle.single_path.specs.PartWords.{is_test_before, is_test, is_truth, truth, not_zero}

flag_again : (b : Bool) → flag b ≡ flag (is_true (flag b))
flag_again true = refl
flag_again false = refl

before_again : (op : SpUnary) (a : ℕ) → is_test_before op ≡ true → unary_value op a ≡ flag (is_true (unary_value op a))
before_again unary.Minus a is = absurd (cc)
before_again unary.Complement a is = absurd (cc)
before_again unary.Not a is = flag_again _

between_again : (op : SpBinary) (a b : ℕ) → is_test op ≡ true → binary_value op a b
    ≡ flag (is_true (binary_value op a b))
between_again binary.Or a b is = flag_again _
between_again binary.And a b is = flag_again _
between_again binary.Equal a b is = flag_again _
between_again binary.NotEqual a b is = flag_again _
between_again binary.Less a b is = flag_again _
between_again binary.LessUnsigned a b is = flag_again _
between_again binary.LessEqual a b is = flag_again _
between_again binary.LessEqualUnsigned a b is = flag_again _
between_again _ a b is = absurd (cc)

truth_again : (e : PlainSp) (s : State) → is_truth e ≡ true → worth e s ≡ flag (is_true (worth e s))
truth_again (before_one op of) s is = before_again op (worth of s) is
truth_again (between_two op a b) s is = between_again op (worth a s) (worth b s) is
truth_again _ s is = absurd (cc)

pub truth_worth : (e : PlainSp) (s : State) → worth (truth e) s ≡ flag (is_true (worth e s))
truth_worth e s = by (is_truth e) refl
  where
    by : (b : Bool) → is_truth e ≡ b → worth (if b then e else not_zero e) s ≡ flag (is_true (worth e s))
    by true is = truth_again e s is
    by false is = refl

-- Values of expressions are words.
use Rattle.std.proofs.Common.{◌≡◌, ℕ, ◌+◌, ◌-◌, ◌*◌, ◌%◌, ◌^◌, ◌<◌, Bool, true, false, if◌then◌else◌, arith, nat_lt, mod-lt, div-le_self, lit<}
use Rattle.std.proofs.lemmas.Bool.{and_parts, ltb-true}
use Rattle.std.proofs.lemmas.Nat.{or_lt, xor_lt, and_le_l}
use Rattle.tc_word.specs.Word.{moved_down, moved_down_signed}
use Rattle.c_world.specs.Numbers.{flag}
use Rattle.c_world.specs.World.{World}
use Rattle.c_world.specs.World as world
use Rattle.c_world.specs.declared.region.Region.{Region}
use Rattle.c_world.specs.declared.region.Region.TheVariants as region
use Rattle.sp_tree.specs.Formed.{names_words}
use Rattle.sp_tree.specs.Plain.{PlainSp, constant, frame_word, cell_word, array_word, before_one, between_two}
use Rattle.sp_tree.specs.Straight.{State}
use Rattle.sp_tree.specs.Values.{sp_value}
use Rattle.sp_tree.specs.Operators.{unary_value, binary_value}
use Rattle.sp_tree.specs.declared.operators.SpBinary.{SpBinary}
use Rattle.sp_tree.specs.declared.operators.SpBinary.TheVariants as binary
use Rattle.sp_tree.specs.declared.operators.SpUnary.{SpUnary}
use Rattle.sp_tree.specs.declared.operators.SpUnary.TheVariants as unary
use Rattle.sp_emit.proofs.Signs.{quotient_word, rest_word, quotient_unsigned_word, rest_unsigned_word}
use Rattle.sp_emit.specs.Means.{HoldsWords, HasWordFrame, HasWordConstants}

flag_word : (b : Bool) → flag b < 2 ^ 32
flag_word true = omega arith
flag_word false = omega arith

down_word : (a k : ℕ) → a < 2 ^ 32 → moved_down a k < 2 ^ 32
down_word a k word = omega (arith, word, div-le_self a (2 ^ (k % 32)))

signed_down_word : (a k : ℕ) → a < 2 ^ 32 → moved_down_signed a k < 2 ^ 32
signed_down_word a k word = by (nat_lt a (2 ^ 31))
  where
    by : (b : Bool) → (if b then moved_down a k else 2 ^ 32 - 1 - moved_down (2 ^ 32 - 1 - a) k) < 2 ^ 32
    by true = down_word a k word
    by false = omega arith

pub unary_word : (op : SpUnary) (a : ℕ) → a < 2 ^ 32 → unary_value op a < 2 ^ 32
unary_word unary.Minus a word = mod-lt (0 + (2 ^ 32 - a)) (lit< tt)
unary_word unary.Complement a word = omega arith
unary_word unary.Not a word = flag_word _

pub binary_word : (op : SpBinary) (a b : ℕ) → a < 2 ^ 32 → b < 2 ^ 32 → binary_value op a b < 2 ^ 32
binary_word binary.BitOr a b wa wb = or_lt 32 a b wa wb
binary_word binary.BitXor a b wa wb = xor_lt 32 a b wa wb
binary_word binary.BitAnd a b wa wb = omega (arith, wa, and_le_l a b)
binary_word binary.ShiftLeft a b wa wb = mod-lt (a * 2 ^ (b % 32)) (lit< tt)
binary_word binary.ShiftRight a b wa wb = signed_down_word a b wa
binary_word binary.ShiftRightUnsigned a b wa wb = down_word a b wa
binary_word binary.Plus a b wa wb = mod-lt (a + b) (lit< tt)
binary_word binary.Minus a b wa wb = mod-lt (a + (2 ^ 32 - b)) (lit< tt)
binary_word binary.Times a b wa wb = mod-lt (a * b) (lit< tt)
binary_word binary.Divide a b wa wb = quotient_word a b wa wb
binary_word binary.DivideUnsigned a b wa wb = quotient_unsigned_word a b wa
binary_word binary.Remainder a b wa wb = rest_word a b wa wb
binary_word binary.RemainderUnsigned a b wa wb = rest_unsigned_word a b wa
binary_word _ a b wa wb = flag_word _

region_word : (r : Region) (at : ℕ) (w : World) → HoldsWords w → world.word_at r at w < 2 ^ 32
region_word region.Scratch at w words = words.scratch at
region_word region.Comm at w words = words.comm at
region_word region.Private at w words = words.private at
region_word region.Shared at w words = words.shared at

-- an expression over words
pub value_word : (slots : ℕ) (s : State) (e : PlainSp) → names_words slots e ≡ true → HasWordConstants e
    → HasWordFrame slots s → sp_value s.frame s.world e < 2 ^ 32
value_word slots s (constant n) named small words = small
value_word slots s (frame_word slot) named small words = words.frame slot (ltb-true slot slots named)
value_word slots s (cell_word c) named small words = region_word c.region c.word s.world words.world
value_word slots s (array_word a index) named small words = by (nat_lt (sp_value s.frame s.world index) a.length)
  where
    by : (b : Bool) → (if b then world.word_at a.region (a.first + sp_value s.frame s.world index) s.world else 0)
        < 2 ^ 32
    by true = region_word a.region (a.first + sp_value s.frame s.world index) s.world words.world
    by false = omega arith
value_word slots s (before_one op of) named small words =
    unary_word op (sp_value s.frame s.world of) (value_word slots s of named small words)
value_word slots s (between_two op a b) named small words =
    let both = and_parts (names_words slots a) (names_words slots b) named in
    binary_word op (sp_value s.frame s.world a) (sp_value s.frame s.world b)
    (value_word slots s a both.0 small.0 words) (value_word slots s b both.1 small.1 words)

-- For worked rows. Small statements and units, for worked examples.
use Rattle.std.specs.Prelude.{ℕ, zero, suc, [], ◌∷◌, Some}
use Rattle.shared_order.specs.Words.{put}
use Rattle.c_world.specs.World.{fresh}
use Rattle.c_world.specs.declared.region.Region.{Region}
use Rattle.c_world.specs.declared.region.Region.TheVariants as region
use Rattle.sp_tree.specs.declared.expressions.SpArray.{SpArray}
use Rattle.sp_tree.specs.declared.expressions.SpCell.{SpCell}
use Rattle.sp_tree.specs.declared.operators.SpBinary.TheVariants as binary
use Rattle.sp_tree.specs.declared.operators.SpUnary.TheVariants as unary
use Rattle.sp_tree.specs.Plain.{PlainSp, constant, frame_word, array_word, before_one, between_two}
use Rattle.sp_tree.specs.Statements.{to_slot, to_cell, PlainStmt, masks, writes, calls, transfers, overruns, iterations, PlainStmts, stmt, one, PlainFunction, PlainUnit}
use Rattle.sp_tree.specs.Straight.{State, Serves, serves}

-- ---- memories and expressions

-- word 0 of the frame is the mask; all other words are 0
abbrev pub under : ℕ → State
under mask = record { frame = put 0 mask (λ _. 0); world = fresh [] }

abbrev pub cell : Region → ℕ → SpCell
cell in_region word = record { region = in_region; word = word }

abbrev pub array : Region → ℕ → ℕ → SpArray
array in_region first length = record { region = in_region; first = first; length = length }

-- a sum of sums of sums, so many levels deep
abbrev pub levels : ℕ → PlainSp
levels zero = constant 1
levels (suc n) = between_two binary.Plus (levels n) (levels n)

-- `1 + (1 + (.. + 1))`
abbrev pub chain : ℕ → PlainSp
chain zero = constant 1
chain (suc n) = between_two binary.Plus (constant 1) (chain n)

-- ---- statements under the mask in word 0

abbrev pub writing : ℕ → PlainStmt
writing value = writes 0 (to_slot 1) (constant value)

abbrev pub masking : ℕ → PlainStmt
masking value = masks 1 (constant value)

abbrev pub sending : ℕ → PlainStmt
sending count = transfers 0 3 (constant 10) (constant 20) (constant count)

-- iterations that each add 2 to word 1
abbrev pub adding : ℕ → PlainStmt
adding count = iterations count (one (masks 1 (between_two binary.Plus (frame_word 1) (constant 2))))

-- ---- functions

-- `int f(int a, int b) { g = a - b; return a - b; }`, where `g` is private word 4
abbrev pub difference : PlainFunction
difference = record {
  frame = 6;
  parameters = 2;
  mask = 2;
  result = 3;
  body = stmt (writes 2 (to_slot 3) (between_two binary.Minus (frame_word 0) (frame_word 1)))
      (one (writes 2 (to_cell (cell region.Private 4)) (frame_word 3)));
}

-- a function that sets its result by `Mask`
abbrev pub always_nine : PlainFunction
always_nine = record { frame = 4; parameters = 0; mask = 0; result = 1; body = one (masks 1 (constant 9)) }

abbrev pub served : PlainFunction → Serves
served f = serves (f ∷ []) 1

-- what it gives, for 7 and 5, goes to word 1
abbrev pub calling : PlainStmt
calling = calls 0 0 (constant 7 ∷ constant 5 ∷ []) (Some 1)

-- ---- what ways through a program become: word 1 of the frame is the function's mask, word 2 that of the innermost
-- loop, word 3 the own mask, and word 4 that of what stands inside

-- `if (c) { } else { }`: the mask of the arm, that under `else`, and the own mask after both
abbrev pub arm : PlainSp → PlainStmts
arm c =
    stmt (masks 4 (between_two binary.BitAnd (frame_word 3) (between_two binary.NotEqual c (constant 0))))
    (stmt (masks 4 (between_two binary.BitAnd (between_two binary.BitAnd (frame_word 2) (constant 1))
    (between_two binary.BitXor (frame_word 3) (frame_word 4))))
    (one (masks 3 (between_two binary.BitAnd (frame_word 3) (frame_word 2)))))

-- `while (c) { }`: the mask of the loop, in each iteration where the condition holds and after it; whether the bound was
-- passed; and the masks after the loop
abbrev pub while_loop : ℕ → PlainSp → PlainStmts
while_loop count c =
    stmt (masks 4 (between_two binary.BitAnd (frame_word 3) (constant 1)))
    (stmt (iterations count (stmt (masks 4
    (between_two binary.BitAnd (frame_word 4) (between_two binary.NotEqual c (constant 0))))
    (one (masks 4 (between_two binary.NotEqual (frame_word 4) (constant 0))))))
    (stmt (overruns 4 c)
    (stmt (masks 2 (between_two binary.BitAnd (frame_word 2) (before_one unary.Minus (frame_word 1))))
    (one (masks 3 (between_two binary.BitAnd (frame_word 3) (frame_word 2)))))))

-- `return e;` in an arm in a loop: the result, and the masks of the function and of the loop
abbrev pub leaving : PlainSp → PlainStmts
leaving e =
    stmt (writes 3 (to_slot 5) e)
    (stmt (masks 1 (between_two binary.Minus (frame_word 1) (frame_word 3)))
    (one (masks 2 (between_two binary.Minus (frame_word 2) (frame_word 3)))))

-- ---- units

-- a function whose mask is word 0 and whose result is word 1, and whose trees may name words 0 to 3, or 0 to 2 where
-- there are iterations
abbrev pub entry_of : PlainStmts → PlainFunction
entry_of body = record { frame = 6; parameters = 0; mask = 0; result = 1; body = body }

-- two functions; the second is the entry. Private memory begins with 1, 2, 3; two words of input lie from word 5 on
abbrev pub unit_of : PlainStmts → PlainUnit
unit_of body = record {
  functions = difference ∷ entry_of body ∷ [];
  entry = 1;
  initial = 1 ∷ 2 ∷ 3 ∷ [];
  input_at = 5;
  input_room = 2;
}

-- `return f(in[0], in[1]);`
abbrev pub difference_call : PlainStmt
difference_call =
    calls 0 0 (array_word (array region.Private 5 2) (constant 0) ∷ array_word (array region.Private 5 2) (constant 1)
    ∷ []) (Some 1)

abbrev pub difference_unit : PlainUnit
difference_unit = unit_of (one difference_call)

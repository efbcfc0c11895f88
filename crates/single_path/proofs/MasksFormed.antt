-- The statements that set masks are well formed, where the words of their part are words of the frame.
use Rattle.std.proofs.Common.{◌≡◌, ℕ, ◌+◌, max, ◌<◌, ◌≤◌, ◌==◌, Bool, true, false, if◌then◌else◌, List, refl, ◌∙◌, arith, lt-ltb}
use Rattle.std.proofs.lemmas.Bool.{and_from}
use Rattle.sp_tree.specs.Formed.{stmt_formed, stmts_formed}
use Rattle.sp_tree.specs.Need.{need}
use Rattle.sp_tree.specs.declared.operators.SpBinary.TheVariants as binary
use Rattle.sp_tree.specs.Plain.{PlainSp, constant, frame_word, between_two}
use Rattle.sp_tree.specs.Statements.{PlainStmt, PlainStmts, no_stmt, stmt, PlainFunction, masks}
use Rattle.sp_tree.specs.Statements as tree
use Rattle.sp_tree.proofs.Joins.{joined_formed}
use Rattle.single_path.specs.declared.part_words.PartWords.{PartWords}
use Rattle.single_path.specs.PartWords.{both, without, is_truth, where_so, where_not_taken, where_other, where_on, where_not_returned, bit_of, not_zero, broken, continued, returned_function, returned_loop}
use Rattle.single_path.specs.Single.{begun_mask}
use Rattle.single_path.specs.Widths.{expr_words}
use Rattle.single_path.proofs.Frames.{Order}
use Rattle.single_path.proofs.Needs.{both_needed, Sound, sound_formed}

-- ---- the words of a part in a frame

-- its words are below so many
pub record Below (p : PartWords) (slots : ℕ) : Type 0 where
  pub result : p.result < slots
  pub function : p.function < slots
  pub loop : p.iteration < slots
  pub own : p.own < slots

pub below : (n slots : ℕ) (p : PartWords) → Order n p → p.free ≤ slots → Below p slots
below n slots p order within = record {
  result = omega (arith, within, order.function, order.loop, order.own, order.free);
  function = omega (arith, within, order.loop, order.own, order.free);
  loop = omega (arith, within, order.own, order.free);
  own = omega (arith, within, order.free);
}

-- and so are those of the variables
pub words_there : (n slots : ℕ) (p : PartWords) → Order n p → p.free ≤ slots → n ≤ slots
words_there n slots p order within =
    omega (arith, within, order.result, order.function, order.loop, order.own, order.free)

-- ---- statements one after another

pub more_formed : (fs : List PlainFunction) (number slots : ℕ) (t : PlainStmt) (ts : PlainStmts)
    → stmt_formed fs number slots t ≡ true
    → stmts_formed fs number slots ts ≡ true → stmts_formed fs number slots (stmt t ts) ≡ true
more_formed fs number slots t ts here there = and_from _ _ here there

pub both_formed : (fs : List PlainFunction) (number slots : ℕ) (xs ys : PlainStmts) → stmts_formed fs number slots xs
    ≡ true
    → stmts_formed fs number slots ys ≡ true → stmts_formed fs number slots (tree.joined xs ys) ≡ true
both_formed fs number slots xs ys here there = joined_formed fs number slots xs ys ∙ and_from _ _ here there

-- statements that may be left out
pub unless_formed : (fs : List PlainFunction) (number slots : ℕ) (left_out : Bool) (ts : PlainStmts)
    → stmts_formed fs number slots ts ≡ true
    → stmts_formed fs number slots (if left_out then no_stmt else ts) ≡ true
unless_formed fs number slots true ts h = refl
unless_formed fs number slots false ts h = h

-- ---- masks: what they are set to names masks, constants and conditions

pub mask_formed : (fs : List PlainFunction) (number slots slot : ℕ) (e : PlainSp) → slot < slots → Sound e
    → expr_words e ≤ slots
    → stmt_formed fs number slots (masks slot e) ≡ true
mask_formed fs number slots slot e there sound within =
    and_from _ _ (lt-ltb slot slots there) (sound_formed slots e sound within)

pub condition_sound : (mask : ℕ) (condition : PlainSp) → Sound condition → Sound (where_so mask condition)
condition_sound mask condition sound = by (is_truth condition)
  where
    by : (b : Bool) → Sound (both (frame_word mask) (if b then condition else not_zero condition))
    by true = record { ranged = (tt, sound.ranged); few = omega (arith, sound.few, (both_needed (need condition) 1).1) }
    by false = record {
      ranged = (tt, (sound.ranged, tt));
      few = omega (arith, sound.few, (both_needed (need condition) 1).0, (both_needed (need (not_zero condition)) 1).1);
    }

-- and it names no more words of a frame
pub so_words : (mask : ℕ) (condition : PlainSp) → expr_words (where_so mask condition)
    ≤ max (mask + 1) (expr_words condition)
so_words mask condition = by (is_truth condition)
  where
    by : (b : Bool) → expr_words (both (frame_word mask) (if b then condition else not_zero condition))
        ≤ max (mask + 1) (expr_words condition)
    by true = omega arith
    by false = omega arith

pub begun_formed : (fs : List PlainFunction) (number slots : ℕ) (p : PartWords) → Below p slots
    → stmt_formed fs number slots (masks p.function (begun_mask p)) ≡ true
begun_formed fs number slots p b =
    mask_formed fs number slots p.function (begun_mask p) b.function (record { ranged = (tt, tt); few = omega arith })
    (omega (arith, b.function))

pub on_formed : (fs : List PlainFunction) (number slots : ℕ) (p : PartWords) → Below p slots
    → stmt_formed fs number slots (masks p.own (where_on p)) ≡ true
on_formed fs number slots p b =
    mask_formed fs number slots p.own (where_on p) b.own (record { ranged = (tt, tt); few = omega arith })
    (omega (arith, b.own, b.loop))

pub broken_formed : (fs : List PlainFunction) (number slots : ℕ) (p : PartWords) → Below p slots
    → stmt_formed fs number slots (masks p.iteration (broken p)) ≡ true
broken_formed fs number slots p b =
    mask_formed fs number slots p.iteration (broken p) b.loop (record { ranged = (tt, (tt, tt)); few = omega arith })
    (omega (arith, b.own, b.loop))

-- a mask that is set in one of two ways
either_formed : (fs : List PlainFunction) (number slots slot : ℕ) (e : PlainSp → PlainSp) (first : Bool) (a b : PlainSp)
    → stmt_formed fs number slots (masks slot (e a)) ≡ true → stmt_formed fs number slots (masks slot (e b)) ≡ true
    → stmt_formed fs number slots (masks slot (e (if first then a else b))) ≡ true
either_formed fs number slots slot e true a b ha hb = ha
either_formed fs number slots slot e false a b ha hb = hb

pub continued_formed : (fs : List PlainFunction) (number slots : ℕ) (p : PartWords) → Below p slots
    → stmt_formed fs number slots (masks p.iteration (continued p)) ≡ true
continued_formed fs number slots p b =
    either_formed fs number slots p.iteration (λ e. e) p.counted (broken p) more (broken_formed fs number slots p b)
    (mask_formed fs number slots p.iteration more b.loop (record { ranged = (tt, (tt, tt)); few = omega arith })
    (omega (arith, b.own, b.loop)))
  where
    more : PlainSp
    more = between_two binary.Plus (frame_word p.iteration) (bit_of p.own)

pub begun_part_formed : (fs : List PlainFunction) (number slots : ℕ) (p : PartWords) → Below p slots → p.free < slots
    → stmt_formed fs number slots (masks p.free (bit_of p.own)) ≡ true
begun_part_formed fs number slots p b free =
    mask_formed fs number slots p.free (bit_of p.own) free (record { ranged = (tt, tt); few = omega arith })
    (omega (arith, b.own))

pub not_returned_formed : (fs : List PlainFunction) (number slots : ℕ) (p : PartWords) → Below p slots
    → stmt_formed fs number slots (masks p.iteration (where_not_returned p)) ≡ true
not_returned_formed fs number slots p b =
    mask_formed fs number slots p.iteration (where_not_returned p) b.loop
    (record { ranged = (tt, tt); few = omega arith })
    (omega (arith, b.function, b.loop))

pub not_taken_formed : (fs : List PlainFunction) (number slots : ℕ) (p : PartWords) → Below p slots → p.free < slots
    → stmt_formed fs number slots (masks p.free (where_not_taken p)) ≡ true
not_taken_formed fs number slots p b free =
    mask_formed fs number slots p.free (where_not_taken p) free
    (record { ranged = ((tt, tt), (tt, tt)); few = omega arith })
    (omega (arith, b.own, b.loop, free))

pub other_formed : (fs : List PlainFunction) (number slots : ℕ) (p : PartWords) (exits : Bool) → Below p slots
    → p.free < slots
    → stmt_formed fs number slots (masks p.free (if exits then where_not_taken p else where_other p)) ≡ true
other_formed fs number slots p true b free = not_taken_formed fs number slots p b free
other_formed fs number slots p false b free = by (p.own == p.iteration)
  where
    by : (alone : Bool)
        → stmt_formed fs number slots (masks p.free
        (between_two binary.BitXor (if alone then bit_of p.own else frame_word p.own) (frame_word p.free))) ≡ true
    by true =
        mask_formed fs number slots p.free (between_two binary.BitXor (bit_of p.own) (frame_word p.free)) free
        (record { ranged = ((tt, tt), tt); few = omega arith }) (omega (arith, b.own, free))
    by false =
        mask_formed fs number slots p.free (between_two binary.BitXor (frame_word p.own) (frame_word p.free)) free
        (record { ranged = (tt, tt); few = omega arith }) (omega (arith, b.own, free))

-- ---- masks after `return`: two ways to clear them, of which the part decides

pub returned_function_formed : (fs : List PlainFunction) (number slots : ℕ) (p : PartWords) → Below p slots
    → stmt_formed fs number slots (masks p.function (returned_function p)) ≡ true
returned_function_formed fs number slots p b =
    let rest = without (frame_word p.function) in
    either_formed fs number slots p.function rest (p.own == p.iteration) (bit_of p.own) (frame_word p.own)
    (mask_formed fs number slots p.function (rest (bit_of p.own)) b.function
    (record { ranged = (tt, (tt, tt)); few = omega arith })
    (omega (arith, b.function, b.own)))
    (mask_formed fs number slots p.function (rest (frame_word p.own)) b.function
    (record { ranged = (tt, tt); few = omega arith })
    (omega (arith, b.function, b.own)))

pub returned_loop_formed : (fs : List PlainFunction) (number slots : ℕ) (p : PartWords) → Below p slots
    → stmt_formed fs number slots (masks p.iteration (returned_loop p)) ≡ true
returned_loop_formed fs number slots p b =
    let bit = both (frame_word p.iteration) (constant 2) in
    let rest = without (frame_word p.iteration) (frame_word p.own) in
    either_formed fs number slots p.iteration (λ e. e) (p.own == p.iteration) bit rest
    (mask_formed fs number slots p.iteration bit b.loop (record { ranged = (tt, tt); few = omega arith })
    (omega (arith, b.loop)))
    (mask_formed fs number slots p.iteration rest b.loop (record { ranged = (tt, tt); few = omega arith })
    (omega (arith, b.loop, b.own)))

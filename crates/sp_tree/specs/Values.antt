-- To be believed. What an expression is worth, over the words of a frame and a world. It changes neither.
use Rattle.std.specs.Prelude.{ℕ}
use Rattle.c_world.specs.World.{World, word_at, element}
use Rattle.sp_tree.specs.Operators.{unary_value, binary_value}
use Rattle.sp_tree.specs.Plain.{PlainSp, constant, frame_word, cell_word, array_word, before_one, between_two}
use Rattle.sp_tree.specs.declared.expressions.SpArray.{SpArray}
use Rattle.sp_tree.specs.declared.expressions.SpCell.{SpCell}

abbrev pub cell_value : SpCell → World → ℕ
cell_value c w = word_at c.region c.word w

abbrev pub array_value : SpArray → ℕ → World → ℕ
array_value a index w = element a.region a.first a.length index w

abbrev pub sp_value : (ℕ → ℕ) → World → PlainSp → ℕ
sp_value frame w (constant n) = n
sp_value frame w (frame_word slot) = frame slot
sp_value frame w (cell_word cell) = cell_value cell w
sp_value frame w (array_word array index) = array_value array (sp_value frame w index) w
sp_value frame w (before_one op of) = unary_value op (sp_value frame w of)
sp_value frame w (between_two op a b) = binary_value op (sp_value frame w a) (sp_value frame w b)

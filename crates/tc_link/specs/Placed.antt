-- To be believed. Where the functions of a shape stand: the one that is run first, and the others after it in the order
-- of their numbers. Each has its size in words before its first word.
use Rattle.std.specs.Prelude.{ℕ, zero, suc, ◌+◌, ◌==◌, List, [], ◌∷◌, ◌++◌, length, map, slice_index_or, if◌then◌else◌}
use Rattle.std.specs.List.{flat_map}
use Rattle.patmos_instr.specs.Bundles.{PlainBundle}
use Rattle.patmos_code.specs.Codes.{code}
use Rattle.patmos_code.specs.Images.{Parts, parts}
use Rattle.sp_shape.specs.Parts.{PlainParts, no_part, PlainShape}
use Rattle.sp_shape.specs.Words.{parts_words}
use Rattle.tc_link.specs.Flat.{flat_parts}

-- ---- sizes and places, over how many words each function has

-- the first so many functions, without the entry
abbrev pub others : ℕ → ℕ → List ℕ
others entry zero = []
others entry (suc n) = others entry n ++ (if n == entry then [] else n ∷ [])

-- the words of the first so many functions and of their sizes
abbrev pub words_below : (ℕ → ℕ) → ℕ → ℕ
words_below size zero = 0
words_below size (suc n) = words_below size n + (1 + size n)

-- the words of the first so many functions without the entry
abbrev pub others_below : (ℕ → ℕ) → ℕ → ℕ → ℕ
others_below size entry zero = 0
others_below size entry (suc n) = others_below size entry n + (if n == entry then 0 else 1 + size n)

-- the first word of a function, after its size: the entry's size is word 0, and the
-- others come after the entry's last word
abbrev pub place : (ℕ → ℕ) → ℕ → ℕ → ℕ
place size entry k = if k == entry then 1 else 1 + size entry + others_below size entry k + 1

-- ---- of a shape

-- the parts of the function of a number, and how many words it has
abbrev pub function : PlainShape → ℕ → PlainParts
function s k = slice_index_or s.functions k no_part

abbrev pub size_of : PlainShape → ℕ → ℕ
size_of s k = parts_words (function s k)

-- the word at which it starts
abbrev pub start_of : PlainShape → ℕ → ℕ
start_of s k = place (size_of s) s.entry k

-- all words of the shape, those of sizes too
abbrev pub image_size : PlainShape → ℕ
image_size s = words_below (size_of s) (length s.functions)

-- its functions in the order of the image
abbrev pub order : PlainShape → List ℕ
order s = s.entry ∷ others s.entry (length s.functions)

-- the bundles of a function, with the targets of their flows
abbrev pub flat : PlainShape → ℕ → List PlainBundle
flat s k = flat_parts (start_of s) (function s k)

-- the words of bundles, one after another
abbrev pub codes : List PlainBundle → List ℕ
codes bs = flat_map code bs

-- a function's size and its words
abbrev pub function_words : (ℕ → ℕ) → PlainParts → List ℕ
function_words start ps = parts_words ps ∷ codes (flat_parts start ps)

-- the image: its functions' words and starts, and the first memory as the shape tells it
abbrev pub linked : PlainShape → Parts
linked s =
    parts (flat_map (λ k. function_words (start_of s) (function s k)) (order s))
    (map (start_of s) (order s)) s.initial s.input_at s.input_room

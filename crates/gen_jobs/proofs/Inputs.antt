-- The input of a generated task, read.
use Rattle.std.proofs.Common.{◌≡◌, ℕ, zero, suc, ◌-◌, ◌<◌, true, false, List, [], ◌++◌, codes, refl, arith, pos, append_assoc}
use Rattle.std.specs.Fmt.{decimal}
use Rattle.job_gen.specs.Generator.{draw, input_line, more_draws, next}
use Rattle.job_gen.specs.declared.task.TheConstants.{WORDS}
use Rattle.toml.specs.Data.{array, integer, Items, item, no_items, items_depth, items_have_valid_dates}
use Rattle.toml.specs.Tables.{key_value}
use Rattle.toml.specs.Text.{IsItemsText}
use Rattle.toml_writer.specs.Text.{key_text}
use Rattle.toml.proofs.ReadLines.{Turn, line_turn}

-- a draw has 16 bits
pub draw_few : (x : ℕ) → draw x < 65536
unfolding next
draw_few x = omega arith

-- so many draws from a state on, as items
abbrev pub items_from : ℕ → ℕ → Items
items_from zero x = no_items
items_from (suc left) x = item (integer (pos (draw x))) (items_from left (next x))

items_text : (left x : ℕ) → IsItemsText false false false (items_from left x) (more_draws left x ++ codes "]")
unfolding more_draws
items_text zero x = refl
items_text (suc left) x = (
  decimal (draw x),
  more_draws left (next x) ++ codes "]",
  simp append_assoc refl,
  (refl, omega (arith, draw_few x)),
  items_text left (next x),
)

items_flat : (left x : ℕ) → items_depth (items_from left x) ≡ 0
items_flat zero x = refl
items_flat (suc left) x = let flat = items_flat left (next x) in omega (arith, flat)

items_dates : (left x : ℕ) → items_have_valid_dates (items_from left x) ≡ true
items_dates zero x = refl
items_dates (suc left) x = items_dates left (next x)

pub input_turn : (x : ℕ) (rest : List ℕ) → Turn ([], codes "input") (key_value (array (items_from WORDS x)))
    (input_line x ++ rest) rest
unfolding input_line key_text
input_turn x rest =
    line_turn false false ([], codes "input") (key_value (array (items_from WORDS x))) (input_line x) rest (
      codes "[" ++ (decimal (draw x) ++ (more_draws (WORDS - 1) (next x) ++ codes "]")),
      simp append_assoc refl,
      (
        decimal (draw x) ++ (more_draws (WORDS - 1) (next x) ++ codes "]"),
        refl,
        (
          decimal (draw x),
          more_draws (WORDS - 1) (next x) ++ codes "]",
          refl,
          (refl, omega (arith, draw_few x)),
          items_text (WORDS - 1) (next x),
        ),
      ),
    )
    (refl, omega (arith, items_flat (WORDS - 1) (next x)), items_dates (WORDS - 1) (next x))

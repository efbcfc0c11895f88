-- To be believed. What an expression is worth, and whether it is unsigned (C99 6.5). An expression changes nothing.
use Rattle.std.specs.Prelude.{ℕ, Bool, List, [], ◌∷◌}
use Rattle.c_tree.specs.Plain.{PlainExpr, chain, unary, number, name, element, paren, PlainSteps, no_step, step}
use Rattle.c_tree.specs.declared.layout.Slot.{Slot}
use Rattle.c_world.specs.World.{World, word_at}
use Rattle.c_world.specs.World.{element as element_at}
use Rattle.c_meaning.specs.Operators.{signs_value, signs_unsigned, between_value, works_unsigned, gives_unsigned}
use Rattle.c_meaning.specs.Scope.{Variable, Stands, level, outside, nothing, stands, stands_unsigned, slot_region, slot_word}

-- the words of a function's variables, by their levels, and of all memories
pub record State : Type 0 where
  pub locals : ℕ → ℕ
  pub world : World

-- the names that are open: what is declared outside functions, and the variables of the function
pub record Names : Type 0 where
  pub slots : List Slot
  pub variables : List Variable

abbrev pub named : Names → List ℕ → Stands
named names text = stands names.slots names.variables text

-- the word of a variable, and of an array's element
abbrev pub variable_value : Stands → State → ℕ
variable_value (level at unsigned) s = s.locals at
variable_value (outside slot) s = word_at (slot_region slot) (slot_word slot) s.world
variable_value nothing s = 0

abbrev pub element_value : Stands → ℕ → State → ℕ
element_value (level at unsigned) index s = 0
element_value (outside slot) index s = element_at (slot_region slot) (slot_word slot) slot.length index s.world
element_value nothing index s = 0

abbrev mutual
  pub expr_unsigned : Names → PlainExpr → Bool
  expr_unsigned names (chain at first rest) = steps_unsigned names (expr_unsigned names first) rest
  expr_unsigned names (unary ops of) = signs_unsigned ops (expr_unsigned names of)
  expr_unsigned names (number n unsigned) = unsigned
  expr_unsigned names (name text) = stands_unsigned (named names text)
  expr_unsigned names (element text index) = stands_unsigned (named names text)
  expr_unsigned names (paren of) = expr_unsigned names of

  -- operators of one level, from the left
  pub steps_unsigned : Names → Bool → PlainSteps → Bool
  steps_unsigned names u no_step = u
  steps_unsigned names u (step op operand rest) =
      steps_unsigned names (gives_unsigned op u (expr_unsigned names operand)) rest

abbrev mutual
  pub expr_value : Names → State → PlainExpr → ℕ
  expr_value names s (chain at first rest) =
      steps_value names s (expr_unsigned names first) (expr_value names s first) rest
  expr_value names s (unary ops of) = signs_value ops (expr_value names s of)
  expr_value names s (number n unsigned) = n
  expr_value names s (name text) = variable_value (named names text) s
  expr_value names s (element text index) = element_value (named names text) (expr_value names s index) s
  expr_value names s (paren of) = expr_value names s of

  pub steps_value : Names → State → Bool → ℕ → PlainSteps → ℕ
  steps_value names s u a no_step = a
  steps_value names s u a (step op operand rest) =
      steps_value names s (gives_unsigned op u (expr_unsigned names operand))
      (between_value op (works_unsigned op u (expr_unsigned names operand)) a (expr_value names s operand)) rest

-- arguments, in order
abbrev pub args_value : Names → State → List PlainExpr → List ℕ
args_value names s [] = []
args_value names s (e ∷ args) = expr_value names s e ∷ args_value names s args

-- To be believed. The single-path tree of a program: its functions, each made of the actions
-- of one with the calls in loops that it takes in, and the words that it begins with.
use Rattle.std.specs.Prelude.{ℕ, ◌+◌, max, List, [], ◌∷◌, Option, None, Some, codes}
use Rattle.c_tree.specs.Frame.{function_frame}
use Rattle.c_tree.specs.Layout.{initial_of, input_of, layout_of}
use Rattle.c_tree.specs.Plain.{PlainItem, global, function}
use Rattle.c_tree.specs.Weight.{function_weight}
use Rattle.sp_tree.specs.Formed.{stmts_levels}
use Rattle.sp_tree.specs.Plain.{PlainSp, constant, frame_word, between_two}
use Rattle.sp_tree.specs.declared.operators.SpBinary.TheVariants as binary
use Rattle.sp_tree.specs.Statements.{PlainStmts, masks, stmt, PlainFunction, PlainUnit}
use Rattle.c_meaning.specs.Actions.{PlainActions}
use Rattle.c_tree.specs.Names.{number_of}
use Rattle.c_meaning.specs.Resolve.{names_in, parameters_in, resolved_items}
use Rattle.sp_inline.specs.Taken.{unit_taken}
use Rattle.single_path.specs.Made.{made}
use Rattle.single_path.specs.declared.part_words.PartWords.{PartWords}
use Rattle.single_path.specs.PartWords.{outermost}
use Rattle.single_path.specs.Widths as width

-- the words of a function's variables, of which its parameters are the first
abbrev pub variables : ℕ → PlainActions → ℕ
variables parameters body = max parameters (width.words body)

-- the mask that a function is run under may be any word: from here on it is 1 or 0
abbrev pub begun_mask : PartWords → PlainSp
begun_mask p = between_two binary.Equal (frame_word p.function) (constant 1)

abbrev pub made_body : PartWords → PlainActions → PlainStmts
made_body p body = stmt (masks p.function (begun_mask p)) (made None p body)

-- After its variables stand what it returns, its mask, and the masks of its arms and loops; then as many words as code
-- keeps for its iterations and for its return
abbrev pub made_function : ℕ → PlainActions → PlainFunction
made_function parameters body =
    let p = outermost (variables parameters body) in
    record {
      frame = p.free + width.masks body + (stmts_levels (made_body p body) + 2);
      parameters = parameters;
      mask = p.function;
      result = p.result;
      body = made_body p body;
    }

-- ---- programs

abbrev pub made_functions : List ℕ → List PlainActions → List PlainFunction
made_functions [] bodies = []
made_functions (n ∷ counts) [] = []
made_functions (n ∷ counts) (body ∷ bodies) = made_function n body ∷ made_functions counts bodies

-- a valid program has a `main`
abbrev pub entry_of : Option ℕ → ℕ
entry_of None = 0
entry_of (Some k) = k

-- each call of the text is one of the tree
abbrev pub with_calls : List PlainItem → PlainUnit
with_calls items = record {
  functions = made_functions (parameters_in items) (resolved_items (layout_of items) [] items);
  entry = entry_of (number_of (codes "main") (names_in items));
  initial = initial_of items;
  input_at = (input_of items).at;
  input_room = (input_of items).room;
}

-- ---- what each function may take

abbrev pub weights_in : List PlainItem → List ℕ
weights_in [] = []
weights_in (global of ∷ items) = weights_in items
weights_in (function kind its_name void_word parameters body ∷ items) = function_weight body ∷ weights_in items

abbrev pub frames_in : List PlainItem → List ℕ
frames_in [] = []
frames_in (global of ∷ items) = frames_in items
frames_in (function kind its_name void_word parameters body ∷ items) = function_frame parameters body ∷ frames_in items

-- ---- the tree

-- calls in loops are taken in, as far as each function keeps to what it weighs and to the frame that is counted
abbrev pub single : List PlainItem → PlainUnit
single items = unit_taken (weights_in items) (frames_in items) (with_calls items)

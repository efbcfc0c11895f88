-- For proofs. What parts of a program without a fault have, by their names and not by their places: what names stand
-- for, how deep expressions are, where statements stand, and how large functions are. Each valid program is typed.
use Rattle.std.specs.Prelude.{◌≡◌, ℕ, ◌<◌, ◌≤◌, Bool, true, false, List, [], ◌∷◌, length, Option, None, Some, ⊤}
use Rattle.std.specs.List.{AllByRecursion as Each}
use Rattle.c_tree.specs.declared.checks.Meaning.TheVariants as meaning
use Rattle.c_tree.specs.declared.limits.TheConstants.{MOST_DEPTH, MOST_FRAME_WORDS, MOST_FUNCTION_WEIGHT, MOST_PARAMETERS, MOST_PRIVATE_WORDS, MOST_SCRATCH_WORDS, MOST_TASK_WEIGHT}
use Rattle.c_tree.specs.declared.statements.Kind.{Kind}
use Rattle.c_tree.specs.declared.units.Global.{Global}
use Rattle.c_tree.specs.declared.units.Parameter.{Parameter}
use Rattle.c_tree.specs.Checks.{after}
use Rattle.c_tree.specs.Depth.{expr_depth}
use Rattle.c_tree.specs.Frame.{function_frame}
use Rattle.c_tree.specs.Names.{Named, found, declared, given}
use Rattle.c_tree.specs.Plain.{PlainExpr, PlainSteps, chain, unary, number, name, element, paren, no_step, step, PlainRight, value, call, PlainHead, iterations_while, iterations_for, PlainStmt, PlainBlock, PlainArms, PlainOtherwise, declared as declares, set, set_element, called, sent, chosen, looped, broken, continued, returned, inner, no_stmt, stmt, no_arm, arm, no_else, or_else, PlainItem, global, function}
use Rattle.c_tree.specs.Valid.{words_of, words_in, function_means, with_parameters, with_item, has_main}
use Rattle.c_tree.specs.Weight.{function_weight, items_weight}

-- ---- names

abbrev pub IsScalar : List Named → List ℕ → Type 0
IsScalar names text = found text names ≡ Some meaning.Scalar

abbrev pub IsArray : List Named → List ℕ → Type 0
IsArray names text = found text names ≡ Some meaning.Array

-- a function with so many parameters, outside of its own block
abbrev pub IsCallable : List Named → List ℕ → ℕ → Type 0
IsCallable names text arguments = (gives : Bool) × (found text names ≡ Some (meaning.Function arguments gives false))

-- ---- expressions

abbrev mutual
  pub ExprTyped : List Named → PlainExpr → Type 0
  ExprTyped names (chain level first rest) = ExprTyped names first × StepsTyped names rest
  ExprTyped names (unary ops of) = ExprTyped names of
  ExprTyped names (number n unsigned) = ⊤
  ExprTyped names (name text) = IsScalar names text
  ExprTyped names (element text index) = IsArray names text × ExprTyped names index
  ExprTyped names (paren e) = ExprTyped names e

  pub StepsTyped : List Named → PlainSteps → Type 0
  StepsTyped names no_step = ⊤
  StepsTyped names (step op operand rest) = ExprTyped names operand × StepsTyped names rest

-- an expression by itself
abbrev pub WholeTyped : List Named → PlainExpr → Type 0
WholeTyped names e = (expr_depth e ≤ MOST_DEPTH) × ExprTyped names e

abbrev pub ArgsTyped : List Named → List PlainExpr → Type 0
ArgsTyped names args = Each (WholeTyped names) args

abbrev pub CallTyped : List Named → List ℕ → List PlainExpr → Type 0
CallTyped names text args = IsCallable names text (length args) × ArgsTyped names args

abbrev pub RightTyped : List Named → PlainRight → Type 0
RightTyped names (value e) = WholeTyped names e
RightTyped names (call text args) = CallTyped names text args

-- the first value of a variable, whose name is known in it
abbrev pub FirstTyped : List Named → List ℕ → Option PlainRight → Type 0
FirstTyped names text None = ⊤
FirstTyped names text (Some r) = RightTyped (declared names text meaning.Scalar) r

-- a variable that is set to an expression
abbrev pub AssignedTyped : List Named → List ℕ → PlainExpr → Type 0
AssignedTyped names text e = IsScalar names text × WholeTyped names e

abbrev pub HeadTyped : List Named → PlainHead → Type 0
HeadTyped names (iterations_while condition) = WholeTyped names condition
HeadTyped names (iterations_for first from condition next to) =
    AssignedTyped names first from × WholeTyped names condition × AssignedTyped names next to

abbrev pub GivenTyped : List Named → Option PlainExpr → Type 0
GivenTyped names None = ⊤
GivenTyped names (Some e) = WholeTyped names e

-- a variable or an array outside functions: it has a word, and words for its first values
pub record GlobalTyped (names : List Named) (g : Global) : Type 0 where
  pub new : found g.name names ≡ None
  pub some : 1 ≤ words_of g
  pub enough : length g.initial ≤ words_of g

-- a function's parameters and its block are one scope, in which its own name is open
abbrev pub names_inside : List Named → Option Kind → List ℕ → List Parameter → List Named
names_inside names kind text parameters =
    with_parameters (declared names text (function_means true kind parameters)) parameters

-- ---- statements on a core of so many

module _ (cores own : ℕ) where
  -- another core of the platform
  abbrev pub IsTarget : ℕ → Type 0
  IsTarget core = (core < cores) × (core ≡ own → ⊥)

  -- in a loop, or outside of one
  abbrev mutual
    pub StmtTyped : Bool → List Named → PlainStmt → Type 0
    StmtTyped inside names (declares kind text r) = FirstTyped names text r
    StmtTyped inside names (set text r) = IsScalar names text × RightTyped names r
    StmtTyped inside names (set_element text index r) =
        IsArray names text × WholeTyped names index × RightTyped names r
    StmtTyped inside names (called text args) = CallTyped names text args
    StmtTyped inside names (sent core core_unsigned source target count) =
        IsTarget core × ArgsTyped names (source ∷ target ∷ count ∷ [])
    StmtTyped inside names (chosen arms otherwise) =
        ArmsTyped inside names arms × OtherwiseTyped inside names otherwise
    StmtTyped inside names (looped bound head body) = HeadTyped names head × BlockTyped true names body
    StmtTyped inside names broken = inside ≡ true
    StmtTyped inside names continued = inside ≡ true
    StmtTyped inside names (returned e) = GivenTyped names e
    StmtTyped inside names (inner body) = BlockTyped inside names body

    pub BlockTyped : Bool → List Named → PlainBlock → Type 0
    BlockTyped inside names no_stmt = ⊤
    BlockTyped inside names (stmt s rest) = StmtTyped inside names s × BlockTyped inside (after names s) rest

    pub ArmsTyped : Bool → List Named → PlainArms → Type 0
    ArmsTyped inside names no_arm = ⊤
    ArmsTyped inside names (arm condition body rest) =
        WholeTyped names condition × BlockTyped inside names body × ArmsTyped inside names rest

    pub OtherwiseTyped : Bool → List Named → PlainOtherwise → Type 0
    OtherwiseTyped inside names no_else = ⊤
    OtherwiseTyped inside names (or_else body) = BlockTyped inside names body

  abbrev pub BodyTyped : List Named → List PlainStmt → Type 0
  BodyTyped names [] = ⊤
  BodyTyped names (s ∷ rest) = StmtTyped false names s × BodyTyped (after names s) rest

  -- ---- programs

  pub record FunctionTyped (names : List Named) (kind : Option Kind) (text : List ℕ) (parameters : List Parameter)
      (body : List PlainStmt) : Type 0 where
    pub new : found text names ≡ None
    pub few : length parameters ≤ MOST_PARAMETERS
    pub framed : function_frame parameters body ≤ MOST_FRAME_WORDS
    pub light : function_weight body ≤ MOST_FUNCTION_WEIGHT
    pub inside : BodyTyped (names_inside names kind text parameters) body

  abbrev pub ItemTyped : List Named → PlainItem → Type 0
  ItemTyped names (global g) = GlobalTyped names g
  ItemTyped names (function kind text void_word parameters body) = FunctionTyped names kind text parameters body

  abbrev pub ItemsTyped : List Named → List PlainItem → Type 0
  ItemsTyped names [] = ⊤
  ItemsTyped names (i ∷ items) = ItemTyped names i × ItemsTyped (with_item names i) items

  pub record Typed (items : List PlainItem) : Type 0 where
    pub each : ItemsTyped given items
    pub light : items_weight items ≤ MOST_TASK_WEIGHT
    pub private : words_in false items ≤ MOST_PRIVATE_WORDS
    pub scratch : words_in true items ≤ MOST_SCRATCH_WORDS
    pub main : has_main items ≡ true

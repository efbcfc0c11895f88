-- For proofs. What fits: slots lie within their memories, no more variables are open than a function has levels, and a
-- call has no more arguments than a function may have parameters.
use Rattle.std.specs.Prelude.{◌+◌, ◌<◌, ◌≤◌, ⊤, List, [], ◌∷◌, length, Option, None, Some}
use Rattle.std.specs.List.{All}
use Rattle.c_tree.specs.declared.layout.Slot.{Slot}
use Rattle.c_tree.specs.declared.limits.TheConstants.{MOST_LEVELS, MOST_PARAMETERS}
use Rattle.c_tree.specs.Plain.{PlainExpr, PlainRight, PlainStmt, PlainBlock, PlainArms, PlainOtherwise, PlainItem}
use Rattle.c_tree.specs.Plain as plain
use Rattle.c_world.specs.Shown.{room_in}
use Rattle.c_meaning.specs.Meaning.{names_after, parameter_variables}
use Rattle.c_meaning.specs.Rooms.{all_rooms}
use Rattle.c_meaning.specs.Scope.{Stands, level, outside, nothing, slot_region, slot_word}
use Rattle.c_meaning.specs.Values.{Names}

-- a slot has a word, and its words are there
abbrev pub SlotFits : Slot → Type 0
SlotFits s = (1 ≤ s.length) × (slot_word s + s.length ≤ room_in (slot_region s) all_rooms)

abbrev pub SlotsFit : List Slot → Type 0
SlotsFit slots = All SlotFits slots

abbrev pub StandsFits : Stands → Type 0
StandsFits (level at unsigned) = at < MOST_LEVELS
StandsFits (outside slot) = SlotFits slot
StandsFits nothing = ⊤

-- ---- statements, where these names are open

abbrev pub ArgsFit : List PlainExpr → Type 0
ArgsFit args = length args ≤ MOST_PARAMETERS

abbrev pub RightFits : PlainRight → Type 0
RightFits (plain.value e) = ⊤
RightFits (plain.call text args) = ArgsFit args

abbrev pub FirstFits : Option PlainRight → Type 0
FirstFits None = ⊤
FirstFits (Some r) = RightFits r

abbrev mutual
  pub StmtFits : Names → PlainStmt → Type 0
  StmtFits names (plain.declared kind text r) = (length names.variables < MOST_LEVELS) × FirstFits r
  StmtFits names (plain.set text r) = RightFits r
  StmtFits names (plain.set_element text index r) = RightFits r
  StmtFits names (plain.called text args) = ArgsFit args
  StmtFits names (plain.sent core core_unsigned source target count) = ⊤
  StmtFits names (plain.chosen arms otherwise) = ArmsFit names arms × OtherwiseFits names otherwise
  StmtFits names (plain.looped bound head body) = BlockFits names body
  StmtFits names plain.broken = ⊤
  StmtFits names plain.continued = ⊤
  StmtFits names (plain.returned e) = ⊤
  StmtFits names (plain.inner body) = BlockFits names body

  pub BlockFits : Names → PlainBlock → Type 0
  BlockFits names plain.no_stmt = ⊤
  BlockFits names (plain.stmt s rest) = StmtFits names s × BlockFits (names_after names s) rest

  pub ArmsFit : Names → PlainArms → Type 0
  ArmsFit names plain.no_arm = ⊤
  ArmsFit names (plain.arm condition body rest) = BlockFits names body × ArmsFit names rest

  pub OtherwiseFits : Names → PlainOtherwise → Type 0
  OtherwiseFits names plain.no_else = ⊤
  OtherwiseFits names (plain.or_else body) = BlockFits names body

abbrev pub BodyFits : Names → List PlainStmt → Type 0
BodyFits names [] = ⊤
BodyFits names (s ∷ rest) = StmtFits names s × BodyFits (names_after names s) rest

-- a function, whose parameters are its first variables
abbrev pub ItemFits : List Slot → PlainItem → Type 0
ItemFits slots (plain.global of) = ⊤
ItemFits slots (plain.function kind text void_word parameters body) =
    (length parameters ≤ MOST_LEVELS)
    × BodyFits (record { slots = slots; variables = parameter_variables parameters }) body

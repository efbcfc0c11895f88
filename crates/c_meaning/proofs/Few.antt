-- A program without a fault fits: its functions have few variables open, and its calls few arguments.
use Rattle.std.proofs.Common.{◌≡◌, ℕ, ◌+◌, ◌≤◌, ◌<◌, ◌*◌, zero, suc, Bool, true, false, List, [], ◌∷◌, ◌++◌, length, get_or, map, Option, None, Some, refl, sym, subst, length-append, arith}
use Rattle.std.specs.Prelude.{⊤, IfSome}
use Rattle.std.specs.List.{AllByRecursion as Each}
use Rattle.std.specs.Option.{option_map}
use Rattle.std.proofs.lemmas.List.Sums.{sum_by-cons}
use Rattle.c_tree.specs.declared.checks.Meaning.{Meaning}
use Rattle.c_tree.specs.declared.checks.Meaning.TheVariants as meaning
use Rattle.c_tree.specs.declared.layout.Slot.{Slot}
use Rattle.c_tree.specs.declared.limits.TheConstants.{MOST_LEVELS, MOST_PARAMETERS, MOST_TASK_WEIGHT}
use Rattle.c_tree.specs.declared.statements.Stmt.{Stmt}
use Rattle.c_tree.specs.declared.units.Global.{Global}
use Rattle.c_tree.specs.declared.units.Item.{Item}
use Rattle.c_tree.specs.declared.units.Length.{Length}
use Rattle.c_tree.specs.declared.units.Parameter.{Parameter}
use Rattle.c_tree.specs.Checks.{after}
use Rattle.c_tree.specs.Frame.{stmt_frame, block_frame, arms_frame, otherwise_frame, body_frame}
use Rattle.c_tree.specs.Layout.{is_unsigned}
use Rattle.c_tree.specs.Names.{Found, Named, last_named, found, declared, given}
use Rattle.c_tree.proofs.LastNamed.{last_has}
use Rattle.c_tree.specs.Plain.{PlainExpr, PlainRight, PlainStmt, PlainBlock, PlainArms, PlainOtherwise, PlainItem, plain_stmt, plain_item}
use Rattle.c_tree.specs.Plain as plain
use Rattle.c_tree.specs.Valid.{IsValid, function_means, with_parameters, with_item, means_of}
use Rattle.c_tree.specs.Weight.{item_weight, items_weight}
use Rattle.c_tree.proofs.Typing.{typed_of}
use Rattle.c_tree.specs.Typed.{CallTyped, RightTyped, FirstTyped, StmtTyped, BlockTyped, ArmsTyped, OtherwiseTyped, BodyTyped, names_inside, ItemTyped, ItemsTyped}
use Rattle.c_tree.specs.Plains.{block_of}
use Rattle.c_meaning.specs.Fits.{ArgsFit, RightFits, FirstFits, StmtFits, BlockFits, ArmsFit, OtherwiseFits, BodyFits, ItemFits}
use Rattle.c_meaning.specs.Meaning.{names_after, parameter_variables}
use Rattle.c_meaning.specs.Resolve.{resolved_items, names_in}
use Rattle.c_meaning.specs.Scope.{Variable}
use Rattle.c_meaning.specs.Values.{Names}

-- ---- a name that is a function's has few parameters

abbrev pub MeaningFew : Meaning → Type 0
MeaningFew meaning.Scalar = ⊤
MeaningFew meaning.Array = ⊤
MeaningFew (meaning.Function parameters gives inside) = parameters ≤ MOST_PARAMETERS

abbrev pub FoundFew : Option Meaning → Type 0
FoundFew None = ⊤
FoundFew (Some m) = MeaningFew m

abbrev pub FewIn : List Named → Type 0
FewIn names = Each (λ n. MeaningFew n.means) names

found_few : (text : List ℕ) (names : List Named) → FewIn names → FoundFew (found text names)
found_few text names few =
    by (last_named (λ n. n.name) 0 text names) (last_has (λ n. MeaningFew n.means) (λ n. n.name) 0 text names few)
  where
    by : (l : Option (Found Named)) → IfSome l (λ f. MeaningFew f.is.means) → FoundFew (option_map (λ f. f.is.means) l)
    by None has = tt
    by (Some f) has = has

declared_few : (names : List Named) (text : List ℕ) (m : Meaning) → FewIn names → MeaningFew m
    → FewIn (declared names text m)
declared_few [] text m few one = (one, tt)
declared_few (n ∷ names) text m few one = (few.0, declared_few names text m few.1 one)

after_few : (names : List Named) (s : PlainStmt) → FewIn names → FewIn (after names s)
after_few names (plain.declared kind text r) few = declared_few names text meaning.Scalar few tt
after_few names _ few = few

-- ---- calls

call_few : (names : List Named) (text : List ℕ) (args : List PlainExpr) → FewIn names → CallTyped names text args
    → ArgsFit args
call_few names text args few typed = subst FoundFew typed.0.1 (found_few text names few)

right_few : (names : List Named) (r : PlainRight) → FewIn names → RightTyped names r → RightFits r
right_few names (plain.value e) few typed = tt
right_few names (plain.call text args) few typed = call_few names text args few typed

first_few : (names : List Named) (text : List ℕ) (r : Option PlainRight) → FewIn names → FirstTyped names text r
    → FirstFits r
first_few names text None few typed = tt
first_few names text (Some r) few typed =
    right_few (declared names text meaning.Scalar) r (declared_few names text meaning.Scalar few tt) typed

-- ---- statements

-- a statement opens no more variables than its frame has words
after_open : (open_names : Names) (s : PlainStmt) → length (names_after open_names s).variables
    ≤ length open_names.variables + stmt_frame s
unfolding stmt_frame
after_open open_names (plain.declared kind text r) =
    let v : Variable = record { name = text; unsigned = is_unsigned kind } in
    omega (arith, length-append open_names.variables (v ∷ []))
after_open open_names _ = omega arith

-- ---- names of parameters, and of what is declared outside functions

parameters_few : (names : List Named) (parameters : List Parameter) → FewIn names
    → FewIn (with_parameters names parameters)
parameters_few names [] few = few
parameters_few names (p ∷ parameters) few =
    parameters_few (declared names p.name meaning.Scalar) parameters (declared_few names p.name meaning.Scalar few tt)

pub parameters_open : (parameters : List Parameter) → length (parameter_variables parameters) ≡ length parameters
parameters_open [] = refl
parameters_open (p ∷ parameters) = omega (arith, parameters_open parameters)

means_few : (names : List Named) (g : Global) → FewIn names → FewIn (declared names g.name (means_of g))
means_few names g few = declared_few names g.name (means_of g) few (by g.length)
  where
    by : (l : Option Length) → MeaningFew (elim l [ None ↦ meaning.Scalar | Some n ↦ meaning.Array ])
    by None = tt
    by (Some n) = tt

-- ---- what is typed fits

module _ (cores own : ℕ) where
  mutual
    unfolding stmt_frame block_frame arms_frame otherwise_frame

    pub stmt_fits : (inside : Bool) (names : List Named) (o : Names) (s : PlainStmt) → FewIn names
        → StmtTyped cores own inside names s → length o.variables + stmt_frame s ≤ MOST_LEVELS → StmtFits o s
    stmt_fits inside names o (plain.declared kind text r) few typed room =
        (omega (arith, room), first_few names text r few typed)
    stmt_fits inside names o (plain.set text r) few typed room = right_few names r few typed.1
    stmt_fits inside names o (plain.set_element text index r) few typed room = right_few names r few typed.2
    stmt_fits inside names o (plain.called text args) few typed room = call_few names text args few typed
    stmt_fits inside names o (plain.chosen arms otherwise) few typed room = (
      arms_fit inside names o arms few typed.0 (omega (arith, room)),
      otherwise_fits inside names o otherwise few typed.1 (omega (arith, room)),
    )
    stmt_fits inside names o (plain.looped bound head body) few typed room =
        block_fits true names o body few typed.1 (omega (arith, room))
    stmt_fits inside names o (plain.inner body) few typed room = block_fits inside names o body few typed room
    stmt_fits inside names o _ few typed room = tt

    block_fits : (inside : Bool) (names : List Named) (o : Names) (b : PlainBlock) → FewIn names
        → BlockTyped cores own inside names b → length o.variables + block_frame b ≤ MOST_LEVELS → BlockFits o b
    block_fits inside names o plain.no_stmt few typed room = tt
    block_fits inside names o (plain.stmt s rest) few typed room = (
      stmt_fits inside names o s few typed.0 (omega (arith, room)),
      block_fits inside (after names s) (names_after o s) rest (after_few names s few) typed.1
          (omega (arith, room, after_open o s)),
    )

    arms_fit : (inside : Bool) (names : List Named) (o : Names) (arms : PlainArms) → FewIn names
        → ArmsTyped cores own inside names arms → length o.variables + arms_frame arms ≤ MOST_LEVELS → ArmsFit o arms
    arms_fit inside names o plain.no_arm few typed room = tt
    arms_fit inside names o (plain.arm condition body rest) few typed room = (
      block_fits inside names o body few typed.1 (omega (arith, room)),
      arms_fit inside names o rest few typed.2 (omega (arith, room)),
    )

    otherwise_fits : (inside : Bool) (names : List Named) (o : Names) (otherwise : PlainOtherwise) → FewIn names
        → OtherwiseTyped cores own inside names otherwise
        → length o.variables + otherwise_frame otherwise ≤ MOST_LEVELS → OtherwiseFits o otherwise
    otherwise_fits inside names o plain.no_else few typed room = tt
    otherwise_fits inside names o (plain.or_else body) few typed room = block_fits inside names o body few typed room

  body_fits : (names : List Named) (o : Names) (body : List PlainStmt) → FewIn names → BodyTyped cores own names body
      → length o.variables + body_frame body ≤ MOST_LEVELS → BodyFits o body
  body_fits names o [] few typed room = tt
  body_fits names o (s ∷ rest) few typed room =
      let sum = sum_by-cons stmt_frame s rest in (
        stmt_fits false names o s few typed.0 (omega (arith, room, sum)),
        body_fits (after names s) (names_after o s) rest (after_few names s few) typed.1
            (omega (arith, room, sum, after_open o s)),
      )

  -- ---- functions

  item_fits : (names : List Named) (slots : List Slot) (i : PlainItem) → FewIn names → ItemTyped cores own names i
      → ItemFits slots i
  item_fits names slots (plain.global of) few typed = tt
  item_fits names slots (plain.function kind text void_word parameters body) few typed =
      let means = function_means true kind parameters in (
        omega (arith, typed.few),
        body_fits (names_inside names kind text parameters)
            (record { slots = slots; variables = parameter_variables parameters }) body
            (parameters_few (declared names text means) parameters (declared_few names text means few typed.few))
            typed.inside (omega (arith, typed.framed, parameters_open parameters)),
      )

  with_item_few : (names : List Named) (i : PlainItem) → FewIn names → ItemTyped cores own names i
      → FewIn (with_item names i)
  with_item_few names (plain.global of) few typed = means_few names of few
  with_item_few names (plain.function kind text void_word parameters body) few typed =
      declared_few names text (function_means false kind parameters) few typed.few

  -- ---- programs

  items_fit : (names : List Named) (slots : List Slot) (items : List PlainItem) → FewIn names
      → ItemsTyped cores own names items → Each (ItemFits slots) items
  items_fit names slots [] few typed = tt
  items_fit names slots (i ∷ items) few typed = (
    item_fits names slots i few typed.0,
    items_fit (with_item names i) slots items (with_item_few names i few typed.0) typed.1,
  )

pub program_fits : (cores own : ℕ) (slots : List Slot) (items : List PlainItem) → IsValid items cores own
    → Each (ItemFits slots) items
program_fits cores own slots items valid =
    items_fit cores own given slots items (tt, (tt, tt)) (typed_of cores own items valid).each

pub item_at : (slots : List Slot) (items : List Item) (i : ℕ) (t : Item) → i < length items → t ≡ get_or items i t
    → Each (ItemFits slots) (map plain_item items) → ItemFits slots (plain_item t)
item_at slots [] i t within is fit = absurd (omega (arith, within))
item_at slots (x ∷ items) zero t within is fit = subst (λ y. ItemFits slots (plain_item y)) (sym is) fit.0
item_at slots (x ∷ items) (suc i) t within is fit = item_at slots items i t (omega (arith, within)) is fit.1

-- a function's block is a block
pub body_block : (o : Names) (body : List Stmt) → BodyFits o (map plain_stmt body) → BlockFits o (block_of body)
body_block o [] fit = tt
body_block o (s ∷ body) fit = (fit.0, body_block (names_after o (plain_stmt s)) body fit.1)

-- ---- as many functions as have numbers

pub as_many : (slots : List Slot) (fs : List (List ℕ)) (items : List PlainItem) → length (resolved_items slots fs items)
    ≡ length (names_in items)
as_many slots fs [] = refl
as_many slots fs (plain.global of ∷ items) = as_many slots fs items
as_many slots fs (plain.function kind text void_word parameters body ∷ items) =
    omega (arith, as_many slots (fs ++ text ∷ []) items)

names_weigh : (items : List PlainItem) → 64 * length (names_in items) ≤ items_weight items
names_weigh [] = omega arith
names_weigh (plain.global of ∷ items) =
    omega (arith, names_weigh items, sum_by-cons item_weight (plain.global of) items)
names_weigh (plain.function kind text void_word parameters body ∷ items) =
    omega (arith, names_weigh items, sum_by-cons item_weight (plain.function kind text void_word parameters body) items)

pub few_functions : (cores own : ℕ) (items : List PlainItem) → IsValid items cores own → length (names_in items)
    ≤ MOST_TASK_WEIGHT
few_functions cores own items valid = omega (arith, names_weigh items, (typed_of cores own items valid).light)

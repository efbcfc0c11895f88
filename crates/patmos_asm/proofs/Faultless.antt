-- Statements without a fault lie in their limits.
use Rattle.std.proofs.Common.{arith, ◌≡◌, ℕ, ◌+◌, ◌≤◌, Bool, true, false, not, cond, ◌||◌, List, [], ◌∷◌, refl, Option, Some, None, nat_lt}
use Rattle.std.specs.Str.{bytes_eq}
use Rattle.std.specs.Option.{option_or}
use Rattle.std.proofs.lemmas.Bool.Decides.{nat_tests}
use Rattle.patmos_forms.specs.declared.faults.AsmKind.{AsmKind}
use Rattle.patmos_forms.specs.declared.faults.AsmKind.TheVariants.{NoLabel, LabelTwice, TooLarge}
use Rattle.patmos_asm.specs.declared.faults.AsmFault.{AsmFault}
use Rattle.patmos_syntax.specs.Items.{Item, function, label, bundle, faulty}
use Rattle.patmos_asm.specs.Bounds.{InBounds}
use Rattle.patmos_asm.specs.Assembly.{Lookup, Before, place_of, labels_from, size_from, functions_from, is_among, is_known, no_function, fault_of, labels_after, after, reported, first_fault, offset_after}
use Rattle.patmos_syntax.specs.Drafts.{size_of}

-- where there is no first fault, the first statement has none, nor has the rest
pub no_fault_first : (i : Item) (fault : Option AsmKind) (rest : Option AsmFault) → option_or (reported i fault) rest
    ≡ None → (fault ≡ None) × (rest ≡ None)
no_fault_first i None rest e = (refl, e)
no_fault_first i (Some f) rest e = cc

-- a bundle without a fault leaves its function and the image within their limits
pub bundle_small : (known : Bool) (size image : ℕ) (o : Option AsmKind) →
    cond (not known) (Some NoLabel) (cond (nat_lt 4096 size || nat_lt 32768 image) (Some TooLarge) o) ≡ None →
    (known ≡ true) × (size ≤ 4096) × (image ≤ 32768) × (o ≡ None)
bundle_small known size image o e = grind (arith, nat_tests)

pub function_small : (among : Bool) (image : ℕ) → cond among (Some LabelTwice) (cond (nat_lt 32768 image)
    (Some TooLarge) None) ≡ None → (among ≡ false) × (image ≤ 32768)
function_small among image e = grind (arith, nat_tests)

-- the words of a function up to its end
pub size_left : (functions labels : Lookup) (before : Before) (is : List Item) → first_fault functions labels before is
    ≡ None → before.size ≤ 4096 →
    before.size + size_from is ≤ 4096
size_left functions labels before [] e small = omega arith
size_left functions labels before (function line name ∷ is) e small = omega arith
size_left functions labels before (label line name ∷ is) e small =
    let t = no_fault_first (label line name) (fault_of functions labels before (label line name)) _ e in
    size_left functions labels (after before (label line name)) is t.1 small
size_left functions labels before (bundle line b ∷ is) e small =
    let t = no_fault_first (bundle line b) (fault_of functions labels before (bundle line b)) _ e in
    let s = bundle_small (is_known functions labels b.first.draft) (before.size + size_of b) (before.image + size_of b)
    (no_function before) t.0 in
    omega (arith, size_left functions labels (after before (bundle line b)) is t.1 s.1)
size_left functions labels before (faulty line fault ∷ is) e small = cc

chosen_place : (same : Bool) (at place : ℕ) (other : Option ℕ) (limit : ℕ) → cond same (Some at) other ≡ Some place
    → at ≤ limit → (other ≡ Some place → place ≤ limit) → place ≤ limit
chosen_place true at place other limit e small rest = let k : at ≡ place = cc in omega arith
chosen_place false at place other limit e small rest = rest e

-- the labels of a function lie in it
pub labels_small : (functions labels : Lookup) (before : Before) (is : List Item)
    → first_fault functions labels before is ≡ None → before.size ≤ 4096 →
    (name : List ℕ) (place : ℕ) → place_of (labels_from before.size is) name ≡ Some place → place ≤ 4096
labels_small functions labels before [] e small name place found = cc
labels_small functions labels before (function line n ∷ is) e small name place found = cc
labels_small functions labels before (label line n ∷ is) e small name place found =
    let t = no_fault_first (label line n) (fault_of functions labels before (label line n)) _ e in
    chosen_place (bytes_eq name n) before.size place (place_of (labels_from before.size is) name) 4096 found small
    (labels_small functions labels (after before (label line n)) is t.1 small name place)
labels_small functions labels before (bundle line b ∷ is) e small name place found =
    let t = no_fault_first (bundle line b) (fault_of functions labels before (bundle line b)) _ e in
    let s = bundle_small (is_known functions labels b.first.draft) (before.size + size_of b) (before.image + size_of b)
    (no_function before) t.0 in
    labels_small functions labels (after before (bundle line b)) is t.1 s.1 name place found
labels_small functions labels before (faulty line fault ∷ is) e small name place found = cc

-- the functions of an image lie in it
pub functions_small : (functions labels : Lookup) (before : Before) (is : List Item)
    → first_fault functions labels before is ≡ None →
    (name : List ℕ) (place : ℕ) → place_of (functions_from before.image is) name ≡ Some place → place ≤ 32768
functions_small functions labels before [] e name place found = cc
functions_small functions labels before (function line n ∷ is) e name place found =
    let t = no_fault_first (function line n) (fault_of functions labels before (function line n)) _ e in
    let s = function_small (is_among n before.functions) (before.image + 1) t.0 in
    chosen_place (bytes_eq name n) (before.image + 1) place (place_of (functions_from (before.image + 1) is) name)
    32768 found s.1
    (functions_small functions (place_of (labels_from 0 is)) (after before (function line n)) is t.1 name place)
functions_small functions labels before (label line n ∷ is) e name place found =
    let t = no_fault_first (label line n) (fault_of functions labels before (label line n)) _ e in
    functions_small functions labels (after before (label line n)) is t.1 name place found
functions_small functions labels before (bundle line b ∷ is) e name place found =
    let t = no_fault_first (bundle line b) (fault_of functions labels before (bundle line b)) _ e in
    functions_small functions labels (after before (bundle line b)) is t.1 name place found
functions_small functions labels before (faulty line fault ∷ is) e name place found = cc

-- statements without a fault, of which the first stands at this offset
pub record Faultless (functions labels : Lookup) (at : ℕ) (is : List Item) : Type 0 where
  pub before : Before
  pub at_is : before.size ≡ at
  pub none : first_fault functions labels before is ≡ None
  pub within : InBounds functions labels at

-- so is the rest after the first
pub rest_faultless : (functions labels : Lookup) (at : ℕ) (i : Item) (is : List Item)
    → Faultless functions labels at (i ∷ is) →
    Faultless functions (labels_after labels i is) (offset_after at i) is
rest_faultless functions labels at (function line n) is f =
    let t = no_fault_first (function line n) (fault_of functions labels f.before (function line n)) _ f.none in
    record {
      before = after f.before (function line n);
      at_is = refl;
      none = t.1;
      within = record {
        offset = omega arith;
        in_function = labels_small functions (place_of (labels_from 0 is)) (after f.before (function line n)) is
            t.1 (omega arith);
        in_image = f.within.in_image;
      };
    }
rest_faultless functions labels at (label line n) is f =
    let t = no_fault_first (label line n) (fault_of functions labels f.before (label line n)) _ f.none in
    record { before = after f.before (label line n); at_is = f.at_is; none = t.1; within = f.within }
rest_faultless functions labels at (bundle line b) is f =
    let t = no_fault_first (bundle line b) (fault_of functions labels f.before (bundle line b)) _ f.none in
    let s = bundle_small (is_known functions labels b.first.draft) (f.before.size + size_of b)
    (f.before.image + size_of b) (no_function f.before) t.0 in
    record {
      before = after f.before (bundle line b);
      at_is = omega (arith, f.at_is);
      none = t.1;
      within = record {
        offset = omega (arith, f.at_is);
        in_function = f.within.in_function;
        in_image = f.within.in_image;
      };
    }
rest_faultless functions labels at (faulty line fault) is f = let e = f.none in cc

-- and the words up to the end of its function fit
pub size_fits : (functions labels : Lookup) (at : ℕ) (i : Item) (is : List Item)
    → Faultless functions labels at (i ∷ is) → size_from is ≤ 4096
size_fits functions labels at i is f =
    let r = rest_faultless functions labels at i is f in
    omega (
      arith,
      size_left functions (labels_after labels i is) r.before is r.none
          (omega (arith, r.at_is, r.within.offset)),
      r.at_is,
    )

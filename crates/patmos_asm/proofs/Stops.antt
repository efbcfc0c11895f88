-- The printed labels stand where the labels stood that are branched to.
use Rattle.std.proofs.Common.{arith, ◌≡◌, ◌≢◌, ◌∙◌, ℕ, pos, ◌+◌, ◌-ℤ◌, ◌+ℤ◌, ◌^◌, ◌<◌, ◌≤◌, ◌==◌, Bool, true, false, cond, List, [], ◌∷◌, ◌++◌, refl, sym, ap, subst, Option, Some, None, is_some, ◌⊎◌, inl, inr, bytes_eq}
use Rattle.std.proofs.lemmas.Bool.Decides.{nat_tests}
use Rattle.std.proofs.lemmas.Int.{ints}
use Rattle.patmos_instr.specs.declared.instructions.Op.{Op}
use Rattle.patmos_instr.specs.declared.instructions.Op.TheVariants as op
use Rattle.patmos_forms.specs.declared.forms.JumpKind.TheVariants.{Branch, Call, BranchFill}
use Rattle.patmos_syntax.specs.Drafts.{Draft, ready, to, DraftBundle, size_of}
use Rattle.patmos_syntax.specs.Items.{Item, function, label, bundle, faulty}
use Rattle.patmos_asm.specs.Assembly.{Lookup, place_of, labels_from, placed_op, placed, is_known}
use Rattle.patmos_asm.specs.Printed.{natural, targets_of, is_target, label_name, named_op, named}
use Rattle.patmos_asm.proofs.ReadForms.{is_flow}
use Rattle.patmos_asm.proofs.ReadBundles.{IsPrintableDraft}
use Rattle.patmos_asm.proofs.Bodies.{bundles_in}
use Rattle.patmos_asm.proofs.Relabeled.{mark, branched_of, relabeled}
use Rattle.patmos_asm.proofs.Counted.{named_size, label_apart, bytes_eq_refl}
use Rattle.patmos_asm.proofs.Faultless.{Faultless, rest_faultless}

-- a bundle begins at the offset, or the function ends there
abbrev pub IsStop : ℕ → ℕ → List Item → Type 0
IsStop p off [] = p ≡ off
IsStop p off (function _ _ ∷ is) = p ≡ off
IsStop p off (label _ _ ∷ is) = IsStop p off is
IsStop p off (bundle _ b ∷ is) = (p ≡ off) ⊎ IsStop p (off + size_of b) is
IsStop p off (faulty _ _ ∷ is) = IsStop p off is

stops_here : (off : ℕ) (is : List Item) → IsStop off off is
stops_here off [] = refl
stops_here off (function l n ∷ is) = refl
stops_here off (label l n ∷ is) = stops_here off is
stops_here off (bundle l b ∷ is) = inl refl
stops_here off (faulty l k ∷ is) = stops_here off is

stop_when : (t : Bool) (off p : ℕ) (is : List Item) (o : Option ℕ) → cond t (Some off) o ≡ Some p
    → (o ≡ Some p → IsStop p off is) → IsStop p off is
stop_when true off p is o e rest = let k : off ≡ p = cc in subst (λ q. IsStop q off is) k (stops_here off is)
stop_when false off p is o e rest = rest e

-- a label stands at a stop
pub label_stops : (off : ℕ) (is : List Item) (name : List ℕ) (p : ℕ) → place_of (labels_from off is) name ≡ Some p
    → IsStop p off is
label_stops off [] name p e = cc
label_stops off (function l n ∷ is) name p e = cc
label_stops off (label l n ∷ is) name p e =
    stop_when (bytes_eq name n) off p is (place_of (labels_from off is) name) e (label_stops off is name p)
label_stops off (bundle l b ∷ is) name p e = inr (label_stops (off + size_of b) is name p e)
label_stops off (faulty l k ∷ is) name p e = label_stops off is name p e

mark_here : (branched : ℕ → Bool) (off : ℕ) (is : List Item) → branched off ≡ true
    → place_of (labels_from off (mark branched off ++ is)) (label_name off) ≡ Some off
mark_here branched off is e = rw (e, bytes_eq_refl (label_name off)) refl

mark_there : (branched : ℕ → Bool) (off p : ℕ) (is : List Item) → off < 2 ^ 64 → p < 2 ^ 64 → p ≢ off
    → place_of (labels_from off (mark branched off ++ is)) (label_name p) ≡ place_of (labels_from off is) (label_name p)
mark_there branched off p is h k n = by_test (branched off)
  where
    by_test : (t : Bool) → place_of (labels_from off (cond t (label 0 (label_name off) ∷ []) [] ++ is)) (label_name p)
        ≡ place_of (labels_from off is) (label_name p)
    by_test true = let a : bytes_eq (label_name p) (label_name off) ≡ false = label_apart p off k h n in rw a refl
    by_test false = refl

stop_same : (p off : ℕ) (t : Bool) → p == off ≡ t → (p ≡ off) ⊎ (p ≢ off)
stop_same p off true e = inl (grind (arith, nat_tests))
stop_same p off false e = inr (λ k. let same : p == off ≡ true = grind (arith, nat_tests) in cc)

mark_last : (branched : ℕ → Bool) (off : ℕ) → branched off ≡ true → place_of (labels_from off (mark branched off))
    (label_name off) ≡ Some off
mark_last branched off e = rw (e, bytes_eq_refl (label_name off)) refl

bundle_marked : (branched : ℕ → Bool) (off p : ℕ) (d : DraftBundle) (r : List Item) (size : ℕ) (is : List Item)
    → size_of d ≡ size → off < 2 ^ 64 → p < 2 ^ 64 → (p ≡ off) ⊎ IsStop p (off + size) is → branched p ≡ true →
    (IsStop p (off + size) is → place_of (labels_from (off + size) r) (label_name p) ≡ Some p)
    → place_of (labels_from off (mark branched off ++ bundle 0 d ∷ r)) (label_name p) ≡ Some p
bundle_marked branched off p d r size is z h k s e rest =
    elim s [
      | inl here ↦ subst (λ q. place_of (labels_from off (mark branched off ++ bundle 0 d ∷ r)) (label_name q) ≡ Some q)
          (sym here) (mark_here branched off (bundle 0 d ∷ r) (subst (λ q. branched q ≡ true) here e))
      | inr there ↦ behind (stop_same p off (p == off) refl) there
    ]
  where
    behind : (p ≡ off) ⊎ (p ≢ off) → IsStop p (off + size) is
        → place_of (labels_from off (mark branched off ++ bundle 0 d ∷ r)) (label_name p) ≡ Some p
    behind (inl here) there = subst (λ q. place_of (labels_from off (mark branched off ++ bundle 0 d ∷ r))
        (label_name q) ≡ Some q) (sym here) (mark_here branched off (bundle 0 d ∷ r)
        (subst (λ q. branched q ≡ true) here e))
    behind (inr other) there = mark_there branched off p (bundle 0 d ∷ r) h k other
        ∙ ap (λ n. place_of (labels_from (off + n) r) (label_name p)) z ∙ rest there

-- where a stop is branched to, its label stands there
pub stop_marked : (names : ℕ → List ℕ) (functions labels : Lookup) (branched : ℕ → Bool) (off p : ℕ) (is : List Item)
    → Faultless functions labels off is → p < 2 ^ 64 → IsStop p off is → branched p ≡ true →
    place_of (labels_from off (relabeled names functions labels branched off is)) (label_name p) ≡ Some p
stop_marked names functions labels branched off p [] f h s e =
    let k : off ≡ p = sym s in
    subst (λ q. place_of (labels_from off (mark branched off)) (label_name q) ≡ Some q) k
    (mark_last branched off (subst (λ q. branched q ≡ true) s e))
stop_marked names functions labels branched off p (function l n ∷ is) f h s e =
    let k : off ≡ p = sym s in
    let r : List Item = function 0 n ∷ relabeled names functions (place_of (labels_from 0 is)) (branched_of functions
    (place_of (labels_from 0 is)) is) 0 is in
    subst (λ q. place_of (labels_from off (mark branched off ++ r)) (label_name q) ≡ Some q) k
    (mark_here branched off r (subst (λ q. branched q ≡ true) s e))
stop_marked names functions labels branched off p (label l n ∷ is) f h s e =
    stop_marked names functions labels branched off p is (rest_faultless functions labels off (label l n) is f) h s e
stop_marked names functions labels branched off p (faulty l k ∷ is) f h s e = let none = f.none in cc
stop_marked names functions labels branched off p (bundle l b ∷ is) f h s e =
    let r : List Item = relabeled names functions labels branched (off + size_of b) is in
    let d : DraftBundle = named names off (placed functions labels off b) in
    let small : off ≤ 4096 = f.within.offset in
    bundle_marked branched off p d r (size_of b) is (named_size names functions labels off b) (omega arith) h s e
    (λ t. stop_marked names functions labels branched (off + size_of b) p is (rest_faultless functions labels off
    (bundle l b) is f) h t e)

-- the printed operation is the same, with the places of the printed names
pub way_back : (p off : ℕ) → natural (pos off +ℤ (pos p -ℤ pos off)) ≡ p
way_back p off = let e : pos off +ℤ (pos p -ℤ pos off) ≡ pos p = omega (arith, ints) in rw e refl

pub known_place : (o : Option ℕ) → is_some o ≡ true → (p : ℕ) × (o ≡ Some p)
known_place (Some p) e = (p, refl)
known_place None e = cc

-- what the printed labels and names keep
pub record Keeps (names : ℕ → List ℕ) (functions labels printed : Lookup) (branched : ℕ → Bool) : Type 0 where
  pub on_label : (name : List ℕ) (p : ℕ) → labels name ≡ Some p → branched p ≡ true → printed (label_name p) ≡ Some p
  pub on_function : (name : List ℕ) (q : ℕ) → functions name ≡ Some q → functions (names q) ≡ Some q

-- the offset that a draft branches to is branched to
abbrev pub IsMarked : Lookup → (ℕ → Bool) → Draft → Type 0
IsMarked labels branched (to Branch name) = (p : ℕ) → labels name ≡ Some p → branched p ≡ true
IsMarked labels branched _ = Unit {0}

plain_same : (names : ℕ → List ℕ) (functions printed : Lookup) (off : ℕ) (o : Op) → is_flow o ≡ false
    → placed_op functions printed off (named_op names off o) ≡ o
plain_same names functions printed off (op.Branch z) e = cc
plain_same names functions printed off (op.Call n) e = cc
plain_same names functions printed off (op.BranchFill n) e = cc
plain_same names functions printed off _ e = refl

pub op_same : (names : ℕ → List ℕ) (functions labels printed : Lookup) (branched : ℕ → Bool) (off : ℕ) (d : Draft)
    → Keeps names functions labels printed branched → IsMarked labels branched d → IsPrintableDraft d →
    is_known functions labels d ≡ true → placed_op functions printed off (named_op names off
    (placed_op functions labels off d)) ≡ placed_op functions labels off d
op_same names functions labels printed branched off (ready o) k m f e = plain_same names functions printed off o f.1
op_same names functions labels printed branched off (to Branch name) k m f e =
    let t = known_place (labels name) e in
    let at : printed (label_name t.0) ≡ Some t.0 = k.on_label name t.0 t.1 (m t.0 t.1) in
    rw (t.1, way_back t.0 off, at) refl
op_same names functions labels printed branched off (to Call name) k m f e =
    let t = known_place (functions name) e in
    let at : functions (names t.0) ≡ Some t.0 = k.on_function name t.0 t.1 in
    rw (t.1, at) refl
op_same names functions labels printed branched off (to BranchFill name) k m f e =
    let t = known_place (functions name) e in
    let at : functions (names t.0) ≡ Some t.0 = k.on_function name t.0 t.1 in
    rw (t.1, at) refl

-- and its names are known
plain_known : (names : ℕ → List ℕ) (functions printed : Lookup) (off : ℕ) (o : Op) → is_flow o ≡ false
    → is_known functions printed (named_op names off o) ≡ true
plain_known names functions printed off (op.Branch z) e = cc
plain_known names functions printed off (op.Call n) e = cc
plain_known names functions printed off (op.BranchFill n) e = cc
plain_known names functions printed off _ e = refl

pub known_same : (names : ℕ → List ℕ) (functions labels printed : Lookup) (branched : ℕ → Bool) (off : ℕ) (d : Draft)
    → Keeps names functions labels printed branched → IsMarked labels branched d → IsPrintableDraft d →
    is_known functions labels d ≡ true → is_known functions printed (named_op names off
    (placed_op functions labels off d)) ≡ true
known_same names functions labels printed branched off (ready o) k m f e = plain_known names functions printed off o f.1
known_same names functions labels printed branched off (to Branch name) k m f e =
    let t = known_place (labels name) e in
    let at : printed (label_name t.0) ≡ Some t.0 = k.on_label name t.0 t.1 (m t.0 t.1) in
    rw (t.1, way_back t.0 off, at) refl
known_same names functions labels printed branched off (to Call name) k m f e =
    let t = known_place (functions name) e in
    let at : functions (names t.0) ≡ Some t.0 = k.on_function name t.0 t.1 in
    rw (t.1, at) refl
known_same names functions labels printed branched off (to BranchFill name) k m f e =
    let t = known_place (functions name) e in
    let at : functions (names t.0) ≡ Some t.0 = k.on_function name t.0 t.1 in
    rw (t.1, at) refl

-- each bundle's target is branched to
abbrev pub AllMarked : Lookup → Lookup → (ℕ → Bool) → ℕ → List Item → Type 0
AllMarked functions labels branched off is =
    (n : ℕ) → is_target n (targets_of (bundles_in functions labels off is)) ≡ true → branched n ≡ true

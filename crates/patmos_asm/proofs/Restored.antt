-- The printed statements have the same words.
use Rattle.std.proofs.Common.{arith, ◌≡◌, ◌∙◌, ℕ, ◌+◌, ◌≤◌, ◌==◌, ◌||◌, Bool, true, false, cond, List, [], ◌∷◌, ◌++◌, refl, ap, Option, Some, None}
use Rattle.std.specs.List.{list_any, cons_option}
use Rattle.std.proofs.lemmas.Bool.Decides.{nat_tests}
use Rattle.patmos_instr.specs.Bundles.{PlainBundle}
use Rattle.patmos_instr.specs.declared.instructions.Op.{Op}
use Rattle.patmos_code.specs.Codes.{code}
use Rattle.patmos_forms.specs.declared.forms.JumpKind.TheVariants.{Branch, Call, BranchFill}
use Rattle.patmos_syntax.specs.Drafts.{Draft, ready, to, DraftBundle, size_of}
use Rattle.patmos_syntax.specs.Items.{Item, function, label, bundle, faulty}
use Rattle.patmos_asm.specs.Assembly.{Lookup, size_from, place_of, labels_from, is_known, no_function, fault_of, placed_op, placed, words_from}
use Rattle.patmos_asm.specs.Printed.{Placed, target_of, targets_of, is_target, label_name, named}
use Rattle.patmos_asm.proofs.ReadBundles.{IsPrintableDraft}
use Rattle.patmos_asm.proofs.ParsedItems.{FitAll}
use Rattle.patmos_asm.proofs.Bodies.{bundles_in}
use Rattle.patmos_asm.proofs.Relabeled.{mark, branched_of, relabeled}
use Rattle.patmos_asm.proofs.Counted.{mark_alone, named_size, same_size}
use Rattle.patmos_asm.proofs.Stops.{label_stops, stop_marked, way_back, Keeps, IsMarked, op_same, AllMarked}
use Rattle.patmos_asm.proofs.Faultless.{Faultless, rest_faultless, no_fault_first, bundle_small}

-- the name of a function is at its place
abbrev pub Back : (ℕ → List ℕ) → Lookup → Type 0
Back names functions = (name : List ℕ) (q : ℕ) → functions name ≡ Some q → names q ≡ name

-- the printed labels of a function keep those that are branched to
pub function_keeps : (names : ℕ → List ℕ) (functions : Lookup) (is : List Item) → Back names functions
    → Faultless functions (place_of (labels_from 0 is)) 0 is →
    Keeps names functions (place_of (labels_from 0 is))
    (place_of (labels_from 0 (relabeled names functions (place_of (labels_from 0 is))
    (branched_of functions (place_of (labels_from 0 is)) is) 0 is)))
    (branched_of functions (place_of (labels_from 0 is)) is)
function_keeps names functions is back f =
    let inner : Lookup = place_of (labels_from 0 is) in
    record {
      on_label = λ name p e b. let small : p ≤ 4096 = f.within.in_function name p e in
          stop_marked names functions inner (branched_of functions inner is) 0 p is f (omega arith)
          (label_stops 0 is name p e) b;
      on_function = λ name q e. ap functions (back name q e) ∙ e;
    }

equal_itself : (n : ℕ) → n == n ≡ true
equal_itself n = grind (arith, nat_tests)

marked_first : (functions labels : Lookup) (branched : ℕ → Bool) (off : ℕ) (d : Draft) (b : PlainBundle)
    (rest : List Placed)
    → b.first.op ≡ placed_op functions labels off d →
    ((n : ℕ) → is_target n (targets_of ((off, b) ∷ rest)) ≡ true → branched n ≡ true) → IsMarked labels branched d
marked_first functions labels branched off (to Branch name) b rest e all =
    λ p h. all p (rw (e, h, way_back p off, equal_itself p) refl)
marked_first functions labels branched off _ b rest e all = tt

any_more : (o : Option ℕ) (n : ℕ) (ts : List ℕ) → list_any (λ t. n == t) ts ≡ true
    → list_any (λ t. n == t) (cons_option o ts) ≡ true
any_more None n ts e = e
any_more (Some t) n ts e = by_test (n == t)
  where
    by_test : (s : Bool) → (s || list_any (λ t. n == t) ts) ≡ true
    by_test true = refl
    by_test false = e

-- a bundle's target is branched to, and so are those of the rest
pub bundle_is_marked : (functions labels : Lookup) (branched : ℕ → Bool) (off l : ℕ) (b : DraftBundle) (is : List Item)
    → AllMarked functions labels branched off (bundle l b ∷ is) → IsMarked labels branched b.first.draft
bundle_is_marked functions labels branched off l b is all =
    marked_first functions labels branched off b.first.draft (placed functions labels off b)
    (bundles_in functions labels (off + size_of b) is) refl all

pub rest_marked : (functions labels : Lookup) (branched : ℕ → Bool) (off l : ℕ) (b : DraftBundle) (is : List Item)
    → AllMarked functions labels branched off (bundle l b ∷ is) → AllMarked functions labels branched (off
    + size_of b) is
rest_marked functions labels branched off l b is all n e =
    all n (any_more (target_of off (placed_op functions labels off b.first.draft)) n
    (targets_of (bundles_in functions labels (off + size_of b) is)) e)

-- the names of a bundle without a fault are known
pub bundle_known : (functions labels : Lookup) (off l : ℕ) (b : DraftBundle) (is : List Item)
    → Faultless functions labels off (bundle l b ∷ is) → is_known functions labels b.first.draft ≡ true
bundle_known functions labels off l b is f =
    let t = no_fault_first (bundle l b) (fault_of functions labels f.before (bundle l b)) _ f.none in
    (bundle_small (is_known functions labels b.first.draft) (f.before.size + size_of b) (f.before.image + size_of b)
    (no_function f.before) t.0).0

mark_words : (functions printed : Lookup) (branched : ℕ → Bool) (off : ℕ) (is : List Item)
    → words_from functions printed off (mark branched off ++ is) ≡ words_from functions printed off is
mark_words functions printed branched off is = by_test (branched off)
  where
    by_test : (t : Bool) → words_from functions printed off (cond t (label 0 (label_name off) ∷ []) [] ++ is)
        ≡ words_from functions printed off is
    by_test true = refl
    by_test false = refl

slots_same : (names : ℕ → List ℕ) (functions labels printed : Lookup) (branched : ℕ → Bool) (off : ℕ) (b : DraftBundle)
    → Keeps names functions labels printed branched → IsMarked labels branched b.first.draft →
    IsPrintableDraft b.first.draft → is_known functions labels b.first.draft ≡ true
    → placed functions printed off (named names off (placed functions labels off b)) ≡ placed functions labels off b
slots_same names functions labels printed branched off b k m f e =
    ap (λ (o : Op). record { first = record { guard = b.first.guard; op = o }; second = b.second })
    (op_same names functions labels printed branched off b.first.draft k m f e)

-- the words of the printed statements
pub same_words : (names : ℕ → List ℕ) (functions labels printed : Lookup) (branched : ℕ → Bool) (off : ℕ)
    (is : List Item) → Back names functions → Keeps names functions labels printed branched →
    AllMarked functions labels branched off is → Faultless functions labels off is → FitAll is →
    words_from functions printed off (relabeled names functions labels branched off is)
    ≡ words_from functions labels off is
same_words names functions labels printed branched off [] back k m f h =
    ap (words_from functions printed off) (mark_alone branched off) ∙ mark_words functions printed branched off []
same_words names functions labels printed branched off (label l n ∷ is) back k m f h =
    same_words names functions labels printed branched off is back k m (rest_faultless functions labels off
    (label l n) is f) h.1
same_words names functions labels printed branched off (faulty l c ∷ is) back k m f h = let none = f.none in cc
same_words names functions labels printed branched off (function l n ∷ is) back k m f h =
    let inner : Lookup = place_of (labels_from 0 is) in
    let targets : ℕ → Bool = branched_of functions inner is in
    let r : List Item = relabeled names functions inner targets 0 is in
    let rest : Faultless functions inner 0 is = rest_faultless functions labels off (function l n) is f in
    mark_words functions printed branched off (function 0 n ∷ r)
    ∙ ap (λ s. s ∷ words_from functions (place_of (labels_from 0 r)) 0 r) (same_size names functions inner targets 0 is)
    ∙ ap (λ ws. size_from is ∷ ws) (same_words names functions inner (place_of (labels_from 0 r)) targets 0 is back
    (function_keeps names functions is back rest) (λ t e. e) rest h.1)
same_words names functions labels printed branched off (bundle l b ∷ is) back k m f h =
    let r : List Item = relabeled names functions labels branched (off + size_of b) is in
    let d : DraftBundle = named names off (placed functions labels off b) in
    let known : is_known functions labels b.first.draft ≡ true = bundle_known functions labels off l b is f in
    mark_words functions printed branched off (bundle 0 d ∷ r)
    ∙ ap (λ s. code s ++ words_from functions printed (off + size_of d) r) (slots_same names functions labels printed
    branched off b k (bundle_is_marked functions labels branched off l b is m) h.0.draft known)
    ∙ ap (λ n. code (placed functions labels off b) ++ words_from functions printed (off + n) r) (named_size names
    functions labels off b)
    ∙ ap (λ ws. code (placed functions labels off b) ++ ws)
    (same_words names functions labels printed branched (off + size_of b) is back k
    (rest_marked functions labels branched off l b is m) (rest_faultless functions labels off (bundle l b) is f)
    h.1)

-- The printed statements have no fault.
use Rattle.std.proofs.Common.{arith, ◌≡◌, ◌∙◌, ℕ, ◌+◌, ◌^◌, ◌<◌, ◌≤◌, ◌==◌, ◌||◌, not, nat_lt, Bool, true, false, cond, List, [], ◌∷◌, ◌++◌, length, length-append, refl, ap, bytes_eq, Option, Some, None}
use Rattle.std.specs.Option.{option_or}
use Rattle.std.proofs.lemmas.Bool.Decides.{nat_tests}
use Rattle.std.proofs.lemmas.List.Folds.{list_any-append}
use Rattle.patmos_forms.specs.declared.faults.AsmKind.{AsmKind}
use Rattle.patmos_forms.specs.declared.faults.AsmKind.TheVariants.{NoLabel, LabelTwice, TooLarge, NoFunction}
use Rattle.patmos_asm.specs.declared.faults.AsmFault.{AsmFault}
use Rattle.patmos_syntax.specs.Drafts.{DraftBundle, size_of}
use Rattle.patmos_syntax.specs.Items.{Item, function, label, bundle, faulty}
use Rattle.patmos_asm.specs.Bounds.{InBounds}
use Rattle.patmos_asm.specs.Assembly.{Lookup, Before, place_of, labels_from, is_among, noted, is_known, no_function, fault_of, after, reported, first_fault, placed}
use Rattle.patmos_asm.specs.Printed.{label_name, named}
use Rattle.patmos_asm.proofs.ParsedItems.{FitAll}
use Rattle.patmos_asm.proofs.Relabeled.{mark, branched_of, relabeled}
use Rattle.patmos_asm.proofs.Counted.{mark_alone, named_size, label_apart}
use Rattle.patmos_asm.proofs.Stops.{Keeps, known_same, AllMarked}
use Rattle.patmos_asm.proofs.Restored.{Back, function_keeps, bundle_is_marked, rest_marked}
use Rattle.patmos_asm.proofs.Faultless.{Faultless, rest_faultless, no_fault_first, bundle_small, function_small}

-- what stands before a printed statement: these labels in place of others
abbrev pub relabeled_before : List (List ℕ) → Before → Before
relabeled_before ls before =
    record { functions = before.functions; labels = ls; size = before.size; image = before.image }

-- no label of an offset from this one on is among these
abbrev pub AreFree : ℕ → List (List ℕ) → Type 0
AreFree off ls = (n : ℕ) → off ≤ n → n < 2 ^ 64 → is_among (label_name n) ls ≡ false

free_later : (off later : ℕ) (ls : List (List ℕ)) → off ≤ later → AreFree off ls → AreFree later ls
free_later off later ls h free n k b = free n (omega (arith, h, k)) b

pub free_noted : (off : ℕ) (ls : List (List ℕ)) → off < 2 ^ 63 → AreFree off ls
    → AreFree (off + 1) (noted (label_name off) ls)
free_noted off ls h free n k b =
    let here : is_among (label_name off) ls ≡ false = free off (omega arith) (omega arith) in
    let there : is_among (label_name n) ls ≡ false = free n (omega arith) b in
    let apart : bytes_eq (label_name n) (label_name off) ≡ false =
    label_apart n off b (omega arith) (λ e. omega (arith, e)) in
    rw (here, list_any-append (bytes_eq (label_name n)) ls (label_name off ∷ []), there, apart) refl

-- statements have no fault where the first has none, nor the rest
pub none_first : (i : Item) (fault : Option AsmKind) (rest : Option AsmFault) → fault ≡ None → rest ≡ None
    → option_or (reported i fault) rest ≡ None
none_first i None rest e r = r
none_first i (Some f) rest e r = cc

pub label_none : (among none : Bool) → among ≡ false → none ≡ false
    → cond among (Some LabelTwice) (cond none (Some NoFunction) None) ≡ None
label_none among none a n = rw (a, n) refl

pub bundle_none : (known : Bool) (size image : ℕ) (o : Option AsmKind) → known ≡ true → size ≤ 4096
    → image ≤ 32768 → o ≡ None →
    cond (not known) (Some NoLabel) (cond (nat_lt 4096 size || nat_lt 32768 image) (Some TooLarge) o) ≡ None
bundle_none known size image o k s i e = grind (arith, nat_tests)

-- a printed label has no fault
mark_none : (functions printed : Lookup) (branched : ℕ → Bool) (off : ℕ) (before : Before) (ls : List (List ℕ))
    (is : List Item) → off < 2 ^ 63 → AreFree off ls →
    (branched off ≡ true → length before.functions == 0 ≡ false) → ((next : List (List ℕ)) → AreFree (off + 1) next
    → first_fault functions printed (relabeled_before next before) is ≡ None) →
    first_fault functions printed (relabeled_before ls before) (mark branched off ++ is) ≡ None
mark_none functions printed branched off before ls is h free some rest = by_test (branched off) refl
  where
    by_test : (t : Bool) → branched off ≡ t → first_fault functions printed (relabeled_before ls before)
        (cond t (label 0 (label_name off) ∷ []) [] ++ is) ≡ None
    by_test true e =
        none_first (label 0 (label_name off)) (fault_of functions printed (relabeled_before ls before)
        (label 0 (label_name off))) _
        (label_none (is_among (label_name off) ls) (length before.functions == 0) (free off (omega arith) (omega arith))
        (some e))
        (rest (noted (label_name off) ls) (free_noted off ls h free))
    by_test false e = rest ls (free_later off (off + 1) ls (omega arith) free)

grown : (among : Bool) (n : List ℕ) (names : List (List ℕ)) → among ≡ false
    → length (cond among names (names ++ n ∷ [])) == 0 ≡ false
grown true n names e = cc
grown false n names e = let z : length (names ++ n ∷ []) ≡ length names + 1 =
    omega (arith, length-append names (n ∷ [])) in grind (arith, nat_tests)

size_some : (b : DraftBundle) → 1 ≤ size_of b
size_some b = grind arith

-- the printed statements have no fault
pub none_printed : (names : ℕ → List ℕ) (functions labels printed : Lookup) (branched : ℕ → Bool) (off : ℕ)
    (before : Before) (ls : List (List ℕ)) (is : List Item) → before.size ≡ off →
    first_fault functions labels before is ≡ None → InBounds functions labels off → FitAll is → Back names functions
    → Keeps names functions labels printed branched → AllMarked functions labels branched off is →
    ((n : ℕ) → branched n ≡ true → length before.functions == 0 ≡ false) → AreFree off ls →
    first_fault functions printed (relabeled_before ls before) (relabeled names functions labels branched off is) ≡ None
none_printed names functions labels printed branched off before ls [] at e w h back k m some free =
    let small : off ≤ 4096 = w.offset in
    ap (first_fault functions printed (relabeled_before ls before)) (mark_alone branched off)
    ∙ mark_none functions printed branched off before ls [] (omega arith) free (some off) (λ next f. refl)
none_printed names functions labels printed branched off before ls (label l n ∷ is) at e w h back k m some free =
    let t = no_fault_first (label l n) (fault_of functions labels before (label l n)) _ e in
    none_printed names functions labels printed branched off (after before (label l n)) ls is at t.1 w h.1
    back k m some free
none_printed names functions labels printed branched off before ls (faulty l c ∷ is) at e w h back k m some free = cc
none_printed names functions labels printed branched off before ls (function l n ∷ is) at e w h back k m some free =
    let small : off ≤ 4096 = w.offset in
    let t = no_fault_first (function l n) (fault_of functions labels before (function l n)) _ e in
    let s = function_small (is_among n before.functions) (before.image + 1) t.0 in
    let inner : Lookup = place_of (labels_from 0 is) in
    let targets : ℕ → Bool = branched_of functions inner is in
    let r : List Item = relabeled names functions inner targets 0 is in
    let rest : Faultless functions inner 0 is = rest_faultless functions labels off (function l n) is
    (record { before = before; at_is = at; none = e; within = w }) in
    mark_none functions printed branched off before ls (function 0 n ∷ r) (omega arith) free (some off)
    (λ next f. none_first (function 0 n) (fault_of functions printed (relabeled_before next before) (function 0 n)) _
    t.0
    (none_printed names functions inner (place_of (labels_from 0 r)) targets 0 (after before (function l n)) [] is refl
    t.1 rest.within h.1 back
    (function_keeps names functions is back rest) (λ q u. u) (λ q u. grown (is_among n before.functions) n
    before.functions s.0) (λ q u v. refl)))
none_printed names functions labels printed branched off before ls (bundle l b ∷ is) at e w h back k m some free =
    let small : off ≤ 4096 = w.offset in
    let t = no_fault_first (bundle l b) (fault_of functions labels before (bundle l b)) _ e in
    let s = bundle_small (is_known functions labels b.first.draft) (before.size + size_of b) (before.image + size_of b)
    (no_function before) t.0 in
    let f : Faultless functions labels off (bundle l b ∷ is) =
    record { before = before; at_is = at; none = e; within = w } in
    let rest : Faultless functions labels (off + size_of b) is =
    rest_faultless functions labels off (bundle l b) is f in
    let r : List Item = relabeled names functions labels branched (off + size_of b) is in
    let d : DraftBundle = named names off (placed functions labels off b) in
    let z : size_of d ≡ size_of b = named_size names functions labels off b in
    let known : is_known functions printed d.first.draft ≡ true =
    known_same names functions labels printed branched off b.first.draft k (bundle_is_marked functions labels branched
    off l b is m) h.0.draft s.0 in
    mark_none functions printed branched off before ls (bundle 0 d ∷ r) (omega arith) free (some off)
    (λ next u. none_first (bundle 0 d) (fault_of functions printed (relabeled_before next before) (bundle 0 d)) _
    (bundle_none (is_known functions printed d.first.draft) (before.size + size_of d) (before.image + size_of d)
    (no_function before) known (omega (arith, z, s.1)) (omega (arith, z, s.2)) s.3)
    (ap (λ n. first_fault functions printed (record {
      functions = before.functions;
      labels = next;
      size = before.size
          + n;
      image = before.image + n;
    }) r) z
    ∙ none_printed names functions labels printed branched (off + size_of b) (after before (bundle l b)) next is (omega
    (arith, at)) t.1 rest.within h.1 back k
    (rest_marked functions labels branched off l b is m) some (free_later (off + 1) (off + size_of b) next
    (omega (arith, size_some b)) u)))

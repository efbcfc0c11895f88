-- The statements that are printed of a code can be read back.
use Rattle.std.proofs.Common.{arith, ◌≡◌, ◌∙◌, ℕ, ◌+◌, ◌≤◌, Bool, true, false, cond, List, [], ◌∷◌, ◌++◌, sym, subst, Option, Some, None}
use Rattle.patmos_instr.specs.declared.instructions.Instr.{Instr}
use Rattle.patmos_instr.specs.declared.instructions.Op.{Op}
use Rattle.patmos_instr.specs.declared.instructions.Op.TheVariants as op
use Rattle.patmos_forms.specs.declared.forms.JumpKind.TheVariants.{Branch, Call, BranchFill}
use Rattle.patmos_forms.specs.Readers.{is_name}
use Rattle.patmos_syntax.specs.Drafts.{Draft, ready, to, DraftBundle, is_long_draft, size_of}
use Rattle.patmos_syntax.specs.Items.{Item, function, label, bundle, faulty}
use Rattle.patmos_asm.specs.Bounds.{InBounds}
use Rattle.patmos_asm.specs.Assembly.{Lookup, place_of, labels_from, is_known, placed_op, placed}
use Rattle.patmos_asm.specs.Printed.{label_name, named_op, named}
use Rattle.patmos_asm.proofs.ReadBundles.{IsPrintable, IsPrintableDraft, IsPrintableSecond}
use Rattle.patmos_asm.proofs.ReadLines.{ArePrintable}
use Rattle.patmos_asm.proofs.ParsedItems.{FitAll}
use Rattle.patmos_asm.proofs.Relabeled.{mark, branched_of, relabeled}
use Rattle.patmos_asm.proofs.Counted.{mark_alone, named_long, label_is_name}
use Rattle.patmos_asm.proofs.Stops.{way_back, known_place}
use Rattle.patmos_asm.proofs.Restored.{Back, bundle_known}
use Rattle.patmos_asm.proofs.Faultless.{Faultless, rest_faultless}

mark_printable : (branched : ℕ → Bool) (off : ℕ) (is : List Item) → off ≤ 4096 → ArePrintable is
    → ArePrintable (mark branched off ++ is)
mark_printable branched off is h p = by_test (branched off)
  where
    by_test : (t : Bool) → ArePrintable (cond t (label 0 (label_name off) ∷ []) [] ++ is)
    by_test true = (label_is_name off (omega arith), p)
    by_test false = p

plain_printable : (names : ℕ → List ℕ) (off : ℕ) (o : Op) → IsPrintableDraft (ready o)
    → IsPrintableDraft (named_op names off o)
plain_printable names off (op.Branch z) f = let e = f.1 in cc
plain_printable names off (op.Call n) f = let e = f.1 in cc
plain_printable names off (op.BranchFill n) f = let e = f.1 in cc
plain_printable names off _ f = f

function_name : (names : ℕ → List ℕ) (functions : Lookup) (name : List ℕ) (q : ℕ) → Back names functions
    → functions name ≡ Some q → is_name name ≡ true → is_name (names q) ≡ true
function_name names functions name q back e f = rw (back name q e) f

op_printable : (names : ℕ → List ℕ) (functions labels : Lookup) (off : ℕ) (d : Draft) → Back names functions
    → InBounds functions labels off → IsPrintableDraft d → is_known functions labels d ≡ true →
    IsPrintableDraft (named_op names off (placed_op functions labels off d))
op_printable names functions labels off (ready o) back w f e = plain_printable names off o f
op_printable names functions labels off (to Branch name) back w f e =
    let t = known_place (labels name) e in
    let small : t.0 ≤ 4096 = w.in_function name t.0 t.1 in
    let n : is_name (label_name t.0) ≡ true = label_is_name t.0 (omega arith) in
    rw (t.1, way_back t.0 off) n
op_printable names functions labels off (to Call name) back w f e =
    let t = known_place (functions name) e in
    let n : is_name (names t.0) ≡ true = function_name names functions name t.0 back t.1 f in
    rw t.1 n
op_printable names functions labels off (to BranchFill name) back w f e =
    let t = known_place (functions name) e in
    let n : is_name (names t.0) ≡ true = function_name names functions name t.0 back t.1 f in
    rw t.1 n

second_printable : (d e : Draft) (second : Option Instr) → is_long_draft e ≡ is_long_draft d
    → IsPrintableSecond d second → IsPrintableSecond e second
second_printable d e None l s = tt
second_printable d e (Some i) l s = (s.0, s.1, s.2, l ∙ s.3)

bundle_printable : (names : ℕ → List ℕ) (functions labels : Lookup) (off : ℕ) (b : DraftBundle) → Back names functions
    → InBounds functions labels off → IsPrintable b → is_known functions labels b.first.draft ≡ true →
    IsPrintable (named names off (placed functions labels off b))
bundle_printable names functions labels off b back w p e = record {
  guard = p.guard;
  draft = op_printable names functions labels off b.first.draft back w p.draft e;
  second = second_printable b.first.draft (named_op names off (placed_op functions labels off b.first.draft)) b.second
      (named_long names functions labels off b.first.draft) p.second;
}

pub all_printable : (names : ℕ → List ℕ) (functions labels : Lookup) (branched : ℕ → Bool) (off : ℕ) (is : List Item)
    → Back names functions → Faultless functions labels off is → FitAll is →
    ArePrintable (relabeled names functions labels branched off is)
all_printable names functions labels branched off [] back f h =
    subst ArePrintable (sym (mark_alone branched off)) (mark_printable branched off [] f.within.offset tt)
all_printable names functions labels branched off (label l n ∷ is) back f h =
    all_printable names functions labels branched off is back (rest_faultless functions labels off (label l n) is f) h.1
all_printable names functions labels branched off (faulty l c ∷ is) back f h = let none = f.none in cc
all_printable names functions labels branched off (function l n ∷ is) back f h =
    let inner : Lookup = place_of (labels_from 0 is) in
    let targets : ℕ → Bool = branched_of functions inner is in
    mark_printable branched off (function 0 n ∷ relabeled names functions inner targets 0 is) f.within.offset (
      h.0,
      all_printable names functions inner targets 0 is back (rest_faultless functions labels off
          (function l n) is f) h.1,
    )
all_printable names functions labels branched off (bundle l b ∷ is) back f h =
    mark_printable branched off (bundle 0 (named names off (placed functions labels off b))
    ∷ relabeled names functions labels branched (off + size_of b) is) f.within.offset (
      bundle_printable names functions labels off b back f.within h.0 (bundle_known functions labels off l b is f),
      all_printable names functions labels branched (off + size_of b) is back (rest_faultless functions labels off
          (bundle l b) is f) h.1,
    )

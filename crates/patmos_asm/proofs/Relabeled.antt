-- The statements that are printed of a code, and their text.
use Rattle.std.proofs.Common.{arith, ◌≡◌, ◌∙◌, ℕ, suc, ◌+◌, ◌-◌, Bool, true, false, cond, if◌then◌else◌, List, [], ◌∷◌, ◌++◌, length, take, drop, get_or, map, refl, sym, ap, append_assoc, length-append, codes}
use Rattle.std.specs.List.{zip}
use Rattle.std.proofs.lemmas.List.{append-nil}
use Rattle.patmos_code.specs.Codes.{code}
use Rattle.patmos_syntax.specs.Drafts.{DraftBundle, size_of}
use Rattle.patmos_syntax.specs.Items.{Item, function, label, bundle, faulty}
use Rattle.patmos_asm.specs.Written.{bundle_text}
use Rattle.patmos_asm.specs.Assembly.{Lookup, size_from, place_of, labels_from, functions_from, names_from, placed, words_from}
use Rattle.patmos_asm.specs.Printed.{Placed, bundles_from, targets_of, is_target, label_name, named, label_line, lines_of, head_line, function_text, body_at, functions_text}
use Rattle.patmos_asm.proofs.Images.{code_size}
use Rattle.patmos_asm.proofs.Faultless.{Faultless, rest_faultless}
use Rattle.patmos_asm.proofs.ReadLines.{line_text, text_of}
use Rattle.patmos_asm.proofs.ParsedItems.{FitAll}
use Rattle.patmos_asm.proofs.Bodies.{body_from, bundles_in, body_taken, body_size, body_decoded}

-- a label where the offset is branched to
abbrev pub mark : (ℕ → Bool) → ℕ → List Item
mark branched off = if branched off then label 0 (label_name off) ∷ [] else []

-- the offsets that the function's bundles branch to
abbrev pub branched_of : Lookup → Lookup → List Item → ℕ → Bool
branched_of functions labels is n = is_target n (targets_of (bundles_in functions labels 0 is))

-- the statements that are printed of these
abbrev pub relabeled : (ℕ → List ℕ) → Lookup → Lookup → (ℕ → Bool) → ℕ → List Item → List Item
relabeled names functions labels branched off [] = mark branched off
relabeled names functions labels branched off (function _ n ∷ is) =
    mark branched off ++ function 0 n ∷ relabeled names functions (place_of (labels_from 0 is)) (branched_of functions
    (place_of (labels_from 0 is)) is) 0 is
relabeled names functions labels branched off (label _ _ ∷ is) = relabeled names functions labels branched off is
relabeled names functions labels branched off (bundle _ b ∷ is) =
    mark branched off ++ bundle 0 (named names off (placed functions labels off b))
    ∷ relabeled names functions labels branched (off + size_of b) is
relabeled names functions labels branched off (faulty _ _ ∷ is) = relabeled names functions labels branched off is

text_of-append : (a b : List Item) → text_of (a ++ b) ≡ text_of a ++ text_of b
text_of-append [] b = refl
text_of-append (i ∷ is) b =
    ap (λ t. line_text i ++ t) (text_of-append is b) ∙ sym (append_assoc (line_text i) (text_of is) (text_of b))

mark_text : (branched : ℕ → Bool) (off : ℕ) → text_of (mark branched off) ≡ label_line branched off
mark_text branched off = by_test (branched off)
  where
    by_test : (t : Bool) → text_of (cond t (label 0 (label_name off) ∷ []) [])
        ≡ cond t (label_name off ++ codes ":" ++ 10 ∷ []) []
    by_test true = append-nil (label_name off ++ codes ":" ++ 10 ∷ [])
    by_test false = refl

-- the functions from one on, with their starts
abbrev pub starts_with_names : ℕ → List Item → List (ℕ × List ℕ)
starts_with_names at is = zip (map (λ f. f.1) (functions_from at is)) (names_from is)

size_found : (pre rest : List ℕ) (size : ℕ) → get_or (pre ++ size ∷ rest) (length pre) 0 ≡ size
size_found [] rest size = refl
size_found (x ∷ xs) rest size = size_found xs rest size

drop_found : (pre rest : List ℕ) (size : ℕ) → drop (length pre + 1) (pre ++ size ∷ rest) ≡ rest
drop_found [] rest size = refl
drop_found (x ∷ xs) rest size =
    let e : length (x ∷ xs) + 1 ≡ suc (length xs + 1) = omega arith in
    ap (λ n. drop n (x ∷ (xs ++ size ∷ rest))) e ∙ drop_found xs rest size

body_found : (pre rest : List ℕ) (size at : ℕ) → length pre ≡ at → body_at (pre ++ size ∷ rest) (at + 1)
    ≡ take size rest
body_found pre rest size at e =
    let z : at + 1 - 1 ≡ length pre = omega (arith, e) in
    let k : at + 1 ≡ length pre + 1 = omega (arith, e) in
    ap (λ n. take (get_or (pre ++ size ∷ rest) n 0) (drop (at + 1) (pre ++ size ∷ rest))) z
    ∙ ap (λ n. take n (drop (at + 1) (pre ++ size ∷ rest))) (size_found pre rest size)
    ∙ ap (λ n. take size (drop n (pre ++ size ∷ rest))) k ∙ ap (take size) (drop_found pre rest size)

regroup_bundle : (m s t n l e : List ℕ) → m ++ (((s ++ t) ++ n) ++ (l ++ e)) ≡ ((((m ++ s) ++ t) ++ n) ++ l) ++ e
regroup_bundle m s t n l e = simp append_assoc

regroup_function : (h l b e : List ℕ) → h ++ (l ++ (b ++ e)) ≡ ((h ++ l) ++ b) ++ e
regroup_function h l b e = simp append_assoc

function_written : (names : ℕ → List ℕ) (functions : Lookup) (n : List ℕ) (body : List ℕ) (bundles : List Placed)
    (size : ℕ) → bundles_from 0 body ≡ bundles → length body ≡ size →
    function_text names n body ≡ head_line n ++ lines_of names (λ k. is_target k (targets_of bundles)) bundles
    ++ label_line (λ k. is_target k (targets_of bundles)) size
unfolding function_text
function_written names functions n body bundles size d s = rw (d, s) refl

-- the text of the printed statements is that of the code
pub relabeled_text : (names : ℕ → List ℕ) (functions labels : Lookup) (branched : ℕ → Bool) (off at : ℕ) (pre : List ℕ)
    (is : List Item) → length pre ≡ at → Faultless functions labels off is → FitAll is →
    text_of (relabeled names functions labels branched off is)
    ≡ lines_of names branched (bundles_in functions labels off is) ++ (label_line branched (off + size_from is)
    ++ functions_text names (pre ++ words_from functions labels off is) (starts_with_names at is))
relabeled_text names functions labels branched off at pre [] e f h =
    mark_text branched off ∙ sym (append-nil (label_line branched off)) ∙ ap (λ n. label_line branched n
    ++ []) (omega arith)
relabeled_text names functions labels branched off at pre (label l n ∷ is) e f h =
    relabeled_text names functions labels branched off at pre is e (rest_faultless functions labels off
    (label l n) is f) h.1
relabeled_text names functions labels branched off at pre (faulty l k ∷ is) e f h = let none = f.none in cc
relabeled_text names functions labels branched off at pre (bundle l b ∷ is) e f h =
    let c : List ℕ = code (placed functions labels off b) in
    let w : List ℕ = words_from functions labels (off + size_of b) is in
    let r : List Item = relabeled names functions labels branched (off + size_of b) is in
    let d : DraftBundle = named names off (placed functions labels off b) in
    let lines : List ℕ = lines_of names branched (bundles_in functions labels (off + size_of b) is) in
    let size : length (pre ++ c) ≡ at + size_of b =
    omega (arith, length-append pre c, e, code_size functions labels off b) in
    text_of-append (mark branched off) (bundle 0 d ∷ r)
    ∙ ap (λ t. t ++ ((codes "  " ++ bundle_text d ++ 10 ∷ []) ++ text_of r)) (mark_text branched off)
    ∙ ap (λ t. label_line branched off ++ ((codes "  " ++ bundle_text d ++ 10 ∷ []) ++ t))
    (relabeled_text names functions labels branched (off + size_of b) (at + size_of b) (pre ++ c) is size
    (rest_faultless functions labels off (bundle l b) is f) h.1)
    ∙ regroup_bundle (label_line branched off) (codes "  ") (bundle_text d) (10 ∷ []) lines
    (label_line branched (off + size_of b + size_from is) ++ functions_text names ((pre ++ c) ++ w) (starts_with_names
    (at + size_of b) is))
    ∙ ap (λ t. (label_line branched off ++ codes "  " ++ bundle_text d ++ 10 ∷ [] ++ lines)
    ++ (label_line branched (off + size_of b + size_from is) ++ functions_text names t (starts_with_names
    (at + size_of b) is))) (append_assoc pre c w)
    ∙ ap (λ n. (label_line branched off ++ codes "  " ++ bundle_text d ++ 10 ∷ [] ++ lines)
    ++ (label_line branched n ++ functions_text names (pre ++ (c ++ w)) (starts_with_names (at + size_of b) is)))
    (omega arith)
relabeled_text names functions labels branched off at pre (function l n ∷ is) e f h =
    let inner : Lookup = place_of (labels_from 0 is) in
    let targets : ℕ → Bool = branched_of functions inner is in
    let w : List ℕ = words_from functions inner 0 is in
    let r : List Item = relabeled names functions inner targets 0 is in
    let rest : Faultless functions inner 0 is = rest_faultless functions labels off (function l n) is f in
    let lines : List ℕ = lines_of names targets (bundles_in functions inner 0 is) in
    let size : length (pre ++ size_from is ∷ []) ≡ at + 1 = omega (arith, length-append pre (size_from is ∷ []), e) in
    let body : body_at (pre ++ size_from is ∷ w) (at + 1) ≡ body_from functions inner 0 is =
    body_found pre w (size_from is) at e ∙ body_taken functions inner 0 is in
    let decoded : bundles_from 0 (body_at (pre ++ size_from is ∷ w) (at + 1)) ≡ bundles_in functions inner 0 is =
    ap (bundles_from 0) body ∙ body_decoded functions inner 0 is rest h.1 in
    let long : length (body_at (pre ++ size_from is ∷ w) (at + 1)) ≡ size_from is =
    ap length body ∙ body_size functions inner 0 is in
    let whole : function_text names n (body_at (pre ++ size_from is ∷ w) (at + 1)) ≡ head_line n ++ lines
    ++ label_line targets (size_from is) =
    function_written names functions n (body_at (pre ++ size_from is ∷ w) (at + 1)) (bundles_in functions inner 0 is)
    (size_from is) decoded long in
    text_of-append (mark branched off) (function 0 n ∷ r)
    ∙ ap (λ t. t ++ (head_line n ++ text_of r)) (mark_text branched off)
    ∙ ap (λ t. label_line branched off ++ (head_line n ++ t)) (relabeled_text names functions inner targets 0 (at + 1)
    (pre ++ size_from is ∷ []) is size rest h.1)
    ∙ ap (λ t. label_line branched off ++ t) (regroup_function (head_line n) lines
    (label_line targets (0 + size_from is)) (functions_text names ((pre ++ size_from is ∷ []) ++ w)
    (starts_with_names (at + 1) is)))
    ∙ ap (λ k. label_line branched off ++ ((head_line n ++ lines ++ label_line targets k)
    ++ functions_text names ((pre ++ size_from is ∷ []) ++ w) (starts_with_names (at + 1) is))) (omega arith)
    ∙ ap (λ t. label_line branched off ++ ((head_line n ++ lines ++ label_line targets (size_from is))
    ++ functions_text names t (starts_with_names (at + 1) is))) (append_assoc pre (size_from is ∷ []) w)
    ∙ ap (λ t. label_line branched off ++ (t ++ functions_text names (pre ++ size_from is ∷ w) (starts_with_names
    (at + 1) is))) (sym whole)
    ∙ ap (λ k. label_line branched k ++ (function_text names n (body_at (pre ++ size_from is ∷ w) (at + 1))
    ++ functions_text names (pre ++ size_from is ∷ w) (starts_with_names (at + 1) is))) (omega arith)

-- The bundles of functions are the same wherever their calls find the same places.
use Rattle.std.proofs.Common.{◌≡◌, ℕ, zero, suc, ◌<◌, ◌==◌, true, false, if◌then◌else◌, List, [], ◌∷◌, ◌++◌, length, map, slice_index, refl, sym, ap, ◌∙◌, arith, inl, inr}
use Rattle.std.specs.Prelude.{nat_lt, nat_le, ◌&&◌}
use Rattle.std.specs.List.{flat_map}
use Rattle.std.proofs.lemmas.Bool.{and_parts, ltb-true, cases_lt}
use Rattle.std.proofs.lemmas.List.{map-append, length-map, get_or_past}
use Rattle.sp_shape.specs.Formed.{is_iteration, is_way, is_call, part_formed, parts_formed, function_formed, functions_formed, is_formed}
use Rattle.sp_shape.specs.Parts.{PlainPart, straight, repeats, calls_to, leaves, PlainParts, no_part, part, PlainShape}
use Rattle.sp_shape.specs.Words.{parts_words}
use Rattle.sp_tree.specs.declared.limits.TheConstants.{MOST_FUNCTIONS}
use Rattle.sp_shape.proofs.Functions.{each_formed}
use Rattle.tc_link.specs.Flat.{called, turned, flat_part, flat_parts}
use Rattle.tc_link.specs.Placed.{others, place, function, start_of, order, flat, codes, function_words, linked}
use Rattle.tc_link.proofs.Functions.{sizes_are}

-- ---- well-formed shapes

formed_and : (s : PlainShape) → is_formed s ≡ true → (functions_formed s.functions (length s.functions) ≡ true)
    × (nat_lt s.entry (length s.functions) ≡ true)
formed_and s h =
    let few = and_parts (nat_le (length s.functions) MOST_FUNCTIONS) (functions_formed s.functions (length s.functions)
    && nat_lt s.entry (length s.functions)) h in
    and_parts (functions_formed s.functions (length s.functions)) (nat_lt s.entry (length s.functions)) few.1

pub entry_there : (s : PlainShape) → is_formed s ≡ true → s.entry < length s.functions
entry_there s h = ltb-true s.entry (length s.functions) (formed_and s h).1

-- ---- the same places

mutual
  part_same : (f g : ℕ → ℕ) (n : ℕ) → ((k : ℕ) → k < n → f k ≡ g k) → (p : PlainPart) → part_formed n p ≡ true
      → flat_part f p ≡ flat_part g p
  part_same f g n same (straight bs) h = refl
  part_same f g n same (repeats count body tail) h =
      let both = and_parts (parts_formed n body) (is_iteration tail)
      (and_parts (nat_lt 0 count) (parts_formed n body && is_iteration tail) h).1 in
      ap (λ bs. bs ++ turned (parts_words body) tail) (parts_same f g n same body both.0)
  part_same f g n same (calls_to k tail) h =
      ap (λ start. called start tail) (same k (ltb-true k n (and_parts (nat_lt k n) (is_way is_call tail) h).0))
  part_same f g n same (leaves tail) h = refl

  parts_same : (f g : ℕ → ℕ) (n : ℕ) → ((k : ℕ) → k < n → f k ≡ g k) → (ps : PlainParts) → parts_formed n ps ≡ true
      → flat_parts f ps ≡ flat_parts g ps
  parts_same f g n same no_part h = refl
  parts_same f g n same (part p rest) h =
      let both = and_parts (part_formed n p) (parts_formed n rest) h in
      ap (λ bs. bs ++ flat_parts f rest) (part_same f g n same p both.0)
      ∙ ap (λ bs. flat_part g p ++ bs) (parts_same f g n same rest both.1)

function_same : (f g : ℕ → ℕ) (n : ℕ) → ((k : ℕ) → k < n → f k ≡ g k) → (ps : PlainParts) → function_formed n ps ≡ true
    → flat_parts f ps ≡ flat_parts g ps
function_same f g n same no_part h = refl
function_same f g n same (part (leaves tail) no_part) h = refl
function_same f g n same (part p rest) h =
    let both = and_parts (part_formed n p) (function_formed n rest) h in
    ap (λ bs. bs ++ flat_parts f rest) (part_same f g n same p both.0)
    ∙ ap (λ bs. flat_part g p ++ bs) (function_same f g n same rest both.1)

pub flat_so : (s : PlainShape) (start : ℕ → ℕ) → is_formed s ≡ true → ((k : ℕ) → k < length s.functions → start k
    ≡ start_of s k) → (k : ℕ) → k < length s.functions
    → flat_parts start (function s k) ≡ flat s k
flat_so s start h same k within =
    function_same start (start_of s) k (λ j below. same j (omega arith)) (function s k)
    (each_formed s.functions k (length s.functions) within (formed_and s h).0)

-- a number that no function has stands for one without parts
words_same : (s : PlainShape) (start : ℕ → ℕ) → is_formed s ≡ true → ((k : ℕ) → k < length s.functions → start k
    ≡ start_of s k) → (k : ℕ)
    → function_words start (function s k) ≡ function_words (start_of s) (function s k)
words_same s start h same k = elim (cases_lt k (length s.functions)) [
  | inl within ↦ ap (λ bs. parts_words (function s k) ∷ codes bs) (flat_so s start h same k within)
  | inr past ↦ let none : function s k ≡ no_part = get_or_past s.functions k no_part past in
      ap (function_words start) none ∙ ap (function_words (start_of s)) (sym none)
]

others_same : (f g : ℕ → ℕ) (entry n : ℕ) → ((k : ℕ) → k < n → f k ≡ g k) → map f (others entry n)
    ≡ map g (others entry n)
others_same f g entry zero same = refl
others_same f g entry (suc n) same =
    map-append f (others entry n) (if n == entry then [] else n ∷ [])
    ∙ ap (λ xs. xs ++ map f (if n == entry then [] else n ∷ [])) (others_same f g entry n
    (λ k below. same k (omega arith)))
    ∙ ap (λ xs. map g (others entry n) ++ xs)
    (elim (n == entry) as (λ b. map f (if b then [] else n ∷ []) ≡ map g (if b then [] else n ∷ []))
    [ true ↦ refl | false ↦ ap (λ x. x ∷ []) (same n (omega arith)) ])
    ∙ sym (map-append g (others entry n) (if n == entry then [] else n ∷ []))

-- ---- what was made

pub placed_so : (s : PlainShape) (sizes places : List ℕ) → sizes ≡ map parts_words s.functions
    → ((k : ℕ) → k < length sizes → slice_index places k ≡ place (slice_index sizes) s.entry k) → (k : ℕ)
    → k < length s.functions → slice_index places k ≡ start_of s k
placed_so s sizes places sized placed k within =
    placed k (omega (arith, ap length sized, length-map s.functions parts_words))
    ∙ ap (λ size. place size s.entry k) (sizes_are sizes s.functions sized)

pub words_so : (s : PlainShape) (start : ℕ → ℕ) → is_formed s ≡ true → ((k : ℕ) → k < length s.functions → start k
    ≡ start_of s k)
    → flat_map (λ k. function_words start (function s k)) (order s) ≡ (linked s).words
words_so s start h same =
    let pieces : ◌≡◌ {A = ℕ → List ℕ} (λ k. function_words start (function s k)) (λ k. function_words (start_of s)
    (function s k)) = λ i k. words_same s start h same k i in
    ap (λ f. flat_map f (order s)) pieces

pub starts_so : (s : PlainShape) (start : ℕ → ℕ) → is_formed s ≡ true → ((k : ℕ) → k < length s.functions → start k
    ≡ start_of s k) → map start (order s) ≡ (linked s).starts
starts_so s start h same =
    ap (λ x. x ∷ map start (others s.entry (length s.functions))) (same s.entry (entry_there s h))
    ∙ ap (λ xs. start_of s s.entry ∷ xs) (others_same start (start_of s) s.entry (length s.functions) same)

-- A core that fetches the bundles of functions follows their trails, each up to its return.
use Rattle.std.proofs.Common.{◌≡◌, ℕ, zero, suc, ◌+◌, ◌<◌, ◌≤◌, ◌⊎◌, ◌==◌, nat_lt, nat_le, Bool, true, false, ◌&&◌, if◌then◌else◌, Option, List, [], ◌∷◌, ◌++◌, length, slice_index_or, is_some, refl, sym, ap, ◌∙◌, subst, arith, true≢false, append-nil, append_assoc, inl, inr}
use Rattle.std.specs.Bool.{MatchBool}
use Rattle.std.specs.Prelude.{◌||◌}
use Rattle.std.specs.List.{All}
use Rattle.std.specs.Cmp.{nat_eq_equiv}
use Rattle.std.proofs.lemmas.Map.Views.{list_any-from_Contains}
use Rattle.std.proofs.lemmas.Bool.{and_parts, cases_lt, ltb-true, eqb-true, eqb-false}
use Rattle.patmos_code.specs.Images.{Parts}
use Rattle.patmos_instr.specs.Bundles.{PlainBundle}
use Rattle.patmos_instr.specs.Instructions.{is_long}
use Rattle.patmos_model.specs.Site.{size_at}
use Rattle.sp_shape.specs.Formed.{part_formed, function_formed, functions_formed, is_formed}
use Rattle.sp_tree.specs.declared.limits.TheConstants.{MOST_FUNCTIONS}
use Rattle.patmos_model.specs.Begin.{entry}
use Rattle.patmos_sem.specs.Registers.{FitsRegisters}
use Rattle.patmos_instr.specs.Bundles.{FitsBundle}
use Rattle.sp_shape.specs.Parts.{PlainPart, straight, repeats, calls_to, leaves, PlainParts, no_part, part, PlainShape}
use Rattle.sp_shape.specs.Run.{Run, Back, Sources, run_late}
use Rattle.sp_shape.specs.Trail.{Step, all_done, part_trail, parts_trail, trails, trail}
use Rattle.sp_shape.specs.Iterating.{PartsIteration, back_of, FunctionsIteration, ShapeIterations}
use Rattle.sp_shape.specs.Words.{bundle_words, part_words, parts_words}
use Rattle.sp_shape.proofs.Functions.{each_formed}
use Rattle.tc_link.specs.Backs.{part_backs, parts_backs, backs, backs_of}
use Rattle.tc_link.specs.Fits.{FitsImage}
use Rattle.tc_link.specs.Placed.{function, start_of, flat, linked}
use Rattle.tc_link.specs.Stands.{HasAt}
use Rattle.tc_link.specs.Flat.{flat_part, flat_parts}
use Rattle.tc_link.specs.Dues.{way_dues, part_dues, parts_dues, dues, dues_of}
use Rattle.patmos_model.specs.declared.flow.Goal.{Goal}
use Rattle.patmos_model.specs.declared.flow.Goal.TheVariants as goal
use Rattle.tc_link.specs.Walk.{Walk, due, walk_from, Follows}
use Rattle.tc_link.proofs.Counted.{flat_part_words, flat_words}
use Rattle.tc_link.proofs.Fetched.{all_fetched}
use Rattle.tc_link.proofs.Standing.{size_stands, flat_stands}
use Rattle.tc_link.proofs.Started.{started}
use Rattle.tc_link.proofs.Tails.{Left, return_goes}
use Rattle.tc_link.proofs.Trails.{Starts, Callees, fetch_front, fetch_back, left_then, place_in, part_goes}
use Rattle.tc_link.proofs.Walking.{FetchAt, Comes}

-- ---- a function has words

some_words : (two : Bool) → 0 < (if two then 2 else 1)
some_words true = omega arith
some_words false = omega arith

tail_words : (b : PlainBundle) → 0 < bundle_words b
tail_words b = some_words (is_long b.first.op || is_some b.second)

function_some : (number : ℕ) (ps : PlainParts) → function_formed number ps ≡ true → 0 < parts_words ps
function_some number no_part formed = absurd (true≢false (sym formed))
function_some number (part (leaves []) no_part) formed = absurd (true≢false (sym formed))
function_some number (part (leaves (b ∷ bs)) no_part) formed = omega (arith, tail_words b)
function_some number (part (leaves tail) (part p rest)) formed = absurd (true≢false (sym formed))
function_some number (part (straight bs) rest) formed =
    omega (
      arith,
      function_some number rest (and_parts (part_formed number (straight bs))
          (function_formed number rest) formed).1,
    )
function_some number (part (repeats count body tail) rest) formed =
    omega (
      arith,
      function_some number rest (and_parts (part_formed number (repeats count body tail))
          (function_formed number rest) formed).1,
    )
function_some number (part (calls_to k tail) rest) formed =
    omega (
      arith,
      function_some number rest (and_parts (part_formed number (calls_to k tail))
          (function_formed number rest) formed).1,
    )

-- ---- a function

module _ (image : Parts) (from : Sources) (start : ℕ → ℕ) (f : ℕ → List Step) (goals : ℕ → Back → List (Option Goal))
    (places : ℕ → List Back) (Called : ℕ → Run → Type 0) (number : ℕ)
    (callees : Callees image from start f goals places Called number) (home : Back) (base : ℕ)
    (starts : Starts image base) where
  first_then : (p : PlainPart) (more : PlainParts) (at : ℕ) (rest : List Back) (m : Run) (w : Walk)
      → (part_formed number p && function_formed number more) ≡ true → at + parts_words (part p more)
      ≡ size_at image base
      → FetchAt image base at (flat_parts start (part p more))
      → Comes image base at (parts_backs places base at (part p more) ++ rest) m w
      → PartsIteration (run_late from) f Called home (part p more) m
      → ((x : Walk) → function_formed number more ≡ true → at + part_words p + parts_words more ≡ size_at image base
      → FetchAt image base (at + part_words p) (flat_parts start more)
      → Comes image base (at + part_words p) (parts_backs places base (at + part_words p) more ++ rest) (run_late from
      (part_trail f p) m) x
      → PartsIteration (run_late from) f Called home more (run_late from (part_trail f p) m)
      → Left image from (parts_trail f more) (parts_dues start goals home base (at + part_words p) more) home rest x
      (run_late from (parts_trail f more) (run_late from (part_trail f p) m)))
      → Left image from (parts_trail f (part p more)) (parts_dues start goals home base at (part p more)) home rest w
      (run_late from (parts_trail f (part p more)) m)
  first_then p more at rest m w formed all h c iterations others =
      let a = and_parts (part_formed number p) (function_formed number more) formed in
      let next = at + part_words p in
      let later = parts_backs places base next more ++ rest in
      let g = part_goes image from start f goals places Called number callees home base starts p at later m w a.0
      (omega (arith, all, function_some number more a.1)) (fetch_front image base at (flat_part start p)
      (flat_parts start more) h)
      (subst (λ l. Comes image base at l m w) (append_assoc (part_backs places base at p)
      (parts_backs places base next more) rest) c) iterations.0 in
      left_then image from (part_trail f p) (parts_trail f more) (part_dues start goals home base at p)
      (parts_dues start goals home base next more) base next home later rest m w g
      (others g.last a.1 (omega (arith, all)) (fetch_back image base at (flat_part start p) (flat_parts start more)
      (part_words p) (flat_part_words start p) h) g.comes iterations.1)

  function_goes : (ps : PlainParts) (at : ℕ) (rest : List Back) (m : Run) (w : Walk) → function_formed number ps ≡ true
      → at + parts_words ps ≡ size_at image base → FetchAt image base at (flat_parts start ps)
      → Comes image base at (parts_backs places base at ps ++ rest) m w
      → PartsIteration (run_late from) f Called home ps m
      → Left image from (parts_trail f ps) (parts_dues start goals home base at ps) home rest w (run_late from
      (parts_trail f ps) m)
  function_goes no_part at rest m w formed all h c iterations = absurd (true≢false (sym formed))
  function_goes (part (leaves tail) no_part) at rest m w formed all h c iterations =
      subst (λ ds. Left image from (parts_trail f (part (leaves tail) no_part)) ds home rest w
      (run_late from (parts_trail f (part (leaves tail) no_part)) m))
      (sym (append-nil (way_dues (goal.Return home.base home.offset) tail)))
      (subst (λ steps. Left image from steps (way_dues (goal.Return home.base home.offset) tail) home rest w
      (run_late from steps m)) (sym (append-nil (all_done tail)))
      (return_goes image from tail home base at rest m w formed (fetch_front image base at tail [] h) c iterations.0))
  function_goes (part (leaves tail) (part p more)) at rest m w formed all h c iterations =
      absurd (true≢false (sym formed))
  function_goes (part (straight bs) more) at rest m w formed all h c iterations =
      first_then (straight bs) more at rest m w formed all h c iterations (λ x formed all h c iterations.
      function_goes more (at + part_words (straight bs)) rest (run_late from (part_trail f (straight bs)) m) x
      formed all h c iterations)
  function_goes (part (repeats count body tail) more) at rest m w formed all h c iterations =
      first_then (repeats count body tail) more at rest m w formed all h c iterations
      (λ x formed all h c iterations. function_goes more (at + part_words (repeats count body tail)) rest
      (run_late from (part_trail f (repeats count body tail)) m) x formed all h c iterations)
  function_goes (part (calls_to k tail) more) at rest m w formed all h c iterations =
      first_then (calls_to k tail) more at rest m w formed all h c iterations (λ x formed all h c iterations.
      function_goes more (at + part_words (calls_to k tail)) rest (run_late from (part_trail f (calls_to k tail)) m)
      x formed all h c iterations)

-- ---- functions by their numbers

-- the functions of an image, each where it starts
record Stand (image : Parts) (start : ℕ → ℕ) (fs : List PlainParts) : Type 0 where
  pub starts : (k : ℕ) → k < length fs → Starts image (start k)
  pub size : (k : ℕ) → k < length fs → size_at image (start k) ≡ parts_words (slice_index_or fs k no_part)
  pub bundles : (k : ℕ) → k < length fs → FetchAt image (start k) 0 (flat_parts start (slice_index_or fs k no_part))

functions_go : (image : Parts) (from : Sources) (start : ℕ → ℕ) (fs : List PlainParts) → Stand image start fs → (n : ℕ)
    → n ≤ length fs → functions_formed fs n ≡ true → (k : ℕ) → k < n → (rest : List Back) (m : Run) (w : Walk)
    → Comes image (start k) 0 (backs start fs n k ++ rest) m w → FunctionsIteration (run_late from) fs n k m
    → Left image from (trails fs n k) (dues start fs n k (back_of m)) (back_of m) rest w (run_late from
    (trails fs n k) m)
functions_go image from start fs stand zero within formed k less rest m w c iterations = absurd (omega (arith, less))
functions_go image from start fs stand (suc n) within formed k less rest m w c iterations =
    let a = and_parts (functions_formed fs n) (function_formed n (slice_index_or fs n no_part)) formed in
    by a.1 (record {
      placed = λ j earlier.
          let there : j < length fs = omega (arith, earlier, within) in
          place_in image from (start j) 0 (stand.starts j there)
          (omega (
            arith,
            stand.size j there,
            function_some j (slice_index_or fs j no_part)
                (each_formed fs j n earlier a.0),
          ));
      follows = functions_go image from start fs stand n (omega (arith, within)) a.0;
    }) (k == n) refl c iterations
  where
    by : function_formed n (slice_index_or fs n no_part) ≡ true
        → Callees image from start (trails fs n) (dues start fs n) (backs start fs n) (FunctionsIteration
        (run_late from) fs n) n → (b : Bool) → (k == n) ≡ b
        → Comes image (start k) 0 ((if b then parts_backs (backs start fs n) (start n) 0 (slice_index_or fs n no_part)
        else backs start fs n k) ++ rest) m w
        → MatchBool b (PartsIteration (run_late from) (trails fs n) (FunctionsIteration (run_late from) fs n)
        (back_of m) (slice_index_or fs n no_part) m) (FunctionsIteration (run_late from) fs n k m)
        → Left image from (if b then parts_trail (trails fs n) (slice_index_or fs n no_part) else trails fs n k)
        (if b then parts_dues start (dues start fs n) (back_of m) (start n) 0 (slice_index_or fs n no_part) else dues
        start fs n k (back_of m)) (back_of m) rest w
        (run_late from (if b then parts_trail (trails fs n) (slice_index_or fs n no_part) else trails fs n k) m)
    by own callees true is c iterations =
        let there : n < length fs = omega (arith, within) in
        function_goes image from start (trails fs n) (dues start fs n) (backs start fs n)
        (FunctionsIteration (run_late from) fs n) n callees (back_of m) (start n) (stand.starts n there)
        (slice_index_or fs n no_part) 0 rest m w own
        (omega (arith, stand.size n there)) (stand.bundles n there)
        (subst (λ j. Comes image (start j) 0 (parts_backs (backs start fs n) (start n) 0 (slice_index_or fs n no_part)
        ++ rest) m w) (eqb-true k n is) c) iterations
    by own callees false other c iterations = callees.follows k (earlier (cases_lt k n)) rest m w c iterations
      where
        earlier : (k < n) ⊎ (n ≤ k) → k < n
        earlier (inl lt) = lt
        earlier (inr ge) = absurd (eqb-false k n other (omega (arith, ge, less)))

-- ---- shapes

shape_stands : (s : PlainShape) → FitsImage s → ((k : ℕ) → k < length s.functions → All FitsBundle (flat s k))
    → Stand (linked s) (start_of s) s.functions
shape_stands s small fits = record {
  starts = λ k within.
      record {
        is_start = list_any-from_Contains nat_eq_equiv (start_of s k) (linked s).starts (started s k within);
        small = omega (arith, size_stands s k within, small.small k within);
      };
  size = size_stands s;
  bundles = λ k within.
      let here : start_of s k ≡ start_of s k + 0 = omega arith in
      all_fetched (linked s) (start_of s k) 0 (flat s k) (fits k within)
      (omega (arith, size_stands s k within, flat_words (start_of s) (function s k)))
      (subst (λ n. HasAt (linked s).words n (flat s k)) here (flat_stands s k within));
}

pub shape_followed : (s : PlainShape) (from : Sources) (m : Run) → is_formed s ≡ true → FitsImage s
    → ((k : ℕ) → k < length s.functions → All FitsBundle (flat s k)) → FitsRegisters m.regs → m.backs ≡ backs_of s
    → ShapeIterations (run_late from) s m → Follows (linked s) from (trail s) (dues_of s (back_of m)) (walk_from
    (entry (linked s)) m)
shape_followed s from m formed small fits registers given iterations =
    let a = and_parts (nat_le (length s.functions) MOST_FUNCTIONS) (functions_formed s.functions (length s.functions)
    && nat_lt s.entry (length s.functions)) formed in
    let b = and_parts (functions_formed s.functions (length s.functions)) (nat_lt s.entry (length s.functions)) a.1 in
    let w = walk_from (start_of s s.entry) m in
    let l = functions_go (linked s) from (start_of s) s.functions (shape_stands s small fits) (length s.functions)
    (omega arith) b.0 s.entry (ltb-true s.entry (length s.functions) b.1) [] m w
    (record {
      placed = tt;
      lands = refl;
      run_is = refl;
      fits = registers;
      backs = given
          ∙ sym (append-nil (backs_of s));
    }) iterations in
    record { last = l.last; does_so = l.does_so; run = l.run; returns = ap due l.flow }

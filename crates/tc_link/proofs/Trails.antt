-- A core that fetches the bundles of parts follows their trails: parts, iterations, and functions by their numbers.
use Rattle.std.proofs.Common.{◌≡◌, ℕ, zero, suc, ◌+◌, ◌^◌, ◌<◌, ◌==◌, nat_lt, true, Option, ◌&&◌, List, [], ◌∷◌, ◌++◌, refl, sym, ap, ◌∙◌, subst, arith, true≢false, append-nil, append_assoc}
use Rattle.std.specs.List.{list_any}
use Rattle.std.proofs.lemmas.Bool.{and_parts, lt-ltb, ltb-true}
use Rattle.patmos_code.specs.Images.{Parts}
use Rattle.patmos_instr.specs.Bundles.{PlainBundle}
use Rattle.patmos_model.specs.Site.{size_at, has_place}
use Rattle.sp_shape.proofs.Whole.{late_append}
use Rattle.sp_shape.specs.Formed.{is_call, is_iteration, is_way, part_formed, parts_formed}
use Rattle.sp_shape.specs.Parts.{PlainPart, straight, repeats, calls_to, leaves, PlainParts, no_part, part}
use Rattle.sp_shape.specs.Run.{Run, Back, Sources, run_late}
use Rattle.sp_shape.specs.Trail.{Step, begins, all_done, copies, part_trail, parts_trail}
use Rattle.sp_shape.specs.Iterating.{AllIterations, PartIterations, PartsIteration, back_of}
use Rattle.sp_shape.specs.Words.{bundle_words, bundles_words, part_words, parts_words}
use Rattle.tc_link.specs.Backs.{back, part_backs, parts_backs}
use Rattle.tc_link.specs.Flat.{turned, flat_part, flat_parts}
use Rattle.tc_link.specs.Dues.{undue, way_dues, iteration_dues, iterations_dues, part_dues, parts_dues}
use Rattle.patmos_model.specs.declared.flow.Goal.{Goal}
use Rattle.patmos_model.specs.declared.flow.Goal.TheVariants as goal
use Rattle.tc_link.specs.Walk.{Walk, due, gone_if, HasPlace}
use Rattle.tc_link.proofs.Counted.{flat_part_words, flat_words}
use Rattle.tc_link.proofs.Tails.{Left, iteration_goes, call_goes}
use Rattle.tc_link.proofs.Walking.{FetchAt, free, Comes, Goes, does_then, elsewhere, calm_goes}

-- ---- what is fetched

pub fetch_front : (image : Parts) (base at : ℕ) (us vs : List PlainBundle) → FetchAt image base at (us ++ vs)
    → FetchAt image base at us
fetch_front image base at [] vs h = tt
fetch_front image base at (b ∷ us) vs h = (h.0, fetch_front image base (at + bundle_words b) us vs h.1)

pub fetch_back : (image : Parts) (base at : ℕ) (us vs : List PlainBundle) (words : ℕ) → bundles_words us ≡ words
    → FetchAt image base at (us ++ vs) → FetchAt image base (at + words) vs
fetch_back image base at [] vs words is h =
    let same : at ≡ at + words = omega (arith, is) in subst (λ n. FetchAt image base n vs) same h
fetch_back image base at (b ∷ us) vs words is h =
    let same : at + bundle_words b + bundles_words us ≡ at + words = omega (arith, is) in
    subst (λ n. FetchAt image base n vs) same (fetch_back image base (at + bundle_words b) us vs
    (bundles_words us) refl h.1)

-- ---- functions that are called

-- each earlier function is a place, and from its start on its trail is followed up to its return
pub record Callees (image : Parts) (from : Sources) (start : ℕ → ℕ) (f : ℕ → List Step)
    (goals : ℕ → Back → List (Option Goal)) (places : ℕ → List Back) (Called : ℕ → Run → Type 0)
    (number : ℕ) : Type 0 where
  pub placed : (k : ℕ) → k < number → has_place image (start k) 0 ≡ true
  pub follows : (k : ℕ) → k < number → (rest : List Back) (m : Run) (w : Walk) → Comes image (start k) 0 (places k
      ++ rest) m w → Called k m → Left image from (f k) (goals k (back_of m)) (back_of m) rest w (run_late from (f k) m)

-- a function starts at a place, and has fewer words than there are words
pub record Starts (image : Parts) (base : ℕ) : Type 0 where
  pub is_start : list_any (λ start. base == start) image.starts ≡ true
  pub small : size_at image base < 2 ^ 32

module _ (image : Parts) (from : Sources) where
  goes_then : (xs ys : List Step) (ds es : List (Option Goal)) (base at other offset : ℕ) (rest later : List Back)
      (m : Run) (w : Walk) → (g : Goes image from xs ds base at rest w (run_late from xs m))
      → Goes image from ys es other offset later g.last (run_late from ys (run_late from xs m))
      → Goes image from (xs ++ ys) (ds ++ es) other offset later w (run_late from (xs ++ ys) m)
  goes_then xs ys ds es base at other offset rest later m w g h =
      subst (Goes image from (xs ++ ys) (ds ++ es) other offset later w) (sym (late_append from xs ys m))
      (record {
        last = h.last;
        does_so = does_then image from xs ys ds es w g.last h.last g.does_so h.does_so;
        comes = h.comes;
      })

  pub left_then : (xs ys : List Step) (ds es : List (Option Goal)) (base at : ℕ) (home : Back) (rest later : List Back)
      (m : Run) (w : Walk) → (g : Goes image from xs ds base at rest w (run_late from xs m))
      → Left image from ys es home later g.last (run_late from ys (run_late from xs m)) → Left image from (xs ++ ys) (ds
      ++ es) home later w (run_late from (xs ++ ys) m)
  left_then xs ys ds es base at home rest later m w g h =
      subst (Left image from (xs ++ ys) (ds ++ es) home later w) (sym (late_append from xs ys m))
      (record {
        last = h.last;
        does_so = does_then image from xs ys ds es w g.last h.last g.does_so h.does_so;
        run = h.run;
        flow = h.flow;
        fits = h.fits;
        backs = h.backs;
      })

  -- a return that is due comes to its place
  left_comes : (steps : List Step) (ds : List (Option Goal)) (home : Back) (rest : List Back) (w : Walk) (m : Run)
      → has_place image home.base home.offset ≡ true → Left image from steps ds home rest w m
      → Goes image from steps ds home.base home.offset rest w m
  left_comes steps ds home rest w m placed l = record {
    last = l.last;
    does_so = l.does_so;
    comes = record {
      placed = subst (λ f. HasPlace image l.last.base (due f)) (sym l.flow) placed;
      lands = ap (λ f. gone_if (due f) l.last) l.flow ∙ ap (free home.base home.offset) l.run;
      run_is = l.run;
      fits = l.fits;
      backs = l.backs;
    };
  }

  pub place_in : (base offset : ℕ) → Starts image base → offset < size_at image base → has_place image base offset
      ≡ true
  place_in base offset starts inside =
      ap (λ b. b && nat_lt offset (size_at image base)) starts.is_start ∙ lt-ltb offset (size_at image base) inside

  -- ---- iterations

  -- over what is known of the body, from its first word on
  iterations_go : (Inside : Run → Type 0) (body : List Step) (ds : List (Option Goal)) (places : List Back)
      (tail : List PlainBundle) (base at words : ℕ) (rest : List Back) → is_iteration tail ≡ true
      → at + words + bundles_words tail < 2 ^ 32 → at < size_at image base
      → FetchAt image base (at + words) (turned words tail)
      → ((later : List Back) (m : Run) (w : Walk) → Comes image base at (places ++ later) m w → Inside m
      → Goes image from body ds base (at + words) later w (run_late from body m))
      → (n : ℕ) (m : Run) (w : Walk) → Comes image base at (copies (suc n) places ++ rest) m w
      → AllIterations (run_late from) Inside body tail (suc n) m
      → Goes image from (copies (suc n) (body ++ all_done tail)) (iterations_dues ds
      (iteration_dues (goal.Within at) tail) (undue tail) (suc n)) base (at + words + bundles_words tail) rest w
      (run_late from (copies (suc n) (body ++ all_done tail)) m)
  iterations_go Inside body ds places tail base at words rest formed few inside h each zero m w c iterations =
      let iteration = body ++ all_done tail in
      let g = each rest m w (subst (λ l. Comes image base at (l ++ rest) m w) (append-nil places) c) iterations.0 in
      let t = iteration_goes image from tail base at words rest (run_late from body m) g.last formed few
      inside h g.comes in
      subst (λ l. Goes image from l (ds ++ undue tail) base (at + words + bundles_words tail) rest w
      (run_late from l m)) (sym (append-nil iteration))
      (goes_then body (all_done tail) ds (undue tail) base (at + words) base (at + words + bundles_words tail) rest rest
      m w g (t.no_more iterations.1))
  iterations_go Inside body ds places tail base at words rest formed few inside h each (suc n) m w c iterations =
      let iteration = body ++ all_done tail in
      let later = copies (suc n) places ++ rest in
      let g = each later m w (subst (λ l. Comes image base at l m w) (append_assoc places (copies (suc n) places) rest)
      c) iterations.0 in
      let t = iteration_goes image from tail base at words later (run_late from body m) g.last formed few
      inside h g.comes in
      let one = goes_then body (all_done tail) ds (iteration_dues (goal.Within at) tail) base (at + words) base at later
      later m w g (t.again iterations.1) in
      goes_then iteration (copies (suc n) iteration) (ds ++ iteration_dues (goal.Within at) tail)
      (iterations_dues ds (iteration_dues (goal.Within at) tail) (undue tail) (suc n)) base at base
      (at + words + bundles_words tail) later rest m w one
      (iterations_go Inside body ds places tail base at words rest formed few inside h each n
      (run_late from iteration m) one.last one.comes iterations.2)

  some_iterations : (Inside : Run → Type 0) (body : List Step) (ds : List (Option Goal)) (places : List Back)
      (tail : List PlainBundle) (base at words : ℕ) (rest : List Back) → is_iteration tail ≡ true
      → at + words + bundles_words tail < 2 ^ 32 → at < size_at image base
      → FetchAt image base (at + words) (turned words tail)
      → ((later : List Back) (m : Run) (w : Walk) → Comes image base at (places ++ later) m w → Inside m
      → Goes image from body ds base (at + words) later w (run_late from body m))
      → (count : ℕ) → 0 < count → (m : Run) (w : Walk) → Comes image base at (copies count places ++ rest) m w
      → AllIterations (run_late from) Inside body tail count m
      → Goes image from (copies count (body ++ all_done tail)) (iterations_dues ds
      (iteration_dues (goal.Within at) tail) (undue tail) count) base (at + words + bundles_words tail) rest w
      (run_late from (copies count (body ++ all_done tail)) m)
  some_iterations Inside body ds places tail base at words rest formed few inside h each zero some m w c iterations =
      absurd (omega (arith, some))
  some_iterations Inside body ds places tail base at words rest formed few inside h each (suc n) some m w c iterations =
      iterations_go Inside body ds places tail base at words rest formed few inside h each n m w c iterations

  -- ---- parts

  module _ (start : ℕ → ℕ) (f : ℕ → List Step) (goals : ℕ → Back → List (Option Goal)) (places : ℕ → List Back)
      (Called : ℕ → Run → Type 0) (number : ℕ) (callees : Callees image from start f goals places Called number)
      (home : Back) (base : ℕ) (starts : Starts image base) where
    mutual
      pub part_goes : (p : PlainPart) (at : ℕ) (rest : List Back) (m : Run) (w : Walk) → part_formed number p ≡ true
          → at + part_words p < size_at image base → FetchAt image base at (flat_part start p)
          → Comes image base at (part_backs places base at p ++ rest) m w
          → PartIterations (run_late from) f Called home p m
          → Goes image from (part_trail f p) (part_dues start goals home base at p) base (at + part_words p)
          rest w (run_late from (part_trail f p) m)
      part_goes (straight bs) at rest m w formed inside h c iterations =
          calm_goes image from bs base at rest m w formed h c
      part_goes (repeats count body tail) at rest m w formed inside h c iterations =
          let a = and_parts (nat_lt 0 count) (parts_formed number body && is_iteration tail) formed in
          let b = and_parts (parts_formed number body) (is_iteration tail) a.1 in
          let words = parts_words body in
          let trail = copies count (parts_trail f body ++ all_done tail) in
          elsewhere image from trail (part_dues start goals home base at (repeats count body tail)) base
          (at + words + bundles_words tail) (at + (words + bundles_words tail)) rest w
          (run_late from trail m) (omega arith)
          (some_iterations (λ t. PartsIteration (run_late from) f Called home body t) (parts_trail f body)
          (parts_dues start goals home base at body) (parts_backs places base at body) tail base at words rest b.1
          (omega (arith, inside, starts.small)) (omega (arith, inside))
          (fetch_back image base at (flat_parts start body) (turned words tail) words (flat_words start body) h)
          (λ later n x c iterations. parts_go body at later n x b.0 (omega (arith, inside))
          (fetch_front image base at (flat_parts start body) (turned words tail) h) c iterations)
          count (ltb-true 0 count a.0) m w c iterations)
      part_goes (calls_to k tail) at rest m w formed inside h c iterations =
          let a = and_parts (nat_lt k number) (is_way is_call tail) formed in
          let less = ltb-true k number a.0 in
          let next = at + bundles_words tail in
          let way = all_done tail ++ begins ∷ [] in
          let b = call_goes image from tail (start k) base at (places k ++ rest) m w a.1 (callees.placed k less) h c in
          let l = callees.follows k less rest (run_late from way m) b.goes.last b.goes.comes iterations in
          let l_home = subst (λ x. Left image from (f k) (goals k x) x rest b.goes.last
          (run_late from (f k) (run_late from way m))) b.returns_to l in
          let g = left_comes (f k) (goals k (back base next)) (back base next) rest b.goes.last
          (run_late from (f k) (run_late from way m)) (place_in base next starts inside) l_home in
          subst (λ steps. Goes image from steps (part_dues start goals home base at (calls_to k tail)) base next rest w
          (run_late from steps m)) (append_assoc (all_done tail) (begins ∷ []) (f k))
          (goes_then way (f k) (way_dues (goal.Call (start k)) tail) (goals k (back base next)) (start k) 0 base next
          (places k ++ rest) rest m w b.goes g)
      part_goes (leaves tail) at rest m w formed inside h c iterations = absurd (true≢false (sym formed))

      parts_go : (ps : PlainParts) (at : ℕ) (rest : List Back) (m : Run) (w : Walk) → parts_formed number ps ≡ true
          → at + parts_words ps < size_at image base → FetchAt image base at (flat_parts start ps)
          → Comes image base at (parts_backs places base at ps ++ rest) m w
          → PartsIteration (run_late from) f Called home ps m
          → Goes image from (parts_trail f ps) (parts_dues start goals home base at ps) base (at
          + parts_words ps) rest w (run_late from (parts_trail f ps) m)
      parts_go no_part at rest m w formed inside h c iterations = elsewhere image from [] [] base at (at + 0) rest w m
          (omega arith) (record { last = w; does_so = (refl, refl); comes = c })
      parts_go (part p more) at rest m w formed inside h c iterations =
          let a = and_parts (part_formed number p) (parts_formed number more) formed in
          let next = at + part_words p in
          let later = parts_backs places base next more ++ rest in
          let g = part_goes p at later m w a.0 (omega (arith, inside)) (fetch_front image base at (flat_part start p)
          (flat_parts start more) h)
          (subst (λ l. Comes image base at l m w) (append_assoc (part_backs places base at p)
          (parts_backs places base next more) rest) c) iterations.0 in
          let trail = part_trail f p ++ parts_trail f more in
          elsewhere image from trail (parts_dues start goals home base at (part p more)) base (next + parts_words more)
          (at + (part_words p + parts_words more)) rest w (run_late from trail m) (omega arith)
          (goes_then (part_trail f p) (parts_trail f more) (part_dues start goals home base at p)
          (parts_dues start goals home base next more) base next base (next + parts_words more) later rest m w g
          (parts_go more next rest (run_late from (part_trail f p) m) g.last a.1 (omega (arith, inside))
          (fetch_back image base at (flat_part start p) (flat_parts start more) (part_words p) (flat_part_words start p)
          h) g.comes iterations.1))

-- A trail goes to the functions that its shape reaches, and to no other.
use Rattle.std.proofs.Common.{◌≡◌, ℕ, zero, suc, ◌+◌, ◌<◌, ◌≤◌, ◌==◌, ◌||◌, ◌&&◌, nat_lt, Bool, true, false, if◌then◌else◌, List, [], ◌∷◌, ◌++◌, length, map, slice_index_or, Option, None, Some, refl, sym, ap, ◌∙◌, arith, true≢false}
use Rattle.std.proofs.lemmas.Bool.{and_parts, or_left, or_right, eqb-true, eqb-false, eq-eqb, ltb-true}
use Rattle.std.specs.List.{Contains}
use Rattle.method_cache.specs.declared.cache.Method.{Method}
use Rattle.patmos_code.specs.Images.{Parts}
use Rattle.patmos_instr.specs.Bundles.{PlainBundle}
use Rattle.patmos_instr.specs.declared.instructions.Op.{Op}
use Rattle.patmos_instr.specs.declared.instructions.Op.TheVariants.{Load, Store, Stack}
use Rattle.patmos_instr.specs.declared.memories.Mem.TheVariants as mem
use Rattle.patmos_model.specs.declared.flow.Goal.{Goal}
use Rattle.patmos_model.specs.declared.flow.Goal.TheVariants as goal
use Rattle.patmos_model.specs.Site.{method_at}
use Rattle.core_pace.specs.Pace.{Event, came}
use Rattle.sp_shape.specs.Formed.{is_branch, is_call, is_iteration, is_way, part_formed, parts_formed, function_formed, functions_formed}
use Rattle.sp_shape.specs.Parts.{PlainPart, straight, repeats, calls_to, leaves, PlainParts, no_part, part}
use Rattle.sp_shape.specs.Run.{Back, first_load, other_loads}
use Rattle.sp_shape.specs.Trail.{Step, does, begins}
use Rattle.sp_shape.specs.Words.{bundles_words, part_words}
use Rattle.tc_link.specs.Backs.{back}
use Rattle.tc_link.specs.Dues.{undue, way_dues, iteration_dues, iterations_dues, part_dues, parts_dues, dues}
use Rattle.tc_link.specs.Walk.{due_in}
use Rattle.code_core.specs.Fixed.{kind_of, is_cached, fixed_events}
use Rattle.code_core.specs.Goes.{goal_events}
use Rattle.bound_persist.specs.Reached.{part_reaches, parts_reach, reaches, picked}
use Rattle.bound_persist.proofs.Marking.{reaches_itself}
use Rattle.code_persist.specs.Events.{AreAmong, AreFor}

-- ---- what is picked

contains_later : {A : Type 0} (x y : A) (xs : List A) → Contains xs x → Contains (y ∷ xs) x
contains_later x y xs h = (suc h.0, omega (arith, h.1), h.2)

pub contains_picked : {A : Type 0} (f : ℕ → A) (test : ℕ → Bool) (j n : ℕ) → j < n → test j ≡ true
    → Contains (map f (picked test n)) (f j)
contains_picked f test j zero less is = absurd (omega (arith, less))
contains_picked {A} f test j (suc n) less is = by (λ l. contains_picked f test j n l is) (test n) refl
  where
    by : (j < n → Contains (map f (picked test n)) (f j)) → (b : Bool) → test n ≡ b
        → Contains (map f (if b then n ∷ picked test n else picked test n)) (f j)
    by earlier true at = here (j == n) refl
      where
        here : (b : Bool) → (j == n) ≡ b → Contains (map f (n ∷ picked test n)) (f j)
        here true same = (0, omega arith, ap f (sym (eqb-true j n same)))
        here false other = contains_later (f j) (f n) (map f (picked test n))
            (earlier (let ne = eqb-false j n other in omega (arith, less, ne)))
    by earlier false at = earlier (rest (j == n) refl)
      where
        rest : (b : Bool) → (j == n) ≡ b → j < n
        rest true same = absurd (true≢false (sym is ∙ ap test (eqb-true j n same) ∙ at))
        rest false other = let ne = eqb-false j n other in omega (arith, less, ne)

module _ (image : Parts) (all : List Method) where
  -- ---- events

  joined_among : (xs ys : List Event) → AreAmong all xs → AreAmong all ys → AreAmong all (xs ++ ys)
  joined_among [] ys a b = b
  joined_among (came method ∷ xs) ys a b = (a.0, joined_among xs ys a.1 b)
  joined_among (Event.quick ∷ xs) ys a b = joined_among xs ys a b
  joined_among (Event.load ∷ xs) ys a b = joined_among xs ys a b
  joined_among (Event.cached address ∷ xs) ys a b = joined_among xs ys a b
  joined_among (Event.store ∷ xs) ys a b = joined_among xs ys a b
  joined_among (Event.stack func count ∷ xs) ys a b = joined_among xs ys a b

  kind_among : (op : Op) (address : ℕ) (es : List Event) → AreAmong all es → AreAmong all (kind_of op address ∷ es)
  kind_among (Load mem.S width rd ra imm) address es h = h
  kind_among (Load _ width rd ra imm) address es h = h
  kind_among (Store mem.S width ra rs imm) address es h = h
  kind_among (Store mem.L width ra rs imm) address es h = h
  kind_among (Store mem.C width ra rs imm) address es h = h
  kind_among (Store mem.M width ra rs imm) address es h = h
  kind_among (Stack func count) address es h = h
  kind_among _ address es h = h

  pub fixed_among : (steps : List Step) (ds : List (Option Goal)) (addresses : List ℕ) → AreFor all image ds
      → AreAmong all (fixed_events image steps ds addresses)
  fixed_among [] ds addresses h = tt
  fixed_among (does b ∷ steps) [] addresses h = tt
  fixed_among (does b ∷ steps) (d ∷ ds) addresses h =
      let more : List ℕ = if is_cached b.first.op then other_loads addresses else addresses in
      kind_among b.first.op (first_load addresses) (goal_events image d ++ fixed_events image steps ds more)
      (joined_among (goal_events image d) (fixed_events image steps ds more) h.0 (fixed_among steps ds more h.1))
  fixed_among (begins ∷ steps) ds addresses h = fixed_among steps ds addresses h

  -- ---- goals

  joined_for : (xs ys : List (Option Goal)) → AreFor all image xs → AreFor all image ys → AreFor all image (xs ++ ys)
  joined_for [] ys a b = b
  joined_for (x ∷ xs) ys a b = (a.0, joined_for xs ys a.1 b)

  undue_for : (bs : List PlainBundle) → AreFor all image (undue bs)
  undue_for [] = tt
  undue_for (b ∷ bs) = (tt, undue_for bs)

  way_for : (to : Goal) (bs : List PlainBundle) → AreAmong all (goal_events image (Some to))
      → AreFor all image (way_dues to bs)
  way_for to [] h = tt
  way_for to (b ∷ bs) h = (by (length bs), way_for to bs h)
    where
      by : (n : ℕ) → AreAmong all (goal_events image (due_in n to))
      by zero = h
      by (suc n) = tt

  iteration_for : (at : ℕ) (bs : List PlainBundle) → AreFor all image (iteration_dues (goal.Within at) bs)
  iteration_for at [] = tt
  iteration_for at (b ∷ bs) = by (iteration_for at bs) (is_branch b.first.op)
    where
      by : AreFor all image (iteration_dues (goal.Within at) bs) → (t : Bool)
          → AreFor all image (if t then way_dues (goal.Within at) (b ∷ bs) else None
          ∷ iteration_dues (goal.Within at) bs)
      by rest true = way_for (goal.Within at) (b ∷ bs) tt
      by rest false = (tt, rest)

  iterations_for : (body again last : List (Option Goal)) (count : ℕ) → AreFor all image body → AreFor all image again
      → AreFor all image last → AreFor all image (iterations_dues body again last count)
  iterations_for body again last zero a b c = tt
  iterations_for body again last (suc zero) a b c = joined_for body last a c
  iterations_for body again last (suc (suc n)) a b c = joined_for (body ++ again) (iterations_dues body again last
      (suc n)) (joined_for body again a b) (iterations_for body again last (suc n) a b c)

  -- ---- over functions, by their numbers

  module _ (fs : List PlainParts) (start : ℕ → ℕ) where
    abbrev In : ℕ → Type 0
    In k = Contains all (method_at image (start k))

    -- all that pass a test
    abbrev Have : (ℕ → Bool) → Type 0
    Have test = (j : ℕ) → j < length fs → test j ≡ true → In j

    return_for : (k offset : ℕ) → In k → AreAmong all (goal_events image (Some (goal.Return (start k) offset)))
    return_for k offset one = by (start k == 0)
      where
        by : (b : Bool) → AreAmong all (if b then [] else came (method_at image (start k)) ∷ [])
        by true = tt
        by false = (one, tt)

    module _ (n : ℕ) (within : n < length fs) (own : In n)
        (called : (k : ℕ) → k < n → (home : Back) → Have (λ j. reaches fs j n k) → AreAmong all (goal_events image
        (Some (goal.Return home.base home.offset))) → AreFor all image (dues start fs n k home))
        (home : Back) (homeward : AreAmong all (goal_events image (Some (goal.Return home.base home.offset)))) where
      mutual
        part_for : (p : PlainPart) (at : ℕ) → part_formed n p ≡ true → Have (λ j. part_reaches (reaches fs j n) p)
            → AreFor all image (part_dues start (dues start fs n) home (start n) at p)
        part_for (straight bs) at formed have = undue_for bs
        part_for (repeats count body tail) at formed have =
            let a = and_parts (nat_lt 0 count) (parts_formed n body && is_iteration tail) formed in
            let b = and_parts (parts_formed n body) (is_iteration tail) a.1 in
            iterations_for (parts_dues start (dues start fs n) home (start n) at body)
            (iteration_dues (goal.Within at) tail) (undue tail) count (parts_for body at b.0 have)
            (iteration_for at tail) (undue_for tail)
        part_for (calls_to k tail) at formed have =
            let less : k < n = ltb-true k n (and_parts (nat_lt k n) (is_way is_call tail) formed).0 in
            let callee : In k = have k (omega (arith, less, within)) (reaches_itself fs k n less) in
            let to : Back = back (start n) (at + bundles_words tail) in
            joined_for (way_dues (goal.Call (start k)) tail) (dues start fs n k to) (way_for (goal.Call (start k)) tail
            (callee, tt)) (called k less to have (return_for n to.offset own))
        part_for (leaves tail) at formed have = absurd (true≢false (sym formed))

        parts_for : (ps : PlainParts) (at : ℕ) → parts_formed n ps ≡ true → Have (λ j. parts_reach (reaches fs j n) ps)
            → AreFor all image (parts_dues start (dues start fs n) home (start n) at ps)
        parts_for no_part at formed have = tt
        parts_for (part p rest) at formed have =
            let a = and_parts (part_formed n p) (parts_formed n rest) formed in
            joined_for (part_dues start (dues start fs n) home (start n) at p) (parts_dues start (dues start fs n) home
            (start n) (at + part_words p) rest)
            (part_for p at a.0 (λ j l is. have j l (or_left (part_reaches (reaches fs j n) p)
            (parts_reach (reaches fs j n) rest) is)))
            (parts_for rest (at + part_words p) a.1 (λ j l is. have j l (or_right (part_reaches (reaches fs j n) p)
            (parts_reach (reaches fs j n) rest) is)))

      part_first : (p : PlainPart) (rest : PlainParts) (at : ℕ) → part_formed n p ≡ true
          → Have (λ j. parts_reach (reaches fs j n) (part p rest))
          → (Have (λ j. parts_reach (reaches fs j n) rest) → AreFor all image (parts_dues start (dues start fs n) home
          (start n) (at + part_words p) rest))
          → AreFor all image (parts_dues start (dues start fs n) home (start n) at (part p rest))
      part_first p rest at formed have others =
          joined_for (part_dues start (dues start fs n) home (start n) at p) (parts_dues start (dues start fs n) home
          (start n) (at + part_words p) rest)
          (part_for p at formed (λ j l is. have j l (or_left (part_reaches (reaches fs j n) p)
          (parts_reach (reaches fs j n) rest) is)))
          (others (λ j l is. have j l (or_right (part_reaches (reaches fs j n) p)
          (parts_reach (reaches fs j n) rest) is)))

      function_for : (ps : PlainParts) (at : ℕ) → function_formed n ps ≡ true
          → Have (λ j. parts_reach (reaches fs j n) ps) → AreFor all image (parts_dues start (dues start fs n) home
          (start n) at ps)
      function_for no_part at formed have = tt
      function_for (part (leaves tail) no_part) at formed have =
          joined_for (way_dues (goal.Return home.base home.offset) tail) [] (way_for (goal.Return home.base home.offset)
          tail homeward) tt
      function_for (part (leaves tail) (part p more)) at formed have = absurd (true≢false (sym formed))
      function_for (part (straight bs) more) at formed have =
          let a = and_parts (part_formed n (straight bs)) (function_formed n more) formed in
          part_first (straight bs) more at a.0 have (function_for more (at + part_words (straight bs)) a.1)
      function_for (part (repeats count body tail) more) at formed have =
          let a = and_parts (part_formed n (repeats count body tail)) (function_formed n more) formed in
          part_first (repeats count body tail) more at a.0 have
          (function_for more (at + part_words (repeats count body tail)) a.1)
      function_for (part (calls_to k tail) more) at formed have =
          let a = and_parts (part_formed n (calls_to k tail)) (function_formed n more) formed in
          part_first (calls_to k tail) more at a.0 have (function_for more (at + part_words (calls_to k tail)) a.1)

    pub functions_for : (n : ℕ) → n ≤ length fs → functions_formed fs n ≡ true → (k : ℕ) → k < n → (home : Back)
        → Have (λ j. reaches fs j n k)
        → AreAmong all (goal_events image (Some (goal.Return home.base home.offset)))
        → AreFor all image (dues start fs n k home)
    functions_for zero within formed k less home have homeward = absurd (omega (arith, less))
    functions_for (suc n) within formed k less home have homeward =
        let a = and_parts (functions_formed fs n) (function_formed n (slice_index_or fs n no_part)) formed in
        by a.1 (functions_for n (omega (arith, within)) a.0) (k == n) refl have
      where
        by : function_formed n (slice_index_or fs n no_part) ≡ true
            → ((i : ℕ) → i < n → (h : Back) → Have (λ j. reaches fs j n i)
            → AreAmong all (goal_events image (Some (goal.Return h.base h.offset)))
            → AreFor all image (dues start fs n i h))
            → (b : Bool) → (k == n) ≡ b
            → Have (λ j. if b then (j == n || parts_reach (reaches fs j n) (slice_index_or fs n no_part)) else
            reaches fs j n k)
            → AreFor all image (if b then parts_dues start (dues start fs n) home (start n) 0
            (slice_index_or fs n no_part) else dues start fs n k home)
        by formed_one earlier true is have =
            let own : In n = have n (omega (arith, within))
            (or_left (n == n) (parts_reach (reaches fs n n) (slice_index_or fs n no_part)) (eq-eqb n n refl)) in
            function_for n (omega (arith, within)) own earlier home homeward (slice_index_or fs n no_part) 0 formed_one
            (λ j l is. have j l (or_right (j == n) (parts_reach (reaches fs j n) (slice_index_or fs n no_part)) is))
        by formed_one earlier false other have =
            earlier k (let ne = eqb-false k n other in omega (arith, less, ne)) home have homeward

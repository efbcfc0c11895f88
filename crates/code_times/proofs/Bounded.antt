-- Events take no more than they cost, and the events of a trail what the bound of its shape says.
use Rattle.std.proofs.Common.{◌≡◌, ℕ, zero, suc, ◌+◌, ◌-◌, ◌*◌, ◌<◌, ◌≤◌, ◌==◌, ◌&&◌, nat_lt, append-nil, min, Bool, true, false, if◌then◌else◌, List, [], ◌∷◌, ◌++◌, length, slice_index_or, Option, None, Some, refl, sym, ap, ◌∙◌, subst, arith, true≢false, mul-le-mul_left}
use Rattle.std.specs.Prelude.{nat_le}
use Rattle.std.proofs.lemmas.Bool.{and_parts, eqb-false, ne_eqb, ltb-true}
use Rattle.method_cache.specs.Residents.{resident, is_among, touched}
use Rattle.patmos_code.specs.Images.{Parts}
use Rattle.patmos_instr.specs.Bundles.{PlainBundle}
use Rattle.patmos_instr.specs.declared.functions.StackFunc.TheVariants.{Sres, Sens, Sfree}
use Rattle.patmos_instr.specs.declared.instructions.Op.{Op}
use Rattle.patmos_instr.specs.declared.instructions.Op.TheVariants.{Load, Store, Stack}
use Rattle.patmos_instr.specs.declared.memories.Mem.TheVariants as mem
use Rattle.patmos_model.specs.declared.flow.Goal.{Goal}
use Rattle.patmos_model.specs.declared.flow.Goal.TheVariants as goal
use Rattle.patmos_model.specs.Bursts.{slots_of}
use Rattle.patmos_model.specs.Site.{Site, method_at, size_at}
use Rattle.core_pace.specs.Bound.{most_in_slot}
use Rattle.core_pace.specs.Pace.{Pace, Event, quick, load, cached, store, stack, came, is_loaded, asks, asked_by, with_line, carried, happened, clock}
use Rattle.core_pace.specs.Spans.{IsSlotted, accesses_from, moved_by}
use Rattle.core_pace.proofs.Moves.{carried_words}
use Rattle.core_pace.proofs.Longest.{ends_within}
use Rattle.sp_shape.specs.Parts.{PlainPart, straight, repeats, calls_to, leaves, PlainParts, no_part, part, PlainShape}
use Rattle.sp_shape.specs.Run.{Back, first_load, other_loads}
use Rattle.sp_shape.specs.Trail.{Step, does, begins, all_done, copies, part_trail, parts_trail, trails, trail}
use Rattle.cycle_bound.specs.Bound.{transactions, op_moves, fill_moves, bundles_bound, part_bound, parts_bound, bounds, fill_bound}
use Rattle.sp_shape.specs.Formed.{is_branch, is_call, is_iteration, is_way, part_formed, parts_formed, function_formed, functions_formed, is_formed}
use Rattle.sp_shape.specs.Words.{bundles_words, part_words, parts_words}
use Rattle.sp_tree.specs.declared.limits.TheConstants.{MOST_FUNCTIONS}
use Rattle.tc_link.specs.Backs.{back}
use Rattle.tc_link.specs.Dues.{undue, way_dues, iteration_dues, iterations_dues, part_dues, parts_dues, dues, dues_of}
use Rattle.tc_link.specs.Placed.{start_of, function}
use Rattle.code_core.specs.Fixed.{kind_of, is_cached, fixed_events}
use Rattle.code_core.specs.Goes.{goal_events}
use Rattle.code_times.specs.Costs.{cost, costs, AreFew, trail_cost}

-- ---- time

-- so many slots or fewer
pub record Within (site : Site) (p : Pace) (most : ℕ) (q : Pace) : Type 0 where
  pub free : q.free ≤ p.free + most_in_slot site * most
  pub held : q.held ≡ p.held

pub carried_within : (site : Site) (p : Pace) (most : ℕ) → IsSlotted site → slots_of p.words ≤ most
    → Within site p most (carried site p)
carried_within site p most slots few = by (p.words == 0)
  where
    by : (b : Bool) → Within site p most (elim b as (λ _. Pace) [
      | true ↦ p
      | false ↦ record p {
        free = moved_by site p.free p.words;
        words = 0;
        line = None;
        accesses = p.accesses ++ accesses_from site p.free p.write p.words;
        loads = with_line p.line p.loads;
      }
    ])
    by true = record { free = omega arith; held = refl }
    by false =
        let time : moved_by site p.free p.words ≤ p.free + most_in_slot site * slots_of p.words =
        ends_within site (slots_of p.words) p.free slots in
        let more : most_in_slot site * slots_of p.words ≤ most_in_slot site * most =
        mul-le-mul_left (most_in_slot site) few in
        record { free = omega (arith, time, more); held = refl }

-- what an event asks for
pub record Few (each : ℕ) (e : Event) (p q : Pace) : Type 0 where
  pub most : ℕ
  pub words : slots_of q.words ≤ most
  pub free : q.free + each * most ≤ p.free + cost each e
  pub held : q.held ≤ 128

few_asks : (each : ℕ) (e : Event) (write : Bool) (w h most : ℕ) (p : Pace) → p.words ≡ 0 → h ≤ 128 → slots_of w ≤ most
    → cost each e ≡ 1 + each * most → Few each e p (asks write w (record p { held = h }))
few_asks each e write w h most p none small few is = by (w == 0)
  where
    by : (b : Bool) → Few each e p (elim b as (λ _. Pace) [
      | true ↦ record p { held = h; free = p.free + 1 }
      | false ↦
          record p { held = h; write = write; words = w; line = None }
    ])
    by true = record { most = most; words = omega (arith, none); free = omega (arith, is); held = small }
    by false = record { most = most; words = few; free = omega (arith, is); held = small }

pub few_so : (each : ℕ) (e : Event) (es : List Event) (p : Pace) → AreFew (e ∷ es) → p.words ≡ 0 → p.held ≤ 128
    → Few each e p (asked_by e p)
few_so each quick es p few none small =
    record { most = 0; words = omega (arith, none); free = omega arith; held = small }
few_so each load es p few none small = record { most = 1; words = omega arith; free = omega arith; held = small }
few_so each (cached address) es p few none small = by (is_loaded address p.loads)
  where
    by : (b : Bool) → Few each (cached address) p (elim b as (λ _. Pace) [
      | true ↦ record p { free = p.free + 1; loads = address ∷ p.loads }
      | false ↦ record p { write = false; words = 4; line = Some address }
    ])
    by true = record { most = 0; words = omega (arith, none); free = omega arith; held = small }
    by false = record { most = 1; words = omega arith; free = omega arith; held = small }
few_so each store es p few none small = record { most = 1; words = omega arith; free = omega arith; held = small }
few_so each (stack Sres count) es p few none small =
    few_asks each (stack Sres count) true (count + p.held - 128) (min 128 (count + p.held))
    (transactions (min count 128)) p none (omega arith) (omega (arith, few.0, small)) refl
few_so each (stack Sens count) es p few none small =
    few_asks each (stack Sens count) false (count - p.held) (p.held + (count - p.held)) (transactions (min count 128)) p
    none (omega (arith, few.0, small)) (omega (arith, few.0)) refl
few_so each (stack Sfree count) es p few none small =
    record { most = 0; words = omega (arith, none); free = omega arith; held = omega (arith, small) }
few_so each (came method) es p few none small = by (is_among method.function (resident p.misses))
  where
    by : (b : Bool) → Few each (came method) p (elim b as (λ _. Pace) [
      | true ↦ record p { write = false; words = 0; line = None; misses = touched p.misses method }
      | false ↦ record p { write = false; words = method.words + 1; line = None; misses = touched p.misses method }
    ])
    by true = record { most = 0; words = omega arith; free = omega arith; held = small }
    by false = record { most = transactions (1 + method.words); words = omega arith; free = omega arith; held = small }

pub few_rest : (e : Event) (es : List Event) → AreFew (e ∷ es) → AreFew es
few_rest quick es few = few
few_rest load es few = few
few_rest (cached address) es few = few
few_rest store es few = few
few_rest (stack func count) es few = few.1
few_rest (came method) es few = few

pub clock_costs : (site : Site) (es : List Event) (p : Pace) → IsSlotted site → AreFew es → p.words ≡ 0 → p.held ≤ 128
    → (clock site es p).free ≤ p.free + costs (most_in_slot site) es
clock_costs site [] p slots few none small = omega arith
clock_costs site (e ∷ es) p slots few none small =
    let f = few_so (most_in_slot site) e es p few none small in
    let w = carried_within site (asked_by e p) f.most slots f.words in
    let rest = clock_costs site es (happened site e p) slots (few_rest e es few) (carried_words site (asked_by e p))
    (omega (arith, w.held, f.held)) in
    omega (arith, f.free, w.free, rest)

-- ---- a trail

pub kind_cost : (each address : ℕ) (op : Op) → cost each (kind_of op address) ≡ 1 + each * op_moves op
kind_cost each address (Load mem.S width rd ra imm) = omega arith
kind_cost each address (Load _ width rd ra imm) = omega arith
kind_cost each address (Store mem.S width ra rs imm) = omega arith
kind_cost each address (Store mem.L width ra rs imm) = omega arith
kind_cost each address (Store mem.C width ra rs imm) = omega arith
kind_cost each address (Store mem.M width ra rs imm) = omega arith
kind_cost each address (Stack func count) = refl
kind_cost each address _ = omega arith

costs_append : (each : ℕ) (xs ys : List Event) → costs each (xs ++ ys) ≡ costs each xs + costs each ys
costs_append each [] ys = omega arith
costs_append each (x ∷ xs) ys = let rest = costs_append each xs ys in omega (arith, rest)

pub fixed_cost : (image : Parts) (each : ℕ) (steps : List Step) (ds : List (Option Goal)) (addresses : List ℕ)
    → costs each (fixed_events image steps ds addresses) ≡ trail_cost image each steps ds
fixed_cost image each [] ds addresses = refl
fixed_cost image each (does b ∷ steps) [] addresses = refl
fixed_cost image each (does b ∷ steps) (d ∷ ds) addresses =
    let more : List ℕ = if is_cached b.first.op then other_loads addresses else addresses in
    let first = kind_cost each (first_load addresses) b.first.op in
    let rest = fixed_cost image each steps ds more in
    let joined = costs_append each (goal_events image d) (fixed_events image steps ds more) in
    omega (arith, first, rest, joined)
fixed_cost image each (begins ∷ steps) ds addresses = fixed_cost image each steps ds addresses

-- ---- parts

-- a trail and its goals, of one length, and the cost
abbrev Fits : List Step → List (Option Goal) → Type 0
Fits [] [] = Unit {0}
Fits [] (d ∷ ds) = ⊥
Fits (does b ∷ steps) [] = ⊥
Fits (does b ∷ steps) (d ∷ ds) = Fits steps ds
Fits (begins ∷ steps) ds = Fits steps ds

module _ (image : Parts) (each : ℕ) where
  record Costs (xs : List Step) (ds : List (Option Goal)) (n : ℕ) : Type 0 where
    fits : Fits xs ds
    is : trail_cost image each xs ds ≡ n

  abbrev goal_cost : Goal → ℕ
  goal_cost to = costs each (goal_events image (Some to))

  joined_fits : (xs ys : List Step) (ds es : List (Option Goal)) → Fits xs ds → Fits ys es → Fits (xs ++ ys) (ds ++ es)
  joined_fits [] ys [] es a b = b
  joined_fits [] ys (d ∷ ds) es a b = absurd a
  joined_fits (does x ∷ xs) ys [] es a b = absurd a
  joined_fits (does x ∷ xs) ys (d ∷ ds) es a b = joined_fits xs ys ds es a b
  joined_fits (begins ∷ xs) ys ds es a b = joined_fits xs ys ds es a b

  joined_cost : (xs ys : List Step) (ds es : List (Option Goal)) → Fits xs ds → trail_cost image each (xs ++ ys) (ds
      ++ es) ≡ trail_cost image each xs ds + trail_cost image each ys es
  joined_cost [] ys [] es a = omega arith
  joined_cost [] ys (d ∷ ds) es a = absurd a
  joined_cost (does x ∷ xs) ys [] es a = absurd a
  joined_cost (does x ∷ xs) ys (d ∷ ds) es a = let rest = joined_cost xs ys ds es a in omega (arith, rest)
  joined_cost (begins ∷ xs) ys ds es a = joined_cost xs ys ds es a

  both : {xs ys : List Step} {ds es : List (Option Goal)} {a b : ℕ} → Costs xs ds a → Costs ys es b
      → Costs (xs ++ ys) (ds ++ es) (a + b)
  both {xs} {ys} {ds} {es} {a} {b} h k = record {
    fits = joined_fits xs ys ds es h.fits k.fits;
    is = joined_cost xs ys ds es h.fits ∙ (λ i. h.is i + k.is i);
  }

  other_cost : {xs : List Step} {ds : List (Option Goal)} {a : ℕ} (b : ℕ) → a ≡ b → Costs xs ds a → Costs xs ds b
  other_cost {xs} {ds} b same h = subst (Costs xs ds) same h

  undue_cost : (bs : List PlainBundle) → Costs (all_done bs) (undue bs) (bundles_bound each bs)
  undue_cost [] = record { fits = tt; is = refl }
  undue_cost (b ∷ bs) = let k = undue_cost bs in record { fits = k.fits; is = (let rest = k.is in omega (arith, rest)) }

  -- a flow is due after the last bundle
  way_cost : (to : Goal) (b : PlainBundle) (bs : List PlainBundle) → Costs (all_done (b ∷ bs)) (way_dues to (b ∷ bs))
      (bundles_bound each (b ∷ bs) + goal_cost to)
  way_cost to b [] = record { fits = tt; is = omega arith }
  way_cost to b (c ∷ bs) =
      let k = way_cost to c bs in record { fits = k.fits; is = (let rest = k.is in omega (arith, rest)) }

  free_way : (at : ℕ) (bs : List PlainBundle) → Costs (all_done bs) (way_dues (goal.Within at) bs)
      (bundles_bound each bs)
  free_way at [] = record { fits = tt; is = refl }
  free_way at (b ∷ bs) =
      let k = way_cost (goal.Within at) b bs in record { fits = k.fits; is = (let all = k.is in omega (arith, all)) }

  iteration_cost : (at : ℕ) (bs : List PlainBundle) → Costs (all_done bs) (iteration_dues (goal.Within at) bs)
      (bundles_bound each bs)
  iteration_cost at [] = record { fits = tt; is = refl }
  iteration_cost at (b ∷ bs) = by (iteration_cost at bs) (is_branch b.first.op)
    where
      by : Costs (all_done bs) (iteration_dues (goal.Within at) bs) (bundles_bound each bs) → (t : Bool)
          → Costs (all_done (b ∷ bs)) (if t then way_dues (goal.Within at) (b ∷ bs) else None
          ∷ iteration_dues (goal.Within at) bs) (bundles_bound each (b ∷ bs))
      by k true = free_way at (b ∷ bs)
      by k false = record { fits = k.fits; is = (let rest = k.is in omega (arith, rest)) }

  iterations_cost : (body tail : List Step) (ds again last : List (Option Goal)) (a b : ℕ) → Costs body ds a
      → Costs tail again b → Costs tail last b → (count : ℕ) → Costs (copies count (body ++ tail)) (iterations_dues ds
      again last count) (count * (a + b))
  iterations_cost body tail ds again last a b h k l zero = record { fits = tt; is = omega arith }
  iterations_cost body tail ds again last a b h k l (suc zero) =
      subst (λ xs. Costs xs (ds ++ last) (1 * (a + b))) (sym (append-nil (body ++ tail)))
      (other_cost (1 * (a + b)) (omega arith) (both h l))
  iterations_cost body tail ds again last a b h k l (suc (suc n)) =
      let rest = iterations_cost body tail ds again last a b h k l (suc n) in
      other_cost (suc (suc n) * (a + b)) (let t : a + b + suc n * (a + b) ≡ suc (suc n) * (a + b) = omega arith in t)
      (both (both h k) rest)

  -- ---- over functions, by their numbers

  module _ (s : PlainShape) (place_is : (k : ℕ) → k < length s.functions → size_at image (start_of s k)
      ≡ parts_words (function s k)) (some : (k : ℕ) → 0 < start_of s k) where
    return_cost : (k back_to : ℕ) → k < length s.functions → goal_cost (goal.Return (start_of s k) back_to)
        ≡ each * fill_moves s.functions k
    return_cost k back_to less =
        ap (λ t. costs each (if t then [] else came (method_at image (start_of s k)) ∷ []))
        (ne_eqb (start_of s k) 0 (λ e. omega (arith, e, some k)))
        ∙ ap (λ w. each * transactions (1 + w) + 0) (place_is k less) ∙ omega arith

    call_cost : (k : ℕ) → k < length s.functions → goal_cost (goal.Call (start_of s k))
        ≡ each * fill_moves s.functions k
    call_cost k less = ap (λ w. each * transactions (1 + w) + 0) (place_is k less) ∙ omega arith

    -- of a function that returns to a place in the function of a number
    abbrev Called : (ℕ → List Step) → (ℕ → Back → List (Option Goal)) → (ℕ → ℕ) → ℕ → Type 0
    Called f goals g number = (k : ℕ) → k < number → (home : Back)
        → Costs (f k) (goals k home) (g k + goal_cost (goal.Return home.base home.offset))

    module _ (f : ℕ → List Step) (goals : ℕ → Back → List (Option Goal)) (g : ℕ → ℕ) (number : ℕ)
        (within : number < length s.functions) (called : Called f goals g number) (home : Back) where
      mutual
        part_costs : (p : PlainPart) (at : ℕ) → part_formed number p ≡ true
            → Costs (part_trail f p) (part_dues (start_of s) goals home (start_of s number) at p) (part_bound each
            (fill_bound each s.functions) g number p)
        part_costs (straight bs) at formed = undue_cost bs
        part_costs (repeats count body tail) at formed =
            let a = and_parts (nat_lt 0 count) (parts_formed number body && is_iteration tail) formed in
            let b = and_parts (parts_formed number body) (is_iteration tail) a.1 in
            iterations_cost (parts_trail f body) (all_done tail) (parts_dues (start_of s) goals home (start_of s number)
            at body) (iteration_dues (goal.Within at) tail) (undue tail)
            (parts_bound each (fill_bound each s.functions) g number body) (bundles_bound each tail)
            (parts_costs body at b.0) (iteration_cost at tail) (undue_cost tail) count
        part_costs (calls_to k []) at formed =
            absurd (true≢false (sym (and_parts (nat_lt k number) (is_way is_call []) formed).1))
        part_costs (calls_to k (b ∷ bs)) at formed =
            let less : k < number =
            ltb-true k number (and_parts (nat_lt k number) (is_way is_call (b ∷ bs)) formed).0 in
            let there : k < length s.functions = omega (arith, less, within) in
            let back_to : Back = back (start_of s number) (at + bundles_words (b ∷ bs)) in
            let way = way_cost (goal.Call (start_of s k)) b bs in
            let callee = called k less back_to in
            let begun_callee : Costs (begins ∷ f k) (goals k back_to)
            (g k + goal_cost (goal.Return back_to.base back_to.offset)) =
            record { fits = callee.fits; is = callee.is } in
            let c1 = call_cost k there in
            let c2 = return_cost number back_to.offset within in
            other_cost (part_bound each (fill_bound each s.functions) g number (calls_to k (b ∷ bs)))
            (let all : bundles_bound each (b ∷ bs) + goal_cost (goal.Call (start_of s k)) + (g k
            + goal_cost (goal.Return back_to.base back_to.offset))
            ≡ bundles_bound each (b ∷ bs) + (fill_bound each s.functions k + fill_bound each s.functions number + g k) =
            omega (arith, c1, c2) in all)
            (both way begun_callee)
        part_costs (leaves tail) at formed = absurd (true≢false (sym formed))

        parts_costs : (ps : PlainParts) (at : ℕ) → parts_formed number ps ≡ true
            → Costs (parts_trail f ps) (parts_dues (start_of s) goals home (start_of s number) at ps) (parts_bound each
            (fill_bound each s.functions) g number ps)
        parts_costs no_part at formed = record { fits = tt; is = refl }
        parts_costs (part p rest) at formed =
            let a = and_parts (part_formed number p) (parts_formed number rest) formed in
            both (part_costs p at a.0) (parts_costs rest (at + part_words p) a.1)

      function_costs : (ps : PlainParts) (at : ℕ) → function_formed number ps ≡ true
          → Costs (parts_trail f ps) (parts_dues (start_of s) goals home (start_of s number) at ps)
          (parts_bound each (fill_bound each s.functions) g number ps
          + goal_cost (goal.Return home.base home.offset))
      function_costs no_part at formed = absurd (true≢false (sym formed))
      function_costs (part (leaves []) no_part) at formed = absurd (true≢false (sym formed))
      function_costs (part (leaves (b ∷ bs)) no_part) at formed =
          let nothing : Costs [] [] 0 = record { fits = tt; is = refl } in
          other_cost (bundles_bound each (b ∷ bs) + 0 + goal_cost (goal.Return home.base home.offset)) (omega arith)
          (both (way_cost (goal.Return home.base home.offset) b bs) nothing)
      function_costs (part (leaves tail) (part p more)) at formed = absurd (true≢false (sym formed))
      function_costs (part (straight bs) more) at formed =
          let a = and_parts (part_formed number (straight bs)) (function_formed number more) formed in
          other_cost (part_bound each (fill_bound each s.functions) g number (straight bs)
          + parts_bound each (fill_bound each s.functions) g number more
          + goal_cost (goal.Return home.base home.offset)) (omega arith)
          (both (part_costs (straight bs) at a.0) (function_costs more (at + part_words (straight bs)) a.1))
      function_costs (part (repeats count body tail) more) at formed =
          let a = and_parts (part_formed number (repeats count body tail)) (function_formed number more) formed in
          other_cost (part_bound each (fill_bound each s.functions) g number (repeats count body tail)
          + parts_bound each (fill_bound each s.functions) g number more
          + goal_cost (goal.Return home.base home.offset)) (omega arith)
          (both (part_costs (repeats count body tail) at a.0)
          (function_costs more (at + part_words (repeats count body tail)) a.1))
      function_costs (part (calls_to k tail) more) at formed =
          let a = and_parts (part_formed number (calls_to k tail)) (function_formed number more) formed in
          other_cost (part_bound each (fill_bound each s.functions) g number (calls_to k tail)
          + parts_bound each (fill_bound each s.functions) g number more
          + goal_cost (goal.Return home.base home.offset)) (omega arith)
          (both (part_costs (calls_to k tail) at a.0) (function_costs more (at + part_words (calls_to k tail)) a.1))

    functions_cost : (n : ℕ) → n ≤ length s.functions → functions_formed s.functions n ≡ true → (k : ℕ) → k < n
        → (home : Back)
        → Costs (trails s.functions n k) (dues (start_of s) s.functions n k home)
        (bounds s.functions each (fill_bound each s.functions) n k + goal_cost (goal.Return home.base home.offset))
    functions_cost zero within formed k less home = absurd (omega (arith, less))
    functions_cost (suc n) within formed k less home =
        let a = and_parts (functions_formed s.functions n) (function_formed n (slice_index_or s.functions n no_part))
        formed in
        by a.1 (functions_cost n (omega (arith, within)) a.0) (k == n) refl
      where
        by : function_formed n (slice_index_or s.functions n no_part) ≡ true
            → ((j : ℕ) → j < n → (home : Back) → Costs (trails s.functions n j) (dues (start_of s) s.functions n j home)
            (bounds s.functions each (fill_bound each s.functions) n j
            + goal_cost (goal.Return home.base home.offset)))
            → (b : Bool) → (k == n) ≡ b
            → Costs (if b then parts_trail (trails s.functions n) (slice_index_or s.functions n no_part) else trails
            s.functions n k)
            (if b then parts_dues (start_of s) (dues (start_of s) s.functions n) home (start_of s n) 0
            (slice_index_or s.functions n no_part) else dues (start_of s) s.functions n k home)
            ((if b then parts_bound each (fill_bound each s.functions)
            (bounds s.functions each (fill_bound each s.functions) n) n (slice_index_or s.functions n no_part) else
            bounds s.functions each (fill_bound each s.functions) n k)
            + goal_cost (goal.Return home.base home.offset))
        by own earlier true is = function_costs (trails s.functions n) (dues (start_of s) s.functions n)
            (bounds s.functions each (fill_bound each s.functions) n) n (omega (arith, within)) earlier home
            (slice_index_or s.functions n no_part) 0 own
        by own earlier false other = earlier k (let ne = eqb-false k n other in omega (arith, less, ne)) home

    pub shape_costs : is_formed s ≡ true → trail_cost image each (trail s) (dues_of s (back 0 0))
        ≡ bounds s.functions each (fill_bound each s.functions) (length s.functions) s.entry
    shape_costs formed =
        let a = and_parts (nat_le (length s.functions) MOST_FUNCTIONS)
        (functions_formed s.functions (length s.functions) && nat_lt s.entry (length s.functions)) formed in
        let b = and_parts (functions_formed s.functions (length s.functions))
        (nat_lt s.entry (length s.functions)) a.1 in
        (functions_cost (length s.functions) (omega arith) b.0 s.entry (ltb-true s.entry (length s.functions) b.1)
        (back 0 0)).is ∙ omega arith

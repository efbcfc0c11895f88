-- Spaced code is well formed where the code was, since delay slots that do nothing stay as they are.
use Rattle.std.proofs.Common.{◌≡◌, ℕ, zero, suc, ◌<◌, ◌≤◌, Bool, true, false, true≢false, if◌then◌else◌, List, [], ◌∷◌, ◌++◌, length, map, slice_index_or, refl, sym, ap, ◌∙◌, arith}
use Rattle.std.specs.Prelude.{nat_lt, nat_le, ◌&&◌, not}
use Rattle.std.specs.List.{list_all}
use Rattle.std.proofs.lemmas.Bool.{and_parts, and_from, not-true}
use Rattle.std.proofs.lemmas.List.{length-map}
use Rattle.patmos_instr.specs.Bundles.{PlainBundle}
use Rattle.patmos_instr.specs.declared.instructions.Op.{Op}
use Rattle.patmos_instr.specs.declared.instructions.Op.TheVariants.{Load, Mul}
use Rattle.patmos_instr.specs.declared.memories.Mem.{Mem}
use Rattle.patmos_instr.specs.declared.memories.Width.{Width}
use Rattle.sp_shape.specs.Bundles.{is_idle_op}
use Rattle.sp_shape.specs.Formed.{is_branch, is_call, is_return, is_flow, is_always, are_calm, are_delay_slots, is_iteration, is_way, part_formed, parts_formed, function_formed, functions_formed, is_formed}
use Rattle.sp_shape.specs.Parts.{straight, repeats, calls_to, leaves, PlainPart, PlainParts, no_part, part, PlainShape}
use Rattle.sp_shape.specs.Small.{idle}
use Rattle.sp_shape.specs.Words.{is_late}
use Rattle.sp_tree.specs.declared.limits.TheConstants.{MOST_FUNCTIONS}
use Rattle.bundle_sched.specs.Placed.{ignores_both, is_awaited, spaced, part_placed, parts_placed, placed}
use Rattle.bundle_sched.proofs.SpacedRuns.{placed_at}

-- ---- nothing comes late of a flow, nor of what does nothing

-- nor of anything of which no load and no product is

early : (is_it : Op → Bool) → ((space : Mem) (width : Width) (rd ra imm : ℕ) → is_it (Load space width rd ra imm)
    ≡ false) → ((unsigned : Bool) (ra rb : ℕ) → is_it (Mul unsigned ra rb) ≡ false)
    → (op : Op) → is_it op ≡ true → is_late op ≡ false
early is_it load product (Load space width rd ra imm) h = absurd (true≢false (sym h ∙ load space width rd ra imm))
early is_it load product (Mul unsigned ra rb) h = absurd (true≢false (sym h ∙ product unsigned ra rb))
early is_it load product _ h = refl

pub idle_early : (op : Op) → is_idle_op op ≡ true → is_late op ≡ false
idle_early = early is_idle_op (λ space width rd ra imm. refl) (λ unsigned ra rb. refl)

branch_early : (op : Op) → is_branch op ≡ true → is_late op ≡ false
branch_early = early is_branch (λ space width rd ra imm. refl) (λ unsigned ra rb. refl)

pub call_early : (op : Op) → is_call op ≡ true → is_late op ≡ false
call_early = early is_call (λ space width rd ra imm. refl) (λ unsigned ra rb. refl)

pub return_early : (op : Op) → is_return op ≡ true → is_late op ≡ false
return_early = early is_return (λ space width rd ra imm. refl) (λ unsigned ra rb. refl)

-- ---- what stays as it is

pub none_awaited : (b : PlainBundle) (bs : List PlainBundle) → is_late b.first.op ≡ false → is_awaited b bs ≡ false
none_awaited b [] early = early
none_awaited b (c ∷ cs) early = ap (λ late. late && not (ignores_both b.first.op c)) early

early_stays : (b : PlainBundle) (bs : List PlainBundle) → is_late b.first.op ≡ false → spaced bs ≡ bs
    → spaced (b ∷ bs) ≡ b ∷ bs
early_stays b bs early same = ap (λ awaited. (if awaited then b ∷ idle ∷ [] else b ∷ []) ++ spaced bs) (none_awaited b
    bs early) ∙ ap (λ xs. b ∷ xs) same

-- ---- slots whose values do not come late

abbrev pub is_prompt : PlainBundle → Bool
is_prompt b = not (is_late b.first.op)

-- of the slots after the flow of a tail
abbrev pub iteration_prompt : List PlainBundle → Bool
iteration_prompt [] = true
iteration_prompt (b ∷ bs) = if is_branch b.first.op then list_all is_prompt bs else iteration_prompt bs

abbrev pub way_prompt : List PlainBundle → Bool
way_prompt [] = true
way_prompt (b ∷ bs) = list_all is_prompt bs

abbrev mutual
  pub part_prompt : PlainPart → Bool
  part_prompt (straight bs) = true
  part_prompt (repeats count body tail) = parts_prompt body && iteration_prompt tail
  part_prompt (calls_to k tail) = way_prompt tail
  part_prompt (leaves tail) = way_prompt tail

  pub parts_prompt : PlainParts → Bool
  parts_prompt no_part = true
  parts_prompt (part p rest) = part_prompt p && parts_prompt rest

prompts_stay : (bs : List PlainBundle) → list_all is_prompt bs ≡ true → spaced bs ≡ bs
prompts_stay [] h = refl
prompts_stay (b ∷ bs) h =
    let both = and_parts (not (is_late b.first.op)) (list_all is_prompt bs) h in
    early_stays b bs (not-true (is_late b.first.op) both.0) (prompts_stay bs both.1)

pub way_stays : (is_it : Op → Bool) → ((op : Op) → is_it op ≡ true → is_late op ≡ false) → (tail : List PlainBundle)
    → is_way is_it tail ≡ true → way_prompt tail ≡ true → spaced tail ≡ tail
way_stays is_it early [] h slots = refl
way_stays is_it early (b ∷ bs) h slots =
    early_stays b bs (early b.first.op (and_parts (is_it b.first.op) (is_always b.first.guard && are_delay_slots 3 bs)
    h).0) (prompts_stay bs slots)

-- ---- bundles without a flow, and iterations

calm_spaced : (bs : List PlainBundle) → are_calm bs ≡ true → are_calm (spaced bs) ≡ true
calm_spaced [] h = refl
calm_spaced (b ∷ bs) h =
    let both = and_parts (not (is_flow b.first.op)) (are_calm bs) h in
    let calm = and_from (not (is_flow b.first.op)) (are_calm (spaced bs)) both.0 (calm_spaced bs both.1) in
    elim (is_awaited b bs) as (λ awaited. are_calm ((if awaited then b ∷ idle ∷ [] else b ∷ []) ++ spaced bs) ≡ true)
    [ true ↦ calm | false ↦ calm ]

pub iteration_front : (b : PlainBundle) (bs : List PlainBundle) → is_branch b.first.op ≡ false
    → not (is_flow b.first.op) ≡ true
    → is_iteration bs ≡ true → is_iteration (b ∷ bs) ≡ true
iteration_front b bs other calm h =
    ap (λ back. if back then are_delay_slots 2 bs else (not (is_flow b.first.op) && is_iteration bs)) other
    ∙ and_from (not (is_flow b.first.op)) (is_iteration bs) calm h

iteration_spaced : (tail : List PlainBundle) → is_iteration tail ≡ true → iteration_prompt tail ≡ true
    → is_iteration (spaced tail) ≡ true
iteration_spaced [] h idles = h
iteration_spaced (b ∷ bs) h idles = so (is_branch b.first.op) refl (λ h idles. iteration_spaced bs h idles)
  where
    so : (back : Bool) → is_branch b.first.op ≡ back → (is_iteration bs ≡ true → iteration_prompt bs ≡ true
        → is_iteration (spaced bs) ≡ true) → is_iteration (spaced (b ∷ bs)) ≡ true
    so true is more =
        let slots = ap (λ back. if back then list_all is_prompt bs else iteration_prompt bs) (sym is) ∙ idles in
        ap is_iteration (early_stays b bs (branch_early b.first.op is) (prompts_stay bs slots)) ∙ h
    so false is more =
        let both = and_parts (not (is_flow b.first.op)) (is_iteration bs)
        (ap (λ back. if back then are_delay_slots 2 bs else (not (is_flow b.first.op) && is_iteration bs)) (sym is)
        ∙ h) in
        let others =
        more both.1 (ap (λ back. if back then list_all is_prompt bs else iteration_prompt bs) (sym is) ∙ idles) in
        elim (is_awaited b bs) as (λ awaited. is_iteration ((if awaited then b ∷ idle ∷ [] else b ∷ []) ++ spaced bs)
        ≡ true) [
          | true ↦ iteration_front b (idle ∷ spaced bs) is both.0 others
          | false ↦ iteration_front b (spaced bs) is both.0 others
        ]

-- ---- parts

mutual
  part_stays_formed : (n : ℕ) (p : PlainPart) → part_formed n p ≡ true → part_prompt p ≡ true
      → part_formed n (part_placed p) ≡ true
  part_stays_formed n (straight bs) h idles = calm_spaced bs h
  part_stays_formed n (repeats count body tail) h idles =
      let some = and_parts (nat_lt 0 count) (parts_formed n body && is_iteration tail) h in
      let both = and_parts (parts_formed n body) (is_iteration tail) some.1 in
      let slots = and_parts (parts_prompt body) (iteration_prompt tail) idles in
      and_from (nat_lt 0 count) (parts_formed n (parts_placed body) && is_iteration (spaced tail)) some.0
      (and_from (parts_formed n (parts_placed body)) (is_iteration (spaced tail))
      (parts_stay_formed n body both.0 slots.0) (iteration_spaced tail both.1 slots.1))
  part_stays_formed n (calls_to k tail) h idles =
      ap (λ way. nat_lt k n && is_way is_call way) (way_stays is_call call_early tail
      (and_parts (nat_lt k n) (is_way is_call tail) h).1 idles) ∙ h
  part_stays_formed n (leaves tail) h idles = h

  parts_stay_formed : (n : ℕ) (ps : PlainParts) → parts_formed n ps ≡ true → parts_prompt ps ≡ true
      → parts_formed n (parts_placed ps) ≡ true
  parts_stay_formed n no_part h idles = refl
  parts_stay_formed n (part p rest) h idles =
      let both = and_parts (part_formed n p) (parts_formed n rest) h in
      let slots = and_parts (part_prompt p) (parts_prompt rest) idles in
      and_from (part_formed n (part_placed p)) (parts_formed n (parts_placed rest))
      (part_stays_formed n p both.0 slots.0) (parts_stay_formed n rest both.1 slots.1)

-- ---- functions and shapes

function_stays_formed : (n : ℕ) (ps : PlainParts) → function_formed n ps ≡ true → parts_prompt ps ≡ true
    → function_formed n (parts_placed ps) ≡ true
function_stays_formed n no_part h idles = h
function_stays_formed n (part (leaves tail) no_part) h idles =
    ap (is_way is_return) (way_stays is_return return_early tail h (and_parts (way_prompt tail) true idles).0) ∙ h
function_stays_formed n (part p rest) h idles =
    let both = and_parts (part_formed n p) (function_formed n rest) h in
    let slots = and_parts (part_prompt p) (parts_prompt rest) idles in
    and_from (part_formed n (part_placed p)) (function_formed n (parts_placed rest))
    (part_stays_formed n p both.0 slots.0) (function_stays_formed n rest both.1 slots.1)

functions_stay_formed : (fs : List PlainParts) (n : ℕ) → n ≤ length fs → functions_formed fs n ≡ true
    → ((k : ℕ) → k < length fs → parts_prompt (slice_index_or fs k no_part) ≡ true)
    → functions_formed (map parts_placed fs) n ≡ true
functions_stay_formed fs zero within h idles = refl
functions_stay_formed fs (suc n) within h idles =
    let f = slice_index_or fs n no_part in
    let both = and_parts (functions_formed fs n) (function_formed n f) h in
    and_from (functions_formed (map parts_placed fs) n)
    (function_formed n (slice_index_or (map parts_placed fs) n no_part))
    (functions_stay_formed fs n (omega (arith, within)) both.0 idles)
    (ap (function_formed n) (placed_at fs n) ∙ function_stays_formed n f both.1 (idles n (omega (arith, within))))

pub placed_formed : (s : PlainShape) → is_formed s ≡ true → ((k : ℕ) → k < length s.functions
    → parts_prompt (slice_index_or s.functions k no_part) ≡ true) → is_formed (placed s) ≡ true
placed_formed s h idles =
    let fs = map parts_placed s.functions in
    let count = length s.functions in
    let few = and_parts (nat_le count MOST_FUNCTIONS) (functions_formed s.functions count && nat_lt s.entry count) h in
    let both = and_parts (functions_formed s.functions count) (nat_lt s.entry count) few.1 in
    ap (λ n. nat_le n MOST_FUNCTIONS && (functions_formed fs n && nat_lt s.entry n))
    (length-map s.functions parts_placed)
    ∙ and_from (nat_le count MOST_FUNCTIONS) (functions_formed fs count && nat_lt s.entry count) few.0
    (and_from (functions_formed fs count) (nat_lt s.entry count) (functions_stay_formed s.functions count
    (omega arith) both.0 idles) both.1)

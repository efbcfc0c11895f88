-- The events of a trail depend on the addresses of its loads by the data cache alone.
use Rattle.std.proofs.Common.{◌≡◌, ℕ, zero, suc, ◌<◌, ◌==◌, Bool, true, false, if◌then◌else◌, List, [], ◌∷◌, ◌++◌, length, slice_index_or, Option, inl, inr, refl, sym, ap, ◌∙◌, arith, true≢false}
use Rattle.std.proofs.Math.ListN.{get_or-eq_default}
use Rattle.std.proofs.lemmas.Bool.{and_parts, cases_lt}
use Rattle.std.specs.List.{list_all}
use Rattle.patmos_code.specs.Images.{Parts}
use Rattle.patmos_instr.specs.Bundles.{PlainBundle}
use Rattle.patmos_instr.specs.declared.instructions.Op.{Op}
use Rattle.patmos_instr.specs.declared.instructions.Op.TheVariants.{Load, Store, Stack}
use Rattle.patmos_instr.specs.declared.memories.Mem.TheVariants as mem
use Rattle.patmos_sem.specs.Bundles.{effect_of}
use Rattle.patmos_sem.specs.Effects.{asked}
use Rattle.patmos_sem.specs.Registers.{Registers, FitsRegisters, holds}
use Rattle.patmos_sem.specs.declared.effects.Effect.TheVariants as effect
use Rattle.patmos_model.specs.declared.flow.Goal.{Goal}
use Rattle.core_pace.specs.Pace.{event_of}
use Rattle.sp_shape.proofs.Whole.{late_fits}
use Rattle.sp_shape.specs.Bundles.{may_move, is_steady, part_all, parts_all}
use Rattle.sp_shape.specs.Formed.{is_always}
use Rattle.sp_shape.specs.Parts.{PlainPart, straight, repeats, calls_to, leaves, PlainParts, no_part, part, PlainShape}
use Rattle.sp_shape.specs.Run.{Run, Sources, first_load, other_loads, late, begun}
use Rattle.sp_shape.specs.Trail.{Step, does, begins, all_done, copies, part_trail, parts_trail, trails, trail}
use Rattle.tc_link.proofs.Tails.{always_holds}
use Rattle.code_core.specs.Fixed.{kind_of, is_cached, cached_in, addresses_in, fixed_events, AreSteady}
use Rattle.code_core.specs.Goes.{goal_events, run_events}

-- ---- a bundle

-- what an operation asks for as an event, and the addresses that are left
record Told (on : Bool) (op : Op) (regs : Registers) (rest : List ℕ) : Type 0 where
  event : event_of (if on then asked regs op else effect.Nothing)
      ≡ kind_of op (first_load (cached_in (if on then asked regs op else effect.Nothing) ++ rest))
  left : (if is_cached op then other_loads (cached_in (if on then asked regs op else effect.Nothing)
      ++ rest) else cached_in (if on then asked regs op else effect.Nothing) ++ rest) ≡ rest

told : (on : Bool) (op : Op) (regs : Registers) (rest : List ℕ) → (may_move op ≡ true → on ≡ true)
    → Told on op regs rest
told true (Load mem.S width rd ra imm) regs rest h = record { event = refl; left = refl }
told true (Load mem.L width rd ra imm) regs rest h = record { event = refl; left = refl }
told true (Load mem.C width rd ra imm) regs rest h = record { event = refl; left = refl }
told true (Load mem.M width rd ra imm) regs rest h = record { event = refl; left = refl }
told true (Store mem.S width ra rs imm) regs rest h = record { event = refl; left = refl }
told true (Store mem.L width ra rs imm) regs rest h = record { event = refl; left = refl }
told true (Store mem.C width ra rs imm) regs rest h = record { event = refl; left = refl }
told true (Store mem.M width ra rs imm) regs rest h = record { event = refl; left = refl }
told true _ regs rest h = record { event = refl; left = refl }
told false (Load mem.S width rd ra imm) regs rest h = record { event = refl; left = refl }
told false (Load mem.L width rd ra imm) regs rest h = record { event = refl; left = refl }
told false (Load mem.C width rd ra imm) regs rest h = absurd (true≢false (sym (h refl)))
told false (Load mem.M width rd ra imm) regs rest h = absurd (true≢false (sym (h refl)))
told false (Store mem.S width ra rs imm) regs rest h = record { event = refl; left = refl }
told false (Store mem.L width ra rs imm) regs rest h = record { event = refl; left = refl }
told false (Store mem.C width ra rs imm) regs rest h = absurd (true≢false (sym (h refl)))
told false (Store mem.M width ra rs imm) regs rest h = absurd (true≢false (sym (h refl)))
told false (Stack func count) regs rest h = absurd (true≢false (sym (h refl)))
told false _ regs rest h = record { event = refl; left = refl }

steady_on : (b : PlainBundle) (regs : Registers) → FitsRegisters regs → is_steady b ≡ true → may_move b.first.op ≡ true
    → holds regs b.first.guard ≡ true
steady_on b regs fits steady moves =
    always_holds b.first.guard regs fits (sym (ap (λ t. if t then is_always b.first.guard else true) moves) ∙ steady)

begun_fits : (m : Run) → FitsRegisters m.regs → FitsRegisters (begun m).regs
begun_fits m h = record { count = h.count; pred_count = h.pred_count; zero = h.zero; always = h.always }

pub fixed : (image : Parts) (from : Sources) (steps : List Step) (ds : List (Option Goal)) (m : Run) → AreSteady steps
    → FitsRegisters m.regs → run_events image from steps ds m ≡ fixed_events image steps ds (addresses_in from steps m)
fixed image from [] ds m steady fits = refl
fixed image from (does b ∷ steps) [] m steady fits = refl
fixed image from (does b ∷ steps) (d ∷ ds) m steady fits =
    let rest : List ℕ = addresses_in from steps (late from b m) in
    let t : Told (holds m.regs b.first.guard) b.first.op m.regs rest =
    told (holds m.regs b.first.guard) b.first.op m.regs rest (steady_on b m.regs fits steady.0) in
    (λ i. (t.event i ∷ goal_events image d) ++ fixed image from steps ds (late from b m) steady.1
    (late_fits from b m fits) i)
    ∙ ap (λ l. (kind_of b.first.op (first_load (cached_in (effect_of b m.regs) ++ rest)) ∷ goal_events image d)
    ++ fixed_events image steps ds l) (sym t.left)
fixed image from (begins ∷ steps) ds m steady fits = fixed image from steps ds (begun m) steady (begun_fits m fits)

-- ---- the bundles of shapes

steady_append : (xs ys : List Step) → AreSteady xs → AreSteady ys → AreSteady (xs ++ ys)
steady_append [] ys a b = b
steady_append (does x ∷ xs) ys a b = (a.0, steady_append xs ys a.1 b)
steady_append (begins ∷ xs) ys a b = steady_append xs ys a b

steady_all : (bs : List PlainBundle) → list_all is_steady bs ≡ true → AreSteady (all_done bs)
steady_all [] h = tt
steady_all (b ∷ bs) h = let p = and_parts (is_steady b) (list_all is_steady bs) h in (p.0, steady_all bs p.1)

steady_copies : (n : ℕ) (xs : List Step) → AreSteady xs → AreSteady (copies n xs)
steady_copies zero xs h = tt
steady_copies (suc n) xs h = steady_append xs (copies n xs) h (steady_copies n xs h)

mutual
  steady_part : (f : ℕ → List Step) → ((k : ℕ) → AreSteady (f k)) → (p : PlainPart) → part_all is_steady p ≡ true
      → AreSteady (part_trail f p)
  steady_part f each (straight bs) h = steady_all bs h
  steady_part f each (repeats count body tail) h =
      let p = and_parts (parts_all is_steady body) (list_all is_steady tail) h in
      steady_copies count (parts_trail f body ++ all_done tail) (steady_append (parts_trail f body) (all_done tail)
      (steady_parts f each body p.0) (steady_all tail p.1))
  steady_part f each (calls_to k tail) h = steady_append (all_done tail) (begins ∷ f k) (steady_all tail h) (each k)
  steady_part f each (leaves tail) h = steady_all tail h

  steady_parts : (f : ℕ → List Step) → ((k : ℕ) → AreSteady (f k)) → (ps : PlainParts) → parts_all is_steady ps ≡ true
      → AreSteady (parts_trail f ps)
  steady_parts f each no_part h = tt
  steady_parts f each (part p rest) h =
      let a = and_parts (part_all is_steady p) (parts_all is_steady rest) h in
      steady_append (part_trail f p) (parts_trail f rest) (steady_part f each p a.0) (steady_parts f each rest a.1)

steady_functions : (fs : List PlainParts) → ((k : ℕ) → parts_all is_steady (slice_index_or fs k no_part) ≡ true)
    → (n k : ℕ) → AreSteady (trails fs n k)
steady_functions fs each zero k = tt
steady_functions fs each (suc n) k =
    elim (k == n) as (λ b. AreSteady (if b then parts_trail (trails fs n) (slice_index_or fs n no_part) else
    trails fs n k)) [
      | true ↦ steady_parts (trails fs n) (steady_functions fs each n) (slice_index_or fs n no_part) (each n)
      | false ↦ steady_functions fs each n k
    ]

pub steady_trail : (s : PlainShape) → ((k : ℕ) → k < length s.functions
    → parts_all is_steady (slice_index_or s.functions k no_part) ≡ true) → AreSteady (trail s)
steady_trail s each = steady_functions s.functions all (length s.functions) s.entry
  where
    all : (k : ℕ) → parts_all is_steady (slice_index_or s.functions k no_part) ≡ true
    all k = elim (cases_lt k (length s.functions)) [
      | inl less ↦ each k less
      | inr past ↦ ap (parts_all is_steady) (get_or-eq_default s.functions no_part (omega (arith, past)))
    ]

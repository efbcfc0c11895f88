-- A bundle after a flow that stood before it: what comes of them read at once is the same.
use Rattle.std.proofs.Common.{◌≡◌, ℕ, Bool, true, false, not, true≢false, if◌then◌else◌, Option, Some, None, List, [], ◌∷◌, ◌++◌, refl, sym, ap, ◌∙◌}
use Rattle.std.specs.Prelude.{◌&&◌, ◌||◌, is_none}
use Rattle.std.proofs.lemmas.Bool.{and_parts, not-true}
use Rattle.patmos_instr.specs.Bundles.{PlainBundle}
use Rattle.patmos_instr.specs.declared.guards.Guard.{Guard}
use Rattle.patmos_instr.specs.declared.instructions.Instr.{Instr}
use Rattle.patmos_instr.specs.declared.instructions.Op.{Op}
use Rattle.patmos_instr.specs.declared.instructions.Op.TheVariants.{Mul, ToSpecial, Stack, Load, Store, Branch, Call, BranchFill, Return}
use Rattle.patmos_sem.specs.Bundles.{slot_write, second_write}
use Rattle.patmos_instr.specs.declared.functions.StackFunc.TheVariants.{Sres, Sens, Sfree}
use Rattle.patmos_instr.specs.declared.memories.Mem.TheVariants as mem
use Rattle.patmos_sem.specs.Effects.{write_of, asked}
use Rattle.patmos_sem.specs.Registers.{Registers, pred_in, holds}
use Rattle.patmos_sem.specs.Writes.{after_writes, came, pred_by, base_by, offset_by}
use Rattle.patmos_sem.specs.declared.effects.Effect.TheVariants as effect
use Rattle.patmos_sem.specs.declared.effects.FlowKind.{FlowKind}
use Rattle.patmos_sem.specs.declared.effects.FlowKind.TheVariants as flow_kind
use Rattle.patmos_sem.specs.declared.pending.Pending.TheVariants as pending
use Rattle.patmos_sem.specs.declared.writes.Write.{Write}
use Rattle.patmos_sem.specs.declared.writes.Write.TheVariants as write
use Rattle.sp_shape.proofs.Whole.{with_pending, behind, once_whole}
use Rattle.sp_shape.specs.Run.{Run, Way, branches, calls, fills, returns, way_of, IsWhole, Sources, effected, late, once, with_settled}
use Rattle.sp_shape.specs.Formed.{is_flow, is_always}
use Rattle.sp_shape.specs.Words.{is_late}
use Rattle.bundle_sched.specs.Operands.{spares}
use Rattle.bundle_sched.specs.Packed.{lone, is_special, holds_special}
use Rattle.bundle_sched.specs.Packing.{can_move, spares_pred, spares_guard, lets_pass}
use Rattle.bundle_sched.proofs.Once.{with_regs, early_once, settled_same, three, early_told}
use Rattle.bundle_sched.proofs.Commute.{no_second, always_is}
use Rattle.bundle_sched.proofs.Unwritten.{pred_kept, pred_spared, second_spared}

abbrev with_ways : Run → List Way → Run
with_ways m ways = record m { ways = ways }

-- what a flow asks for
abbrev way_asked : Op → Registers → Way
way_asked (Call target) regs = calls
way_asked (BranchFill target) regs = fills
way_asked Return regs = returns regs.srb regs.sro
way_asked _ regs = branches

abbrev with_asked : Bool → Op → Run → Run
with_asked on op m = if on then with_ways m (m.ways ++ way_asked op m.regs ∷ []) else m

pub flow_early : (op : Op) → is_flow op ≡ true → is_late op ≡ false
flow_early (Load space width rd ra imm) h = absurd (true≢false (sym h))
flow_early (Mul unsigned ra rb) h = absurd (true≢false (sym h))
flow_early _ h = refl

-- the registers settle, and the flow is asked for where the guard is true
asked_late : (from : Sources) (flow : FlowKind) (on : Bool) (m : Run)
    → effected from (if on then effect.Flow flow else effect.Nothing)
    (with_regs m (with_pending (after_writes (came m.regs.pending ∷ (if on then write.Nothing else write.Nothing)
    ∷ write.Nothing ∷ []) m.regs) (if on then pending.Nothing else pending.Nothing)))
    ≡ (if on then with_ways (with_settled m) (m.ways ++ way_of flow ∷ []) else with_settled m)
asked_late from flow true m = refl
asked_late from flow false m = refl

flow_late : (from : Sources) (x : Instr) (m : Run) → is_flow x.op ≡ true
    → late from (lone x) m ≡ (if holds m.regs x.guard then with_ways (with_settled m) (m.ways ++ way_asked x.op m.regs
    ∷ []) else with_settled m)
flow_late from x m h = so x.op h
  where
    so : (op : Op) → is_flow op ≡ true → late from (lone (record { guard = x.guard; op = op })) m
        ≡ (if holds m.regs x.guard then with_ways (with_settled m) (m.ways ++ way_asked op m.regs ∷ []) else
        with_settled m)
    so (Branch offset) h = asked_late from (flow_kind.Branch offset) (holds m.regs x.guard) m
    so (Call target) h = asked_late from (flow_kind.Call target) (holds m.regs x.guard) m
    so (BranchFill target) h = asked_late from (flow_kind.BranchFill target) (holds m.regs x.guard) m
    so Return h = asked_late from (flow_kind.Return m.regs.srb m.regs.sro) (holds m.regs x.guard) m
    so _ h = absurd (true≢false (sym h))

flow_once : (from : Sources) (t : PlainBundle) (m : Run) → IsWhole m → is_flow t.first.op ≡ true
    → is_none t.second ≡ true
    → once from t m ≡ with_asked (holds m.regs t.first.guard) t.first.op m
flow_once from t m whole flow lone =
    sym (early_once from t m whole (flow_early t.first.op flow))
    ∙ ap (λ b. late from b m) (no_second t lone)
    ∙ flow_late from t.first m flow
    ∙ ap (λ regs. if holds m.regs t.first.guard then with_ways (with_regs m regs) (m.ways ++ way_asked t.first.op m.regs
    ∷ []) else with_regs m regs) (settled_same m.regs whole.fits whole.pending)

-- what is asked for, but of a load and a flow, does not see the flows
ways_apart : (from : Sources) (on : Bool) (op : Op) (regs : Registers) (m : Run) (ways : List Way) → is_late op ≡ false
    → is_flow op ≡ false
    → effected from (if on then asked regs op else effect.Nothing) (with_ways m ways)
    ≡ with_ways (effected from (if on then asked regs op else effect.Nothing) m) ways
ways_apart from false op regs m ways early calm = refl
ways_apart from true (Load space width rd ra imm) regs m ways early calm = absurd (true≢false early)
ways_apart from true (Store mem.S width ra rs imm) regs m ways early calm = refl
ways_apart from true (Store _ width ra rs imm) regs m ways early calm = refl
ways_apart from true (Stack Sres count) regs m ways early calm = refl
ways_apart from true (Stack Sens count) regs m ways early calm = refl
ways_apart from true (Stack Sfree count) regs m ways early calm = refl
ways_apart from true (Branch offset) regs m ways early calm = absurd (true≢false calm)
ways_apart from true (Call target) regs m ways early calm = absurd (true≢false calm)
ways_apart from true (BranchFill target) regs m ways early calm = absurd (true≢false calm)
ways_apart from true Return regs m ways early calm = absurd (true≢false calm)
ways_apart from true _ regs m ways early calm = refl

-- it asks for no flow
ways_kept : (from : Sources) (on : Bool) (op : Op) (regs : Registers) (m : Run) → is_late op ≡ false
    → is_flow op ≡ false
    → (effected from (if on then asked regs op else effect.Nothing) m).ways ≡ m.ways
ways_kept from on op regs m early calm = ap (λ x. x.ways) (ways_apart from on op regs m m.ways early calm)

not_special : (on : Bool) (op : Op) (st ss : ℕ) (regs : Registers) (x : ℕ) → is_special op ≡ false
    → (base_by (if on then write_of st ss regs op else write.Nothing) x ≡ x)
    × (offset_by (if on then write_of st ss regs op else write.Nothing) x ≡ x)
not_special false op st ss regs x h = (refl, refl)
not_special true (ToSpecial to ra) st ss regs x h = absurd (true≢false h)
not_special true _ st ss regs x h = (refl, refl)

second_special : (o : Option Instr) (st ss : ℕ) (regs : Registers) (x : ℕ)
    → (elim o as (λ _. Bool) [ None ↦ false | Some i ↦ is_special i.op ]) ≡ false
    → (base_by (second_write st ss regs o) x ≡ x) × (offset_by (second_write st ss regs o) x ≡ x)
second_special None st ss regs x h = (refl, refl)
second_special (Some i) st ss regs x h = not_special (holds regs i.guard) i.op st ss regs x h

or_false : (x y : Bool) → (x || y) ≡ false → (x ≡ false) × (y ≡ false)
or_false true y h = absurd (true≢false h)
or_false false y h = (refl, h)

-- the registers after a bundle
regs_once : (from : Sources) (b : PlainBundle) (m : Run) → IsWhole m → is_late b.first.op ≡ false
    → (once from b m).regs ≡ three (slot_write m.st m.ss m.regs b.first) (second_write m.st m.ss m.regs b.second)
    write.Nothing m.regs
regs_once from b m whole early = ap (λ t. t.regs) (early_told from b m whole early)

-- the place that a return goes to stays
back_kept : (from : Sources) (b : PlainBundle) (m : Run) → IsWhole m → is_late b.first.op ≡ false
    → holds_special b ≡ false
    → ((once from b m).regs.srb ≡ m.regs.srb) × ((once from b m).regs.sro ≡ m.regs.sro)
back_kept from b m whole early none =
    let special_none = or_false (is_special b.first.op)
    (elim b.second as (λ _. Bool) [ None ↦ false | Some i ↦ is_special i.op ]) none in
    let on = holds m.regs b.first.guard in
    let regs_is = regs_once from b m whole early in
    let v = slot_write m.st m.ss m.regs b.first in
    let w = second_write m.st m.ss m.regs b.second in
    let base = ap (base_by w) (not_special on b.first.op m.st m.ss m.regs m.regs.srb special_none.0).0
    ∙ (second_special b.second m.st m.ss m.regs m.regs.srb special_none.1).0 in
    let offset = ap (offset_by w) (not_special on b.first.op m.st m.ss m.regs m.regs.sro special_none.0).1
    ∙ (second_special b.second m.st m.ss m.regs m.regs.sro special_none.1).1 in
    (ap (λ r. r.srb) regs_is ∙ base, ap (λ r. r.sro) regs_is ∙ offset)

way_same : (op : Op) (regs next : Registers) → next.srb ≡ regs.srb → next.sro ≡ regs.sro → way_asked op next
    ≡ way_asked op regs
way_same Return regs next base offset = λ k. returns (base k) (offset k)
way_same _ regs next base offset = refl

-- a guard that the bundle spares holds as before
guard_kept : (from : Sources) (b : PlainBundle) (g : Guard) (m : Run) → IsWhole m → is_late b.first.op ≡ false
    → spares_guard b g ≡ true → holds (once from b m).regs g ≡ holds m.regs g
guard_kept from b g m whole early h = so (is_always g) refl h
  where
    first : Write
    first = slot_write m.st m.ss m.regs b.first

    second : Write
    second = second_write m.st m.ss m.regs b.second

    so : (always : Bool) → is_always g ≡ always → (always || spares_pred b g.pred) ≡ true → holds (once from b m).regs g
        ≡ holds m.regs g
    so true is h =
        ap (holds (once from b m).regs) (always_is g is) ∙ (once_whole from b m whole).fits.always
        ∙ sym whole.fits.always ∙ ap (holds m.regs) (sym (always_is g is))
    so false is h =
        let both = and_parts (spares b.first.op (g.pred ∷ []))
        (elim b.second as (λ _. Bool) [ None ↦ true | Some i ↦ spares i.op (g.pred ∷ []) ]) h in
        let on = holds m.regs b.first.guard in
        let kept = pred_kept (write.Nothing ∷ first ∷ second ∷ write.Nothing ∷ []) m.regs g.pred whole.fits (λ x.
        ap (pred_by g.pred second) (pred_spared on b.first.op m.st m.ss m.regs g.pred [] x both.0)
        ∙ second_spared b.second m.st m.ss m.regs g.pred x both.1) in
        ap (λ p. if g.negated then not p else p) (ap (λ r. pred_in r g.pred) (regs_once from b m whole early) ∙ kept)

module _ (from : Sources) (b : PlainBundle) (h : can_move b ≡ true) where
  can_early : is_late b.first.op ≡ false
  can_early = not-true (is_late b.first.op) (and_parts (not (is_late b.first.op))
      (not (is_flow b.first.op) && not (holds_special b)) h).0

  can_calm : is_flow b.first.op ≡ false
  can_calm = not-true (is_flow b.first.op) (and_parts (not (is_flow b.first.op)) (not (holds_special b))
      (and_parts (not (is_late b.first.op)) (not (is_flow b.first.op) && not (holds_special b)) h).1).0

  can_special : holds_special b ≡ false
  can_special = not-true (holds_special b) (and_parts (not (is_flow b.first.op)) (not (holds_special b))
      (and_parts (not (is_late b.first.op)) (not (is_flow b.first.op) && not (holds_special b)) h).1).1

  -- it asks for no flow
  pub moved_ways : (m : Run) → (once from b m).ways ≡ m.ways
  moved_ways m = ways_kept from (holds m.regs b.first.guard) b.first.op m.regs (behind b m) can_early can_calm

  -- after the flow that is asked for it leaves what it leaves before it
  asked_before : (on : Bool) (op : Op) (m : Run) → IsWhole m → once from b (with_asked on op m)
      ≡ with_asked on op (once from b m)
  asked_before false op m whole = refl
  asked_before true op m whole =
      let back = back_kept from b m whole can_early can_special in
      let same = way_same op m.regs (once from b m).regs back.0 back.1 in
      ap with_settled (ways_apart from (holds m.regs b.first.guard) b.first.op m.regs (behind b m)
      (m.ways ++ way_asked op m.regs ∷ []) can_early can_calm)
      ∙ (λ k. with_ways (once from b m) (sym (moved_ways m) k ++ sym same k ∷ []))

  pub moved_once : (t : PlainBundle) (m : Run) → IsWhole m → lets_pass t b ≡ true → once from b (once from t m)
      ≡ once from t (once from b m)
  moved_once t m whole pass =
      let one = and_parts (is_flow t.first.op) (is_none t.second && spares_guard b t.first.guard) pass in
      let two = and_parts (is_none t.second) (spares_guard b t.first.guard) one.1 in
      ap (once from b) (flow_once from t m whole one.0 two.0)
      ∙ asked_before (holds m.regs t.first.guard) t.first.op m whole
      ∙ ap (λ on. with_asked on t.first.op (once from b m)) (sym
      (guard_kept from b t.first.guard m whole can_early two.1))
      ∙ sym (flow_once from t (once from b m) (once_whole from b m whole) one.0 two.0)

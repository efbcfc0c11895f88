-- Bundles that a core does at once, told by what was decoded.
use Rattle.std.proofs.Common.{◌≡◌, ℕ, ℤ, ◌+◌, ◌<◌, ◌≤◌, ◌==◌, ◌&&◌, nat_lt, nat_le, Bool, true, false, Option, None, Some, [], ◌∷◌, refl, sym, ap, ◌∙◌, arith, if◌then◌else◌}
use Rattle.std.proofs.lemmas.Bool.Decides.{nat_tests}
use Rattle.patmos_instr.specs.Bundles.{PlainBundle}
use Rattle.patmos_instr.specs.declared.guards.Guard.{Guard}
use Rattle.patmos_instr.specs.declared.instructions.Instr.{Instr}
use Rattle.patmos_instr.specs.declared.instructions.Op.{Op}
use Rattle.patmos_instr.specs.declared.instructions.Op.TheVariants as op
use Rattle.patmos_sem.specs.declared.effects.Effect.{Effect}
use Rattle.patmos_sem.specs.declared.effects.Effect.TheVariants as effect
use Rattle.patmos_sem.specs.declared.effects.FlowKind.TheVariants as flow
use Rattle.patmos_sem.specs.declared.pending.Pending.TheVariants as pending
use Rattle.patmos_sem.specs.declared.writes.Write.TheVariants as write
use Rattle.patmos_sem.specs.Registers.{holds}
use Rattle.patmos_sem.specs.Writes.{after_writes, came}
use Rattle.patmos_sem.specs.Bundles.{after_bundle, effect_of}
use Rattle.patmos_model.specs.declared.flow.Flow.{Flow}
use Rattle.slot_arbiter.specs.Slot.{is_slot_start}
use Rattle.patmos_model.specs.State.{Plain}
use Rattle.patmos_model.specs.Transaction.{is_due}
use Rattle.patmos_step.specs.declared.body.Body.{Body}
use Rattle.patmos_step.specs.declared.code.Class.TheVariants as classes
use Rattle.patmos_step.specs.declared.code.Decoded.{Decoded}
use Rattle.patmos_step.specs.Code.{StandsAt, is_silent, branch_of, class_in, class_of}
use Rattle.patmos_step.specs.Ready.{IsGranted}
use Rattle.patmos_step.specs.Shown.{plain_of}
use Rattle.patmos_step.specs.Plan.{passed}
use Rattle.patmos_alone.specs.Alone.{CanBegin, CanLand, CanWait, AsksOwn, CanFlow, no_slot_left, landed, with_registers, finished, IsPrivateIn}
use Rattle.patmos_alone.specs.AtOnce.{branch_alone, branched, IsBranchIn}
use Rattle.patmos_alone.proofs.ByItself.{silent_asks}
use Rattle.patmos_step.proofs.Fetching.{a_bundle}

-- the class of a bundle, and of none
class_of_some : (bundle : PlainBundle) → class_of (Some bundle) ≡ class_in bundle
unfolding class_of
class_of_some bundle = refl

class_of_none : class_of None ≡ classes.Other
unfolding class_of
class_of_none = refl

-- the class that was found is that of the bundle
class_is : (base offset : ℕ) (b : Body) (found : Decoded) → StandsAt b.image base offset found
    → class_of found.bundle ≡ found.class
class_is base offset b found stands = ap (λ d. class_of d.bundle) stands.is ∙ sym (ap (λ d. d.class) stands.is)

-- what a class says of a bundle
silent_class : (bundle : PlainBundle) → class_in bundle ≡ classes.Silent → is_silent bundle.first.op ≡ true
silent_class bundle h = by (is_silent bundle.first.op) bundle.second (branch_of bundle.first.op) h
  where
    by : (silent : Bool) (second : Option Instr) (branch : Option ℤ) → elim silent [
      | true ↦ classes.Silent
      | false ↦ elim second [
        | None ↦ elim branch [
          | None ↦ classes.Other
          | Some jump ↦ classes.Branch bundle.first.guard
              jump
        ]
        | Some other ↦ classes.Other
      ]
    ] ≡ classes.Silent → silent ≡ true
    by true second branch h = refl
    by false (Some other) branch h = cc
    by false None None h = cc
    by false None (Some jump) h = cc

branch_is : (o : Op) (jump : ℤ) → branch_of o ≡ Some jump → o ≡ op.Branch jump
branch_is (op.AluImm func rd ra imm) jump h = cc
branch_is _ jump h = cc

branch_class : (bundle : PlainBundle) (guard : Guard) (jump : ℤ) → class_in bundle ≡ classes.Branch guard jump → bundle
    ≡ branch_alone guard jump
branch_class bundle guard jump h = by (is_silent bundle.first.op) bundle.second (branch_of bundle.first.op) refl refl h
  where
    by : (silent : Bool) (second : Option Instr) (branch : Option ℤ) → bundle.second ≡ second
        → branch_of bundle.first.op ≡ branch → elim silent [
          | true ↦ classes.Silent
          | false ↦ elim second [
            | None ↦ elim branch [
              | None ↦ classes.Other
              | Some to ↦ classes.Branch bundle.first.guard
                  to
            ]
            | Some other ↦ classes.Other
          ]
        ] ≡ classes.Branch guard jump → bundle ≡ branch_alone guard jump
    by true second branch none found h = cc
    by false (Some other) branch none found h = cc
    by false None None none found h = cc
    by false None (Some to) none found h =
        let same_guard : bundle.first.guard ≡ guard = cc in
        let same_jump : to ≡ jump = cc in
        let operation : bundle.first.op ≡ op.Branch jump =
        branch_is bundle.first.op to found ∙ ap op.Branch same_jump in
        λ i. record { first = record { guard = same_guard i; op = operation i }; second = none i }

-- so a bundle that was found asks for nothing, or is a branch alone
pub silent_next : (cycle offset : ℕ) (b : Body) (found : Decoded) → CanBegin cycle (plain_of b)
    → CanLand offset (plain_of b) → StandsAt b.image b.base offset found
    → offset < b.size → offset + found.words ≤ b.size → found.class ≡ classes.Silent
    → IsPrivateIn cycle b (record { offset = offset; words = found.words; effect = effect.Nothing })
silent_next cycle offset b found begins can stands inside within is =
    by found.bundle refl (class_is b.base offset b found stands ∙ is)
  where
    by : (bundle : Option PlainBundle) → found.bundle ≡ bundle → class_of bundle ≡ classes.Silent
        → IsPrivateIn cycle b (record { offset = offset; words = found.words; effect = effect.Nothing })
    by None same h = absurd (let no : classes.Other ≡ classes.Silent = sym class_of_none ∙ h in cc)
    by (Some bundle) same h = record {
      begins = begins;
      here = record {
        lands = can;
        bundle = bundle;
        fetched = sym (a_bundle b.image b.base offset found bundle stands same);
        inside = inside;
        within = within;
        asks = silent_asks bundle b.regs (silent_class bundle (sym (class_of_some bundle) ∙ h));
      };
      own = tt;
      granted = tt;
      flow = tt;
      waits = tt;
    }

either_way : (P : Effect → Type 0) (taken : Bool) (jump : ℤ) → P (effect.Flow (flow.Branch jump)) → P effect.Nothing
    → P (if taken then effect.Flow (flow.Branch jump) else effect.Nothing)
either_way P true jump flows stays = flows
either_way P false jump flows stays = stays

pub branch_next : (cycle offset : ℕ) (b : Body) (found : Decoded) (guard : Guard) (jump : ℤ)
    → CanBegin cycle (plain_of b) → CanLand offset (plain_of b) → StandsAt b.image b.base offset found
    → offset < b.size → offset + found.words ≤ b.size → found.class ≡ classes.Branch guard jump → no_slot_left b.flow
    ≡ true → IsBranchIn cycle b offset found.words guard jump
branch_next cycle offset b found guard jump begins can stands inside within is none =
    by found.bundle refl (class_is b.base offset b found stands ∙ is)
  where
    by : (bundle : Option PlainBundle) → found.bundle ≡ bundle → class_of bundle ≡ classes.Branch guard jump
        → IsBranchIn cycle b offset found.words guard jump
    by None same h = absurd (let no : classes.Other ≡ classes.Branch guard jump = sym class_of_none ∙ h in cc)
    by (Some bundle) same h =
        let whole : bundle ≡ branch_alone guard jump =
        branch_class bundle guard jump (sym (class_of_some bundle) ∙ h) in
        record {
          next = record {
            begins = begins;
            here = record {
              lands = can;
              bundle = bundle;
              fetched = sym (a_bundle b.image b.base offset found bundle stands same);
              inside = inside;
              within = within;
              asks = ap (λ s. effect_of s b.regs) (sym whole);
            };
            own = either_way AsksOwn (holds b.regs guard) jump tt tt;
            granted = either_way (λ e. IsGranted e (plain_of b)) (holds b.regs guard) jump tt tt;
            flow = either_way (CanFlow (plain_of b)) (holds b.regs guard) jump none tt;
            waits = either_way (λ e. CanWait e cycle (plain_of b).site) (holds b.regs guard) jump tt tt;
          };
          is = whole;
          alone = none;
        }

-- the core after a branch alone
pub branched_is : (cycle words offset : ℕ) (guard : Guard) (jump : ℤ) (x : Plain) (bundle : PlainBundle)
    → no_slot_left x.flow
    ≡ true → bundle ≡ branch_alone guard jump
    → record x {
      regs = record (after_writes (came x.regs.pending ∷ []) x.regs) { pending = pending.Nothing };
      offset = offset + words;
      flow = branched (holds x.regs guard) offset jump;
      free = cycle + 1;
    } ≡ finished (effect_of (branch_alone guard jump) x.regs) cycle (passed words
    (effect_of (branch_alone guard jump) x.regs) (landed offset (with_registers bundle x)))
branched_is cycle words offset guard jump x bundle none is =
    by (holds x.regs guard)
    ∙ (λ i. finished (effect_of (branch_alone guard jump) x.regs) cycle
    (passed words (effect_of (branch_alone guard jump) x.regs) (record x {
      regs = after_bundle x.stack.st x.stack.ss (sym is i) x.regs;
      offset = offset;
      flow = elim (sym none i) as (λ _. Option Flow) [ true ↦ None | false ↦ x.flow ];
    })))
  where
    asks : Bool → Effect
    asks taken = if taken then effect.Flow (flow.Branch jump) else effect.Nothing

    by : (taken : Bool) → record x {
      regs = record (after_writes (came x.regs.pending ∷ []) x.regs) { pending = pending.Nothing };
      offset = offset + words;
      flow = branched taken offset jump;
      free = cycle + 1;
    } ≡ finished (asks taken) cycle (passed words (asks taken) (record x {
      regs = record (after_writes (came x.regs.pending ∷ (if taken then write.Nothing else write.Nothing)
          ∷ write.Nothing ∷ []) x.regs) {
            pending = if taken then pending.Nothing else pending.Nothing;
          };
      offset = offset;
      flow = None;
    }))
    by true = refl
    by false = refl

-- and the next bundle comes in the next cycle
pub begins_next : (cycle : ℕ) (x y : Plain) → CanBegin cycle x → y.status ≡ x.status → y.transfer ≡ x.transfer → y.free
    ≡ cycle + 1 → CanBegin (cycle + 1) y
begins_next cycle x y begins status transfer free = record {
  status = status ∙ begins.status;
  free = (λ i. ((transfer i).words == 0) && (free i == cycle + 1))
      ∙ still_free x.transfer.words x.free cycle begins.free;
}
  where
    still_free : (words free cycle : ℕ) → (words == 0) && (free == cycle) ≡ true → (words == 0)
        && (cycle + 1 == cycle + 1) ≡ true
    still_free words free cycle h = grind (arith, nat_tests)

-- words that can be moved are left to be moved
pub some_due : (cycle : ℕ) (x : Plain) → is_due cycle x ≡ true → 0 < x.transfer.words
some_due cycle x due =
    by x.transfer.words (nat_le x.free cycle && is_slot_start x.site.table x.site.slot x.site.core cycle) due
  where
    by : (words : ℕ) (rest : Bool) → nat_lt 0 words && rest ≡ true → 0 < words
    by words rest h = grind (arith, nat_tests)

-- What else scheduled code has of the code: as many functions, what may have a transaction with main memory is always
-- done, it has no more words than there was room for, and no bundle is lost.
use Rattle.std.proofs.Common.{◌≡◌, ℕ, ◌≤◌, Bool, true, true≢false, if◌then◌else◌, Some, length, slice_index_or, refl, sym, ap, ◌∙◌, arith}
use Rattle.std.proofs.lemmas.List.{length-map}
use Rattle.patmos_instr.specs.Bundles.{PlainBundle}
use Rattle.patmos_instr.specs.Instructions.{is_second_kind}
use Rattle.patmos_instr.specs.declared.instructions.Instr.{Instr}
use Rattle.patmos_instr.specs.declared.instructions.Op.{Op}
use Rattle.patmos_instr.specs.declared.instructions.Op.TheVariants.{AluLong, Load, Store, Stack}
use Rattle.sp_shape.specs.Formed.{is_always}
use Rattle.sp_shape.specs.Bundles.{is_idle, may_move, is_steady, parts_all, is_word_op, has_word}
use Rattle.sp_shape.specs.Parts.{no_part, PlainShape}
use Rattle.sp_shape.specs.Words.{parts_words, parts_room}
use Rattle.bundle_sched.specs.Packed.{can_join, pair, lone}
use Rattle.bundle_sched.specs.Packing.{function_merged, merged}
use Rattle.bundle_sched.specs.Placed.{parts_placed}
use Rattle.bundle_sched.specs.Scheduled.{scheduled}
use Rattle.bundle_sched.proofs.Alike.{merged_at}
use Rattle.bundle_sched.proofs.Commute.{idle_is}
use Rattle.bundle_sched.proofs.Merged.{all_function, function_room}
use Rattle.bundle_sched.proofs.NoneLost.{function_had}
use Rattle.bundle_sched.proofs.TwoInOne.{pairs}
use Rattle.bundle_sched.proofs.SpacedAll.{parts_all_placed, parts_placed_all, parts_placed_words}
use Rattle.bundle_sched.proofs.SpacedRuns.{placed_at}

-- ---- each function of a shape

pub functions_stay : (s : PlainShape) → length (scheduled s).functions ≡ length s.functions
functions_stay s = length-map (merged s).functions parts_placed ∙ length-map s.functions function_merged

pub scheduled_at : (s t : PlainShape) → t ≡ scheduled s → (k : ℕ) → slice_index_or t.functions k no_part
    ≡ parts_placed (function_merged (slice_index_or s.functions k no_part))
scheduled_at s t told k = ap (λ x. slice_index_or x.functions k no_part) told ∙ placed_at (merged s).functions k
    ∙ ap parts_placed (merged_at s.functions k)

second_steady : (i : Instr) → is_second_kind i.op ≡ true → is_steady (lone i) ≡ true
second_steady i kind = so i.op kind
  where
    so : (op : Op) → is_second_kind op ≡ true → (if may_move op then is_always i.guard else true) ≡ true
    so (Load space width rd ra imm) h = absurd (true≢false (sym h))
    so (Store space width ra rs imm) h = absurd (true≢false (sym h))
    so (Stack func count) h = absurd (true≢false (sym h))
    so _ h = refl

pub steady_as : (s t : PlainShape) → t ≡ scheduled s → (k : ℕ)
    → parts_all is_steady (slice_index_or s.functions k no_part) ≡ true
    → parts_all is_steady (slice_index_or t.functions k no_part) ≡ true
steady_as s t told k h =
    let f = slice_index_or s.functions k no_part in
    ap (parts_all is_steady) (scheduled_at s t told k) ∙ parts_all_placed is_steady refl (function_merged f)
    (all_function is_steady (λ b hb. hb) second_steady (λ a b busy can ha hb. ha) f h)

pub room_as : (s t : PlainShape) → t ≡ scheduled s → (k : ℕ) → parts_words (slice_index_or t.functions k no_part)
    ≤ parts_room (slice_index_or s.functions k no_part)
room_as s t told k =
    let f = slice_index_or s.functions k no_part in
    omega (arith, ap parts_words (scheduled_at s t told k), parts_placed_words (function_merged f), function_room f)

-- ---- no bundle is lost

-- what holds of each scheduled bundle holds of each before, where it holds of bundles that do nothing, of two bundles
-- that can be one where it holds of that one, and of a bundle where it holds of each of its instructions alone
pub none_lost : (holds : PlainBundle → Bool) (dropped : (b : PlainBundle) → is_idle b ≡ true → holds b ≡ true)
    (paired : (a b : PlainBundle) → can_join a b ≡ true → holds (pair a b) ≡ true → (holds a ≡ true) × (holds b ≡ true))
    (apart : (b : PlainBundle) (i : Instr) → b.second ≡ Some i → holds (lone b.first) ≡ true → holds (lone i)
    ≡ true → holds b
    ≡ true) (s : PlainShape) (k : ℕ)
    → parts_all holds (slice_index_or (scheduled s).functions k no_part) ≡ true
    → parts_all holds (slice_index_or s.functions k no_part) ≡ true
none_lost holds dropped paired apart s k h =
    let f = slice_index_or s.functions k no_part in
    function_had holds dropped apart paired f (parts_placed_all holds (function_merged f)
    (sym (ap (parts_all holds) (scheduled_at s (scheduled s) refl k)) ∙ h))

-- so of constants that are words
second_word : (op : Op) → is_second_kind op ≡ true → is_word_op op ≡ true
second_word (AluLong func rd ra constant) kind = absurd (true≢false (sym kind))
second_word _ kind = refl

pub word_dropped : (b : PlainBundle) → is_idle b ≡ true → has_word b ≡ true
word_dropped b is = ap has_word (idle_is b is)

pub word_paired : (a b : PlainBundle) → can_join a b ≡ true → has_word (pair a b) ≡ true → (has_word a ≡ true)
    × (has_word b ≡ true)
word_paired a b can h = (h, second_word b.first.op (pairs a b can).kind)

pub word_apart : (b : PlainBundle) (i : Instr) → b.second ≡ Some i → has_word (lone b.first) ≡ true
    → has_word (lone i) ≡ true
    → has_word b ≡ true
word_apart b i is first second = first

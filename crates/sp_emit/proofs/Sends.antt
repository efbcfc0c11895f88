-- What the code of sends leaves.
use Rattle.std.proofs.Common.{◌≡◌, ℕ, ◌+◌, ◌-◌, ◌*◌, ◌/◌, ◌%◌, ◌^◌, ◌<◌, ◌≤◌, ◌==◌, Bool, true, false, Some, ◌&&◌, ◌⊎◌, inl, inr, if◌then◌else◌, List, [], ◌∷◌, ◌++◌, map, refl, sym, ap, ◌∙◌, subst, arith, nat_lt}
use Rattle.std.specs.Prelude.{nat_le}
use Rattle.std.proofs.lemmas.Bool.{cases_lt, le-leb, lt-leb, lt-ltb, le-ltb}
use Rattle.shared_order.specs.Words.{put}
use Rattle.patmos_instr.specs.Bundles.{PlainBundle}
use Rattle.patmos_instr.specs.declared.instructions.Op.TheVariants.{Store}
use Rattle.patmos_instr.specs.declared.memories.StoreWidth.TheVariants as store
use Rattle.local_store.specs.Map.{cell_at}
use Rattle.local_store.specs.declared.map.Cell.TheVariants as cell
use Rattle.local_store.specs.declared.map.Space.TheVariants.{Local}
use Rattle.patmos_instr.specs.declared.memories.Mem.TheVariants as mem
use Rattle.patmos_sem.specs.Effects.{address_of as address_by}
use Rattle.c_world.specs.World.{World, Sending, may_start, with_send}
use Rattle.patmos_instr.specs.declared.functions.AluFunc.TheVariants as alu
use Rattle.patmos_instr.specs.declared.functions.CmpFunc.TheVariants as cmp
use Rattle.patmos_instr.specs.declared.functions.ImmFunc.TheVariants as imm
use Rattle.patmos_instr.specs.declared.functions.PredFunc.TheVariants as comb
use Rattle.patmos_sem.specs.declared.writes.Write.TheVariants as write
use Rattle.sp_shape.specs.Memory.{Memory, cell_of, with_port, with_word as cell_set}
use Rattle.sp_shape.specs.Run.{Run, Sources, by_words, once, run, IsWhole}
use Rattle.sp_shape.specs.Trail.{Step, all_done, parts_trail}
use Rattle.sp_emit.specs.Holding.{held, Keeps, so}
use Rattle.sp_emit.specs.Instructions.{always, where_so, set_long, compute, with_short, compare, combine, store_to}
use Rattle.sp_emit.specs.Means.{start_of, HasWordConstants, HasWords, Follows}
use Rattle.sp_emit.specs.Statements.{send_test, send_code, stmt_code}
use Rattle.sp_tree.specs.Straight.{State, worth, in_world, where_on, transfer_done}
use Rattle.sp_tree.specs.Formed.{expr_formed}
use Rattle.sp_tree.specs.Plain.{PlainSp}
use Rattle.sp_tree.specs.Statements.{transfers}
use Rattle.sp_shape.specs.Parts.{straight, one}
use Rattle.sp_emit.specs.Expressions.{expr_code}
use Rattle.sp_emit.specs.declared.registers.TheConstants.{FIRST, SPARE, TEST, SECOND}
use Rattle.sp_tree.specs.Need.{need}
use Rattle.sp_emit.proofs.Calm.{calm_done, own_free}
use Rattle.sp_emit.proofs.CellWrites.{follows_world}
use Rattle.sp_emit.proofs.Frames.{put_same}
use Rattle.sp_emit.proofs.Passing.{keeps_then}
use Rattle.sp_emit.specs.Places.{mask_test, told_at}
use Rattle.sp_emit.proofs.FlagWords.{told_few, told_other}
use Rattle.sp_emit.proofs.Masks.{Done, ready, follows_still, behind_still, tested}
use Rattle.sp_emit.proofs.Storing.{with_store, did_store}
use Rattle.sp_emit.proofs.Leaving.{did_set_long, did_with_short, did_compare, did_combine, did_compute}
use Rattle.sp_emit.proofs.Once.{with_written, did_nothing, whole_written, held_written, so_written, got, so_by_register, so_kept}
use Rattle.sp_emit.proofs.Values.{behind, fits_of, expr_keeps, run_joined, run_lone, value_left, value_small}
use Rattle.sp_emit.specs.declared.stands.Homes.{Homes}

-- the test of code: a count of 0 less 1 is past all counts, and what a memory has less the count is 2^32 less what it
-- lacks
abbrev pub code_starts : ℕ → ℕ → ℕ → Bool
code_starts source target count =
    (nat_lt ((count + (2 ^ 32 - 1)) % 2 ^ 32) 512 && nat_le source ((512 + (2 ^ 32 - count)) % 2 ^ 32))
    && nat_le target ((512 + (2 ^ 32 - count)) % 2 ^ 32)

-- the test with more than 512 words, or none, fails at once
pub starts_alike : (source target count : ℕ) → source < 2 ^ 32 → target < 2 ^ 32 → count < 2 ^ 32
    → code_starts source target count ≡ may_start source target count
starts_alike source target count ws wt wc = by (cases_lt count 1) (cases_lt 512 count)
  where
    by : (count < 1) ⊎ (1 ≤ count) → (512 < count) ⊎ (count ≤ 512) → code_starts source target count
        ≡ may_start source target count
    by (inl none) many =
        rw (le-ltb ((count + (2 ^ 32 - 1)) % 2 ^ 32) 512 (omega (arith, none)), lt-leb 1 count none) refl
    by (inr some) (inl many) =
        rw (
          le-ltb ((count + (2 ^ 32 - 1)) % 2 ^ 32) 512 (omega (arith, some, many, wc)),
          le-leb 1 count some,
          lt-leb (source + count) 512 (omega (arith, many)),
        ) refl
    by (inr some) (inr few) =
        rw (lt-ltb ((count + (2 ^ 32 - 1)) % 2 ^ 32) 512 (omega (arith, some, few)), le-leb 1 count some) (both few)
      where
        room : (n : ℕ) → count ≤ 512 → nat_le n ((512 + (2 ^ 32 - count)) % 2 ^ 32) ≡ nat_le (n + count) 512
        room n few = at (cases_lt 512 (n + count))
          where
            is : (512 + (2 ^ 32 - count)) % 2 ^ 32 ≡ 512 - count
            is = omega (arith, few, some)

            at : (512 < n + count) ⊎ (n + count ≤ 512) → nat_le n ((512 + (2 ^ 32 - count)) % 2 ^ 32)
                ≡ nat_le (n + count) 512
            at (inl more) = ap (nat_le n) is ∙ lt-leb n (512 - count) (omega (arith, more, few))
                ∙ sym (lt-leb (n + count) 512 more)
            at (inr less) =
                ap (nat_le n) is ∙ le-leb n (512 - count) (omega (arith, less)) ∙ sym (le-leb (n + count) 512 less)

        both : count ≤ 512 → (nat_le source ((512 + (2 ^ 32 - count)) % 2 ^ 32)
            && nat_le target ((512 + (2 ^ 32 - count)) % 2 ^ 32))
            ≡ (nat_le (source + count) 512 && nat_le (target + count) 512)
        both few = ap (λ x. x && nat_le target ((512 + (2 ^ 32 - count)) % 2 ^ 32)) (room source few)
            ∙ ap (λ x. nat_le (source + count) 512 && x) (room target few)

-- ---- the registers of the interface

port_at : (core register : ℕ) (at : ℕ) → at ≡ 0x20000 + 16 * core + register → core < 16 → register < 16
    → cell_at Local at ≡ Some (cell.Port core register)
port_at core register at is few low =
    rw (
      le-leb 0 at (omega arith),
      le-ltb at (0 + 4 * 2048) (omega (arith, is)),
      le-leb 0x10000 at (omega (arith, is)),
      le-ltb at (0x10000 + 4 * 512) (omega (arith, is)),
      le-leb 0x20000 at (omega (arith, is)),
      lt-ltb at (0x20000 + 16 * 16) (omega (arith, is, few, low)),
    )
    (ap (λ n. Some (cell.Port n ((at - 0x20000) % 16))) (let e : (at - 0x20000) / 16 ≡ core = omega (arith, is, low) in
    e) ∙ ap (λ n. Some (cell.Port core n)) (let e : (at - 0x20000) % 16 ≡ register = omega (arith, is, low) in e))

-- the register, so many words after the address of a core's
pub port_found : (core imm : ℕ) → core < 16 → imm < 3 → cell_of mem.L (address_by (0x20000 + 16 * core) imm 4)
    ≡ Some (cell.Port core (4 * imm))
port_found core imm few low = port_at core (4 * imm) (address_by (0x20000 + 16 * core) imm 4 / 4 * 4)
    (omega (arith, few, low)) few (omega (arith, low))

-- ---- the test

pub record Allowed (homes : Homes) (core : ℕ) (on : Bool) (m t : Run) : Type 0 where
  pub keeps : Keeps (FIRST + 3) homes.first m t
  pub test : so TEST t ≡ on

pub tests_send : (homes : Homes) (from : Sources) (core told : ℕ) (few : told < 8) (other : SECOND ≡ told → ⊥)
    (within : FIRST + 3 < homes.first) (b : Bool) (source target count : ℕ) (m : Run) → IsWhole m → so told m ≡ b
    → held FIRST m ≡ source → held (FIRST + 1) m ≡ target → held (FIRST + 2) m ≡ count
    → Allowed homes core (b && code_starts source target count) m (run from (all_done (send_test told)) m)
tests_send homes from core told few other within b source target count m whole test is_source is_target is_count =
    let w1 = write.Register SPARE 512 in
    let m1 = with_written w1 m in
    let h1 = whole_written w1 m whole in
    let w2 = write.Register (FIRST + 3) ((held (FIRST + 2) m1 + (2 ^ 32 - 1)) % 2 ^ 32) in
    let m2 = with_written w2 m1 in
    let h2 = whole_written w2 m1 h1 in
    let w3 = write.Predicate SECOND (nat_lt (held (FIRST + 3) m2) (held SPARE m2)) in
    let m3 = with_written w3 m2 in
    let h3 = whole_written w3 m2 h2 in
    let w4 = write.Predicate TEST (so told m3 && so SECOND m3) in
    let m4 = with_written w4 m3 in
    let h4 = whole_written w4 m3 h3 in
    let w5 = write.Register SPARE ((held SPARE m4 + (2 ^ 32 - held (FIRST + 2) m4)) % 2 ^ 32) in
    let m5 = with_written w5 m4 in
    let h5 = whole_written w5 m4 h4 in
    let w6 = write.Predicate SECOND (nat_le (held FIRST m5) (held SPARE m5)) in
    let m6 = with_written w6 m5 in
    let h6 = whole_written w6 m5 h5 in
    let w7 = write.Predicate TEST (so TEST m6 && so SECOND m6) in
    let m7 = with_written w7 m6 in
    let h7 = whole_written w7 m6 h6 in
    let w8 = write.Predicate SECOND (nat_le (held (FIRST + 1) m7) (held SPARE m7)) in
    let m8 = with_written w8 m7 in
    let h8 = whole_written w8 m7 h7 in
    let w9 = write.Predicate TEST (so TEST m8 && so SECOND m8) in
    let pand = combine comb.Pand TEST TEST SECOND in
    let first = combine comb.Pand TEST told SECOND in
    let steps : run from (all_done (send_test told)) m ≡ with_written w9 m8 =
    ap (λ t. run from (all_done (with_short always imm.Sub (FIRST + 3) (FIRST + 2) 1 ∷ compare cmp.Ult SECOND (FIRST
    + 3) SPARE ∷ first ∷ compute always alu.Sub SPARE SPARE (FIRST + 2)
    ∷ compare cmp.Ule SECOND FIRST SPARE ∷ pand ∷ compare cmp.Ule SECOND (FIRST + 1) SPARE ∷ pand ∷ [])) t)
    (did_set_long from SPARE 512 m whole)
    ∙ ap (λ t. run from (all_done (compare cmp.Ult SECOND (FIRST + 3) SPARE ∷ first ∷ compute always alu.Sub SPARE SPARE
    (FIRST + 2) ∷ compare cmp.Ule SECOND FIRST SPARE ∷ pand ∷ compare cmp.Ule SECOND (FIRST + 1) SPARE ∷ pand ∷ []))
    t)
    (did_with_short from imm.Sub (FIRST + 3) (FIRST + 2) 1 m1 h1)
    ∙ ap (λ t. run from (all_done (first ∷ compute always alu.Sub SPARE SPARE (FIRST + 2)
    ∷ compare cmp.Ule SECOND FIRST SPARE ∷ pand ∷ compare cmp.Ule SECOND (FIRST + 1) SPARE ∷ pand ∷ [])) t)
    (did_compare from cmp.Ult SECOND (FIRST + 3) SPARE m2 h2)
    ∙ ap (λ t. run from (all_done (compute always alu.Sub SPARE SPARE (FIRST + 2) ∷ compare cmp.Ule SECOND FIRST SPARE
    ∷ pand ∷ compare cmp.Ule SECOND (FIRST + 1) SPARE ∷ pand ∷ [])) t)
    (did_combine from comb.Pand TEST told SECOND m3 h3)
    ∙ ap (λ t. run from (all_done (compare cmp.Ule SECOND FIRST SPARE ∷ pand ∷ compare cmp.Ule SECOND (FIRST + 1) SPARE
    ∷ pand ∷ [])) t) (did_compute from alu.Sub SPARE SPARE (FIRST + 2) m4 h4)
    ∙ ap (λ t. run from (all_done (pand ∷ compare cmp.Ule SECOND (FIRST + 1) SPARE ∷ pand ∷ [])) t) (did_compare from
    cmp.Ule SECOND FIRST SPARE m5 h5)
    ∙ ap (λ t. run from (all_done (compare cmp.Ule SECOND (FIRST + 1) SPARE ∷ pand ∷ [])) t) (did_combine from comb.Pand
    TEST TEST SECOND m6 h6)
    ∙ ap (λ t. run from (all_done (pand ∷ [])) t) (did_compare from cmp.Ule SECOND (FIRST + 1) SPARE m7 h7)
    ∙ did_combine from comb.Pand TEST TEST SECOND m8 h8 in
    let c1 = held_written w1 (FIRST + 2) m whole (omega arith) ∙ is_count in
    let less2 = held_written w2 (FIRST + 3) m1 h1 (omega arith) ∙ ap (λ n. (n + (2 ^ 32 - 1)) % 2 ^ 32) c1 in
    let room2 = held_written w2 SPARE m1 h1 (omega arith) ∙ held_written w1 SPARE m whole (omega arith) in
    let t2 = so_by_register (FIRST + 3) ((held (FIRST + 2) m1 + (2 ^ 32 - 1)) % 2 ^ 32) told m1 h1 few
    ∙ so_by_register SPARE 512 told m whole few ∙ test in
    let s3 = so_written w3 SECOND m2 h2 (omega arith) ∙ ap (λ n. nat_lt n (held SPARE m2)) less2
    ∙ ap (nat_lt ((count + (2 ^ 32 - 1)) % 2 ^ 32)) room2 in
    let t3 = so_kept SECOND (nat_lt (held (FIRST + 3) m2) (held SPARE m2)) told m2 h2 few other ∙ t2 in
    let t4 = so_written w4 TEST m3 h3 (omega arith) ∙ ap (λ x. x && so SECOND m3) t3 ∙ ap (λ x. b && x) s3 in
    let c4 = held_written w4 (FIRST + 2) m3 h3 (omega arith) ∙ held_written w3 (FIRST + 2) m2 h2 (omega arith)
    ∙ held_written w2 (FIRST + 2) m1 h1 (omega arith) ∙ c1 in
    let room4 = held_written w4 SPARE m3 h3 (omega arith) ∙ held_written w3 SPARE m2 h2 (omega arith) ∙ room2 in
    let left5 = held_written w5 SPARE m4 h4 (omega arith) ∙ ap (λ n. (n + (2 ^ 32 - held (FIRST + 2) m4))
    % 2 ^ 32) room4 ∙ ap (λ n. (512 + (2 ^ 32 - n)) % 2 ^ 32) c4 in
    let source5 = held_written w5 FIRST m4 h4 (omega arith) ∙ held_written w4 FIRST m3 h3 (omega arith)
    ∙ held_written w3 FIRST m2 h2 (omega arith) ∙ held_written w2 FIRST m1 h1 (omega arith)
    ∙ held_written w1 FIRST m whole (omega arith) ∙ is_source in
    let target5 = held_written w5 (FIRST + 1) m4 h4 (omega arith) ∙ held_written w4 (FIRST + 1) m3 h3 (omega arith)
    ∙ held_written w3 (FIRST + 1) m2 h2 (omega arith) ∙ held_written w2 (FIRST + 1) m1 h1 (omega arith)
    ∙ held_written w1 (FIRST + 1) m whole (omega arith) ∙ is_target in
    let t6 = so_written w6 TEST m5 h5 (omega arith) ∙ so_written w5 TEST m4 h4 (omega arith) ∙ t4 in
    let s6 = so_written w6 SECOND m5 h5 (omega arith) ∙ ap (λ n. nat_le n (held SPARE m5)) source5
    ∙ ap (nat_le source) left5 in
    let t7 = so_written w7 TEST m6 h6 (omega arith) ∙ ap (λ x. x && so SECOND m6) t6
    ∙ ap (λ x. (b && nat_lt ((count + (2 ^ 32 - 1)) % 2 ^ 32) 512) && x) s6 in
    let left7 = held_written w7 SPARE m6 h6 (omega arith) ∙ held_written w6 SPARE m5 h5 (omega arith) ∙ left5 in
    let target7 =
    held_written w7 (FIRST + 1) m6 h6 (omega arith) ∙ held_written w6 (FIRST + 1) m5 h5 (omega arith) ∙ target5 in
    let t8 = so_written w8 TEST m7 h7 (omega arith) ∙ t7 in
    let s8 = so_written w8 SECOND m7 h7 (omega arith) ∙ ap (λ n. nat_le n (held SPARE m7)) target7
    ∙ ap (nat_le target) left7 in
    record {
      keeps = calm_done from (FIRST + 3) homes.first (send_test told) m (omega arith) whole
          (let free = own_free (FIRST + 3) homes.first (FIRST + 3) (omega arith) (omega arith) within in
          grind (arith, free));
      test = ap (so TEST) steps ∙ so_written w9 TEST m8 h8 (omega arith) ∙ ap (λ x. x && so SECOND m8) t8
          ∙ ap (λ x. ((b && nat_lt ((count + (2 ^ 32 - 1)) % 2 ^ 32) 512) && nat_le source ((512 + (2 ^ 32 - count))
          % 2 ^ 32)) && x) s8 ∙ joined_tests b;
    }
  where
    joined_tests : (b : Bool)
        → (((b && nat_lt ((count + (2 ^ 32 - 1)) % 2 ^ 32) 512) && nat_le source ((512 + (2 ^ 32 - count)) % 2 ^ 32))
        && nat_le target ((512 + (2 ^ 32 - count)) % 2 ^ 32)) ≡ (b && code_starts source target count)
    joined_tests true = refl
    joined_tests false = refl

-- ---- the start

-- the registers of the interface for a core, and the transfer that starts
pub started_memory : ℕ → ℕ → ℕ → ℕ → Memory → Memory
started_memory core source target count m = with_port core 8 count (with_port core 4 target (with_port core 0 source m))

pub with_sent : ℕ → ℕ → ℕ → ℕ → World → World
with_sent core source target count w =
    record w { sends = w.sends ++ record { core = core; source = source; target = target; count = count } ∷ [] }

map_append : (xs ys : List Sending) → map start_of (xs ++ ys) ≡ map start_of xs ++ map start_of ys
map_append [] ys = refl
map_append (x ∷ xs) ys = ap (λ l. start_of x ∷ l) (map_append xs ys)

has_started : (core source target count : ℕ) (w : World) (m : Memory) → HasWords w m
    → HasWords (with_sent core source target count w) (started_memory core source target count m)
unfolding started_memory with_sent
has_started core source target count w m x = record {
  scratch = x.scratch;
  comm = x.comm;
  private = x.private;
  shared = x.shared;
  starts = ap (λ n. m.starts ++ record {
    core = core;
    source = n;
    target = put core target m.target core;
    count = count;
  } ∷ []) (put_same core source m.source)
      ∙ ap (λ n. m.starts ++ record { core = core; source = source; target = n; count = count } ∷ []) (put_same core
      target m.target)
      ∙ ap (λ l. l ++ record { core = core; source = source; target = target; count = count } ∷ []) x.starts
      ∙ sym (map_append w.sends (record { core = core; source = source; target = target; count = count } ∷ []));
}

-- three stores, made where the predicate is true
pub start_stores : List PlainBundle
start_stores = store_to (where_so TEST) mem.L SPARE FIRST 0 ∷ store_to (where_so TEST) mem.L SPARE (FIRST + 1) 1
    ∷ store_to (where_so TEST) mem.L SPARE (FIRST + 2) 2 ∷ []

pub starts_where : (homes : Homes) (slots count core source target words : ℕ) (on : Bool) (s : State) (m : Run)
    → core < 16 → Follows homes slots s m → so TEST m ≡ on → held SPARE m ≡ 0x20000 + 16 * core → held FIRST m ≡ source
    → held (FIRST + 1) m ≡ target → held (FIRST + 2) m ≡ words
    → Done homes slots count (if on then in_world s (with_sent core source target words s.world) else s) m (run by_words
    (all_done start_stores) m)
unfolding start_stores with_sent started_memory
starts_where homes slots count core source target words false s m few x off at is_source is_target is_words =
    subst (Done homes slots count s m)
    (sym (ap (λ t. once by_words (store_to (where_so TEST) mem.L SPARE (FIRST + 2) 2)
    (once by_words (store_to (where_so TEST) mem.L SPARE (FIRST + 1) 1) t)) (did_nothing by_words (where_so TEST)
    (Store mem.L store.Word SPARE FIRST 0) m x.whole off)
    ∙ ap (once by_words (store_to (where_so TEST) mem.L SPARE (FIRST + 2) 2)) (did_nothing by_words (where_so TEST)
    (Store mem.L store.Word SPARE (FIRST + 1) 1) m x.whole off)
    ∙ did_nothing by_words (where_so TEST) (Store mem.L store.Word SPARE (FIRST + 2) 2) m x.whole off))
    (record { follows = x; keeps = record { st = refl; stack = λ a above. refl; high = λ r at lt. refl } })
starts_where homes slots count core source target words true s m few x on at is_source is_target is_words =
    let a = held SPARE m in
    let m1 = with_store mem.L (address_by a 0 4) (held FIRST m) m in
    let m2 = with_store mem.L (address_by a 1 4) (held (FIRST + 1) m) m1 in
    let m3 = with_store mem.L (address_by a 2 4) (held (FIRST + 2) m) m2 in
    let h1 : IsWhole m1 = record { fits = x.whole.fits; pending = x.whole.pending } in
    let h2 : IsWhole m2 = record { fits = x.whole.fits; pending = x.whole.pending } in
    let h3 : IsWhole m3 = record { fits = x.whole.fits; pending = x.whole.pending } in
    let found : (i : ℕ) → i < 3 → cell_of mem.L (address_by a i 4) ≡ Some (cell.Port core (4 * i)) =
    λ i low. ap (λ n. cell_of mem.L (address_by n i 4)) at ∙ port_found core i few low in
    let memory : m3.memory ≡ started_memory core source target words m.memory =
    ap (λ c. cell_set (cell_of mem.L (address_by a 2 4)) (held (FIRST + 2) m)
    (cell_set (cell_of mem.L (address_by a 1 4)) (held (FIRST + 1) m) (cell_set c (held FIRST m) m.memory)))
    (found 0 (omega arith))
    ∙ ap (λ c. cell_set (cell_of mem.L (address_by a 2 4)) (held (FIRST + 2) m) (cell_set c (held (FIRST + 1) m)
    (with_port core 0 (held FIRST m) m.memory))) (found 1 (omega arith))
    ∙ ap (λ c. cell_set c (held (FIRST + 2) m) (with_port core 4 (held (FIRST + 1) m)
    (with_port core 0 (held FIRST m) m.memory))) (found 2 (omega arith))
    ∙ ap (λ n. started_memory core n (held (FIRST + 1) m) (held (FIRST + 2) m) m.memory) is_source
    ∙ ap (λ n. started_memory core source n (held (FIRST + 2) m) m.memory) is_target
    ∙ ap (λ n. started_memory core source target n m.memory) is_words in
    subst (Done homes slots count (in_world s (with_sent core source target words s.world)) m)
    (sym (ap (λ t. once by_words (store_to (where_so TEST) mem.L SPARE (FIRST + 2) 2)
    (once by_words (store_to (where_so TEST) mem.L SPARE (FIRST + 1) 1) t))
    (did_store by_words (where_so TEST) mem.L SPARE FIRST 0 m x.whole on)
    ∙ ap (once by_words (store_to (where_so TEST) mem.L SPARE (FIRST + 2) 2)) (did_store by_words (where_so TEST) mem.L
    SPARE (FIRST + 1) 1 m1 h1 on)
    ∙ did_store by_words (where_so TEST) mem.L SPARE (FIRST + 2) 2 m2 h2 on))
    (record {
      follows = follows_world homes slots s (with_sent core source target words s.world) m m3 x h3 refl
          (λ q from lt. refl) (λ q from lt. refl) refl refl
          (subst (HasWords (with_sent core source target words s.world)) (sym memory)
          (has_started core source target words s.world m.memory x.shows.world))
          (record {
            scratch = x.words.world.scratch;
            comm = x.words.world.comm;
            private = x.words.world.private;
            shared = x.words.world.shared;
          }) refl;
      keeps = record { st = refl; stack = λ a above. refl; high = λ r at lt. refl };
    })

-- ---- the whole

same_send : (b : Bool) (core source target count : ℕ) (s : State)
    → (if b && may_start source target count then in_world s (with_sent core source target count s.world) else s)
    ≡ (if b then in_world s (with_send core source target count s.world) else s)
unfolding with_sent
same_send false core source target count s = refl
same_send true core source target count s = by (may_start source target count)
  where
    by : (on : Bool) → (if on then in_world s (with_sent core source target count s.world) else s)
        ≡ in_world s (if on then with_sent core source target count s.world else s.world)
    by true = refl
    by false = refl

pub send_done : (homes : Homes) (f : ℕ → List Step) (frame counter slots mask core : ℕ) (source target count : PlainSp)
    (s : State) (m : Run) → slots ≤ 128 → mask < slots → core < 16
    → expr_formed slots source ≡ true → expr_formed slots target ≡ true → expr_formed slots count ≡ true
    → HasWordConstants source → HasWordConstants target → HasWordConstants count
    → FIRST + 4 ≤ homes.first → FIRST + need source ≤ homes.first → FIRST + 1 + need target ≤ homes.first
    → FIRST + 2 + need count ≤ homes.first
    → Follows homes slots s m → Done homes slots (counter + 1) (where_on mask (transfer_done core source target count)
    s) m (run by_words (parts_trail f (stmt_code homes frame counter (transfers mask core source target count))) m)
unfolding start_stores
send_done homes f frame counter slots mask core source target count s m most masked few formed_a formed_b formed_c
    words_a words_b words_c room free free_b free_c x =
    let ra = ready homes slots FIRST source s m (omega arith) (omega arith) free most formed_a words_a x in
    let na = behind homes f source FIRST m in
    let ka = expr_keeps homes by_words f source FIRST m (fits_of ra) ra.free x.whole in
    let ya = follows_still ka x in
    let rb = ready homes slots (FIRST + 1) target s na (omega arith) (omega arith) free_b most formed_b words_b ya in
    let nb = behind homes f target (FIRST + 1) na in
    let kb = expr_keeps homes by_words f target (FIRST + 1) na (fits_of rb) rb.free ka.whole in
    let yb = follows_still kb ya in
    let rc = ready homes slots (FIRST + 2) count s nb (omega arith) (omega arith) free_c most formed_c words_c yb in
    let nc = behind homes f count (FIRST + 2) nb in
    let kc = expr_keeps homes by_words f count (FIRST + 2) nb (fits_of rc) rc.free kb.whole in
    let yc = follows_still kc yb in
    let t = tested homes slots mask s nc most masked yc in
    let u = run by_words (all_done (mask_test homes mask)) nc in
    let b = s.frame mask == 1 in
    let a_is = t.keeps.low FIRST (omega arith) ∙ kc.low FIRST (omega arith) ∙ kb.low FIRST (omega arith)
    ∙ value_left f source ra in
    let b_is = t.keeps.low (FIRST + 1) (omega arith) ∙ kc.low (FIRST + 1) (omega arith) ∙ value_left f target rb in
    let c_is = t.keeps.low (FIRST + 2) (omega arith) ∙ value_left f count rc in
    let told = told_at homes mask in
    let allowed = tests_send homes by_words core told (told_few homes mask).1 (told_other homes mask)
    (omega (arith, room)) b (worth source s) (worth target s) (worth count s) u t.keeps.whole t.test
    a_is b_is c_is in
    let v = run by_words (all_done (send_test told)) u in
    let address = 0x20000 + 16 * core in
    let w = once by_words (set_long SPARE address) v in
    let set = did_set_long by_words SPARE address v allowed.keeps.whole in
    let number = (0 + address) % 2 ^ 32 in
    let kw = calm_done by_words SPARE homes.first (set_long SPARE address ∷ []) v
    (omega arith) allowed.keeps.whole refl in
    let test = ap (so TEST) set ∙ so_by_register SPARE number TEST v allowed.keeps.whole (omega arith) ∙ allowed.test
    ∙ ap (λ on. b && on) (starts_alike (worth source s) (worth target s) (worth count s) (value_small source ra)
    (value_small target rb) (value_small count rc)) in
    let done = starts_where homes slots (counter + 1) core (worth source s) (worth target s) (worth count s)
    (b && may_start (worth source s) (worth target s) (worth count s)) s w few
    (follows_still kw (follows_still allowed.keeps (follows_still t.keeps yc))) test
    (ap (held SPARE) set ∙ got SPARE number v allowed.keeps.whole (omega arith) (omega arith) ∙ omega (arith, few))
    (kw.low FIRST (omega arith) ∙ allowed.keeps.low FIRST (omega arith) ∙ a_is) (kw.low (FIRST + 1) (omega arith)
    ∙ allowed.keeps.low (FIRST + 1) (omega arith) ∙ b_is)
    (kw.low (FIRST + 2) (omega arith) ∙ allowed.keeps.low (FIRST + 2) (omega arith) ∙ c_is) in
    subst (Done homes slots (counter + 1) (where_on mask (transfer_done core source target count) s) m)
    (sym (run_joined by_words f (expr_code homes source FIRST) _ m ∙ run_joined by_words f (expr_code homes target
    (FIRST + 1)) _ na ∙ run_joined by_words f (expr_code homes count (FIRST + 2)) (one
    (straight (send_code homes mask core))) nb ∙ run_lone by_words f (send_code homes mask core) nc))
    (record {
      follows = subst (λ z. Follows homes slots z (run by_words (all_done start_stores) w))
          (same_send b core (worth source s) (worth target s) (worth count s) s) done.follows;
      keeps = keeps_then (behind_still (counter + 1) ka) (keeps_then (behind_still (counter + 1) kb)
          (keeps_then (behind_still (counter + 1) kc)
          (keeps_then (behind_still (counter + 1) t.keeps) (keeps_then (behind_still (counter + 1) allowed.keeps)
          (keeps_then (behind_still (counter + 1) kw) done.keeps)))));
    })

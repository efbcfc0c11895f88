-- The code of a send starts a transfer only where the registers that it has set allow it, whatever loads give.
use Rattle.std.proofs.Common.{◌≡◌, ℕ, ◌+◌, ◌*◌, ◌%◌, ◌<◌, ◌^◌, ◌&&◌, Bool, true, false, if◌then◌else◌, Some, [], ◌∷◌, ◌++◌, refl, sym, ap, ◌∙◌, subst, arith}
use Rattle.std.proofs.lemmas.Bool.{and_parts}
use Rattle.c_world.specs.World.{may_start}
use Rattle.local_store.specs.declared.map.Cell.TheVariants as cell
use Rattle.patmos_instr.specs.declared.instructions.Op.TheVariants.{Store}
use Rattle.patmos_instr.specs.declared.memories.Mem.TheVariants as mem
use Rattle.patmos_instr.specs.declared.memories.StoreWidth.TheVariants as store
use Rattle.patmos_sem.specs.Bundles.{effect_of}
use Rattle.patmos_sem.specs.Effects.{address_of as address_by}
use Rattle.patmos_sem.specs.declared.effects.Effect.TheVariants as effect
use Rattle.sp_shape.specs.Memory.{Memory, cell_of, with_port, with_word as cell_set}
use Rattle.sp_shape.specs.Run.{Run, Sources, once, run, IsWhole}
use Rattle.sp_shape.specs.Trail.{does, all_done}
use Rattle.sp_emit.specs.Holding.{held, so}
use Rattle.sp_emit.specs.Instructions.{where_so, store_to, set_long, compare_short}
use Rattle.patmos_instr.specs.declared.functions.CmpFunc.TheVariants as cmp
use Rattle.sp_emit.specs.Starting.{StartsAt, StartsWell, AllStart}
use Rattle.sp_emit.specs.Statements.{send_test, send_start, send_code}
use Rattle.sp_emit.specs.declared.registers.TheConstants.{FIRST, SPARE, OVERRUN, TEST}
use Rattle.sp_emit.proofs.Frames.{put_same}
use Rattle.sp_emit.proofs.Once.{did_nothing, so_by_register}
use Rattle.sp_emit.proofs.Calm.{calm, calm_done}
use Rattle.sp_emit.proofs.Effects.{AreIn}
use Rattle.sp_emit.proofs.Leaving.{constant_leaves, did_set_long}
use Rattle.sp_emit.proofs.Portless.{portless_start, start_append, unwritten, unwritten_start}
use Rattle.sp_emit.proofs.Footprints.{mask_test_in}
use Rattle.sp_emit.proofs.WordPlaces.{fetch_is}
use Rattle.sp_emit.specs.Places.{fetched_at, mask_test, told_at}
use Rattle.sp_emit.proofs.FlagWords.{test_is, told_few, told_other}
use Rattle.sp_emit.proofs.Sends.{port_found, code_starts, starts_alike, tests_send}
use Rattle.sp_emit.proofs.Storing.{with_store, did_store}
use Rattle.sp_emit.specs.declared.stands.Homes.{Homes}

module _ (from : Sources) (core : ℕ) (few : core < 16) where
  -- a store that is made, or not
  well_on : (rs i : ℕ) (n : Run) → i < 3 → so TEST n ≡ true → held SPARE n ≡ 0x20000 + 16 * core
      → (4 * i ≡ 8 → may_start (n.memory.source core) (n.memory.target core) (held rs n) ≡ true)
      → StartsWell (effect_of (store_to (where_so TEST) mem.L SPARE rs i) n.regs) n.memory
  well_on rs i n low on at ok =
      subst (λ (b : Bool). StartsWell (if b then effect.Store mem.L store.Word (address_by (held SPARE n) i 4)
      (held rs n) else effect.Nothing) n.memory) (sym on)
      (subst (StartsAt n.memory (held rs n)) (sym (ap (λ a. cell_of mem.L (address_by a i 4)) at
      ∙ port_found core i few low)) ok)

  well_off : (rs i : ℕ) (n : Run) → so TEST n ≡ false
      → StartsWell (effect_of (store_to (where_so TEST) mem.L SPARE rs i) n.regs) n.memory
  well_off rs i n off = subst (λ (b : Bool). StartsWell (if b then effect.Store mem.L store.Word
      (address_by (held SPARE n) i 4) (held rs n) else effect.Nothing) n.memory) (sym off) tt

  -- the three stores of a start
  pub starts_well : (on : Bool) (n : Run) → IsWhole n → so TEST n ≡ on → held SPARE n ≡ 0x20000 + 16 * core
      → (on ≡ true → may_start (held FIRST n) (held (FIRST + 1) n) (held (FIRST + 2) n) ≡ true)
      → AllStart from (all_done (store_to (where_so TEST) mem.L SPARE FIRST 0 ∷ store_to (where_so TEST) mem.L SPARE
      (FIRST + 1) 1 ∷ store_to (where_so TEST) mem.L SPARE (FIRST + 2) 2 ∷ [])) n
  starts_well false n whole off at ok =
      let b0 = store_to (where_so TEST) mem.L SPARE FIRST 0 in
      let b1 = store_to (where_so TEST) mem.L SPARE (FIRST + 1) 1 in
      let b2 = store_to (where_so TEST) mem.L SPARE (FIRST + 2) 2 in
      let s0 : once from b0 n ≡ n =
      did_nothing from (where_so TEST) (Store mem.L store.Word SPARE FIRST 0) n whole off in
      let s1 : once from b1 n ≡ n =
      did_nothing from (where_so TEST) (Store mem.L store.Word SPARE (FIRST + 1) 1) n whole off in (
        well_off FIRST 0 n off,
        subst (AllStart from (does b1 ∷ does b2 ∷ [])) (sym s0) (
          well_off (FIRST + 1) 1 n off,
          subst (AllStart from (does b2 ∷ [])) (sym s1) (well_off (FIRST + 2) 2 n off, tt),
        ),
      )
  starts_well true n whole on at ok =
      let b1 = store_to (where_so TEST) mem.L SPARE (FIRST + 1) 1 in
      let b2 = store_to (where_so TEST) mem.L SPARE (FIRST + 2) 2 in
      let a = held SPARE n in
      let n1 = with_store mem.L (address_by a 0 4) (held FIRST n) n in
      let n2 = with_store mem.L (address_by a 1 4) (held (FIRST + 1) n) n1 in
      let h1 : IsWhole n1 = record { fits = whole.fits; pending = whole.pending } in
      let found : (i : ℕ) → i < 3 → cell_of mem.L (address_by a i 4) ≡ Some (cell.Port core (4 * i)) =
      λ i low. ap (λ z. cell_of mem.L (address_by z i 4)) at ∙ port_found core i few low in
      let memory : n2.memory ≡ with_port core 4 (held (FIRST + 1) n) (with_port core 0 (held FIRST n) n.memory) =
      ap (λ c. cell_set (cell_of mem.L (address_by a 1 4)) (held (FIRST + 1) n) (cell_set c (held FIRST n) n.memory))
      (found 0 (omega arith))
      ∙ ap (λ c. cell_set c (held (FIRST + 1) n) (with_port core 0 (held FIRST n) n.memory)) (found 1 (omega arith)) in
      let source : n2.memory.source core ≡ held FIRST n =
      ap (λ (k : Memory). k.source core) memory ∙ put_same core (held FIRST n) n.memory.source in
      let target : n2.memory.target core ≡ held (FIRST + 1) n =
      ap (λ (k : Memory). k.target core) memory ∙ put_same core (held (FIRST + 1) n) n.memory.target in
      let last : may_start (n2.memory.source core) (n2.memory.target core) (held (FIRST + 2) n2) ≡ true =
      (λ i. may_start (source i) (target i) (held (FIRST + 2) n)) ∙ ok refl in (
        well_on FIRST 0 n (omega arith) on at (λ e. absurd (omega (arith, e))),
        subst (AllStart from (does b1 ∷ does b2 ∷ []))
            (sym (did_store from (where_so TEST) mem.L SPARE FIRST 0 n whole on)) (
              well_on (FIRST + 1) 1 n1 (omega arith) on at (λ e. absurd (omega (arith, e))),
              subst (AllStart from (does b2 ∷ []))
                  (sym (did_store from (where_so TEST) mem.L SPARE (FIRST + 1) 1 n1 h1 on))
                  (well_on (FIRST + 2) 2 n2 (omega arith) on at (λ e. last), tt),
            ),
      )

-- ---- the code of a send

pub send_starts : (homes : Homes) (from : Sources) (mask core : ℕ) (m : Run) → core < 16 → IsWhole m → held FIRST m
    < 2 ^ 32 → held (FIRST + 1) m < 2 ^ 32 → held (FIRST + 2) m < 2 ^ 32
    → AllStart from (all_done (send_code homes mask core)) m
send_starts homes from mask core m few whole word_a word_b word_c =
    let address = 0x20000 + 16 * core in
    let u = run from (all_done (mask_test homes mask)) m in
    let k = calm_done from (FIRST + 3) OVERRUN (mask_test homes mask) m (omega arith) whole
    (test_is (λ bs. AreIn (calm (FIRST + 3) OVERRUN) bs) homes mask (λ p is. refl)
    (λ is. fetch_is
    (λ b. AreIn (calm (FIRST + 3) OVERRUN) (b ∷ compare_short cmp.Eq TEST (fetched_at homes.first mask) 1
    ∷ [])) homes.first mask refl (λ out. refl))) in
    let told = told_at homes mask in
    let b = so told u in
    let allowed = tests_send (record { first = OVERRUN; flags = homes.flags }) from core told (told_few homes mask).1
    (told_other homes mask) (omega arith) b (held FIRST u) (held (FIRST + 1) u) (held (FIRST + 2) u) u k.whole refl
    refl refl refl in
    let v = run from (all_done (send_test told)) u in
    let w = once from (set_long SPARE address) v in
    let set = did_set_long from SPARE address v allowed.keeps.whole in
    let kw = calm_done from SPARE OVERRUN (set_long SPARE address ∷ []) v
    (omega arith) allowed.keeps.whole refl in
    let test : so TEST w ≡ (b && code_starts (held FIRST u) (held (FIRST + 1) u) (held (FIRST + 2) u)) =
    ap (so TEST) set ∙ so_by_register SPARE ((0 + address) % 2 ^ 32) TEST v allowed.keeps.whole (omega arith)
    ∙ allowed.test in
    let low = λ (r : ℕ) (less : r < FIRST + 3). kw.low r (omega (arith, less)) ∙ allowed.keeps.low r less in
    let same : code_starts (held FIRST u) (held (FIRST + 1) u) (held (FIRST + 2) u)
    ≡ may_start (held FIRST u) (held (FIRST + 1) u) (held (FIRST + 2) u) =
    starts_alike (held FIRST u) (held (FIRST + 1) u) (held (FIRST + 2) u)
    (omega (arith, k.low FIRST (omega arith), word_a)) (omega (arith, k.low (FIRST + 1) (omega arith), word_b))
    (omega (arith, k.low (FIRST + 2) (omega arith), word_c)) in
    let ok = λ (on : so TEST w ≡ true).
    (λ i. may_start (low FIRST (omega arith) i) (low (FIRST + 1) (omega arith) i) (low (FIRST + 2) (omega arith) i))
    ∙ sym same ∙ (and_parts b (code_starts (held FIRST u) (held (FIRST + 1) u) (held (FIRST + 2) u))
    (sym test ∙ on)).1 in
    let stores = starts_well from core few (so TEST w) w kw.whole refl
    (constant_leaves from SPARE address v allowed.keeps.whole (omega arith) (omega arith) (omega (arith, few)))
    ok in
    start_append from (all_done (mask_test homes mask)) (all_done (send_test told ++ send_start core)) m
    (unwritten_start from unwritten refl (mask_test homes mask) m (mask_test_in unwritten homes mask (λ out. refl)))
    (start_append from (all_done (send_test told)) (all_done (send_start core)) u
    (portless_start from (send_test told) u refl) (
      (portless_start from (set_long SPARE address ∷ []) v refl).0,
      stores,
    ))

-- What the code of writes and sends asks for: the variables and elements that it stores, word 0 of main memory, and the
-- registers of the interface.
use Rattle.std.proofs.Common.{◌≡◌, ℕ, ◌+◌, ◌*◌, ◌^◌, ◌<◌, ◌≤◌, ◌⊎◌, inl, inr, Bool, true, false, ◌&&◌, if◌then◌else◌, Option, Some, [], ◌∷◌, ◌++◌, nat_lt, refl, sym, ap, ◌∙◌, subst, arith}
use Rattle.std.specs.Prelude.{nat_le}
use Rattle.std.proofs.lemmas.Bool.{and_parts, leb-true, ltb-true}
use Rattle.std.proofs.lemmas.List.Elements.{All-nil, All-cons}
use Rattle.patmos_instr.specs.declared.instructions.Op.TheVariants.{Store}
use Rattle.patmos_instr.specs.declared.memories.Mem.{Mem}
use Rattle.patmos_instr.specs.declared.memories.Mem.TheVariants as mem
use Rattle.patmos_instr.specs.declared.memories.StoreWidth.TheVariants as store
use Rattle.patmos_sem.specs.Effects.{address_of as address_by}
use Rattle.patmos_sem.specs.declared.effects.Effect.TheVariants as effect
use Rattle.patmos_sem.specs.declared.writes.Write.TheVariants as write
use Rattle.c_world.specs.Shown.{room_in}
use Rattle.c_world.specs.declared.region.Region.{Region}
use Rattle.c_world.specs.declared.region.Region.TheVariants as region
use Rattle.local_store.specs.declared.map.Cell.{Cell}
use Rattle.local_store.specs.declared.map.Cell.TheVariants as cell
use Rattle.patmos_sem.specs.Bundles.{effect_of}
use Rattle.sp_shape.specs.Memory.{Memory, cell_of}
use Rattle.sp_emit.specs.Starting.{StartsAt, StartsWell, AllStart}
use Rattle.sp_tree.specs.Formed.{all_rooms, first_of, cell_formed, array_formed}
use Rattle.sp_tree.specs.Uses.{Use, writes_cell, writes_array, sends_to}
use Rattle.sp_tree.specs.declared.expressions.SpArray.{SpArray}
use Rattle.sp_tree.specs.declared.expressions.SpCell.{SpCell}
use Rattle.sp_shape.proofs.Whole.{run_whole}
use Rattle.sp_shape.specs.Run.{Run, Sources, once, run, IsWhole}
use Rattle.sp_shape.specs.Trail.{all_done}
use Rattle.sp_emit.specs.Accesses.{IsStoredPlace, MayAsk, Asks, AsksOnly}
use Rattle.sp_emit.specs.Expressions.{address_of, cell_space, array_space, offset_of, at_word_0}
use Rattle.sp_emit.specs.Holding.{held, so}
use Rattle.sp_emit.specs.Instructions.{always, where_so, set_long, store_to, set_number}
use Rattle.sp_emit.specs.Statements.{masked_store, cell_write, element_write, send_test, send_code}
use Rattle.sp_emit.specs.declared.registers.TheConstants.{FIRST, SPARE, OVERRUN, TEST, SECOND}
use Rattle.sp_emit.proofs.Accessing.{asks_none, asks_then, near_run, nearby}
use Rattle.sp_emit.proofs.Footprints.{number_in, address_in, seek_in, match_in, mask_test_in}
use Rattle.sp_emit.proofs.Aligned.{stored_aligned}
use Rattle.sp_emit.proofs.Cells.{cell_in, cell_found, element_found, few_words, first_small}
use Rattle.sp_emit.proofs.Leaving.{constant_leaves, number_leaves}
use Rattle.sp_emit.proofs.Offsets.{offset_small}
use Rattle.sp_emit.proofs.Reaching.{before_0, word_0, did_at_word_0, not_at_word_0}
use Rattle.sp_emit.proofs.Once.{with_written, did_nothing, whole_written, got}
use Rattle.sp_emit.proofs.TargetWrites.{element_address_made, reaches}
use Rattle.sp_emit.proofs.Portless.{portless_start, start_append, unwritten, unwritten_start}
use Rattle.sp_emit.proofs.Starts.{send_starts}
use Rattle.sp_emit.proofs.Storing.{with_store, did_store}
use Rattle.sp_emit.specs.Places.{mask_test, told_at}
use Rattle.sp_emit.proofs.FlagWords.{told_few, told_other}
use Rattle.sp_emit.specs.declared.stands.Homes.{Homes}

-- ---- stores

-- one store more of a whole word
asks_store : (Named : Use → Type 0) (space : Mem) (address value : ℕ) (m t : Run) → t.asked ≡ m.asked
    ++ effect.Store space store.Word address value ∷ [] → MayAsk Named (effect.Store space store.Word address value)
    → Asks Named [] m t
asks_store Named space address value m t is may = record {
  news = effect.Store space store.Word address value ∷ [];
  is = is;
  may = All-cons (MayAsk Named) (effect.Store space store.Word address value) [] may
      (All-nil (MayAsk Named));
  loads = refl;
}

may_store : (Named : Use → Type 0) (space : Mem) (address value : ℕ) → IsStoredPlace Named space address
    → MayAsk Named (effect.Store space store.Word address value)
may_store Named mem.S address value place = (refl, stored_aligned Named mem.S address place)
may_store Named _ address value place = (refl, place)

-- a store of a word asks for itself, and leaves the registers
asked_by_store : (space : Mem) (address value : ℕ) (m : Run) → (with_store space address value m).asked ≡ m.asked
    ++ effect.Store space store.Word address value ∷ []
asked_by_store mem.S address value m = refl
asked_by_store _ address value m = refl

-- a store that is always made, at an address
store_asks : (Named : Use → Type 0) (from : Sources) (space : Mem) (at words address : ℕ) (m : Run) → IsWhole m
    → address_by (held at m) words 4 ≡ address → IsStoredPlace Named space address
    → Asks Named [] m (once from (store_to always space at FIRST words) m)
store_asks Named from space at words address m whole is place =
    asks_store Named space address (held FIRST m) m (once from (store_to always space at FIRST words) m)
    (ap (λ t. t.asked) (did_store from always space at FIRST words m whole whole.fits.always)
    ∙ asked_by_store space (address_by (held at m) words 4) (held FIRST m) m
    ∙ ap (λ a. m.asked ++ effect.Store space store.Word a (held FIRST m) ∷ []) is)
    (may_store Named space address (held FIRST m) place)

-- one that is made where the predicate is true
store_where : (Named : Use → Type 0) (from : Sources) (told at rs imm address : ℕ) (b : Bool) (m : Run) → IsWhole m
    → so told m ≡ b → (b ≡ true → address_by (held at m) imm 4 ≡ address)
    → (b ≡ true → IsStoredPlace Named mem.L address)
    → Asks Named [] m (once from (store_to (where_so told) mem.L at rs imm) m)
store_where Named from told at rs imm address false m whole off is place =
    asks_none Named m _
    (ap (λ t. t.asked) (did_nothing from (where_so told) (Store mem.L store.Word at rs imm) m whole off))
store_where Named from told at rs imm address true m whole on is place =
    asks_store Named mem.L address (held rs m) m (once from (store_to (where_so told) mem.L at rs imm) m)
    (ap (λ t. t.asked) (did_store from (where_so told) mem.L at rs imm m whole on)
    ∙ ap (λ a. m.asked ++ effect.Store mem.L store.Word a (held rs m) ∷ []) (is refl))
    (refl, place refl)

-- one that is made at word 0 where it is false
store_or_0 : (Named : Use → Type 0) (from : Sources) (space : Mem) (told at words address : ℕ) (b : Bool) (m : Run)
    → (space ≡ mem.C) ⊎ (space ≡ mem.M) → 1 ≤ at → at < 32 → words < 128 → IsWhole m → so told m ≡ b
    → (b ≡ true → address_by (held at m) words 4 ≡ address)
    → (b ≡ true → IsStoredPlace Named space address) → Asks Named [] m (once from (store_to always space at FIRST words)
    (once from (at_word_0 told at words) m))
store_or_0 Named from space told at words address true m main some few near whole on is place =
    subst (λ n. Asks Named [] m (once from (store_to always space at FIRST words) n))
    (sym (not_at_word_0 from told at words m whole on)) (store_asks Named from space at words address m whole
    (is refl) (place refl))
store_or_0 Named from space told at words address false m main some few near whole off is place =
    let w = write.Register at (before_0 words) in
    let n = with_written w m in
    let h = whole_written w m whole in
    let zero_is : address_by (held at n) words 4 ≡ 0 =
    ap (λ a. address_by a words 4) (got at (before_0 words) m whole some few) ∙ word_0 words near in
    let a = store_asks Named from space at words 0 n h zero_is
    (inr (inr (inl (record { space_is = main; address_is = refl })))) in
    subst (λ n. Asks Named [] m (once from (store_to always space at FIRST words) n))
    (sym (did_at_word_0 from told at words m whole off)) (record {
      news = a.news;
      is = a.is;
      may = a.may;
      loads = a.loads;
    })

-- a masked store, at an address that is made where the predicate is true
masked_asks : (Named : Use → Type 0) (from : Sources) (space : Mem) (told at words address : ℕ) (b : Bool) (m : Run)
    → 1 ≤ at → at < 32 → words < 128 → IsWhole m → so told m ≡ b → (b ≡ true → address_by (held at m) words 4 ≡ address)
    → (b ≡ true → IsStoredPlace Named space address)
    → Asks Named [] m (run from (all_done (masked_store told space at words)) m)
masked_asks Named from mem.S told at words address b m some few near whole test is place = asks_none Named m m refl
masked_asks Named from mem.L told at words address b m some few near whole test is place =
    store_where Named from told at FIRST words address b m whole test is place
masked_asks Named from mem.C told at words address b m some few near whole test is place =
    store_or_0 Named from mem.C told at words address b m (inl refl) some few near whole test is place
masked_asks Named from mem.M told at words address b m some few near whole test is place =
    store_or_0 Named from mem.M told at words address b m (inr refl) some few near whole test is place

-- ---- no store of them is in a register of the interface

abbrev NoPort : Option Cell → Type 0
NoPort (Some (cell.Port core register)) = ⊥
NoPort _ = Unit {0}

no_port : (r : Region) (word : ℕ) → NoPort (Some (cell_in r word))
no_port region.Scratch word = tt
no_port _ word = tt

no_start : (k : Memory) (value : ℕ) (c : Option Cell) → NoPort c → StartsAt k value c
no_start k value (Some (cell.Port core register)) none = absurd none
no_start k value _ none = tt

store_starts : (told at words address : ℕ) (b : Bool) (m : Run) → so told m ≡ b
    → (b ≡ true → address_by (held at m) words 4 ≡ address) → (b ≡ true → NoPort (cell_of mem.L address))
    → StartsWell (effect_of (store_to (where_so told) mem.L at FIRST words) m.regs) m.memory
store_starts told at words address false m off is none =
    subst (λ (b : Bool). StartsWell (if b then effect.Store mem.L store.Word (address_by (held at m) words 4)
    (held FIRST m) else effect.Nothing) m.memory) (sym off) tt
store_starts told at words address true m on is none =
    subst (λ (b : Bool). StartsWell (if b then effect.Store mem.L store.Word (address_by (held at m) words 4)
    (held FIRST m) else effect.Nothing) m.memory) (sym on)
    (subst (λ a. StartsAt m.memory (held FIRST m) (cell_of mem.L a)) (sym (is refl)) (no_start m.memory (held FIRST m)
    (cell_of mem.L address) (none refl)))

masked_starts : (from : Sources) (space : Mem) (told at words address : ℕ) (b : Bool) (m : Run) → so told m ≡ b
    → (b ≡ true → address_by (held at m) words 4 ≡ address) → (b ≡ true → NoPort (cell_of space address))
    → AllStart from (all_done (masked_store told space at words)) m
masked_starts from mem.S told at words address b m test is none = tt
masked_starts from mem.L told at words address b m test is none =
    (store_starts told at words address b m test is none, tt)
masked_starts from mem.C told at words address b m test is none =
    portless_start from (masked_store told mem.C at words) m refl
masked_starts from mem.M told at words address b m test is none =
    portless_start from (masked_store told mem.M at words) m refl

-- ---- variables

pub cell_write_asks : (homes : Homes) (Named : Use → Type 0) (mask : ℕ) (c : SpCell) → cell_formed c ≡ true
    → Named (writes_cell c) → AsksOnly Named (all_done (cell_write homes mask c))
cell_write_asks homes Named mask c formed named =
    record { cached = []; asks = asks; starts = λ from m whole words. starts from m whole }
  where
    at : ℕ
    at = address_of c.region c.word

    told : ℕ
    told = told_at homes mask

    small : address_of c.region c.word < 2 ^ 32
    small = first_small c.region c.word (omega (
      arith,
      ltb-true c.word (room_in c.region all_rooms)
          (and_parts (nat_le (first_of c.region) c.word) (nat_lt c.word (room_in c.region all_rooms)) formed).1,
    ))

    asks : (from : Sources) (m : Run) → IsWhole m → Asks Named [] m (run from (all_done (cell_write homes mask c)) m)
    asks from m whole =
        let n = run from (all_done (mask_test homes mask)) m in
        let h = run_whole from (all_done (mask_test homes mask)) m whole in
        let u = once from (set_number SPARE at) n in
        let hu = run_whole from (all_done (set_number SPARE at ∷ [])) n h in
        asks_then (near_run Named from (mask_test homes mask) m whole
        (mask_test_in nearby homes mask (λ out. refl))) (asks_then (near_run Named from (set_number SPARE at ∷ []) n h (rw (number_in nearby SPARE at refl) refl))
        (masked_asks Named from (cell_space c.region) told SPARE 0 at (so told u) u (omega arith) (omega arith)
        (omega arith) hu refl
        (λ on. ap (λ a. address_by a 0 4) (number_leaves from SPARE at n h (omega arith) (omega arith) small)
        ∙ omega (arith, small))
        (λ on. inl (c, named, record { formed = formed; space_is = refl; address_is = refl }))))

    starts : (from : Sources) (m : Run) → IsWhole m → AllStart from (all_done (cell_write homes mask c)) m
    starts from m whole =
        let n = run from (all_done (mask_test homes mask)) m in
        let h = run_whole from (all_done (mask_test homes mask)) m whole in
        let u = once from (set_number SPARE at) n in
        start_append from (all_done (mask_test homes mask))
        (all_done (set_number SPARE at ∷ masked_store told (cell_space c.region) SPARE 0)) m
        (unwritten_start from unwritten refl (mask_test homes mask) m
        (mask_test_in unwritten homes mask (λ out. refl))) (
          (unwritten_start from unwritten refl (set_number SPARE at ∷ []) n
              (rw (number_in unwritten SPARE at refl) refl)).0,
          masked_starts from (cell_space c.region) told SPARE 0 at (so told u) u refl
              (λ on. ap (λ a. address_by a 0 4) (number_leaves from SPARE at n h (omega arith) (omega arith) small)
              ∙ omega (arith, small))
              (λ on. subst NoPort
              (sym (cell_found c.region c.word (ltb-true c.word (room_in c.region all_rooms)
              (and_parts (nat_le (first_of c.region) c.word) (nat_lt c.word (room_in c.region all_rooms))
              formed).1))) (no_port c.region c.word)),
        )

-- ---- elements

pub element_write_asks : (homes : Homes) (Named : Use → Type 0) (mask : ℕ) (a : SpArray) → array_formed a ≡ true
    → Named (writes_array a) → AsksOnly Named (all_done (element_write homes mask a))
unfolding element_address_made
element_write_asks homes Named mask a formed named =
    record { cached = []; asks = asks; starts = λ from m whole words. starts from m whole }
  where
    told : ℕ
    told = told_at homes mask

    within : a.first + a.length ≤ room_in a.region all_rooms
    within = leb-true (a.first + a.length) (room_in a.region all_rooms) (and_parts (nat_le (first_of a.region) a.first)
        (nat_le (a.first + a.length) (room_in a.region all_rooms)) formed).1

    asks : (from : Sources) (m : Run) → IsWhole m → Asks Named [] m (run from (all_done (element_write homes mask a)) m)
    asks from m whole =
        let n = run from (all_done (mask_test homes mask)) m in
        let h = run_whole from (all_done (mask_test homes mask)) m whole in
        let made = element_address_made [] told a in
        let u = run from (all_done made) n in
        let i = held (FIRST + 1) n in
        let b = so told n in
        let r = reaches (record { first = OVERRUN; flags = homes.flags }) from told b 0 i a n (told_few homes mask).1
        (told_other homes mask) (omega arith) h refl refl (omega (arith, within, few_words a.region))
        (first_small a.region a.first (omega (arith, within))) in
        let less : (b && nat_lt i a.length) ≡ true → i < a.length =
        λ on. ltb-true i a.length (and_parts b (nat_lt i a.length) on).1 in
        asks_then (near_run Named from (mask_test homes mask) m whole
        (mask_test_in nearby homes mask (λ out. refl))) (asks_then (near_run Named from made n h
        (let p = address_in nearby a SECOND (FIRST + 1) (FIRST + 1) refl refl in
        rw (p.length, p.below, p.base, p.scaled) refl))
        (masked_asks Named from (array_space a.region) TEST (FIRST + 1) (offset_of a)
        (address_of a.region (a.first + i)) (b && nat_lt i a.length) u (omega arith) (omega arith) (offset_small a)
        r.keeps.whole r.test
        (λ on. r.address (omega (arith, within, less on)))
        (λ on. inr (inl (
          a,
          named,
          record {
            formed = formed;
            index = i;
            within = less on;
            space_is = refl;
            address_is = refl;
          },
        )))))

    starts : (from : Sources) (m : Run) → IsWhole m → AllStart from (all_done (element_write homes mask a)) m
    starts from m whole =
        let n = run from (all_done (mask_test homes mask)) m in
        let h = run_whole from (all_done (mask_test homes mask)) m whole in
        let made = element_address_made [] told a in
        let u = run from (all_done made) n in
        let i = held (FIRST + 1) n in
        let b = so told n in
        let r = reaches (record { first = OVERRUN; flags = homes.flags }) from told b 0 i a n (told_few homes mask).1
        (told_other homes mask) (omega arith) h refl refl (omega (arith, within, few_words a.region))
        (first_small a.region a.first (omega (arith, within))) in
        let less : (b && nat_lt i a.length) ≡ true → i < a.length =
        λ on. ltb-true i a.length (and_parts b (nat_lt i a.length) on).1 in
        start_append from (all_done (mask_test homes mask))
        (all_done (made ++ masked_store TEST (array_space a.region) (FIRST + 1) (offset_of a))) m
        (unwritten_start from unwritten refl (mask_test homes mask) m
        (mask_test_in unwritten homes mask (λ out. refl)))
        (start_append from (all_done made) (all_done (masked_store TEST (array_space a.region) (FIRST + 1)
        (offset_of a))) n (unwritten_start from unwritten refl made n
        (let p = address_in unwritten a SECOND (FIRST + 1) (FIRST + 1) refl refl in
        rw (p.length, p.below, p.base, p.scaled) refl))
        (masked_starts from (array_space a.region) TEST (FIRST + 1) (offset_of a) (address_of a.region (a.first + i))
        (b && nat_lt i a.length) u r.test
        (λ on. r.address (omega (arith, within, less on)))
        (λ on. subst NoPort (sym (element_found a.region (a.first + i) (omega (arith, within, less on))))
        (no_port a.region (a.first + i)))))

-- ---- sends

pub send_asks : (homes : Homes) (Named : Use → Type 0) (mask core : ℕ) → core < 16 → Named (sends_to core)
    → AsksOnly Named (all_done (send_code homes mask core))
send_asks homes Named mask core few named = record {
  cached = [];
  asks = asks;
  starts = λ from m whole words.
      send_starts homes from mask core m few whole (words.0 FIRST) (words.0 (FIRST + 1)) (words.0 (FIRST + 2));
}
  where
    address : ℕ
    address = 0x20000 + 16 * core

    -- a register of the interface, where the spare register has the address of the core's registers
    port : (from : Sources) (rs i : ℕ) (n : Run) → i < 3 → IsWhole n → held SPARE n ≡ 0x20000 + 16 * core
        → Asks Named [] n (once from (store_to (where_so TEST) mem.L SPARE rs i) n)
    port from rs i n low h at =
        store_where Named from TEST SPARE rs i (0x20000 + 16 * core + 4 * i) (so TEST n) n h refl
        (λ on. ap (λ a. address_by a i 4) at ∙ omega (arith, few, low))
        (λ on. inr (inr (inr (core, named, record { register = i; within = low; space_is = refl; address_is = refl }))))

    same : (from : Sources) (rs i : ℕ) (n : Run) → IsWhole n
        → held SPARE (once from (store_to (where_so TEST) mem.L SPARE rs i) n) ≡ held SPARE n
    same from rs i n h = by (so TEST n) refl
      where
        by : (b : Bool) → so TEST n ≡ b → held SPARE (once from (store_to (where_so TEST) mem.L SPARE rs i) n)
            ≡ held SPARE n
        by true on = ap (held SPARE) (did_store from (where_so TEST) mem.L SPARE rs i n h on)
        by false off = ap (held SPARE) (did_nothing from (where_so TEST) (Store mem.L store.Word SPARE rs i) n h off)

    asks : (from : Sources) (m : Run) → IsWhole m → Asks Named [] m (run from (all_done (send_code homes mask core)) m)
    asks from m whole =
        let before =
        mask_test homes mask ++ (send_test (told_at homes mask) ++ set_long SPARE (0x20000 + 16 * core) ∷ []) in
        let n = run from (all_done (mask_test homes mask ++ send_test (told_at homes mask))) m in
        let h = run_whole from (all_done (mask_test homes mask ++ send_test (told_at homes mask))) m whole in
        let u = once from (set_long SPARE (0x20000 + 16 * core)) n in
        let hu = run_whole from (all_done (set_long SPARE (0x20000 + 16 * core) ∷ [])) n h in
        let at = constant_leaves from SPARE (0x20000 + 16 * core) n h (omega arith) (omega arith)
        (omega (arith, few)) in
        let u1 = once from (store_to (where_so TEST) mem.L SPARE FIRST 0) u in
        let h1 = run_whole from (all_done (store_to (where_so TEST) mem.L SPARE FIRST 0 ∷ [])) u hu in
        let at1 = same from FIRST 0 u hu ∙ at in
        let u2 = once from (store_to (where_so TEST) mem.L SPARE (FIRST + 1) 1) u1 in
        let h2 = run_whole from (all_done (store_to (where_so TEST) mem.L SPARE (FIRST + 1) 1 ∷ [])) u1 h1 in
        let at2 = same from (FIRST + 1) 1 u1 h1 ∙ at1 in
        asks_then (near_run Named from before m whole
        (rw (seek_in nearby homes mask (λ out. refl), match_in nearby homes mask) refl))
        (asks_then (port from FIRST 0 u (omega arith) hu at)
        (asks_then (port from (FIRST + 1) 1 u1 (omega arith) h1 at1)
        (port from (FIRST + 2) 2 u2 (omega arith) h2 at2)))

-- What the code of values that are set in memory leaves.
use Rattle.std.proofs.Common.{◌≡◌, ℕ, ◌+◌, ◌%◌, ◌^◌, ◌<◌, ◌≤◌, ◌==◌, ◌⊎◌, inl, inr, Bool, true, false, ◌&&◌, if◌then◌else◌, List, [], ◌∷◌, refl, sym, ap, ◌∙◌, subst, arith, nat_lt}
use Rattle.std.specs.Prelude.{nat_le}
use Rattle.std.proofs.lemmas.Bool.{and_parts, leb-true, ltb-true}
use Rattle.patmos_instr.specs.Bundles.{PlainBundle}
use Rattle.patmos_instr.specs.declared.functions.PredFunc.TheVariants as comb
use Rattle.patmos_instr.specs.declared.memories.Mem.TheVariants as mem
use Rattle.patmos_sem.specs.Effects.{address_of as address_by}
use Rattle.patmos_sem.specs.declared.writes.Write.TheVariants as write
use Rattle.c_world.specs.Shown.{room_in}
use Rattle.c_world.specs.World.{with_word, with_element}
use Rattle.c_world.specs.declared.region.Region.{Region}
use Rattle.c_world.specs.declared.region.Region.TheVariants as region
use Rattle.sp_tree.specs.Formed.{all_rooms, first_of, cell_formed, array_formed, expr_formed}
use Rattle.sp_tree.specs.Plain.{PlainSp}
use Rattle.sp_tree.specs.Statements.{writes, to_cell, to_array}
use Rattle.sp_tree.specs.Straight.{State, worth, in_world, where_on, write_done}
use Rattle.sp_tree.specs.declared.expressions.SpArray.{SpArray}
use Rattle.sp_tree.specs.declared.expressions.SpCell.{SpCell}
use Rattle.sp_shape.specs.Parts.{straight, one}
use Rattle.sp_shape.specs.Memory.{cell_of}
use Rattle.sp_shape.specs.Run.{Run, Sources, by_words, once, run, IsWhole}
use Rattle.sp_shape.specs.Trail.{Step, all_done, parts_trail}
use Rattle.sp_emit.specs.Expressions.{address_of, cell_space, array_space, length_op, below_op, offset_of, base_op, scaled_op, expr_code}
use Rattle.sp_emit.specs.Holding.{held, Keeps, so}
use Rattle.sp_emit.specs.Instructions.{always, under, set_number, combine}
use Rattle.sp_emit.specs.Means.{HasWordConstants, Follows}
use Rattle.sp_emit.specs.Statements.{cell_write, element_write, masked_store, target_write, stmt_code}
use Rattle.sp_emit.specs.declared.registers.TheConstants.{FIRST, SPARE, OVERRUN, TEST, SECOND}
use Rattle.sp_tree.specs.Need.{need}
use Rattle.sp_emit.proofs.Needs.{some_need}
use Rattle.sp_emit.proofs.Footprints.{number_in, address_in}
use Rattle.sp_emit.proofs.Calm.{calm, calm_done, own_free, spare_free}
use Rattle.sp_emit.proofs.CellWrites.{with_where, local_store, main_store, cached_is_plain, main_is_plain}
use Rattle.sp_emit.proofs.Cells.{cell_found, element_found, few_words, first_small}
use Rattle.sp_emit.proofs.Leaving.{did_set_number, did_combine}
use Rattle.sp_emit.proofs.Offsets.{offset_small}
use Rattle.sp_emit.proofs.Reaching.{compares, scales}
use Rattle.sp_emit.proofs.Passing.{keeps_then}
use Rattle.sp_emit.specs.Places.{mask_test, told_at}
use Rattle.sp_emit.proofs.FlagWords.{told_few, told_other}
use Rattle.sp_emit.proofs.Masks.{Done, ready, follows_still, behind_still, tested}
use Rattle.sp_emit.proofs.Once.{with_written, whole_written, got, kept_by_pred, so_got, so_by_register}
use Rattle.sp_emit.proofs.Values.{behind, fits_of, expr_keeps, run_joined, run_lone, value_left, value_small}
use Rattle.sp_emit.specs.declared.stands.Homes.{Homes}

-- a store at the address that a register holds, where the predicate is true
record Stores (homes : Homes) (slots count told : ℕ) (r : Region) (word at words v : ℕ) (b : Bool) (s : State)
    (m : Run) : Type 0 where
  follows : Follows homes slots s m
  test : so told m ≡ b
  value : held FIRST m ≡ v
  below : v < 2 ^ 32
  above : FIRST < at
  apart : ((at < homes.first) × (at < OVERRUN)) ⊎ (OVERRUN < at)
  few : at < 32
  near : words < 128
  some : 1 ≤ homes.first
  address : b ≡ true → address_by (held at m) words 4 ≡ address_of r word
  lies : b ≡ true → word < room_in r all_rooms

cell_stored : (homes : Homes) (slots count told : ℕ) (r : Region) (word at words v : ℕ) (b : Bool) (s : State) (m : Run)
    → Stores homes slots count told r word at words v b s m
    → Done homes slots count (with_where b r word v s) m (run by_words
    (all_done (masked_store told (cell_space r) at words)) m)
cell_stored homes slots count told region.Scratch word at words v b s m x =
    local_store homes slots count told region.Scratch word at words v b s m x.follows x.test x.value x.below
    (λ on. ap (cell_of mem.L) (x.address on) ∙ cell_found region.Scratch word (x.lies on))
cell_stored homes slots count told region.Comm word at words v b s m x =
    local_store homes slots count told region.Comm word at words v b s m x.follows x.test x.value x.below
    (λ on. ap (cell_of mem.L) (x.address on) ∙ cell_found region.Comm word (x.lies on))
cell_stored homes slots count told region.Private word at words v b s m x =
    main_store homes slots count told mem.C cached_is_plain region.Private word at words v b s m x.follows x.test
    x.value x.below x.above x.apart x.few x.near x.some (λ on. ap (cell_of mem.C) (x.address on)
    ∙ cell_found region.Private word (x.lies on)) refl
cell_stored homes slots count told region.Shared word at words v b s m x =
    main_store homes slots count told mem.M main_is_plain region.Shared word at words v b s m x.follows x.test x.value
    x.below x.above x.apart x.few x.near x.some (λ on. ap (cell_of mem.M) (x.address on)
    ∙ cell_found region.Shared word (x.lies on)) refl

element_stored : (homes : Homes) (slots count told : ℕ) (r : Region) (word at words v : ℕ) (b : Bool) (s : State)
    (m : Run) → Stores homes slots count told r word at words v b s m
    → Done homes slots count (with_where b r word v s) m (run by_words
    (all_done (masked_store told (array_space r) at words)) m)
element_stored homes slots count told region.Private word at words v b s m x =
    main_store homes slots count told mem.M main_is_plain region.Private word at words v b s m x.follows x.test x.value
    x.below x.above x.apart x.few x.near x.some (λ on. ap (cell_of mem.M) (x.address on)
    ∙ element_found region.Private word (x.lies on)) refl
element_stored homes slots count told other word at words v b s m x =
    cell_stored homes slots count told other word at words v b s m x

same_address : (r : Region) (word : ℕ) → word < room_in r all_rooms → address_by (address_of r word) 0 4
    ≡ address_of r word
same_address r word lies = omega (arith, first_small r word (omega (arith, lies)))

-- a value that is set in a variable
pub cell_done : (homes : Homes) (f : ℕ → List Step) (frame counter slots mask : ℕ) (c : SpCell) (e : PlainSp)
    (s : State) (m : Run) → slots ≤ 128 → mask < slots → cell_formed c ≡ true → expr_formed slots e ≡ true
    → HasWordConstants e → FIRST + need e ≤ homes.first
    → Follows homes slots s m → Done homes slots (counter + 1) (where_on mask (write_done (to_cell c) e) s) m
    (run by_words (parts_trail f (stmt_code homes frame counter (writes mask (to_cell c) e))) m)
unfolding with_where
cell_done homes f frame counter slots mask c e s m most masked cell formed constants free x =
    let r = ready homes slots FIRST e s m (omega arith) (omega arith) free most formed constants x in
    let n = behind homes f e FIRST m in
    let keeps = expr_keeps homes by_words f e FIRST m (fits_of r) r.free x.whole in
    let y = follows_still keeps x in
    let t = tested homes slots mask s n most masked y in
    let u = run by_words (all_done (mask_test homes mask)) n in
    let address = address_of c.region c.word in
    let lies = ltb-true c.word (room_in c.region all_rooms) (and_parts (nat_le (first_of c.region) c.word)
    (nat_lt c.word (room_in c.region all_rooms)) cell).1 in
    let u2 = once by_words (set_number SPARE address) u in
    let long = calm_done by_words SPARE homes.first (set_number SPARE address ∷ []) u
    (omega arith) t.keeps.whole (rw (number_in (calm SPARE homes.first) SPARE address (spare_free SPARE homes.first SPARE
    (omega arith))) refl) in
    let v = (0 + address) % 2 ^ 32 in
    let set = did_set_number by_words SPARE address u t.keeps.whole in
    let small = first_small c.region c.word (omega (arith, lies)) in
    let holds_it : held SPARE u2 ≡ address =
    ap (held SPARE) set ∙ got SPARE v u t.keeps.whole (omega arith) (omega arith) ∙ omega (arith, small) in
    let told = told_at homes mask in
    let done = cell_stored homes slots (counter + 1) told c.region c.word SPARE 0 (worth e s)
    (s.frame mask == 1) s u2 (record {
      follows = follows_still long (follows_still t.keeps y);
      test = ap (so told) set ∙ so_by_register SPARE v told u t.keeps.whole (told_few homes mask).1 ∙ t.test;
      value = long.low FIRST (omega arith) ∙ t.keeps.low FIRST (omega arith) ∙ value_left f e r;
      below = value_small e r;
      above = omega arith;
      apart = inr (omega arith);
      few = omega arith;
      near = omega arith;
      some = omega (arith, free);
      address = λ on. ap (λ a. address_by a 0 4) holds_it ∙ same_address c.region c.word lies;
      lies = λ on. lies;
    }) in
    subst (Done homes slots (counter + 1) (where_on mask (write_done (to_cell c) e) s) m)
    (sym (run_joined by_words f (expr_code homes e FIRST) (target_write homes mask (to_cell c)) m
    ∙ run_lone by_words f (cell_write homes mask c) n)) (record {
      follows = done.follows;
      keeps = keeps_then (behind_still (counter + 1) keeps) (keeps_then (behind_still (counter + 1) t.keeps)
          (keeps_then (behind_still (counter + 1) long) done.keeps));
    })

-- ---- elements

pub same_element : (b : Bool) (r : Region) (first length index v : ℕ) (s : State)
    → with_where (b && nat_lt index length) r (first + index) v s
    ≡ (if b then in_world s (with_element r first length index v s.world) else s)
unfolding with_where
same_element false r first length index v s = refl
same_element true r first length index v s = by (nat_lt index length)
  where
    by : (on : Bool) → (if on then in_world s (with_word r (first + index) v s.world) else s)
        ≡ in_world s (if on then with_word r (first + index) v s.world else s.world)
    by true = refl
    by false = refl

-- the bundles after the test of the mask: the test of the index joins it, and the address is made
unfoldable pub element_address_made : List PlainBundle → ℕ → SpArray → List PlainBundle
element_address_made rest told a =
    under always (length_op a.length)
    ∷ under always (below_op SECOND (FIRST + 1) a.length)
    ∷ combine comb.Pand TEST told SECOND
    ∷ under always (base_op a)
    ∷ under always (scaled_op a (FIRST + 1) (FIRST + 1))
    ∷ rest

pub record Reaches (homes : Homes) (b : Bool) (v index : ℕ) (a : SpArray) (u t : Run) : Type 0 where
  pub keeps : Keeps (FIRST + 1) homes.first u t
  pub test : so TEST t ≡ (b && nat_lt index a.length)
  pub address : a.first + index < room_in a.region all_rooms → address_by (held (FIRST + 1) t) (offset_of a) 4
      ≡ address_of a.region (a.first + index)

pub reaches : (homes : Homes) (from : Sources) (told : ℕ) (b : Bool) (v index : ℕ) (a : SpArray) (u : Run) → told < 8
    → (SECOND ≡ told → ⊥) → FIRST + 1 < homes.first → IsWhole u → so told u ≡ b → held (FIRST + 1) u ≡ index
    → a.length < 2 ^ 32 → address_of a.region a.first < 2 ^ 32
    → Reaches homes b v index a u (run from (all_done (element_address_made [] told a)) u)
unfolding element_address_made
reaches homes from told b v index a u few other within whole test is len_small at_small =
    let n = once from (under always (below_op SECOND (FIRST + 1) a.length))
    (once from (under always (length_op a.length)) u) in
    let c = compares from SECOND (FIRST + 1) a.length u whole (omega arith) (omega arith) (omega arith) len_small in
    let both = so told n && so SECOND n in
    let w = write.Predicate TEST both in
    let k = with_written w n in
    let h = whole_written w n c.whole in
    let joins = did_combine from comb.Pand TEST told SECOND n c.whole in
    let s = scales from a (FIRST + 1) (FIRST + 1) k h (omega arith) (omega arith) (omega arith) at_small in
    let index_is : held (FIRST + 1) k ≡ index =
    kept_by_pred TEST both (FIRST + 1) n c.whole (omega arith) ∙ c.regs (FIRST + 1) (omega arith) ∙ is in
    let steps = ap (λ t. once from (under always (scaled_op a (FIRST + 1) (FIRST + 1)))
    (once from (under always (base_op a)) t)) joins in
    record {
      keeps = calm_done from (FIRST + 1) homes.first (element_address_made [] told a) u (omega arith) whole (
          let free = own_free (FIRST + 1) homes.first (FIRST + 1) (omega arith) (omega arith) within in
          let address =
          address_in (calm (FIRST + 1) homes.first) a SECOND (FIRST + 1) (FIRST + 1) refl free in
          rw (address.length, address.below, address.base, address.scaled) refl
          );
      test = ap (so TEST) steps ∙ s.preds TEST (omega arith) ∙ so_got TEST both n c.whole (omega arith) (omega arith)
          ∙ ap (λ x. x && so SECOND n) (c.preds told few other ∙ test)
          ∙ ap (λ x. b && x) (c.test ∙ ap (λ i. nat_lt i a.length) is);
      address = λ lies. ap (λ t. address_by (held (FIRST + 1) t) (offset_of a) 4) steps
          ∙ s.address (subst (λ i. a.first + i < room_in a.region all_rooms) (sym index_is) lies)
          ∙ ap (λ i. address_of a.region (a.first + i)) index_is;
    }

-- a value that is set in an element of an array
pub element_done : (homes : Homes) (f : ℕ → List Step) (frame counter slots mask : ℕ) (array : SpArray)
    (index e : PlainSp) (s : State) (m : Run) → slots ≤ 128 → mask < slots → array_formed array ≡ true
    → expr_formed slots index ≡ true → HasWordConstants index
    → expr_formed slots e ≡ true → HasWordConstants e → FIRST + need e ≤ homes.first → FIRST + 1 + need index
    ≤ homes.first → Follows homes slots s m
    → Done homes slots (counter + 1) (where_on mask (write_done (to_array array index) e) s) m (run by_words
    (parts_trail f (stmt_code homes frame counter (writes mask (to_array array index) e))) m)
unfolding element_address_made
element_done homes f frame counter slots mask array index e s m most masked formed_array formed_index constants_index
    formed constants free free_index x =
    let r = ready homes slots FIRST e s m (omega arith) (omega arith) free most formed constants x in
    let n = behind homes f e FIRST m in
    let keeps = expr_keeps homes by_words f e FIRST m (fits_of r) r.free x.whole in
    let y = follows_still keeps x in
    let ri = ready homes slots (FIRST + 1) index s n (omega arith) (omega arith) free_index most formed_index
    constants_index y in
    let ni = behind homes f index (FIRST + 1) n in
    let keeps_i = expr_keeps homes by_words f index (FIRST + 1) n (fits_of ri) ri.free keeps.whole in
    let yi = follows_still keeps_i y in
    let t = tested homes slots mask s ni most masked yi in
    let u = run by_words (all_done (mask_test homes mask)) ni in
    let i = worth index s in
    let parts = and_parts (nat_le (first_of array.region) array.first) (nat_le (array.first + array.length)
    (room_in array.region all_rooms)) formed_array in
    let within = leb-true (array.first + array.length) (room_in array.region all_rooms) parts.1 in
    let b = s.frame mask == 1 in
    let v = worth e s in
    let told = told_at homes mask in
    let reached = reaches homes by_words told b v i array u (told_few homes mask).1 (told_other homes mask)
    (omega (arith, free_index, some_need index)) t.keeps.whole t.test (t.keeps.low (FIRST + 1) (omega arith)
    ∙ value_left f index ri) (omega (arith, within, few_words array.region))
    (first_small array.region array.first (omega (arith, within))) in
    let w = run by_words (all_done (element_address_made [] told array)) u in
    let lies : (b && nat_lt i array.length) ≡ true → array.first + i < room_in array.region all_rooms =
    λ on. omega (arith, within, ltb-true i array.length (and_parts b (nat_lt i array.length) on).1) in
    let done = element_stored homes slots (counter + 1) TEST array.region (array.first + i) (FIRST + 1)
    (offset_of array) v (b && nat_lt i array.length) s w (record {
      follows = follows_still reached.keeps (follows_still t.keeps yi);
      test = reached.test;
      value = reached.keeps.low FIRST (omega arith) ∙ t.keeps.low FIRST (omega arith) ∙ keeps_i.low FIRST (omega arith)
          ∙ value_left f e r;
      below = value_small e r;
      above = omega arith;
      apart = inl (omega (arith, free_index, some_need index), omega arith);
      few = omega arith;
      near = offset_small array;
      some = omega (arith, free);
      address = λ on. reached.address (lies on);
      lies = lies;
    }) in
    subst (Done homes slots (counter + 1) (where_on mask (write_done (to_array array index) e) s) m)
    (sym (run_joined by_words f (expr_code homes e FIRST) (target_write homes mask (to_array array index)) m
    ∙ run_joined by_words f (expr_code homes index (FIRST + 1)) (one (straight (element_write homes mask array))) n
    ∙ run_lone by_words f (element_write homes mask array) ni))
    (record {
      follows = subst
          (λ z. Follows homes slots z
          (run by_words (all_done (masked_store TEST (array_space array.region) (FIRST + 1) (offset_of array))) w))
          (same_element b array.region array.first array.length i v s) done.follows;
      keeps = keeps_then (behind_still (counter + 1) keeps) (keeps_then (behind_still (counter + 1) keeps_i)
          (keeps_then (behind_still (counter + 1) t.keeps)
          (keeps_then (behind_still (counter + 1) reached.keeps) done.keeps)));
    })

-- The code of a task asks for nothing that a check of a core stops, makes its iterations, and has the same events.
use Rattle.std.proofs.Common.{◌≡◌, ℕ, ◌+◌, ◌%◌, ◌^◌, ◌<◌, inl, inr, true, List, [], ◌∷◌, ◌++◌, length, Option, None, Some, slice_index_or, refl, sym, ap, ◌∙◌, subst, arith}
use Rattle.std.proofs.Math.ListN.{get_or-eq_default}
use Rattle.std.specs.Prelude.{◌&&◌, is_none, nat_lt}
use Rattle.std.specs.List.{Contains, AllByRecursion as Each}
use Rattle.std.proofs.lemmas.Bool.{and_from, and_parts, cases_lt}
use Rattle.std.proofs.lemmas.List.Elements.{recursion_from_All, All-contains_itself}
use Rattle.slot_arbiter.specs.declared.place.Place.{Place}
use Rattle.c_world.specs.Shown.{room_in}
use Rattle.c_world.specs.declared.region.Region.{Region}
use Rattle.c_world.specs.declared.region.Region.TheVariants as region
use Rattle.patmos_instr.specs.Bundles.{PlainBundle}
use Rattle.patmos_instr.specs.declared.instructions.Instr.{Instr}
use Rattle.patmos_instr.specs.declared.memories.Mem.TheVariants as mem
use Rattle.patmos_sem.specs.Bundles.{effect_of}
use Rattle.patmos_sem.specs.Effects.{width_bytes, store_bytes}
use Rattle.patmos_sem.specs.declared.effects.Effect.{Effect}
use Rattle.patmos_sem.specs.declared.effects.Effect.TheVariants as effect
use Rattle.patmos_model.specs.Apart.{site_of}
use Rattle.patmos_model.specs.Site.{Site}
use Rattle.sp_tree.specs.Formed.{all_rooms, is_formed}
use Rattle.sp_tree.specs.Statements.{PlainUnit}
use Rattle.sp_tree.specs.Uses.{Use, sends_to, uses_of}
use Rattle.sp_shape.specs.Memory.{Memory, cell_of}
use Rattle.sp_shape.specs.Pointers.{Pointers, pointers_of, IsWithinStack, AreWithinStack}
use Rattle.sp_shape.specs.Bundles.{has_word, is_idle, is_steady, parts_all}
use Rattle.sp_shape.specs.Parts.{no_part}
use Rattle.sp_shape.specs.Run.{Run, IsWhole, Sources, run, late, begun, at_begin}
use Rattle.sp_shape.specs.Trail.{Step, does, begins, trail}
use Rattle.sp_emit.specs.Accesses.{IsReadPlace, IsStoredPlace, MayAsk, Asks, AsksOnly, cached_addresses}
use Rattle.sp_emit.specs.Expressions.{cell_space, array_space}
use Rattle.sp_emit.specs.Counts.{HasCounts}
use Rattle.sp_emit.specs.Functions.{emitted}
use Rattle.sp_emit.proofs.Codes.{codes_length}
use Rattle.sp_emit.specs.Means.{HasConstants}
use Rattle.sp_emit.specs.Starting.{AllWords}
use Rattle.sp_emit.proofs.Constants.{constants_are_words, counts_are_words}
use Rattle.sp_emit.proofs.Kept as emit
use Rattle.bundle_sched.proofs.Kept as sched
use Rattle.bundle_sched.specs.Packed.{can_join, pair, lone}
use Rattle.bundle_sched.proofs.Commute.{idle_is}
use Rattle.bundle_sched.proofs.TwoInOne.{pairs}
use Rattle.tc_link.proofs.Constants.{function_words_fit}
use Rattle.patmos_model.specs.Range.{IsWord, HasCode, constant_of}
use Rattle.sp_emit.proofs.Aligned.{read_aligned, stored_aligned}
use Rattle.sp_emit.proofs.Cells.{cell_in}
use Rattle.sp_emit.proofs.FunctionIterations.{task_iterations}
use Rattle.sp_emit.proofs.TaskAsks.{task_asks}
use Rattle.sp_emit.proofs.WithinStack.{task_stays}
use Rattle.bundle_sched.proofs.Runs.{runs_as}
use Rattle.bundle_sched.proofs.Iterations.{iterations_as}
use Rattle.sp_emit.proofs.Formed.{emitted_formed}
use Rattle.tc_link.specs.Backs.{backs_of}
use Rattle.tc_link.specs.Placed.{linked}
use Rattle.code_core.specs.Asked.{asked_of, asks_in, MaySendAt, MaySend, AllSend}
use Rattle.code_core.specs.Fixed.{IsLinkable, cached_in, addresses_in, Behaves}
use Rattle.code_core.specs.Words.{has_constants, second_constant, AllFit}
use Rattle.code_core.proofs.BackWords.{backs_fit}
use Rattle.code_core.proofs.CodeWords.{code_is_words}
use Rattle.code_core.proofs.Constants.{constants_at, trail_fits}
use Rattle.code_core.specs.Goes.{by_stack}
use Rattle.code_core.specs.Sound.{IsSound, IsLocalLoadable, IsMainLoadable, IsLocalStorable, IsMainStorable}
use Rattle.code_core.proofs.Asked.{asked_is, all_sound}
use Rattle.task_core.specs.Tasks.{code_of, IsRunnable, IsCode}
use Rattle.task_core.proofs.Places.{no_cached_element, no_local, at_read, at_stored}
use Rattle.task_core.proofs.RunWords.{all_words, words_at_begin}
use Rattle.task_core.proofs.Sending.{StartIn, asks_once, asked_once, starts_in, all_send}

-- ---- places

local_cell : (r : Region) (word : ℕ) → mem.L ≡ cell_space r → IsLocalLoadable (Some (cell_in r word))
local_cell region.Scratch word is = tt
local_cell region.Comm word is = tt
local_cell region.Private word is = absurd (let e : mem.L ≡ mem.C = is in cc)
local_cell region.Shared word is = absurd (let e : mem.L ≡ mem.M = is in cc)

local_element : (r : Region) (word : ℕ) → mem.L ≡ array_space r → IsLocalLoadable (Some (cell_in r word))
local_element region.Scratch word is = tt
local_element region.Comm word is = tt
local_element region.Private word is = absurd (let e : mem.L ≡ mem.M = is in cc)
local_element region.Shared word is = absurd (let e : mem.L ≡ mem.M = is in cc)

main_cached : (r : Region) (word : ℕ) → mem.C ≡ cell_space r → IsMainLoadable (Some (cell_in r word))
main_cached region.Scratch word is = absurd (let e : mem.C ≡ mem.L = is in cc)
main_cached region.Comm word is = absurd (let e : mem.C ≡ mem.L = is in cc)
main_cached region.Private word is = tt
main_cached region.Shared word is = tt

main_cell : (r : Region) (word : ℕ) → mem.M ≡ cell_space r → IsMainLoadable (Some (cell_in r word))
main_cell region.Scratch word is = absurd (let e : mem.M ≡ mem.L = is in cc)
main_cell region.Comm word is = absurd (let e : mem.M ≡ mem.L = is in cc)
main_cell region.Private word is = tt
main_cell region.Shared word is = tt

main_element : (r : Region) (word : ℕ) → mem.M ≡ array_space r → IsMainLoadable (Some (cell_in r word))
main_element region.Scratch word is = absurd (let e : mem.M ≡ mem.L = is in cc)
main_element region.Comm word is = absurd (let e : mem.M ≡ mem.L = is in cc)
main_element region.Private word is = tt
main_element region.Shared word is = tt

module _ (site : Site) (k : Memory) (value : ℕ) where
  local_kept : (r : Region) (word : ℕ) → mem.L ≡ cell_space r → IsLocalStorable site k value (Some (cell_in r word))
  local_kept region.Scratch word is = tt
  local_kept region.Comm word is = tt
  local_kept region.Private word is = absurd (let e : mem.L ≡ mem.C = is in cc)
  local_kept region.Shared word is = absurd (let e : mem.L ≡ mem.M = is in cc)

  local_kept_element : (r : Region) (word : ℕ) → mem.L ≡ array_space r
      → IsLocalStorable site k value (Some (cell_in r word))
  local_kept_element region.Scratch word is = tt
  local_kept_element region.Comm word is = tt
  local_kept_element region.Private word is = absurd (let e : mem.L ≡ mem.M = is in cc)
  local_kept_element region.Shared word is = absurd (let e : mem.L ≡ mem.M = is in cc)

cached_kept : (r : Region) (word : ℕ) → word < room_in r all_rooms → mem.C ≡ cell_space r
    → IsMainStorable (Some (cell_in r word))
cached_kept region.Scratch word within is = absurd (let e : mem.C ≡ mem.L = is in cc)
cached_kept region.Comm word within is = absurd (let e : mem.C ≡ mem.L = is in cc)
cached_kept region.Private word within is = within
cached_kept region.Shared word within is = tt

main_kept : (r : Region) (word : ℕ) → word < room_in r all_rooms → mem.M ≡ cell_space r
    → IsMainStorable (Some (cell_in r word))
main_kept region.Scratch word within is = absurd (let e : mem.M ≡ mem.L = is in cc)
main_kept region.Comm word within is = absurd (let e : mem.M ≡ mem.L = is in cc)
main_kept region.Private word within is = within
main_kept region.Shared word within is = tt

main_kept_element : (r : Region) (word : ℕ) → word < room_in r all_rooms → mem.M ≡ array_space r
    → IsMainStorable (Some (cell_in r word))
main_kept_element region.Scratch word within is = absurd (let e : mem.M ≡ mem.L = is in cc)
main_kept_element region.Comm word within is = absurd (let e : mem.M ≡ mem.L = is in cc)
main_kept_element region.Private word within is = within
main_kept_element region.Shared word within is = tt

module _ (Named : Use → Type 0) where
  local_read : (address : ℕ) → IsReadPlace Named mem.L address → IsLocalLoadable (cell_of mem.L address)
  local_read address =
      at_read Named IsLocalLoadable mem.L address (λ c named is within at. local_cell c.region c.word is)
      (λ a named index is within at. local_element a.region (a.first + index) is) (λ r is. tt)

  cached_read : (address : ℕ) → IsReadPlace Named mem.C address → IsMainLoadable (cell_of mem.C address)
  cached_read address =
      at_read Named IsMainLoadable mem.C address (λ c named is within at. main_cached c.region c.word is)
      (λ a named index is within at. absurd (no_cached_element a.region is))
      (λ r is. absurd (no_cached_element r is))

  main_read : (address : ℕ) → IsReadPlace Named mem.M address → IsMainLoadable (cell_of mem.M address)
  main_read address =
      at_read Named IsMainLoadable mem.M address (λ c named is within at. main_cell c.region c.word is)
      (λ a named index is within at. main_element a.region (a.first + index) is) (λ r is. tt)

  -- ---- stores

  module _ (few : (core : ℕ) → Named (sends_to core) → core < 16) where
    local_store : (site : Site) (k : Memory) (value address : ℕ) → IsStoredPlace Named mem.L address
        → MaySendAt site k value (cell_of mem.L address) → IsLocalStorable site k value (cell_of mem.L address)
    local_store site k value address =
        at_stored Named (λ c. MaySendAt site k value c → IsLocalStorable site k value c) mem.L address few
        (λ c named is within at sends. local_kept site k value c.region c.word is)
        (λ a named index is within at sends. local_kept_element site k value a.region (a.first + index) is)
        (λ is sends. absurd (no_local is)) (λ core register named within is sends. sends)

    cached_store : (address : ℕ) → IsStoredPlace Named mem.C address → IsMainStorable (cell_of mem.C address)
    cached_store address =
        at_stored Named IsMainStorable mem.C address few
        (λ c named is within at. cached_kept c.region c.word within is)
        (λ a named index is within at. absurd (no_cached_element a.region is))
        (λ is. let low : 0 < 49152 = omega arith in low)
        (λ core register named within is. absurd (let e : mem.C ≡ mem.L = is in cc))

    main_store : (address : ℕ) → IsStoredPlace Named mem.M address → IsMainStorable (cell_of mem.M address)
    main_store address =
        at_stored Named IsMainStorable mem.M address few
        (λ c named is within at. main_kept c.region c.word within is)
        (λ a named index is within at. main_kept_element a.region (a.first + index) within is)
        (λ is. let low : 0 < 49152 = omega arith in low)
        (λ core register named within is. absurd (let e : mem.M ≡ mem.L = is in cc))

  -- ---- each effect

  pub sound_ask : (few : (core : ℕ) → Named (sends_to core) → core < 16) (site : Site) (e : Effect) (p : Pointers)
      (k : Memory) → MayAsk Named e → IsWithinStack e p → MaySend site e k → IsSound site e p k
  sound_ask few site effect.Nothing p k may within sends = tt
  sound_ask few site (effect.Flow flow) p k may within sends = tt
  sound_ask few site (effect.Load mem.S width rd address) p k may within sends =
      (ap (λ w. address % width_bytes w) may.0 ∙ may.1, within)
  sound_ask few site (effect.Load mem.L width rd address) p k may within sends =
      (may.0, read_aligned Named mem.L address may.1, local_read address may.1)
  sound_ask few site (effect.Load mem.C width rd address) p k may within sends =
      (may.0, read_aligned Named mem.C address may.1, cached_read address may.1)
  sound_ask few site (effect.Load mem.M width rd address) p k may within sends =
      (may.0, read_aligned Named mem.M address may.1, main_read address may.1)
  sound_ask few site (effect.Store mem.S width address value) p k may within sends =
      (ap (λ w. address % store_bytes w) may.0 ∙ may.1, within)
  sound_ask few site (effect.Store mem.L width address value) p k may within sends =
      (may.0, stored_aligned Named mem.L address may.1, local_store few site k value address may.1 sends)
  sound_ask few site (effect.Store mem.C width address value) p k may within sends =
      (may.0, stored_aligned Named mem.C address may.1, cached_store few address may.1)
  sound_ask few site (effect.Store mem.M width address value) p k may within sends =
      (may.0, stored_aligned Named mem.M address may.1, main_store few address may.1)
  sound_ask few site (effect.StackOp func count) p k may within sends = within

-- ---- addresses

cached_by : (e : Effect) (rest : List Effect) → cached_in e ++ cached_addresses rest
    ≡ cached_addresses (asked_of e ++ rest)
cached_by (effect.Load mem.S width rd address) rest = refl
cached_by (effect.Load _ width rd address) rest = refl
cached_by _ rest = refl

addresses_of : (from : Sources) (steps : List Step) (m : Run) → addresses_in from steps m
    ≡ cached_addresses (asks_in from steps m)
addresses_of from [] m = refl
addresses_of from (does b ∷ steps) m = ap (λ l. cached_in (effect_of b m.regs) ++ l) (addresses_of from steps
    (late from b m)) ∙ cached_by (effect_of b m.regs) (asks_in from steps (late from b m))
addresses_of from (begins ∷ steps) m = addresses_of from steps (begun m)

-- ---- tasks

-- the constants of bundles that a schedule leaves out or puts in one
constants_dropped : (b : PlainBundle) → is_idle b ≡ true → has_constants b ≡ true
constants_dropped b nothing = ap has_constants (idle_is b nothing)

constants_paired : (a b : PlainBundle) → can_join a b ≡ true → has_constants (pair a b) ≡ true
    → (has_constants a ≡ true)
    × (has_constants b ≡ true)
constants_paired a b can h =
    let both = and_parts (nat_lt (constant_of a.first.op) (2 ^ 32)) (nat_lt (constant_of b.first.op) (2 ^ 32)) h in
    let two = pairs a b can in
    (alone_fits a both.0 two.first_alone, alone_fits b both.1 two.second_alone)
  where
    alone_fits : (x : PlainBundle) → nat_lt (constant_of x.first.op) (2 ^ 32) ≡ true → is_none x.second ≡ true
        → has_constants x ≡ true
    alone_fits x fits none = so x.second none
      where
        so : (second : Option Instr) → is_none second ≡ true → (nat_lt (constant_of x.first.op) (2 ^ 32)
            && second_constant second) ≡ true
        so None none = and_from (nat_lt (constant_of x.first.op) (2 ^ 32)) true fits refl
        so (Some i) none = absurd (cc)

constants_apart : (b : PlainBundle) (i : Instr) → b.second ≡ Some i → has_constants (lone b.first) ≡ true
    → has_constants (lone i) ≡ true → has_constants b ≡ true
constants_apart b i is first second =
    and_from (nat_lt (constant_of b.first.op) (2 ^ 32)) (second_constant b.second)
    (and_parts (nat_lt (constant_of b.first.op) (2 ^ 32)) true first).0
    (ap second_constant is ∙ (and_parts (nat_lt (constant_of i.op) (2 ^ 32)) true second).0)

-- what the laws of emit and schedule tell of the code
module _ (u : PlainUnit) (code : IsCode u) where
  steady_code : is_formed u ≡ true → (k : ℕ) → k < length (code_of u).functions
      → parts_all is_steady (slice_index_or (code_of u).functions k no_part) ≡ true
  steady_code formed k below =
      let few : k < length u.functions =
      omega (arith, below, sched.functions_stay (emitted u), codes_length u.functions) in
      sched.steady_as (emitted u) (code_of u) refl k (emit.steady_as (emitted u) u refl formed k few)

  code_words : HasCode (linked (code_of u))
  code_words = code_is_words (code_of u) code.fits code.bundles

  pub link : is_formed u ≡ true → IsLinkable (code_of u)
  link formed = record {
    formed = code.formed;
    fits = code.fits;
    bundles = code.bundles;
    steady = steady_code formed;
    words = code_words;
    initial = code.initial;
  }

  words_at : (k : ℕ) → parts_all has_word (slice_index_or (code_of u).functions k no_part) ≡ true
  words_at k = elim (cases_lt k (length (code_of u).functions)) [
    | inl less ↦ function_words_fit (code_of u) k (code.bundles k less)
    | inr past ↦ ap (parts_all has_word) (get_or-eq_default (code_of u).functions no_part (omega (arith, past)))
  ]

  emitted_words : (k : ℕ) → parts_all has_word (slice_index_or (emitted u).functions k no_part) ≡ true
  emitted_words k =
      sched.none_lost has_word sched.word_dropped sched.word_paired sched.word_apart (emitted u) k (words_at k)

  pub counts_of : HasCounts u.functions
  counts_of = counts_are_words u emitted_words

  pub constants_of : HasConstants u.functions
  constants_of = constants_are_words u emitted_words

  -- the constants of all bundles are words
  emitted_fits : AllFit (trail (emitted u))
  emitted_fits = trail_fits (emitted u) (λ k. sched.none_lost has_constants constants_dropped constants_paired
      constants_apart (emitted u) k (constants_at (code_of u) code.bundles k))

  pub words_there : (memory : Memory) (loads : List ℕ) → Each IsWord loads
      → AllWords by_stack (trail (emitted u)) (at_begin memory loads (backs_of (code_of u)))
  words_there memory loads words =
      all_words (trail (emitted u)) (at_begin memory loads (backs_of (code_of u))) emitted_fits
      (words_at_begin memory loads (backs_of (code_of u)) words (backs_fit (code_of u) code_words code.fits))

module _ (u : PlainUnit) (formed : is_formed u ≡ true) where
  abbrev Named : Use → Type 0
  Named = Contains (uses_of u)

  pub asking : AsksOnly Named (trail (emitted u))
  asking = task_asks Named u formed (All-contains_itself (uses_of u))

  module _ (memory : Memory) (loads : List ℕ) where
    abbrev pub begins_at : Run
    begins_at = at_begin memory loads (backs_of (code_of u))

    pub whole : IsWhole begins_at
    whole = record { fits = record { count = refl; pred_count = refl; zero = refl; always = refl }; pending = refl }

    -- what a run asks for, which code asks for that is read at once
    pub asked_there : asks_in by_stack (trail (code_of u)) begins_at
        ≡ (run by_stack (trail (emitted u)) begins_at).asked
    asked_there = sym (asked_is by_stack (trail (code_of u)) begins_at) ∙ ap (λ (t : Run). t.asked) (runs_as (emitted u)
        (code_of u) refl by_stack begins_at whole)

    pub asks_there : asks_in by_stack (trail (code_of u)) begins_at ≡ (asking.asks by_stack begins_at whole).news
    asks_there = asked_there ∙ (asking.asks by_stack begins_at whole).is

    pub may_there : Each (MayAsk Named) (asks_in by_stack (trail (code_of u)) begins_at)
    may_there =
        let asks : Asks Named asking.cached begins_at (run by_stack (trail (emitted u)) begins_at) =
        asking.asks by_stack begins_at whole in
        subst (Each (MayAsk Named)) (sym asks_there) (recursion_from_All (MayAsk Named) asks.news asks.may)

pub targets_of : (u : PlainUnit) (place : Place) → IsRunnable u place → (core : ℕ)
    → Contains (uses_of u) (sends_to core) → (core < 16) × ((core < place.cores) × (core ≡ place.core → ⊥))
targets_of u place h core named = let t = h.targets core named in (omega (arith, t.0, h.few), t)

-- transfers are started only as they may be
pub sends_there : (u : PlainUnit) (place : Place) (h : IsRunnable u place) → IsCode u → (memory : Memory)
    (loads : List ℕ) → Each IsWord loads
    → AllSend (site_of place (linked (code_of u))) by_stack (trail (code_of u)) (begins_at u h.formed memory loads)
sends_there u place h code memory loads words =
    let m : Run = begins_at u h.formed memory loads in
    let starts : StartIn (asks_once by_stack (trail (emitted u)) m) memory =
    starts_in by_stack (trail (emitted u)) m ((asking u h.formed).starts by_stack m (whole u h.formed memory loads)
    (words_there u code memory loads words)) in
    all_send (Contains (uses_of u)) (site_of place (linked (code_of u))) (targets_of u place h) by_stack
    (trail (code_of u)) m (may_there u h.formed memory loads)
    (subst (λ l. StartIn l memory)
    (sym (asked_there u h.formed memory loads ∙ asked_once by_stack (trail (emitted u)) m)) starts)

pub behaves : (u : PlainUnit) (place : Place) (h : IsRunnable u place) → IsCode u
    → Behaves (code_of u) place (asking u h.formed).cached
behaves u place h code = record {
  iterations = λ memory loads words.
      iterations_as (emitted u) (code_of u) refl (emitted_formed u h.formed) by_stack
      (begins_at u h.formed memory loads) (whole u h.formed memory loads) (task_iterations u by_stack memory loads
      (backs_of (code_of u)) refl h.formed (counts_of u code));
  sound = λ memory loads words.
      all_sound (site_of place (linked (code_of u))) (MayAsk (Contains (uses_of u))) (sound_ask (Contains (uses_of u))
      (λ core named. (targets_of u place h core named).0) (site_of place (linked (code_of u)))) by_stack
      (trail (code_of u)) (begins_at u h.formed memory loads)
      (may_there u h.formed memory loads)
      (subst (λ l. AreWithinStack l (pointers_of (begins_at u h.formed memory loads)))
      (sym (asked_there u h.formed memory loads)) (task_stays u by_stack memory loads (backs_of (code_of u))
      h.formed h.stack))
      (sends_there u place h code memory loads words);
  same = λ memory loads words.
      addresses_of by_stack (trail (code_of u)) (begins_at u h.formed memory loads)
      ∙ ap cached_addresses (asks_there u h.formed memory loads)
      ∙ ((asking u h.formed).asks by_stack (begins_at u h.formed memory loads) (whole u h.formed memory loads)).loads;
}

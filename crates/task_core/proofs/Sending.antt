-- Where a transfer is started only as its registers allow it, no check of a core stops it.
use Rattle.std.proofs.Common.{◌≡◌, ℕ, ◌+◌, ◌*◌, ◌<◌, ◌&&◌, ◌==◌, not, nat_le, nat_lt, true, List, [], ◌∷◌, ◌++◌, Some, append_assoc, append-nil, refl, sym, ap, ◌∙◌, subst, arith}
use Rattle.std.specs.List.{AllByRecursion as Each}
use Rattle.std.proofs.lemmas.Bool.{and_parts, and_from, leb-true, lt-ltb, ne_eqb, eqb-true}
use Rattle.c_world.specs.World.{may_start}
use Rattle.c_world.specs.declared.region.Region.{Region}
use Rattle.c_world.specs.declared.region.Region.TheVariants as region
use Rattle.local_store.specs.declared.map.Cell.TheVariants as cell
use Rattle.patmos_instr.specs.declared.memories.Mem.TheVariants as mem
use Rattle.patmos_sem.specs.Bundles.{after_bundle, effect_of}
use Rattle.patmos_sem.specs.Narrow.{merged}
use Rattle.patmos_sem.specs.declared.effects.Effect.{Effect}
use Rattle.patmos_sem.specs.declared.effects.Effect.TheVariants as effect
use Rattle.patmos_instr.specs.declared.functions.StackFunc.TheVariants.{Sres, Sens, Sfree}
use Rattle.patmos_model.specs.Checks.{is_other}
use Rattle.patmos_model.specs.Site.{Site}
use Rattle.sp_tree.specs.Uses.{Use, sends_to}
use Rattle.sp_shape.specs.Memory.{Memory, cell_of, word_at, with_word}
use Rattle.sp_shape.specs.Run.{Run, Sources, effected, late, once, run, begun}
use Rattle.sp_shape.specs.Trail.{Step, does, begins}
use Rattle.sp_emit.specs.Accesses.{IsStoredPlace, MayAsk}
use Rattle.sp_emit.specs.Starting.{StartsAt, StartsWell, AllStart}
use Rattle.sp_emit.proofs.Cells.{cell_in}
use Rattle.code_core.specs.Asked.{asked_of, asks_in, MaySendAt, MaySend, AllSend}
use Rattle.code_core.specs.Sound.{may_send}
use Rattle.code_core.proofs.Asked.{effected_asked}
use Rattle.task_core.proofs.Places.{no_local, at_stored}

-- ---- over what is asked for, where stores change the memory

abbrev stored_in : Effect → Memory → Memory
stored_in (effect.Store mem.S width address value) k = k
stored_in (effect.Store mem.L width address value) k =
    with_word (cell_of mem.L address) (merged width address (word_at (cell_of mem.L address) k) value) k
stored_in (effect.Store mem.C width address value) k =
    with_word (cell_of mem.C address) (merged width address (word_at (cell_of mem.C address) k) value) k
stored_in (effect.Store mem.M width address value) k =
    with_word (cell_of mem.M address) (merged width address (word_at (cell_of mem.M address) k) value) k
stored_in _ k = k

abbrev pub StartIn : List Effect → Memory → Type 0
StartIn [] k = Unit {0}
StartIn (e ∷ es) k = StartsWell e k × StartIn es (stored_in e k)

effected_memory : (from : Sources) (e : Effect) (m : Run) → (effected from e m).memory ≡ stored_in e m.memory
effected_memory from (effect.Store mem.S width address value) m = refl
effected_memory from (effect.Store _ width address value) m = refl
effected_memory from (effect.StackOp Sres count) m = refl
effected_memory from (effect.StackOp Sens count) m = refl
effected_memory from (effect.StackOp Sfree count) m = refl
effected_memory from _ m = refl

-- ---- a trail that is read at once

abbrev pub asks_once : Sources → List Step → Run → List Effect
asks_once from [] m = []
asks_once from (does b ∷ steps) m = asked_of (effect_of b m.regs) ++ asks_once from steps (once from b m)
asks_once from (begins ∷ steps) m = asks_once from steps (begun m)

pub asked_once : (from : Sources) (steps : List Step) (m : Run) → (run from steps m).asked ≡ m.asked
    ++ asks_once from steps m
asked_once from [] m = sym (append-nil m.asked)
asked_once from (does b ∷ steps) m =
    asked_once from steps (once from b m)
    ∙ ap (λ l. l ++ asks_once from steps (once from b m)) (effected_asked from (effect_of b m.regs)
    (record m { regs = after_bundle m.st m.ss b m.regs }))
    ∙ append_assoc m.asked (asked_of (effect_of b m.regs)) (asks_once from steps (once from b m))
asked_once from (begins ∷ steps) m = asked_once from steps (begun m)

first_in : (e : Effect) (k : Memory) (rest : List Effect) → StartsWell e k → StartIn rest (stored_in e k)
    → StartIn (asked_of e ++ rest) k
first_in effect.Nothing k rest one more = more
first_in (effect.Flow flow) k rest one more = more
first_in (effect.Load space width rd address) k rest one more = (tt, more)
first_in (effect.Store space width address value) k rest one more = (one, more)
first_in (effect.StackOp func count) k rest one more = (tt, more)

pub starts_in : (from : Sources) (steps : List Step) (m : Run) → AllStart from steps m
    → StartIn (asks_once from steps m) m.memory
starts_in from [] m h = tt
starts_in from (does b ∷ steps) m h =
    first_in (effect_of b m.regs) m.memory (asks_once from steps (once from b m)) h.0
    (subst (StartIn (asks_once from steps (once from b m))) (effected_memory from (effect_of b m.regs)
    (record m { regs = after_bundle m.st m.ss b m.regs })) (starts_in from steps (once from b m) h.1))
starts_in from (begins ∷ steps) m h = starts_in from steps (begun m) h

-- ---- a trail that is read late

sends_alike : (m : Memory) (core count : ℕ) → may_start (m.source core) (m.target core) count ≡ true
    → may_send m core count ≡ true
sends_alike m core count h =
    let p = and_parts (nat_le 1 count) (nat_le (m.source core + count) 512 && nat_le (m.target core + count) 512) h in
    let q = and_parts (nat_le (m.source core + count) 512) (nat_le (m.target core + count) 512) p.1 in
    and_from (nat_lt 0 count && nat_le (m.source core + count) 512) (nat_le (m.target core + count) 512)
    (and_from (nat_lt 0 count) (nat_le (m.source core + count) 512) (lt-ltb 0 count (leb-true 1 count p.0)) q.0) q.1

module _ (Named : Use → Type 0) (site : Site) (others : (core : ℕ) → Named (sends_to core) → (core < 16)
    × ((core < site.cores) × (core ≡ site.core → ⊥))) where
  cell_sends : (k : Memory) (value : ℕ) (r : Region) (word : ℕ) → MaySendAt site k value (Some (cell_in r word))
  cell_sends k value region.Scratch word = tt
  cell_sends k value _ word = tt

  port_sends : (k : Memory) (value core register : ℕ) → Named (sends_to core) → register < 3
      → StartsAt k value (Some (cell.Port core (4 * register)))
      → MaySendAt site k value (Some (cell.Port core (4 * register)))
  port_sends k value core register named within starts =
      let t = others core named in
      let other : is_other site core ≡ true = and_from (nat_lt core site.cores) (not (core == site.core))
      (lt-ltb core site.cores t.1.0) (ap not (ne_eqb core site.core t.1.1)) in (
        t.0,
        (
          other,
          (
            ne_eqb (4 * register) 12 (λ e. omega (arith, e, within)),
            λ is. sends_alike k core value (starts (eqb-true (4 * register) 8 is)),
          ),
        ),
      )

  store_sends : (k : Memory) (value address : ℕ) → IsStoredPlace Named mem.L address
      → StartsAt k value (cell_of mem.L address) → MaySendAt site k value (cell_of mem.L address)
  store_sends k value address =
      at_stored Named (λ c. StartsAt k value c → MaySendAt site k value c) mem.L address
      (λ core named. (others core named).0)
      (λ c named is within at well. cell_sends k value c.region c.word)
      (λ a named index is within at well. cell_sends k value a.region (a.first + index))
      (λ is well. absurd (no_local is))
      (λ core register named within is. port_sends k value core register named within)

  record First (e : Effect) (k : Memory) (rest : List Effect) : Type 0 where
    sends : MaySend site e k
    may : Each (MayAsk Named) rest
    more : StartIn rest (stored_in e k)

  first_sends : (e : Effect) (k : Memory) (rest : List Effect) → Each (MayAsk Named) (asked_of e ++ rest)
      → StartIn (asked_of e ++ rest) k → First e k rest
  first_sends effect.Nothing k rest may starts = record { sends = tt; may = may; more = starts }
  first_sends (effect.Flow flow) k rest may starts = record { sends = tt; may = may; more = starts }
  first_sends (effect.Store mem.L width address value) k rest may starts =
      record { sends = store_sends k value address may.0.1 starts.0; may = may.1; more = starts.1 }
  first_sends _ k rest may starts = record { sends = tt; may = may.1; more = starts.1 }

  pub all_send : (from : Sources) (steps : List Step) (m : Run) → Each (MayAsk Named) (asks_in from steps m)
      → StartIn (asks_in from steps m) m.memory → AllSend site from steps m
  all_send from [] m may starts = tt
  all_send from (does b ∷ steps) m may starts =
      let f : First (effect_of b m.regs) m.memory (asks_in from steps (late from b m)) =
      first_sends (effect_of b m.regs) m.memory (asks_in from steps (late from b m)) may starts in (
        f.sends,
        all_send from steps (late from b m) f.may
            (subst (StartIn (asks_in from steps (late from b m)))
            (sym (effected_memory from (effect_of b m.regs) (record m { regs = after_bundle m.st m.ss b m.regs })))
            f.more),
      )
  all_send from (begins ∷ steps) m may starts = all_send from steps (begun m) may starts

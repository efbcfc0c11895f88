-- A bundle that hears or stores a word of the board leaves no words to move. So a transaction in the
-- bundle's own cycle hears the first of the values.
use Rattle.std.proofs.Common.{◌≡◌, ℕ, ◌==◌, ◌&&◌, nat_lt, Bool, true, false, List, Option, None, Some, refl, sym, ap, ◌∙◌, subst, arith}
use Rattle.std.proofs.lemmas.Bool.Decides.{nat_tests}
use Rattle.shared_order.specs.Program.{Prog, done, get, set, and_then, fed, first, others}
use Rattle.local_store.specs.declared.map.Space.TheVariants.{Local}
use Rattle.local_store.specs.declared.map.Cell.{Cell}
use Rattle.local_store.specs.declared.map.Cell.TheVariants as cell
use Rattle.patmos_instr.specs.declared.memories.Mem.{Mem}
use Rattle.patmos_instr.specs.declared.memories.Mem.TheVariants as mem
use Rattle.patmos_instr.specs.declared.memories.Width.{Width}
use Rattle.patmos_instr.specs.declared.memories.StoreWidth.{StoreWidth}
use Rattle.patmos_instr.specs.declared.memories.StoreWidth.TheVariants as store
use Rattle.patmos_sem.specs.declared.effects.Effect.{Effect}
use Rattle.patmos_sem.specs.declared.effects.Effect.TheVariants as effect
use Rattle.patmos_sem.specs.Bundles.{effect_of}
use Rattle.patmos_model.specs.declared.pending_store.PendingStore.{PendingStore}
use Rattle.patmos_step.specs.declared.body.Body.{Body}
use Rattle.patmos_model.specs.declared.fetched.Fetched.{Fetched}
use Rattle.patmos_model.specs.declared.fetched.Fetched.TheVariants.{Outside, NoBundle, Found}
use Rattle.patmos_step.specs.declared.plan.Plan.TheVariants.{Nothing, Waits, Does}
use Rattle.patmos_model.specs.declared.trap.Trap.{Trap}
use Rattle.patmos_model.specs.State.{Plain, History, Core, with_plain, stopped, is_running, is_free}
use Rattle.patmos_model.specs.Cells.{Acted, now, cell_of, reading, writing, storing, with_value}
use Rattle.patmos_model.specs.Checks.{fault_of}
use Rattle.patmos_model.specs.Bundle.{ends, advanced, loaded, stored, answered, done_as, fetched_at}
use Rattle.patmos_model.specs.Transaction.{transaction}
use Rattle.patmos_model.specs.Cycle.{slot_step}
use Rattle.patmos_step.specs.Plan.{planned}
use Rattle.patmos_step.specs.Shown.{Shows, IsActed, core_of}
use Rattle.patmos_model.proofs.Leaves.{Leaves}

-- what the program leaves has no words to move
abbrev Rests : Prog Acted → Type 0
Rests p = Leaves (λ a. a.core.plain.transfer.words ≡ 0) p

-- so it is where the program hears or stores a word of the board
abbrev IsShort : Prog Acted → Type 0
IsShort (done a) = Unit {0}
IsShort (get word go_on) = (value : ℕ) → Rests (go_on value)
IsShort (set word value rest) = Rests rest

storing_short : (word : ℕ) (width : StoreWidth) (address value : ℕ) (c : Core) → c.plain.transfer.words ≡ 0
    → IsShort (storing word width address value c)
storing_short word store.Word address value c none = none
storing_short word store.Half address value c none = λ old. none
storing_short word store.Byte address value c none = λ old. none

writing_short : (place : Option Cell) (width : StoreWidth) (address value : ℕ) (c : Core) → c.plain.transfer.words ≡ 0
    → IsShort (writing place width address value c)
writing_short (Some (cell.Comm word)) width address value c none = storing_short _ width address value c none
writing_short (Some (cell.Shared word)) width address value c none = storing_short word width address value c none
writing_short _ width address value c none = tt

reading_short : (place : Option Cell) (x : Plain) (go_on : ℕ → Core) → ((word : ℕ) → (go_on word).plain.transfer.words
    ≡ 0) → IsShort (reading place x (λ word. now (go_on word)))
reading_short (Some (cell.Comm word)) x go_on none = none
reading_short (Some (cell.Shared word)) x go_on none = none
reading_short _ x go_on none = tt

loaded_short : (space : Mem) (width : Width) (rd address cycle : ℕ) (c : Core) → c.plain.transfer.words ≡ 0
    → IsShort (loaded space width rd address cycle c)
loaded_short mem.L width rd address cycle c none =
    reading_short (cell_of Local address) c.plain
    (λ word. with_plain (λ x. ends cycle (with_value rd width address word x)) c) (λ word. none)
loaded_short _ width rd address cycle c none = tt

stored_short : (space : Mem) (width : StoreWidth) (address value cycle : ℕ) (c : Core) → c.plain.transfer.words ≡ 0
    → IsShort (stored space width address value cycle c)
stored_short mem.L width address value cycle c none = writing_short (cell_of Local address) width address value _ none
stored_short _ width address value cycle c none = tt

answered_short : (asked : Effect) (cycle : ℕ) (c : Core) → c.plain.transfer.words ≡ 0 → IsShort (answered asked cycle c)
answered_short (effect.Load space width rd address) cycle c none = loaded_short space width rd address cycle c none
answered_short (effect.Store space width address value) cycle c none =
    stored_short space width address value cycle c none
answered_short _ cycle c none = tt

checked_short : (fault : Option Trap) (p : Prog Acted) (cycle : ℕ) (c : Core) → IsShort p →
    IsShort (elim fault [ None ↦ p | Some fault ↦ now (with_plain (stopped fault cycle) c) ])
checked_short None p cycle c short = short
checked_short (Some fault) p cycle c short = tt

done_short : (fetched : Fetched) (cycle : ℕ) (c : Core) → c.plain.transfer.words ≡ 0 → IsShort (done_as fetched cycle c)
done_short Outside cycle c none = tt
done_short NoBundle cycle c none = tt
done_short (Found b words) cycle c none =
    checked_short (fault_of c.plain (effect_of b c.plain.regs)) _ cycle c
    (answered_short (effect_of b c.plain.regs) cycle (with_plain (advanced words b) c) none)

none_due : (words : ℕ) (rest : Bool) → words ≡ 0 → nat_lt 0 words && rest ≡ false
none_due words rest none = ap (λ w. nat_lt 0 w && rest) none

-- with no words to move there is no transaction
pub none_moved : (cycle : ℕ) (a : Acted) → a.core.plain.transfer.words ≡ 0 → slot_step cycle a ≡ done a
none_moved cycle a none =
    ap (λ b. elim b [ true ↦ transaction cycle a.core | false ↦ done a ]) (none_due a.core.plain.transfer.words _ none)

rests_then : (s cycle : ℕ) (p : Prog Acted) (values all : List ℕ) → Rests p →
    (fed s (and_then p (slot_step cycle)) values).core ≡ (fed s (slot_step cycle (fed s p values).core) all).core
rests_then s cycle (done a) values all rests =
    ap (λ p. (fed s p values).core) (none_moved cycle a rests)
    ∙ sym (ap (λ p. (fed s p all).core) (none_moved cycle a rests))
rests_then s cycle (get word go_on) values all rests =
    rests_then s cycle (go_on (first values)) (others values) all (rests (first values))
rests_then s cycle (set word value p) values all rests = rests_then s cycle p values all rests

-- the transaction after such a program hears all the values
short_then : (s cycle : ℕ) (p : Prog Acted) (values : List ℕ) → IsShort p →
    (fed s (and_then p (slot_step cycle)) values).core ≡ (fed s (slot_step cycle (fed s p values).core) values).core
short_then s cycle (done a) values short = refl
short_then s cycle (get word go_on) values short =
    rests_then s cycle (go_on (first values)) (others values) values (short (first values))
short_then s cycle (set word value p) values short = rests_then s cycle p values values short

-- a bundle, and then words that are due
pub done_and_moved : (s cycle : ℕ) (fetched : Fetched) (c : Core) (values : List ℕ) (between last : Body)
    (pending_store result : Option PendingStore) →
    c.plain.transfer.words ≡ 0 → IsActed between pending_store (fed s (done_as fetched cycle c) values).core →
    ((h : History) → Shows between h
    → IsActed last result (fed s
    (slot_step cycle (record { core = core_of between h; pending_store = pending_store })) values).core) →
    IsActed last result (fed s (and_then (done_as fetched cycle c) (slot_step cycle)) values).core
done_and_moved s cycle fetched c values between last pending_store result none act moved =
    let whole : record { core = core_of between act.at.seen; pending_store = pending_store }
    ≡ (fed s (done_as fetched cycle c) values).core =
    λ i. record { core = sym act.at.same i; pending_store = sym act.leaves i } in
    subst (IsActed last result)
    (ap (λ a. (fed s (slot_step cycle a) values).core) whole ∙ sym (short_then s cycle (done_as fetched cycle c) values
    (done_short fetched cycle c none)))
    (moved act.at.seen act.at.shows)

pub free_unmoved : (words : ℕ) (rest : Bool) → (words == 0) && rest ≡ true → words ≡ 0
free_unmoved words rest h = grind (arith, nat_tests)

planned_unmoved : (fetched found : Fetched) (words : ℕ) (running free rest : Bool) → free ≡ (words == 0) && rest →
    Does fetched ≡ elim running [ false ↦ Nothing | true ↦ elim free [ true ↦ Does found | false ↦ Waits ] ] → words ≡ 0
planned_unmoved fetched found words false free rest is h = cc
planned_unmoved fetched found words true true rest is h = free_unmoved words rest (sym is)
planned_unmoved fetched found words true false rest is h = cc

-- a bundle is done only where no words are to be moved
pub does_unmoved : (fetched : Fetched) (cycle : ℕ) (x : Plain) → Does fetched ≡ planned cycle x → x.transfer.words ≡ 0
does_unmoved fetched cycle x h =
    planned_unmoved fetched (fetched_at x.site.image x.base x.offset) x.transfer.words (is_running x) (is_free cycle x)
    (x.free == cycle) refl h

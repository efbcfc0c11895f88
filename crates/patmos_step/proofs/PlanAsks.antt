-- What a plan asks for is what it asks for once it is carried out.
use Rattle.std.proofs.Common.{◌≡◌, ℕ, ◌+◌, ◌-◌, ◌<◌, Bool, true, false, ◌==◌, ◌&&◌, nat_lt, nat_le, Option, None, Some, IfSome, refl, sym, ap, ◌∙◌, subst, arith, not, ◌/◌, ◌%◌, List, [], ◌∷◌, ◌++◌, length, slice_index}
use Rattle.std.proofs.lemmas.Bool.Decides.{nat_tests}
use Rattle.slot_arbiter.specs.Slot.{is_slot_start}
use Rattle.shared_order.specs.Program.{Prog, done, get, set, and_then}
use Rattle.local_store.specs.declared.map.Space.TheVariants.{Local, Main}
use Rattle.local_store.specs.declared.map.Cell.{Cell}
use Rattle.local_store.specs.declared.map.Cell.TheVariants as cell
use Rattle.local_store.specs.Map.{IsInRange}
use Rattle.argo_ni.specs.declared.port.Port.{Port}
use Rattle.argo_ni.specs.Interface.{Interface, port_to}
use Rattle.argo_ni.specs.Start.{is_in_range}
use Rattle.argo_ni.specs.Packet.{comm_word}
use Rattle.data_cache.specs.Accesses.{cached_word}
use Rattle.data_cache.specs.Accesses as cache
use Rattle.data_cache.specs.Lines.{word_at}
use Rattle.stack_cache.specs.Stack.{reserved, spilled, missing, freed}
use Rattle.patmos_instr.specs.Bundles.{PlainBundle}
use Rattle.patmos_instr.specs.declared.functions.StackFunc.{StackFunc}
use Rattle.patmos_instr.specs.declared.functions.StackFunc.TheVariants.{Sres, Sens, Sfree}
use Rattle.patmos_instr.specs.declared.memories.Mem.{Mem}
use Rattle.patmos_instr.specs.declared.memories.Mem.TheVariants as mem
use Rattle.patmos_instr.specs.declared.memories.Width.{Width}
use Rattle.patmos_instr.specs.declared.memories.StoreWidth.{StoreWidth}
use Rattle.patmos_instr.specs.declared.memories.StoreWidth.TheVariants as store
use Rattle.patmos_sem.specs.declared.effects.Effect.{Effect}
use Rattle.patmos_sem.specs.declared.effects.Effect.TheVariants as effect
use Rattle.patmos_sem.specs.Bundles.{effect_of}
use Rattle.patmos_sem.specs.Effects.{store_bytes}
use Rattle.patmos_step.specs.declared.ask.Ask.{Ask}
use Rattle.patmos_step.specs.declared.ask.Ask.TheVariants as asks
use Rattle.patmos_model.specs.declared.fetched.Fetched.{Fetched}
use Rattle.patmos_model.specs.declared.fetched.Fetched.TheVariants.{Outside, NoBundle, Found}
use Rattle.patmos_step.specs.declared.plan.Plan.{Plan}
use Rattle.patmos_step.specs.declared.plan.Plan.TheVariants.{Nothing, Waits, Does}
use Rattle.patmos_model.specs.declared.transfer.Transfer.{Transfer}
use Rattle.patmos_model.specs.declared.transfer.Then.{Then}
use Rattle.patmos_model.specs.declared.transfer.Then.TheVariants as then_on
use Rattle.patmos_model.specs.declared.trap.Trap.{Trap}
use Rattle.patmos_model.specs.declared.trap.Trap.TheVariants as trap
use Rattle.patmos_step.specs.declared.body.Body.{Body}
use Rattle.patmos_model.specs.Site.{Site}
use Rattle.patmos_model.specs.State.{Plain, History, Core, is_running, is_free, with_plain, stopped}
use Rattle.patmos_model.specs.Transfers.{reads, writes}
use Rattle.patmos_model.specs.Cells.{Acted, cell_of, now, with_value, reading, reading_line, storing, writing, port_set}
use Rattle.patmos_model.specs.Checks.{fault_of, check, is_other, is_store_word, store_cell_fault}
use Rattle.patmos_model.specs.Bundle.{ends, moves, with_words, refilled, stack_set, stacked, loaded, stored, answered, performed, advanced, done_as, fetched_at}
use Rattle.patmos_model.specs.Transaction.{transaction, transaction_then, is_due, line_address, line_taken, moved, counted, with_store}
use Rattle.patmos_model.specs.Cycle.{own, slot_step, with_interface}
use Rattle.patmos_step.specs.Moving.{MovesIn}
use Rattle.patmos_step.specs.Plan.{planned, carried_out}
use Rattle.patmos_step.specs.Ready.{HasRegisters}
use Rattle.patmos_step.specs.Shown.{Shows, core_of, plain_of}
use Rattle.patmos_step.specs.Asks.{LeavesPending, Ends, Loads, Stores, AsksFor, FollowsAsk, AskFits, load_ask, line_ask, word_ask, store_ask, then_ask, slot_ask, cached_ask, loaded_ask, stored_ask, effect_ask, fetched_ask, plan_ask}
use Rattle.shared_order.proofs.Parts.{then-done}
use Rattle.patmos_model.proofs.CellRanges.{cell_in_range, line_fits, LineFits}
use Rattle.patmos_step.proofs.Moves.{own_moves}
use Rattle.patmos_step.proofs.Short.{none_moved}

-- a program that goes on where another ends
ends_then : (Is Left : Acted → Type 0) (p : Prog Acted) (next : Acted → Prog Acted)
    → ((a : Acted) → Is a → Ends Left (next a)) → Ends Is p → Ends Left (and_then p next)
ends_then Is Left (done a) next step h = step a h
ends_then Is Left (get word go_on) next step h = absurd h
ends_then Is Left (set word value rest) next step h = absurd h

-- what a program loads or stores first is not changed by what comes after its end
loads_then : (word : ℕ) (Here There : Prog Acted → Type 0) (p : Prog Acted) (next : Acted → Prog Acted)
    → ((q : Prog Acted) → Here q → There (and_then q next)) → Loads word Here p → Loads word There (and_then p next)
loads_then word Here There (done a) next step h = absurd h
loads_then word Here There (get asked go_on) next step h = (h.0, λ value. step (go_on value) (h.1 value))
loads_then word Here There (set asked value rest) next step h = absurd h

stores_then : (word value : ℕ) (Here There : Prog Acted → Type 0) (p : Prog Acted) (next : Acted → Prog Acted)
    → ((q : Prog Acted) → Here q → There (and_then q next)) → Stores word value Here p
    → Stores word value There (and_then p next)
stores_then word value Here There (done a) next step h = absurd h
stores_then word value Here There (get asked go_on) next step h = absurd h
stores_then word value Here There (set asked stored rest) next step h = (h.0, h.1, step rest h.2)

-- it asks for the same with more to do at its end, where that asks for nothing
asks_then : (Is Left : Acted → Type 0) (asked : Ask) (p : Prog Acted) (next : Acted → Prog Acted)
    → ((a : Acted) → Is a → Ends Left (next a)) → AsksFor Is asked p → AsksFor Left asked (and_then p next)
asks_then Is Left asks.Nothing p next step h = ends_then Is Left p next step h
asks_then Is Left (asks.Load word) p next step h =
    loads_then word (Ends Is) (Ends Left) p next (λ q. ends_then Is Left q next step) h
asks_then Is Left (asks.Line word) p next step h =
    loads_then word (Loads (word + 1) (Loads (word + 2) (Loads (word + 3) (Ends Is))))
    (Loads (word + 1) (Loads (word + 2) (Loads (word + 3) (Ends Left)))) p next
    (λ q. loads_then (word + 1) (Loads (word + 2) (Loads (word + 3) (Ends Is)))
    (Loads (word + 2) (Loads (word + 3) (Ends Left))) q next
    (λ r. loads_then (word + 2) (Loads (word + 3) (Ends Is)) (Loads (word + 3) (Ends Left)) r next
    (λ t. loads_then (word + 3) (Ends Is) (Ends Left) t next (λ u. ends_then Is Left u next step)))) h
asks_then Is Left (asks.Store word value) p next step h =
    stores_then word value (Ends Is) (Ends Left) p next (λ q. ends_then Is Left q next step) h
asks_then Is Left (asks.Change word) p next step h =
    loads_then word (Ends Is) (Ends Left) p next (λ q. ends_then Is Left q next step) h

-- what a program leaves is such, if it is more than that
asks_less : (Is Left : Acted → Type 0) (asked : Ask) (p : Prog Acted) → ((a : Acted) → Is a → Left a)
    → AsksFor Is asked p → AsksFor Left asked p
asks_less Is Left asked p step h =
    subst (AsksFor Left asked) (then-done p) (asks_then Is Left asked p (λ a. done a) step h)

-- the pending store after an ask, in a core that has so many words to move
abbrev Leaves : Ask → ℕ → Acted → Type 0
Leaves asked words a = LeavesPending asked a.pending_store × (a.core.plain.transfer.words ≡ words)

-- such a program follows the ask
pending_only : (asked : Ask) (words : ℕ) (p : Prog Acted) → AsksFor (Leaves asked words) asked p → FollowsAsk asked p
pending_only asked words p h =
    asks_less (Leaves asked words) (λ a. LeavesPending asked a.pending_store) asked p (λ a left. left.0) h

-- a cell is read
reading_asks : (words : ℕ) (place : Option Cell) (x : Plain) (go_on : ℕ → Prog Acted)
    → ((word : ℕ) → Ends (Leaves asks.Nothing words) (go_on word)) → AsksFor (Leaves (load_ask x.site place) words)
    (load_ask x.site place) (reading place x go_on)
reading_asks words None x go_on next = next 0
reading_asks words (Some (cell.Scratch word)) x go_on next = next (x.scratch word)
reading_asks words (Some (cell.Private word)) x go_on next = next (x.private word)
reading_asks words (Some (cell.Comm word)) x go_on next = (refl, next)
reading_asks words (Some (cell.Shared word)) x go_on next = (refl, next)
reading_asks words (Some (cell.Port core register)) x go_on next = next (port_to x.interface core).channel.left

-- a line is read
line_asks : (words : ℕ) (place : Option Cell) (x : Plain) (go_on : List ℕ → Prog Acted)
    → ((line : List ℕ) → Ends (Leaves asks.Nothing words) (go_on line))
    → AsksFor (Leaves (line_ask place) words) (line_ask place) (reading_line place x go_on)
line_asks words (Some (cell.Shared word)) x go_on next =
    (refl, λ a. (refl, λ b. (omega arith, λ c. (omega arith, λ d. next _))))
line_asks words _ x go_on next = next _

-- a register of the interface is stored in: nothing is to be moved for it
port_moves : (target register value : ℕ) (c : Core) → (port_set target register value c).plain.transfer.words
    ≡ c.plain.transfer.words
port_moves target register value c = grind (arith, nat_tests)

-- a word of the board is stored in
storing_asks : (word : ℕ) (width : StoreWidth) (address value : ℕ) (c : Core)
    → AsksFor (Leaves (word_ask word width value) c.plain.transfer.words) (word_ask word width value)
    (storing word width address value c)
storing_asks word store.Word address value c = (refl, refl, (refl, refl))
storing_asks word store.Half address value c = (refl, λ old. (refl, refl))
storing_asks word store.Byte address value c = (refl, λ old. (refl, refl))

-- a cell is stored in
writing_asks : (place : Option Cell) (width : StoreWidth) (address value : ℕ) (c : Core)
    → AsksFor (Leaves (store_ask c.plain.site place width value) c.plain.transfer.words) (store_ask c.plain.site place
    width value) (writing place width address value c)
writing_asks (Some (cell.Comm word)) width address value c =
    storing_asks (comm_word c.plain.site.core word) width address value c
writing_asks (Some (cell.Shared word)) width address value c = storing_asks word width address value c
writing_asks (Some (cell.Port target register)) width address value c = (refl, port_moves target register value c)
writing_asks _ width address value c = (refl, refl)

-- words that are moved
then_asks : (then : Then) (cycle : ℕ) (c : Core)
    → FollowsAsk (then_ask c.plain.site then) (transaction_then then cycle c)
then_asks then_on.Nothing cycle c = refl
then_asks (then_on.Load rd width address) cycle c =
    let go_on : ℕ → Prog Acted = λ word. now (with_plain (with_value rd width address word) (counted cycle c)) in
    pending_only (load_ask c.plain.site (cell_of Main address)) (c.plain.transfer.words - 4)
    (reading (cell_of Main address) c.plain go_on)
    (reading_asks (c.plain.transfer.words - 4) (cell_of Main address) c.plain go_on (λ word. (refl, refl)))
then_asks (then_on.Line rd width address) cycle c =
    let go_on : List ℕ → Prog Acted = λ words. now (line_taken rd width address words (counted cycle c)) in
    pending_only (line_ask (cell_of Main (line_address address))) (c.plain.transfer.words - 4)
    (reading_line (cell_of Main (line_address address)) c.plain go_on)
    (line_asks (c.plain.transfer.words - 4) (cell_of Main (line_address address)) c.plain go_on (λ line. (refl, refl)))
then_asks (then_on.Store cached width address value) cycle c =
    let left : Core = record {
      plain = moved cycle c.plain;
      seen = with_store cached width address value (counted cycle c).seen;
    } in
    pending_only (store_ask c.plain.site (cell_of Main address) width value) (c.plain.transfer.words - 4)
    (writing (cell_of Main address) width address value left)
    (writing_asks (cell_of Main address) width address value left)

-- what a core has to move is moved where it is due
slot_asks : (due : Bool) (cycle : ℕ) (c : Core) → is_due cycle c.plain ≡ due
    → FollowsAsk (elim due [ true ↦ then_ask c.plain.site c.plain.transfer.then | false ↦ asks.Nothing ])
    (slot_step cycle (record { core = c; pending_store = None }))
unfolding transaction
slot_asks true cycle c h =
    subst (λ due. FollowsAsk (then_ask c.plain.site c.plain.transfer.then)
    (elim due [
      | true ↦ transaction_then c.plain.transfer.then cycle c
      | false ↦ done
          (record { core = c; pending_store = None })
    ])) (sym h)
    (then_asks c.plain.transfer.then cycle c)
slot_asks false cycle c h =
    subst (λ due. FollowsAsk asks.Nothing (elim due [
      | true ↦ transaction_then c.plain.transfer.then cycle c
      | false ↦
          done (record { core = c; pending_store = None })
    ])) (sym h)
    refl

-- so it is where the core's own act moves it, whatever its interface is
pub moved_follows : (b : Body) (cycle : ℕ) (asked : Ask) (h : History) (i : Interface) → MovesIn cycle (plain_of b)
    → asked ≡ then_ask (plain_of b).site b.transfer.then
    → FollowsAsk asked (own cycle (with_interface (core_of b h) i))
unfolding transaction
moved_follows b cycle asked h i moves same =
    let c : Core = with_interface (core_of b h) i in
    let does : own cycle c ≡ transaction_then b.transfer.then cycle c =
    own_moves cycle c (record { status = moves.status; due = moves.due }) in
    subst (λ a. FollowsAsk a (own cycle c)) (sym same) (subst (FollowsAsk (then_ask c.plain.site b.transfer.then))
    (sym does) (then_asks b.transfer.then cycle c))

-- a core that is free has nothing to move
free_words : (cycle : ℕ) (x : Plain) → is_free cycle x ≡ true → x.transfer.words ≡ 0
free_words cycle x h = grind (arith, nat_tests)

-- and can act in the cycle
free_now : (cycle : ℕ) (x : Plain) → is_free cycle x ≡ true → nat_le x.free cycle ≡ true
free_now cycle x h = grind (arith, nat_tests)

-- so it leaves the pending store of its own act
ends_at_rest : (asked : Ask) (cycle : ℕ) (a : Acted) → Leaves asked 0 a
    → Ends (λ left. LeavesPending asked left.pending_store) (slot_step cycle a)
ends_at_rest asked cycle a h =
    subst (Ends (λ left. LeavesPending asked left.pending_store)) (sym (none_moved cycle a h.1)) h.0

-- a core that has nothing to move once it has acted
quiet : (cycle : ℕ) (x : Plain) (seen : History) → x.transfer.words ≡ 0 → FollowsAsk asks.Nothing (slot_step cycle
    (record { core = record { plain = x; seen = seen }; pending_store = None }))
quiet cycle x seen h = ends_at_rest asks.Nothing cycle (record {
  core = record { plain = x; seen = seen };
  pending_store = None;
}) (refl, h)

-- words of a method, a spill or a fill ask for nothing, in a slot or not
nothing_then : (due : Bool) (site : Site) (then : Then) → then ≡ then_on.Nothing
    → elim due as (λ _. Ask) [ true ↦ then_ask site then | false ↦ asks.Nothing ] ≡ asks.Nothing
nothing_then true site then h = ap (then_ask site) h
nothing_then false site then h = refl

-- words that are moved for a stack instruction
idle_asks : (cycle : ℕ) (c : Core) → c.plain.transfer.then ≡ then_on.Nothing → FollowsAsk asks.Nothing (slot_step cycle
    (record { core = c; pending_store = None }))
idle_asks cycle c h =
    subst (λ asked. FollowsAsk asked (slot_step cycle (record { core = c; pending_store = None })))
    (nothing_then (is_due cycle c.plain) c.plain.site c.plain.transfer.then h)
    (slot_asks (is_due cycle c.plain) cycle c refl)

-- a bundle that leaves such words
moves_asks : (t : Transfer) (cycle : ℕ) (x : Plain) (seen : History) → x.transfer.words ≡ 0 → t.then ≡ then_on.Nothing
    → FollowsAsk asks.Nothing (slot_step cycle (record {
      core = record { plain = moves t cycle x; seen = seen };
      pending_store = None;
    }))
moves_asks t cycle x seen h nothing =
    elim (t.words == 0) as (λ none. FollowsAsk asks.Nothing (slot_step cycle (record {
      core = record { plain = elim none [ true ↦ ends cycle x | false ↦ record x { transfer = t } ]; seen = seen };
      pending_store = None;
    }))) [
      | true ↦ quiet cycle (ends cycle x) seen h
      | false ↦ idle_asks cycle (record { plain = record x { transfer = t }; seen = seen }) nothing
    ]

-- a stack instruction
stacked_asks : (func : StackFunc) (count cycle : ℕ) (x : Plain) (seen : History) → x.transfer.words ≡ 0
    → FollowsAsk asks.Nothing (slot_step cycle
    (record { core = record { plain = stacked func count cycle x; seen = seen }; pending_store = None }))
stacked_asks Sres count cycle x seen h =
    moves_asks (writes (length (spilled count x.stack)) then_on.Nothing) cycle (record x {
      stack = reserved count x.stack;
      private = with_words (reserved count x.stack).ss (spilled count x.stack) x.private;
    }) seen h refl
stacked_asks Sens count cycle x seen h =
    moves_asks (reads (missing count x.stack) then_on.Nothing) cycle
    (record x { stack = refilled count x.private x.stack }) seen h refl
stacked_asks Sfree count cycle x seen h = quiet cycle (ends cycle (record x { stack = freed count x.stack })) seen h

-- of three tests that are passed together, the last decides where the others hold
both_hold : (some here starts : Bool) → some ≡ true → here ≡ true → (some && (here && starts)) ≡ starts
both_hold some here starts h k = ap (λ b. b && (here && starts)) h ∙ ap (λ b. b && starts) k

-- words that a bundle leaves to be moved
later_asks : (t : Transfer) (cycle : ℕ) (c : Core) → is_free cycle c.plain ≡ true → nat_lt 0 t.words ≡ true
    → FollowsAsk (slot_ask cycle c.plain.site t.then) (slot_step cycle
    (record { core = record { plain = record c.plain { transfer = t }; seen = c.seen }; pending_store = None }))
later_asks t cycle c free some =
    let starts : Bool = is_slot_start c.plain.site.table c.plain.site.slot c.plain.site.core cycle in
    slot_asks starts cycle (record { plain = record c.plain { transfer = t }; seen = c.seen })
    (both_hold (nat_lt 0 t.words) (nat_le c.plain.free cycle) starts some (free_now cycle c.plain free))

-- a cached load, by the word that the cache has
cached_asks : (present : Option ℕ) (rd : ℕ) (width : Width) (address cycle : ℕ) (c : Core)
    → is_free cycle c.plain ≡ true
    → FollowsAsk (cached_ask cycle c.plain.site present rd width address) (slot_step cycle (record {
      core = elim present [
        | None ↦ with_plain (moves (reads 4 (then_on.Line rd width address)) cycle) c
        | Some word ↦ record {
          plain = ends cycle (with_value rd width address word c.plain);
          seen = record c.seen { cached = c.seen.cached ++ cache.Load address None ∷ [] };
        }
      ];
      pending_store = None;
    }))
cached_asks None rd width address cycle c free = later_asks (reads 4 (then_on.Line rd width address)) cycle c free refl
cached_asks (Some word) rd width address cycle c free =
    quiet cycle (ends cycle (with_value rd width address word c.plain))
    (record c.seen { cached = c.seen.cached ++ cache.Load address None ∷ [] }) (free_words cycle c.plain free)

-- a load
loaded_asks : (space : Mem) (width : Width) (rd address cycle : ℕ) (c : Core) (cached : ℕ → Option ℕ)
    → is_free cycle c.plain ≡ true
    → ((at : ℕ) → cached at ≡ cached_word c.seen.cached at)
    → FollowsAsk (loaded_ask cycle c.plain.site cached space width rd address) (and_then
    (loaded space width rd address cycle c) (slot_step cycle))
loaded_asks mem.S width rd address cycle c cached free same =
    quiet cycle (ends cycle (with_value rd width address (slice_index c.plain.stack.words (address / 4)) c.plain))
    c.seen (free_words cycle c.plain free)
loaded_asks mem.L width rd address cycle c cached free same =
    let asked : Ask = load_ask c.plain.site (cell_of Local address) in
    asks_then (Leaves asked 0) (λ a. LeavesPending asked a.pending_store) asked (loaded mem.L width rd address cycle c)
    (slot_step cycle) (ends_at_rest asked cycle)
    (reading_asks 0 (cell_of Local address) c.plain
    (λ word. now (with_plain (λ x. ends cycle (with_value rd width address word x)) c))
    (λ word. (refl, free_words cycle c.plain free)))
loaded_asks mem.C width rd address cycle c cached free same =
    subst (λ present. FollowsAsk (cached_ask cycle c.plain.site present rd width address)
    (and_then (loaded mem.C width rd address cycle c) (slot_step cycle))) (sym (same address))
    (cached_asks (cached_word c.seen.cached address) rd width address cycle c free)
loaded_asks mem.M width rd address cycle c cached free same =
    later_asks (reads 1 (then_on.Load rd width address)) cycle c free refl

-- a store
stored_asks : (space : Mem) (width : StoreWidth) (address value cycle : ℕ) (c : Core) → is_free cycle c.plain ≡ true
    → FollowsAsk (stored_ask cycle c.plain.site space width address value) (and_then
    (stored space width address value cycle c) (slot_step cycle))
stored_asks mem.S width address value cycle c free =
    quiet cycle (ends cycle (record c.plain { stack = stack_set width address value c.plain.stack })) c.seen
    (free_words cycle c.plain free)
stored_asks mem.L width address value cycle c free =
    let asked : Ask = store_ask c.plain.site (cell_of Local address) width value in
    asks_then (Leaves asked c.plain.transfer.words) (λ a. LeavesPending asked a.pending_store) asked
    (stored mem.L width address value cycle c) (slot_step cycle)
    (λ a left. ends_at_rest asked cycle a (left.0, left.1 ∙ free_words cycle c.plain free))
    (writing_asks (cell_of Local address) width address value (with_plain (ends cycle) c))
stored_asks mem.C width address value cycle c free =
    later_asks (writes 1 (then_on.Store true width address value)) cycle c free refl
stored_asks mem.M width address value cycle c free =
    later_asks (writes 1 (then_on.Store false width address value)) cycle c free refl

-- what comes of a bundle that passes its checks
answered_asks : (asked : Effect) (cycle : ℕ) (c : Core) (cached : ℕ → Option ℕ) → is_free cycle c.plain ≡ true
    → ((at : ℕ) → cached at ≡ cached_word c.seen.cached at)
    → FollowsAsk (effect_ask cycle c.plain.site cached asked) (and_then (answered asked cycle c) (slot_step cycle))
answered_asks effect.Nothing cycle c cached free same =
    quiet cycle (ends cycle c.plain) c.seen (free_words cycle c.plain free)
answered_asks (effect.Flow kind) cycle c cached free same =
    quiet cycle (ends cycle c.plain) c.seen (free_words cycle c.plain free)
answered_asks (effect.Load space width rd address) cycle c cached free same =
    loaded_asks space width rd address cycle c cached free same
answered_asks (effect.Store space width address value) cycle c cached free same =
    stored_asks space width address value cycle c free
answered_asks (effect.StackOp func count) cycle c cached free same =
    stacked_asks func count cycle c.plain c.seen (free_words cycle c.plain free)

-- the checks see only the registers of the interface
range_same : (p q : Port) (value : ℕ) → p.source ≡ q.source → p.target ≡ q.target → is_in_range p value
    ≡ is_in_range q value
range_same p q value source target =
    ap (λ at. nat_lt 0 value && nat_le (at + value) 512 && nat_le (p.target + value) 512) source
    ∙ ap (λ at. nat_lt 0 value && nat_le (q.source + value) 512 && nat_le (at + value) 512) target

-- so the checks on a store's cell, and all checks, are the same at another standing of the channels
cell_fault_same : (x : Plain) (i : Interface) (width : StoreWidth) (value : ℕ) (place : Option Cell)
    → HasRegisters i x.interface
    → store_cell_fault (record x { interface = i }) width value place ≡ store_cell_fault x width value place
cell_fault_same x i width value (Some (cell.Port target register)) same =
    ap (λ fits. check
    (is_other x.site target
    && (is_store_word width && (not (register == 12) && elim (register == 8) [ true ↦ fits | false ↦ true ])))
    trap.Interface None)
    (range_same (port_to i target) (port_to x.interface target) value (same.source target) (same.target target))
cell_fault_same x i width value _ same = refl

fault_same : (x : Plain) (i : Interface) (asked : Effect) → HasRegisters i x.interface
    → fault_of (record x { interface = i }) asked ≡ fault_of x asked
unfolding fault_of
fault_same x i (effect.Store mem.L width address value) same =
    ap (check (address % store_bytes width == 0) trap.Align) (cell_fault_same x i width value
    (cell_of Local address) same)
fault_same x i (effect.Store mem.C width address value) same =
    ap (check (address % store_bytes width == 0) trap.Align) (cell_fault_same x i width value
    (cell_of Main address) same)
fault_same x i (effect.Store mem.M width address value) same =
    ap (check (address % store_bytes width == 0) trap.Align) (cell_fault_same x i width value
    (cell_of Main address) same)
fault_same x i _ same = refl

-- a bundle, by the check that fails
performed_asks : (fault : Option Trap) (asked : Effect) (words : ℕ) (b : PlainBundle) (cycle : ℕ) (c : Core)
    (cached : ℕ → Option ℕ) → is_free cycle c.plain ≡ true
    → ((at : ℕ) → cached at ≡ cached_word c.seen.cached at)
    → FollowsAsk (elim fault [ None ↦ effect_ask cycle c.plain.site cached asked | Some trap ↦ asks.Nothing ])
    (and_then (elim fault [
      | None ↦ answered asked cycle (with_plain (advanced words b) c)
      | Some trap ↦ now
          (with_plain (stopped trap cycle) c)
    ]) (slot_step cycle))
performed_asks None asked words b cycle c cached free same =
    answered_asks asked cycle (with_plain (advanced words b) c) cached free same
performed_asks (Some trap) asked words b cycle c cached free same =
    quiet cycle (stopped trap cycle c.plain) c.seen (free_words cycle c.plain free)

-- what was fetched
fetched_asks : (fetched : Fetched) (cycle : ℕ) (c : Core) (i : Interface) (cached : ℕ → Option ℕ)
    → is_free cycle c.plain ≡ true → HasRegisters i c.plain.interface
    → ((at : ℕ) → cached at ≡ cached_word c.seen.cached at)
    → FollowsAsk (fetched_ask fetched cycle c.plain cached) (and_then (done_as fetched cycle (with_interface c i))
    (slot_step cycle))
fetched_asks Outside cycle c i cached free registers same =
    quiet cycle (stopped trap.Flow cycle (with_interface c i).plain) c.seen (free_words cycle c.plain free)
fetched_asks NoBundle cycle c i cached free registers same =
    quiet cycle (stopped trap.Decode cycle (with_interface c i).plain) c.seen (free_words cycle c.plain free)
fetched_asks (Found b words) cycle c i cached free registers same =
    let asked : Effect = effect_of b c.plain.regs in
    subst (λ fault. FollowsAsk (elim fault [
      | None ↦ effect_ask cycle c.plain.site cached asked
      | Some trap ↦
          asks.Nothing
    ]) (and_then (performed words b cycle (with_interface c i)) (slot_step cycle)))
    (fault_same c.plain i asked registers)
    (performed_asks (fault_of (with_interface c i).plain asked) asked words b cycle (with_interface c i)
    cached free same)

-- a core that does something is free
is_free_then : (running free : Bool) (fetched found : Fetched) → Does fetched
    ≡ elim running as (λ _. Plan) [
      | false ↦ Nothing
      | true ↦ elim free as (λ _. Plan) [
        | true ↦ Does found
        | false ↦
            Waits
      ]
    ] → free ≡ true
is_free_then true true fetched found h = refl
is_free_then true false fetched found h = cc
is_free_then false free fetched found h = cc

-- a plan
plan_asks : (plan : Plan) (cycle : ℕ) (c : Core) (i : Interface) (cached : ℕ → Option ℕ) → plan ≡ planned cycle c.plain
    → HasRegisters i c.plain.interface
    → ((at : ℕ) → cached at ≡ cached_word c.seen.cached at)
    → FollowsAsk (plan_ask plan cycle c.plain cached) (carried_out plan cycle (with_interface c i))
plan_asks Nothing cycle c i cached h registers same = refl
plan_asks Waits cycle c i cached h registers same = slot_asks (is_due cycle c.plain) cycle (with_interface c i) refl
plan_asks (Does fetched) cycle c i cached h registers same =
    fetched_asks fetched cycle c i cached (is_free_then (is_running c.plain) (is_free cycle c.plain) fetched
    (fetched_at c.plain.site.image c.plain.base c.plain.offset) h) registers same

-- what the plan of a core asks for is followed, whatever history its fields stand for
pub plan_follows : (b : Body) (plan : Plan) (cycle : ℕ) (asked : Ask) (h : History) (i : Interface) → plan
    ≡ planned cycle (plain_of b) → asked ≡ plan_ask plan cycle (plain_of b) (word_at b.cache)
    → Shows b h → HasRegisters i b.ni.interface → FollowsAsk asked (carried_out plan cycle
    (with_interface (core_of b h) i))
plan_follows b plan cycle asked h i is same shows registers =
    subst (λ a. FollowsAsk a (carried_out plan cycle (with_interface (core_of b h) i))) (sym same)
    (plan_asks plan cycle (core_of b h) i (word_at b.cache) is registers shows.cached)

-- the words that are asked for are on the board
word_fits : (words word : ℕ) (width : StoreWidth) (value : ℕ) → word < words → AskFits words (word_ask word width value)
word_fits words word store.Word value h = h
word_fits words word store.Half value h = h
word_fits words word store.Byte value h = h

-- a load, a line and a store
load_fits : (site : Site) (place : Option Cell) → site.core < site.cores → IfSome place IsInRange
    → AskFits (comm_word site.cores 0) (load_ask site place)
load_fits site (Some (cell.Comm word)) among here = omega (arith, among, here)
load_fits site (Some (cell.Shared word)) among here = omega (arith, here)
load_fits site _ among here = tt

line_ask_fits : (cores : ℕ) (place : Option Cell) → IfSome place LineFits → AskFits (comm_word cores 0) (line_ask place)
line_ask_fits cores (Some (cell.Shared word)) here = omega (arith, here)
line_ask_fits cores _ here = tt

store_fits : (site : Site) (place : Option Cell) (width : StoreWidth) (value : ℕ) → site.core < site.cores
    → IfSome place IsInRange → AskFits (comm_word site.cores 0) (store_ask site place width value)
store_fits site (Some (cell.Comm word)) width value among here =
    word_fits (comm_word site.cores 0) (comm_word site.core word) width value (omega (arith, among, here))
store_fits site (Some (cell.Shared word)) width value among here =
    word_fits (comm_word site.cores 0) word width value (omega (arith, here))
store_fits site _ width value among here = tt

-- words that are moved
then_fits : (site : Site) (then : Then) → site.core < site.cores → AskFits (comm_word site.cores 0) (then_ask site then)
then_fits site then_on.Nothing among = tt
then_fits site (then_on.Load rd width address) among =
    load_fits site (cell_of Main address) among (cell_in_range Main address)
then_fits site (then_on.Line rd width address) among =
    line_ask_fits site.cores (cell_of Main (line_address address)) (line_fits address)
then_fits site (then_on.Store cached width address value) among =
    store_fits site (cell_of Main address) width value among (cell_in_range Main address)

-- whether or not a slot starts
either_fits : (due : Bool) (site : Site) (then : Then) → site.core < site.cores
    → AskFits (comm_word site.cores 0) (elim due [ true ↦ then_ask site then | false ↦ asks.Nothing ])
either_fits true site then among = then_fits site then among
either_fits false site then among = tt

slot_fits : (cycle : ℕ) (site : Site) (then : Then) → site.core < site.cores
    → AskFits (comm_word site.cores 0) (slot_ask cycle site then)
slot_fits cycle site then among = either_fits (is_slot_start site.table site.slot site.core cycle) site then among

cached_fits : (cycle : ℕ) (site : Site) (present : Option ℕ) (rd : ℕ) (width : Width) (address : ℕ)
    → site.core < site.cores → AskFits (comm_word site.cores 0) (cached_ask cycle site present rd width address)
cached_fits cycle site None rd width address among = slot_fits cycle site (then_on.Line rd width address) among
cached_fits cycle site (Some word) rd width address among = tt

-- what comes of a bundle
effect_fits : (cycle : ℕ) (site : Site) (cached : ℕ → Option ℕ) (asked : Effect) → site.core < site.cores
    → AskFits (comm_word site.cores 0) (effect_ask cycle site cached asked)
effect_fits cycle site cached (effect.Load mem.L width rd address) among =
    load_fits site (cell_of Local address) among (cell_in_range Local address)
effect_fits cycle site cached (effect.Load mem.C width rd address) among =
    cached_fits cycle site (cached address) rd width address among
effect_fits cycle site cached (effect.Load mem.M width rd address) among =
    slot_fits cycle site (then_on.Load rd width address) among
effect_fits cycle site cached (effect.Store mem.L width address value) among =
    store_fits site (cell_of Local address) width value among (cell_in_range Local address)
effect_fits cycle site cached (effect.Store mem.C width address value) among =
    slot_fits cycle site (then_on.Store true width address value) among
effect_fits cycle site cached (effect.Store mem.M width address value) among =
    slot_fits cycle site (then_on.Store false width address value) among
effect_fits cycle site cached _ among = tt

checked_fits : (fault : Option Trap) (cycle : ℕ) (site : Site) (cached : ℕ → Option ℕ) (asked : Effect)
    → site.core < site.cores
    → AskFits (comm_word site.cores 0) (elim fault [
      | None ↦ effect_ask cycle site cached asked
      | Some trap ↦
          asks.Nothing
    ])
checked_fits None cycle site cached asked among = effect_fits cycle site cached asked among
checked_fits (Some trap) cycle site cached asked among = tt

-- all that a plan asks for
plan_ask_fits : (plan : Plan) (cycle : ℕ) (x : Plain) (cached : ℕ → Option ℕ) → x.site.core < x.site.cores
    → AskFits (comm_word x.site.cores 0) (plan_ask plan cycle x cached)
plan_ask_fits Waits cycle x cached among = either_fits (is_due cycle x) x.site x.transfer.then among
plan_ask_fits (Does (Found b words)) cycle x cached among =
    checked_fits (fault_of x (effect_of b x.regs)) cycle x.site cached (effect_of b x.regs) among
plan_ask_fits _ cycle x cached among = tt

-- what the words of a core ask for is on the board
pub moved_within : (b : Body) (asked : Ask) → asked ≡ then_ask (plain_of b).site b.transfer.then → b.place.core
    < b.place.cores → AskFits (comm_word b.place.cores 0) asked
moved_within b asked same among =
    subst (AskFits (comm_word b.place.cores 0)) (sym same) (then_fits (plain_of b).site b.transfer.then among)

-- what the plan of a core asks for is on the board
pub plan_within : (b : Body) (plan : Plan) (cycle : ℕ) (asked : Ask) → asked
    ≡ plan_ask plan cycle (plain_of b) (word_at b.cache) → b.place.core < b.place.cores
    → AskFits (comm_word b.place.cores 0) asked
plan_within b plan cycle asked same among = subst (AskFits (comm_word b.place.cores 0)) (sym same)
    (plan_ask_fits plan cycle (plain_of b) (word_at b.cache) among)

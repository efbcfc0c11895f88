-- A core keeps its ranges.
use Rattle.std.proofs.Common.{◌≡◌, ℕ, zero, suc, ◌+◌, ◌-◌, ◌/◌, ◌<◌, ◌≤◌, Bool, true, false, ◌==◌, List, [], ◌∷◌, Option, None, Some, take, nat_lt, nat_le, slice_index, sym, ◌∙◌, subst, refl, arith, inl, inr, true≢false}
use Rattle.std.specs.List.{AllByRecursion as Each, list_any}
use Rattle.std.proofs.lemmas.Bool.{cases_eq, ne_eqb, and_parts}
use Rattle.method_cache.specs.declared.cache.Method.{Method}
use Rattle.method_cache.specs.Residents.{is_among, resident}
use Rattle.std.proofs.lemmas.Bool.Decides.{nat_tests}
use Rattle.shared_order.specs.Program.{Prog, done, get, set}
use Rattle.shared_order.specs.Fit.{IsFit}
use Rattle.data_cache.specs.Accesses as cache
use Rattle.stack_cache.specs.Stack.{Stack, reserved, spilled, missing}
use Rattle.argo_ni.specs.Packet.{comm_word}
use Rattle.argo_ni.specs.Interface.{Interface, port_to}
use Rattle.argo_ni.specs.Start.{with_source, with_target, answer_to, started}
use Rattle.argo_ni.specs.Range as ni
use Rattle.argo_ni.specs.Turn as ni_turn
use Rattle.patmos_instr.specs.Bundles.{PlainBundle}
use Rattle.patmos_instr.specs.declared.functions.StackFunc.{StackFunc}
use Rattle.patmos_instr.specs.declared.functions.StackFunc.TheVariants.{Sres, Sens, Sfree}
use Rattle.patmos_instr.specs.declared.memories.StoreWidth.{StoreWidth}
use Rattle.patmos_code.specs.Images.{Parts}
use Rattle.patmos_code.specs.Decoding.{bundle_at}
use Rattle.patmos_sem.specs.Narrow.{picked, merged}
use Rattle.patmos_sem.specs.Registers.{Registers}
use Rattle.patmos_model.specs.declared.fetched.Fetched.{Fetched}
use Rattle.patmos_model.specs.declared.fetched.Fetched.TheVariants.{Outside, NoBundle, Found}
use Rattle.patmos_model.specs.declared.flow.Flow.{Flow}
use Rattle.patmos_model.specs.declared.flow.Goal.{Goal}
use Rattle.patmos_model.specs.declared.flow.Goal.TheVariants.{Within, Call, Fill, Return}
use Rattle.patmos_model.specs.declared.transfer.Transfer.{Transfer}
use Rattle.patmos_model.specs.declared.transfer.Then.{Then}
use Rattle.patmos_model.specs.declared.transfer.Then.TheVariants as then_on
use Rattle.patmos_model.specs.Site.{Site, size_at, word_at, has_place, bundle_words, is_inside, method_at}
use Rattle.patmos_model.specs.declared.state.Status.{Status}
use Rattle.patmos_model.specs.declared.state.Status.TheVariants.{Idle, Running}
use Rattle.shared_order.specs.Words.{zeros}
use Rattle.patmos_model.specs.Begin.{overlaid, first_private, entry, fresh, begun, idle}
use Rattle.patmos_model.specs.State.{Plain, Core, with_plain}
use Rattle.patmos_model.specs.Transfers.{nothing, reads}
use Rattle.patmos_model.specs.Flows.{fetch_of, entered, with_return, is_placed, gone, flowed}
use Rattle.patmos_model.specs.Cells.{Acted}
use Rattle.patmos_model.specs.Bundle.{advanced, stack_set, taken_for, fetched_at, bundle, words_from}
use Rattle.patmos_model.specs.Transaction.{transaction}
use Rattle.patmos_model.specs.Apart.{injected}
use Rattle.patmos_model.specs.Cycle.{with_interface, own, settled, delivered, acted, turn}
use Rattle.patmos_model.specs.Range.{IsWord, HasWords, HasCode, ConstantsFit, AccessFits, ThenFits, SiteFits, PlainFits, InRange, ActedFits}
use Rattle.shared_order.proofs.Fits.{fit-then}
use Rattle.shared_order.proofs.Lists.{each-append, each_set, each_take}
use Rattle.argo_ni.proofs.Ranges.{fit_turn, new_in_range, source_in_range, target_in_range, started_in_range}
use Rattle.patmos_model.proofs.Leaves.{fit_leaves, IsSamePlace, same_delivery, same_injection}
use Rattle.patmos_model.proofs.CellRanges.{on_board, shared_on_board, interface_fits, scratch_fits, started_place}
use Rattle.patmos_model.proofs.Acts.{Keeps, ThenOf, AccessOf, Gives, stack_done, with_start, Steps, Turns, flow_kept, Left, acts_transaction, acts_settled, acts_bundle, acts_own}
use Rattle.patmos_model.proofs.RegisterWords.{at_start_words, after_bundle_words, stored_word, arrived_words, with_return_words}
use Rattle.patmos_model.proofs.Constants.{constants_fit}
use Rattle.patmos_model.proofs.NarrowWords.{picked_word, merged_word}
use Rattle.patmos_model.proofs.HeldWords.{cached_words, each_index, reserved_words, spilled_words, freed_words, words_from_fit, with_words_fit, overlaid_words, put_fits}

-- what has changed of a plain part is in range, and all else is as it was
refit : (words : ℕ) (x : Plain) {regs : Registers} {stack : Stack} {private : ℕ → ℕ} {base offset : ℕ}
    {flow : Option Flow} {transfer : Transfer} {free : ℕ} {status : Status}
    → PlainFits words x → HasWords regs → Each IsWord stack.words → ((word : ℕ) → IsWord (private word)) → IsWord base
    → IsWord offset → ThenFits transfer.then
    → PlainFits words (record x {
      regs = regs;
      stack = stack;
      private = private;
      base = base;
      offset = offset;
      flow = flow;
      transfer = transfer;
      free = free;
      status = status;
    })
refit words x h regs stack private base offset transfer = record {
  room = h.room;
  code = h.code;
  regs = regs;
  stack = stack;
  scratch = h.scratch;
  private = private;
  interface = h.interface;
  core = h.core;
  cores = h.cores;
  base = base;
  offset = offset;
  transfer = transfer;
}

-- ---- what is fetched

below_size : (offset size : ℕ) → nat_le offset size ≡ true → IsWord size → IsWord offset
below_size offset size inside small = grind (arith, nat_tests)

-- what is fetched at an offset has constants that are words, and ends at an offset that is one
abbrev pub FetchFits : ℕ → Fetched → Type 0
FetchFits offset Outside = Unit {0}
FetchFits offset NoBundle = Unit {0}
FetchFits offset (Found b size) = ConstantsFit b × IsWord (offset + size)

taken_fits : (offset size : ℕ) (found : Option PlainBundle) → ((b : PlainBundle) → found ≡ Some b → ConstantsFit b)
    → IsWord (offset + size) → FetchFits offset (taken_for size found)
taken_fits offset size None fits next = tt
taken_fits offset size (Some b) fits next = (fits b refl, next)

fetched_fits : (image : Parts) (base offset : ℕ) → HasCode image → FetchFits offset (fetched_at image base offset)
unfolding fetched_at
fetched_fits image base offset code = either (is_inside image base offset) refl
  where
    size : ℕ
    size = bundle_words (word_at image base offset)

    found : Option PlainBundle
    found = bundle_at (word_at image base offset) (word_at image base (offset + 1))

    either : (b : Bool) → is_inside image base offset ≡ b
        → FetchFits offset (elim b [ false ↦ Outside | true ↦ taken_for size found ])
    either false outside = tt
    either true inside =
        taken_fits offset size found (λ b e. constants_fit (word_at image base offset) (word_at image base (offset + 1))
        b (code.words (base + (offset + 1))) e)
        (below_size (offset + size) (size_at image base) inside (code.words (base - 1)))

-- ---- what the core gives

then_of : (moved_on : Then) → ThenFits moved_on → ThenOf IsWord moved_on
then_of (then_on.Store cached width address value) fits = fits
then_of _ fits = tt

gives_words : (words : ℕ) → Gives (λ word. word < words) IsWord (InRange words)
gives_words words = record {
  none = omega arith;
  merges = merged_word;
  scratch = λ c word h. h.plain.scratch word;
  private = λ c word h. h.plain.private word;
  stack = λ c place h. each_index c.plain.stack.words place h.plain.stack;
  left = λ c target h. omega (arith, (h.plain.interface.channels target).source);
  cached = λ c address word h hit. cached_words c.seen.cached address word h.cached hit;
  awaited = λ c h. then_of c.plain.transfer.then h.plain.transfer;
  asked = λ c b h space width address value is. stored_word b c.plain.regs space width address value h.plain.regs is;
  comm = λ c word h below. on_board words c.plain word h.plain below;
  shared = λ c word h below. shared_on_board words c.plain word h.plain below;
}

-- ---- what each kind of step keeps

then_fits : (moved_on : Then) → ThenOf IsWord moved_on → ThenFits moved_on
then_fits (then_on.Store cached width address value) of = of
then_fits _ of = tt

access_fits : (access : cache.Access) → AccessOf IsWord access → AccessFits access
access_fits (cache.Load address None) of = tt
access_fits (cache.Load address (Some words)) of = of
access_fits (cache.Store address value) of = of

stack_fits : (words : ℕ) (func : StackFunc) (count : ℕ) (x : Plain) → PlainFits words x
    → PlainFits words (stack_done func count x)
stack_fits words Sres count x h =
    refit words x h h.regs (reserved_words count x.stack h.stack) (with_words_fit (spilled count x.stack)
    (reserved count x.stack).ss x.private (spilled_words count x.stack h.stack) h.private) h.base
    h.offset h.transfer
stack_fits words Sens count x h =
    refit words x h h.regs (each-append IsWord x.stack.words (words_from x.private x.stack.ss (missing count x.stack))
    h.stack (words_from_fit x.private x.stack.ss (missing count x.stack) h.private)) h.private h.base
    h.offset h.transfer
stack_fits words Sfree count x h =
    refit words x h h.regs (freed_words count x.stack h.stack) h.private h.base h.offset h.transfer

set_fits : (words : ℕ) (width : StoreWidth) (address value : ℕ) (x : Plain) → PlainFits words x → IsWord value
    → PlainFits words (record x { stack = stack_set width address value x.stack })
set_fits words width address value x h v =
    let old : ℕ = slice_index x.stack.words (address / 4) in
    refit words x h h.regs (each_set IsWord x.stack.words (address / 4) (merged width address old value) h.stack
    (merged_word width address old value (each_index x.stack.words (address / 4) h.stack) v)) h.private h.base
    h.offset h.transfer

advances_fit : (words : ℕ) (b : PlainBundle) (size : ℕ) (x : Plain) → PlainFits words x
    → fetched_at x.site.image x.base x.offset ≡ Found b size → PlainFits words (advanced size b x)
advances_fit words b size x h found =
    let fits : FetchFits x.offset (Found b size) =
    subst (FetchFits x.offset) found (fetched_fits x.site.image x.base x.offset h.code) in
    refit words x h (after_bundle_words x.stack.st x.stack.ss b x.regs h.regs fits.0) h.stack h.private h.base
    fits.1 h.transfer

starts_fit : (words target count : ℕ) (c : Core) → InRange words c → InRange words (with_start target count c)
starts_fit words target count c h =
    let place = started_place (answer_to (port_to c.plain.interface target) count) target count c.plain.interface in
    let is = interface_fits words (started target count c.plain.interface) c h
    (started_in_range c.plain.interface target count h.plain.interface) place.0 place.1 in
    record { plain = is.plain; cached = h.cached }

steps_fit : (words : ℕ) → Steps IsWord (InRange words)
steps_fit words = record {
  waits = λ c t free h of. record {
    plain = refit words c.plain h.plain h.plain.regs h.plain.stack h.plain.private
        h.plain.base h.plain.offset (then_fits t.then of);
    cached = h.cached;
  };
  value = λ c rd width address word h small. record {
    plain = refit words c.plain h.plain (arrived_words rd (picked width address word) c.plain.regs h.plain.regs
        (picked_word width address word small)) h.plain.stack h.plain.private h.plain.base h.plain.offset
        h.plain.transfer;
    cached = h.cached;
  };
  advances = λ c b size h found. record { plain = advances_fit words b size c.plain h.plain found; cached = h.cached };
  stacks = λ c func count h room. record { plain = stack_fits words func count c.plain h.plain; cached = h.cached };
  sets = λ c width address value h v. record {
    plain = set_fits words width address value c.plain h.plain v;
    cached = h.cached;
  };
  scratch = λ c word value h v. scratch_fits words word value c h v;
  private = λ c word value h v. record {
    plain = refit words c.plain h.plain h.plain.regs h.plain.stack
        (put_fits word value c.plain.private v h.plain.private) h.plain.base h.plain.offset h.plain.transfer;
    cached = h.cached;
  };
  source = λ c target value h. interface_fits words (with_source target value c.plain.interface) c h
      (source_in_range c.plain.interface target value h.plain.interface) refl refl;
  target = λ c target value h. interface_fits words (with_target target value c.plain.interface) c h
      (target_in_range c.plain.interface target value h.plain.interface) refl refl;
  starts = λ c target count h. starts_fit words target count c h;
  caches = λ c access h of. record {
    plain = h.plain;
    cached = each-append AccessFits c.seen.cached
        (access ∷ []) h.cached (access_fits access of, tt);
  };
  counts = λ c access h. record { plain = h.plain; cached = h.cached };
}

-- ---- flows

-- a place where a function starts is a word
start_word : (starts : List ℕ) (base : ℕ) → Each IsWord starts → list_any (λ start. base == start) starts
    ≡ true → IsWord base
start_word [] base small found = absurd (true≢false (sym found))
start_word (start ∷ starts) base small found = elim (cases_eq base start) [
  | inl same ↦ subst IsWord (sym same) small.0
  | inr other ↦ start_word starts base small.1 (sym (rw (ne_eqb base start other) refl) ∙ found)
]

fetch_fits : (words : ℕ) (misses : List Method) (method : Method) → ThenFits (fetch_of misses method).then
fetch_fits words misses method = elim (is_among method.function (resident misses)) as (λ b. let t : Transfer =
    elim b [ true ↦ nothing | false ↦ reads (method.words + 1) then_on.Nothing ] in ThenFits t.then) [
      | true ↦ tt
      | false ↦ tt
    ]

entered_fits : (words base offset : ℕ) (c : Core) → InRange words c → IsWord base → IsWord offset
    → InRange words (entered base offset c)
entered_fits words base offset c h b o = record {
  plain = refit words c.plain h.plain h.plain.regs h.plain.stack h.plain.private b o (fetch_fits words c.seen.misses
      (method_at c.plain.site.image base));
  cached = h.cached;
}

size_word : (image : Parts) (base offset : ℕ) → HasCode image → nat_lt offset (size_at image base) ≡ true
    → IsWord offset
size_word image base offset code inside =
    let small : IsWord (size_at image base) = code.words (base - 1) in
    let below : offset < size_at image base = grind (arith, nat_tests) in omega (arith, small)

place_words : (image : Parts) (base offset : ℕ) → HasCode image → has_place image base offset ≡ true → IsWord base
    × IsWord offset
place_words image base offset code placed =
    let parts = and_parts _ _ placed in
    (start_word image.starts base code.starts parts.0, size_word image base offset code parts.1)

gone_fits : (words : ℕ) (goal : Goal) (c : Core) → InRange words c → is_placed goal c.plain ≡ true
    → InRange words (gone goal c)
gone_fits words (Within offset) c h placed = record {
  plain = refit words c.plain h.plain h.plain.regs h.plain.stack h.plain.private h.plain.base
      (size_word c.plain.site.image c.plain.base offset h.plain.code placed) h.plain.transfer;
  cached = h.cached;
}
gone_fits words (Call target) c h placed =
    entered_fits words target 0 (with_plain with_return c) (record {
      plain = refit words c.plain h.plain (with_return_words c.plain.base c.plain.offset c.plain.regs h.plain.regs
          h.plain.base h.plain.offset) h.plain.stack h.plain.private h.plain.base h.plain.offset h.plain.transfer;
      cached = h.cached;
    }) (place_words c.plain.site.image target 0 h.plain.code placed).0 (omega arith)
gone_fits words (Fill target) c h placed =
    entered_fits words target 0 c h (place_words c.plain.site.image target 0 h.plain.code placed).0 (omega arith)
gone_fits words (Return base offset) c h placed =
    entered_fits words base offset c h (place_words c.plain.site.image base offset h.plain.code placed).0
    (place_words c.plain.site.image base offset h.plain.code placed).1

turns_fit : (words : ℕ) → Turns (InRange words)
turns_fit words = record {
  stops = λ c fault cycle h. record {
    plain = refit words c.plain h.plain h.plain.regs h.plain.stack h.plain.private
        h.plain.base h.plain.offset h.plain.transfer;
    cached = h.cached;
  };
  goes = λ c goal h placed. gone_fits words goal c h placed;
}

pub flowed_fits : (words cycle : ℕ) (c : Core) → InRange words c → InRange words (flowed cycle c)
flowed_fits words = flow_kept (InRange words) (turns_fit words)

-- ---- the act

fits_kept : {X : Type 0} (P Q : X → Type 0) (words : ℕ) → ((x : X) → P x → Q x) → (p : Prog X)
    → Keeps (λ word. word < words) IsWord P p → IsFit Q words p
fits_kept P Q words so (done x) h = so x h
fits_kept P Q words so (get word go_on) h = (h.0, λ value small. fits_kept P Q words so (go_on value) (h.1 value small))
fits_kept P Q words so (set word value rest) h = (h.0, h.1, fits_kept P Q words so rest h.2)

module _ (words cycle : ℕ) where
  abbrev Below : ℕ → Type 0
  Below word = word < words

  abbrev Remains : Acted → Type 0
  Remains = Left Below IsWord (InRange words) (gives_words words) (steps_fit words)

  acted_fits : (p : Prog Acted) → Keeps Below IsWord Remains p → IsFit (ActedFits words) words p
  acted_fits p h = fits_kept Remains (ActedFits words) words (λ y k. record { core = k.0; pending_store = k.1 }) p h

  pub fit_bundle : (c : Core) → InRange words c → IsFit (ActedFits words) words (bundle cycle c)
  fit_bundle c h = acted_fits (bundle cycle c) (acts_bundle Below IsWord (InRange words) (gives_words words)
      (steps_fit words) (turns_fit words) cycle c h)

  pub fit_transaction : (c : Core) → InRange words c → IsFit (ActedFits words) words (transaction cycle c)
  fit_transaction c h = acted_fits (transaction cycle c) (acts_transaction Below IsWord (InRange words)
      (gives_words words) (steps_fit words) cycle c h)

  fit_own : (c : Core) → InRange words c → IsFit (ActedFits words) words (own cycle c)
  fit_own c h = acted_fits (own cycle c) (acts_own Below IsWord (InRange words) (gives_words words) (steps_fit words)
      (turns_fit words) cycle c h)

pub fit_settled : (words : ℕ) (y : Acted) → ActedFits words y → IsFit (InRange words) words (settled y)
fit_settled words y h =
    fits_kept (InRange words) (InRange words) words (λ c k. k) (settled y) (acts_settled (λ word. word < words) IsWord
    (InRange words) (gives_words words) (steps_fit words) y (h.core, h.pending_store))

-- what the interface does first in a phase, with what the core does then
module _ (words cycle : ℕ) (c : Core) (h : InRange words c) where
  room : comm_word c.plain.interface.cores 0 ≤ words
  room = subst (λ n. comm_word n 0 ≤ words) (sym h.plain.cores) h.plain.room

  interface_left : (i : Interface) → ni.InRange i × IsSamePlace c.plain.interface i → InRange words (with_interface c i)
  interface_left i is = interface_fits words i c h is.0 is.1.core is.1.cores

  pub fit_delivered : IsFit (InRange words) words (delivered cycle c)
  fit_delivered = fit-then (λ i. ni.InRange i × IsSamePlace c.plain.interface i) (InRange words) words
      (ni_turn.delivery cycle c.plain.interface) (λ i. done (with_interface c i))
      (fit_leaves ni.InRange (IsSamePlace c.plain.interface) words (ni_turn.delivery cycle c.plain.interface)
      (fit_turn c.plain.interface 0 cycle words h.plain.interface room) (same_delivery cycle c.plain.interface))
      interface_left

  pub fit_injected : IsFit (InRange words) words (injected cycle c)
  fit_injected = fit-then (λ i. ni.InRange i × IsSamePlace c.plain.interface i) (InRange words) words
      (ni_turn.injection cycle c.plain.interface) (λ i. done (with_interface c i))
      (fit_leaves ni.InRange (IsSamePlace c.plain.interface) words (ni_turn.injection cycle c.plain.interface)
      (fit_turn c.plain.interface 1 cycle words h.plain.interface room) (same_injection cycle c.plain.interface))
      interface_left

  fit_acted : IsFit (ActedFits words) words (acted cycle c)
  fit_acted = fit-then (λ i. ni.InRange i × IsSamePlace c.plain.interface i) (ActedFits words) words
      (ni_turn.injection cycle c.plain.interface) (λ i. own cycle (with_interface c i))
      (fit_leaves ni.InRange (IsSamePlace c.plain.interface) words (ni_turn.injection cycle c.plain.interface)
      (fit_turn c.plain.interface 1 cycle words h.plain.interface room) (same_injection cycle c.plain.interface))
      (λ i is. fit_own words cycle (with_interface c i) (interface_left i is))

pub core_keeps : (words phase cycle : ℕ) (c : Core) → phase ≤ 1 → InRange words c
    → IsFit (InRange words) words (turn phase cycle c)
core_keeps words zero cycle c last h = fit_delivered words cycle c h
core_keeps words (suc phase) cycle c last h =
    fit-then (ActedFits words) (InRange words) words (acted cycle c) settled (fit_acted words cycle c h)
    (fit_settled words)

zeros_fit : (word : ℕ) → IsWord (zeros word)
zeros_fit word = omega arith

fresh_fits : (words : ℕ) (status : Status) (site : Site) (private : ℕ → ℕ) → SiteFits words site
    → ((word : ℕ) → IsWord (private word)) → PlainFits words (fresh status site private)
fresh_fits words status site private h small = record {
  room = h.room;
  code = h.code;
  regs = at_start_words;
  stack = tt;
  scratch = zeros_fit;
  private = small;
  interface = new_in_range site.cores site.core h.among;
  core = refl;
  cores = refl;
  base = each_index site.image.starts 0 h.code.starts;
  offset = omega arith;
  transfer = tt;
}

pub begun_in_range : (words : ℕ) (site : Site) (input : List ℕ) → SiteFits words site → Each IsWord site.image.initial
    → Each IsWord input → InRange words (begun site input)
begun_in_range words site input h initial given =
    let image : Parts = site.image in
    let private : (word : ℕ) → IsWord (first_private image input word) =
    overlaid_words image.input_at (take image.input_room input) (overlaid 4 image.initial zeros)
    (each_take IsWord image.input_room input given) (overlaid_words 4 image.initial zeros initial zeros_fit) in
    let x : Plain = fresh Running site (first_private image input) in
    let is : PlainFits words x = fresh_fits words Running site (first_private image input) h private in
    record {
      plain = refit words x is is.regs is.stack is.private is.base is.offset
          (fetch_fits words [] (method_at image (entry image)));
      cached = tt;
    }

pub idle_in_range : (words : ℕ) (site : Site) → SiteFits words site → InRange words (idle site)
idle_in_range words site h = record { plain = fresh_fits words Idle site zeros h zeros_fit; cached = tt }

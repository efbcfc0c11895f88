-- What comes of a bundle's effect, its words being moved: of the core, of its data cache, and of the words that other
-- cores reach too.
use Rattle.std.proofs.Common.{◌≡◌, ℕ, ◌+◌, ◌/◌, ◌==◌, Bool, true, false, List, [], ◌∷◌, ◌++◌, length, Option, None, Some, inl, inr, refl, sym, ◌∙◌, subst}
use Rattle.std.specs.Prelude.{slice_index}
use Rattle.shared_order.specs.declared.operation.Operation.{Operation}
use Rattle.shared_order.specs.Operation.{load, store}
use Rattle.shared_order.specs.Words.{put}
use Rattle.data_cache.specs.Accesses as cache
use Rattle.local_store.specs.declared.map.Space.TheVariants.{Local, Main}
use Rattle.local_store.specs.declared.map.Cell.{Cell}
use Rattle.local_store.specs.declared.map.Cell.TheVariants as cell
use Rattle.stack_cache.specs.Stack.{Stack, spilled, missing}
use Rattle.argo_ni.specs.Interface.{Interface}
use Rattle.argo_ni.specs.Packet.{comm_word}
use Rattle.patmos_instr.specs.declared.functions.StackFunc.{StackFunc}
use Rattle.patmos_instr.specs.declared.functions.StackFunc.TheVariants.{Sres, Sens, Sfree}
use Rattle.patmos_instr.specs.declared.memories.Mem.TheVariants as mem
use Rattle.patmos_instr.specs.declared.memories.Width.{Width}
use Rattle.patmos_instr.specs.declared.memories.StoreWidth.{StoreWidth}
use Rattle.patmos_instr.specs.declared.memories.StoreWidth.TheVariants as store_width
use Rattle.patmos_sem.specs.Bundles.{arrived}
use Rattle.patmos_sem.specs.Narrow.{picked, merged}
use Rattle.patmos_sem.specs.Registers.{Registers}
use Rattle.patmos_sem.specs.declared.effects.Effect.{Effect}
use Rattle.patmos_sem.specs.declared.effects.Effect.TheVariants as effect
use Rattle.patmos_model.specs.declared.transfer.Transfer.{Transfer}
use Rattle.patmos_model.specs.declared.transfer.Then.TheVariants as then_on
use Rattle.patmos_model.specs.Site.{Site}
use Rattle.patmos_model.specs.State.{Plain, Core, History, with_plain}
use Rattle.patmos_model.specs.Transfers.{reads, writes}
use Rattle.patmos_model.specs.Cells.{now, cell_of, no_line, reading, reading_line, writing, port_set, with_value}
use Rattle.patmos_model.specs.Cycle.{with_interface}
use Rattle.patmos_model.specs.Bundle.{ends, moves, stack_set, answered}
use Rattle.patmos_model.specs.Transaction.{counted, moved, with_store, line_taken, line_address, transaction, transaction_then}
use Rattle.patmos_model.proofs.Acts.{stack_after, private_after, stack_done, port_by, port_cases}
use Rattle.sp_shape.specs.Memory.{Memory}
use Rattle.sp_shape.specs.Pointers.{Pointers}
use Rattle.code_core.specs.Sound.{IsSound, IsLocalLoadable, IsMainLoadable, IsLocalStorable, IsMainStorable}
use Rattle.code_core.proofs.Ports.{SamePorts, same_ports, ports_then}
use Rattle.code_core.proofs.Settled.{LeavesBy, Done, OfBoth, AfterOneBy, SettlesBy, settled_by, awaits_by}

-- ---- what an effect does to a core

-- the registers, with the value that a load gave
abbrev pub regs_with : Effect → ℕ → Registers → Registers
regs_with (effect.Load space width rd address) value regs = arrived rd (picked width address value) regs
regs_with _ value regs = regs

abbrev pub stack_with : Effect → Plain → Stack
stack_with (effect.Store mem.S width address value) x = stack_set width address value x.stack
stack_with (effect.StackOp func count) x = stack_after func count x
stack_with _ x = x.stack

-- a word is stored, where the cell is one of this memory
abbrev pub scratch_at : Option Cell → StoreWidth → ℕ → ℕ → Plain → ℕ → ℕ
scratch_at (Some (cell.Scratch word)) width address value x =
    put word (merged width address (x.scratch word) value) x.scratch
scratch_at _ width address value x = x.scratch

abbrev pub private_at : Option Cell → StoreWidth → ℕ → ℕ → Plain → ℕ → ℕ
private_at (Some (cell.Private word)) width address value x =
    put word (merged width address (x.private word) value) x.private
private_at _ width address value x = x.private

abbrev pub port_at : Option Cell → ℕ → Core → Core
port_at (Some (cell.Port target register)) value c = port_set target register value c
port_at _ value c = c

abbrev pub scratch_with : Effect → Plain → ℕ → ℕ
scratch_with (effect.Store mem.L width address value) x = scratch_at (cell_of Local address) width address value x
scratch_with _ x = x.scratch

abbrev pub private_with : Effect → Plain → ℕ → ℕ
private_with (effect.Store mem.C width address value) x = private_at (cell_of Main address) width address value x
private_with (effect.Store mem.M width address value) x = private_at (cell_of Main address) width address value x
private_with (effect.StackOp func count) x = private_after func count x
private_with _ x = x.private

abbrev pub port_with : Effect → Core → Core
port_with (effect.Store mem.L width address value) c = port_at (cell_of Local address) value c
port_with _ c = c

-- with the interface and the sendings of another core
abbrev pub sent_as : Core → Core → Core
sent_as p c = record {
  plain = record c.plain { interface = p.plain.interface };
  seen = record c.seen { sendings = p.seen.sendings };
}

abbrev pub did : Effect → ℕ → Core → Core
did e value c = sent_as (port_with e c) (with_plain (λ x. record x {
  regs = regs_with e value x.regs;
  stack = stack_with e x;
  scratch = scratch_with e x;
  private = private_with e x;
}) c)

-- ---- one core like another

-- but for times, what it has accessed, and the packets under way
pub record IsLike (x c : Core) : Type 0 where
  pub site : c.plain.site ≡ x.plain.site
  pub status : c.plain.status ≡ x.plain.status
  pub regs : c.plain.regs ≡ x.plain.regs
  pub base : c.plain.base ≡ x.plain.base
  pub offset : c.plain.offset ≡ x.plain.offset
  pub flow : c.plain.flow ≡ x.plain.flow
  pub stack : c.plain.stack ≡ x.plain.stack
  pub scratch : c.plain.scratch ≡ x.plain.scratch
  pub private : c.plain.private ≡ x.plain.private
  pub ports : SamePorts x.plain.interface c.plain.interface
  pub sendings : c.seen.sendings ≡ x.seen.sendings

like_but : (x : Core) {interface : Interface} {transfer : Transfer} {free : ℕ} {seen : History}
    → SamePorts x.plain.interface interface → seen.sendings ≡ x.seen.sendings
    → IsLike x (record {
      plain = record x.plain { interface = interface; transfer = transfer; free = free };
      seen = seen;
    })
like_but x ports sendings =
    record {
      site = refl;
      status = refl;
      regs = refl;
      base = refl;
      offset = refl;
      flow = refl;
      stack = refl;
      scratch = refl;
      private = refl;
      ports = ports;
      sendings = sendings;
    }

like : (x : Core) {transfer : Transfer} {free : ℕ} {seen : History} → seen.sendings ≡ x.seen.sendings
    → IsLike x (record { plain = record x.plain { transfer = transfer; free = free }; seen = seen })
like x sendings = like_but x (same_ports x.plain.interface) sendings

like_then : (x c d : Core) → IsLike x c → IsLike c d → IsLike x d
like_then x c d a b = record {
  site = b.site ∙ a.site;
  status = b.status ∙ a.status;
  regs = b.regs ∙ a.regs;
  base = b.base ∙ a.base;
  offset = b.offset ∙ a.offset;
  flow = b.flow ∙ a.flow;
  stack = b.stack ∙ a.stack;
  scratch = b.scratch ∙ a.scratch;
  private = b.private ∙ a.private;
  ports = ports_then x.plain.interface c.plain.interface d.plain.interface a.ports b.ports;
  sendings = b.sendings ∙ a.sendings;
}

-- ---- what a load gives, what the data cache has, and what is made of operations

-- the word of a cell that the core alone reaches
abbrev pub IsWordOf : Option Cell → Plain → ℕ → Type 0
IsWordOf (Some (cell.Scratch word)) x value = value ≡ x.scratch word
IsWordOf (Some (cell.Private word)) x value = value ≡ x.private word
IsWordOf _ x value = Unit {0}

abbrev pub Given : Effect → Plain → ℕ → Type 0
Given (effect.Load mem.S width rd address) x value = value ≡ slice_index x.stack.words (address / 4)
Given (effect.Load mem.L width rd address) x value = IsWordOf (cell_of Local address) x value
Given (effect.Load mem.M width rd address) x value = IsWordOf (cell_of Main address) x value
Given _ x value = Unit {0}

-- a line of private memory
abbrev pub IsLineOf : Option Cell → Plain → List ℕ → Type 0
IsLineOf (Some (cell.Private word)) x line =
    line ≡ x.private word ∷ x.private (word + 1) ∷ x.private (word + 2) ∷ x.private (word + 3) ∷ []
IsLineOf _ x line = Unit {0}

-- a cached load finds its word, or takes its line
pub data LoadsLine (place : Option Cell) (c : Core) (address value : ℕ) (cached : List cache.Access) : Type 0 where
  hits : cache.cached_word c.seen.cached address ≡ Some value → cached ≡ c.seen.cached ++ cache.Load address None ∷ []
      → LoadsLine place c address value cached
  misses : (line : List ℕ) → IsLineOf place c.plain line → value ≡ slice_index line (cache.place_of address) → cached
      ≡ c.seen.cached ++ cache.Load address (Some line) ∷ []
      → LoadsLine place c address value cached

abbrev pub Caches : Effect → Core → ℕ → List cache.Access → Type 0
Caches (effect.Load mem.C width rd address) c value cached =
    LoadsLine (cell_of Main (line_address address)) c address value cached
Caches (effect.Store mem.C width address stored) c value cached =
    cached ≡ (with_store true width address stored c.seen).cached
Caches _ c value cached = cached ≡ c.seen.cached

-- a word of the board was loaded, or stored
abbrev pub MadeLoad : Option Cell → ℕ → ℕ → List Operation → List Operation → Type 0
MadeLoad (Some (cell.Comm word)) core value before ops =
    (s : ℕ) × (ops ≡ before ++ load s (comm_word core word) value ∷ [])
MadeLoad (Some (cell.Shared word)) core value before ops = (s : ℕ) × (ops ≡ before ++ load s word value ∷ [])
MadeLoad _ core value before ops = ops ≡ before

abbrev pub MadeStore : Option Cell → ℕ → ℕ → List Operation → List Operation → Type 0
MadeStore (Some (cell.Comm word)) core value before ops =
    (s : ℕ) × (ops ≡ before ++ store s (comm_word core word) value ∷ [])
MadeStore (Some (cell.Shared word)) core value before ops = (s : ℕ) × (ops ≡ before ++ store s word value ∷ [])
MadeStore _ core value before ops = ops ≡ before

-- by a line of private memory none was
abbrev pub MadeLine : Option Cell → List Operation → List Operation → Type 0
MadeLine (Some (cell.Private word)) before ops = ops ≡ before
MadeLine _ before ops = Unit {0}

abbrev pub Made : Effect → ℕ → ℕ → List Operation → List Operation → Type 0
Made (effect.Load mem.L width rd address) core value before ops = MadeLoad (cell_of Local address) core value before ops
Made (effect.Load mem.M width rd address) core value before ops = MadeLoad (cell_of Main address) core value before ops
Made (effect.Load mem.C width rd address) core value before ops =
    MadeLine (cell_of Main (line_address address)) before ops
Made (effect.Store mem.L width address stored) core value before ops =
    MadeStore (cell_of Local address) core stored before ops
Made (effect.Store mem.C width address stored) core value before ops =
    MadeStore (cell_of Main address) core stored before ops
Made (effect.Store mem.M width address stored) core value before ops =
    MadeStore (cell_of Main address) core stored before ops
Made _ core value before ops = ops ≡ before

-- ---- the outcome

-- over what is said of the value, of the core, of the data cache and of the operations
pub record Comes (Gives : ℕ → Type 0) (x : ℕ → Core) (Has : ℕ → List cache.Access → Type 0)
    (Makes : ℕ → List Operation → Type 0) (c : Core) (ops : List Operation) : Type 0 where
  pub value : ℕ
  pub given : Gives value
  pub is_like : IsLike (x value) c
  pub cached : Has value c.seen.cached
  pub made : Makes value ops

abbrev pub Outcome : Effect → Core → List Operation → Core → List Operation → Type 0
Outcome e d before = Comes (Given e d.plain) (λ value. did e value d) (Caches e d)
    (λ value ops. Made e d.plain.site.core value before ops)

comes_of_both : (Gives : ℕ → Type 0) (x : ℕ → Core) (Has : ℕ → List cache.Access → Type 0)
    (Makes : ℕ → List Operation → Type 0) → OfBoth (Comes Gives x Has Makes)
comes_of_both Gives x Has Makes = record {
  same = λ c d ops is h. subst (λ z. Comes Gives x Has Makes z ops) (sym is.task) (record {
    value = h.value;
    given = h.given;
    is_like = like_then (x h.value) c (with_interface c d.plain.interface) h.is_like (like_but c is.ports refl);
    cached = h.cached;
    made = h.made;
  });
  counts = λ u c ops h. record {
    value = h.value;
    given = h.given;
    is_like = like_then (x h.value) c
        (counted u c) h.is_like (like c refl);
    cached = h.cached;
    made = h.made;
  };
}

pub outcome_of_both : (e : Effect) (d : Core) (before : List Operation) → OfBoth (Outcome e d before)
outcome_of_both e d before = comes_of_both (Given e d.plain) (λ value. did e value d) (Caches e d)
    (λ value ops. Made e d.plain.site.core value before ops)

-- without an operation
no_line_made : (place : Option Cell) (before : List Operation) → MadeLine place before before
no_line_made (Some (cell.Private word)) before = refl
no_line_made _ before = tt

-- nothing is said of what is given
abbrev Silent : ℕ → Type 0
Silent value = Unit {0}

module _ (site : Site) (u s : ℕ) (p : Pointers) (k : Memory) (d : Core) (before : List Operation)
    (idle : d.plain.transfer.words ≡ 0) where
  abbrev core : ℕ
  core = d.plain.site.core

  -- it waits for the words of a transfer, with another interface by then
  abbrev waiting : Transfer → Interface → Core
  waiting t i = record { plain = record d.plain { transfer = t; interface = i }; seen = d.seen }

  once : (P : Core → List Operation → Type 0) (t : Transfer) → ((v at : ℕ) (i : Interface)
      → SamePorts d.plain.interface i → LeavesBy (Done P) at (transaction_then t.then v (waiting t i)) before)
      → AfterOneBy P (with_plain (λ x. record x { transfer = t }) d) before
  unfolding transaction
  once P t next = λ v at x is. subst (λ (z : Core). LeavesBy (Done P) at (transaction_then z.plain.transfer.then v z)
      before) (sym is.task) (next v at x.plain.interface is.ports)

  -- ---- loads

  -- a value is on its way into a register, where all else is as it was
  abbrev Loaded : (ℕ → Type 0) → Width → ℕ → ℕ → (ℕ → List Operation → Type 0) → Core → List Operation → Type 0
  Loaded Gives width rd address Makes = Comes Gives (λ value. with_plain (with_value rd width address value) d)
      (λ value cached. cached ≡ d.seen.cached) Makes

  local_loaded : (width : Width) (rd address : ℕ) (place : Option Cell) → IsLocalLoadable place
      → LeavesBy (Done (SettlesBy (Loaded (IsWordOf place d.plain) width rd address
      (λ value ops. MadeLoad place core value before ops)))) s
      (reading place d.plain (λ word. now (with_plain (λ x. ends u (with_value rd width address word x)) d))) before
  local_loaded width rd address None l = absurd l
  local_loaded width rd address (Some (cell.Port target register)) l = absurd l
  local_loaded width rd address (Some (cell.Private word)) l = absurd l
  local_loaded width rd address (Some (cell.Shared word)) l = absurd l
  local_loaded width rd address (Some (cell.Scratch word)) l = (
    refl,
    settled_by (record {
      value = d.plain.scratch word;
      given = refl;
      is_like = like
          (with_plain (with_value rd width address (d.plain.scratch word)) d) refl;
      cached =
          refl;
      made = refl;
    }) (inl idle),
  )
  local_loaded width rd address (Some (cell.Comm word)) l =
      λ value. (
        refl,
        settled_by (record {
          value = value;
          given = tt;
          is_like = like (with_plain (with_value rd width address value)
              d) refl;
          cached = refl;
          made = (s, refl);
        }) (inl idle),
      )

  main_loaded : (t : Transfer) (width : Width) (rd address v at : ℕ) (i : Interface) → SamePorts d.plain.interface i
      → (place : Option Cell) → IsMainLoadable place
      → LeavesBy (Done (Loaded (IsWordOf place d.plain) width rd address
      (λ value ops. MadeLoad place core value before ops))) at
      (reading place (waiting t i).plain (λ word. now (with_plain (with_value rd width address word)
      (counted v (waiting t i))))) before
  main_loaded t width rd address v at i ports None l = absurd l
  main_loaded t width rd address v at i ports (Some (cell.Scratch word)) l = absurd l
  main_loaded t width rd address v at i ports (Some (cell.Comm word)) l = absurd l
  main_loaded t width rd address v at i ports (Some (cell.Port target register)) l = absurd l
  main_loaded t width rd address v at i ports (Some (cell.Private word)) l = (
    refl,
    record {
      value = d.plain.private word;
      given = refl;
      is_like = like_but
          (with_plain (with_value rd width address (d.plain.private word)) d) ports refl;
      cached = refl;
      made = refl;
    },
  )
  main_loaded t width rd address v at i ports (Some (cell.Shared word)) l =
      λ value. (
        refl,
        record {
          value = value;
          given = tt;
          is_like = like_but
              (with_plain (with_value rd width address value) d) ports refl;
          cached = refl;
          made = (at, refl);
        },
      )

  abbrev Line : Option Cell → Width → ℕ → ℕ → Core → List Operation → Type 0
  Line place width rd address =
      Comes Silent (λ value. with_plain (with_value rd width address value) d)
      (λ value cached. LoadsLine place d address value cached) (λ value ops. MadeLine place before ops)

  line_comes : (place : Option Cell) (t : Transfer) (width : Width) (rd address v : ℕ) (i : Interface)
      → SamePorts d.plain.interface i → (line : List ℕ) → IsLineOf place d.plain line → (ops : List Operation)
      → MadeLine place before ops → Line place width rd address (line_taken rd width address line
      (counted v (waiting t i))) ops
  line_comes place t width rd address v i ports line of ops made = record {
    value = slice_index line (cache.place_of address);
    given = tt;
    is_like = like_but (with_plain (with_value rd width address (slice_index line (cache.place_of address))) d) ports
        refl;
    cached = misses line of refl refl;
    made = made;
  }

  line_loaded : (place : Option Cell) (t : Transfer) (width : Width) (rd address v at : ℕ) (i : Interface)
      → SamePorts d.plain.interface i
      → LeavesBy (Done (Line place width rd address)) at (reading_line place (waiting t i).plain
      (λ line. now (line_taken rd width address line (counted v (waiting t i))))) before
  line_loaded (Some (cell.Private word)) t width rd address v at i ports =
      let f : ℕ → ℕ = d.plain.private in (
        refl,
        line_comes (Some (cell.Private word)) t width rd address v i ports (f word ∷ f (word + 1) ∷ f (word + 2)
            ∷ f (word + 3) ∷ []) refl before refl,
      )
  line_loaded (Some (cell.Shared word)) t width rd address v at i ports =
      λ a b c e. (refl, line_comes (Some (cell.Shared word)) t width rd address v i ports (a ∷ b ∷ c ∷ e ∷ []) tt _ tt)
  line_loaded _ t width rd address v at i ports = (refl, line_comes _ t width rd address v i ports no_line tt before tt)

  by_cache : (width : Width) (rd address : ℕ) (found : Option ℕ) → cache.cached_word d.seen.cached address ≡ found
      → SettlesBy (Outcome (effect.Load mem.C width rd address) d before) (elim found as (λ _. Core) [
        | None ↦ with_plain (moves (reads 4 (then_on.Line rd width address)) u) d
        | Some word ↦ record {
          plain = ends u (with_value rd width address word d.plain);
          seen = record d.seen { cached = d.seen.cached ++ cache.Load address None ∷ [] };
        }
      ]) before
  by_cache width rd address (Some word) hit = settled_by (record {
    value = word;
    given = tt;
    is_like = like (with_plain (with_value rd width address word) d) refl;
    cached = hits hit refl;
    made = no_line_made (cell_of Main (line_address address)) before;
  }) (inl idle)
  by_cache width rd address None missed =
      let t : Transfer = reads 4 (then_on.Line rd width address) in
      awaits_by refl (once (Outcome (effect.Load mem.C width rd address) d before) t (λ v at i ports. line_loaded
      (cell_of Main (line_address address)) t width rd address v at i ports))

  -- ---- stores

  local_stored : (width : StoreWidth) (address value : ℕ) → width ≡ store_width.Word → (place : Option Cell)
      → IsLocalStorable site k value place
      → LeavesBy (Done
      (SettlesBy (Comes Silent (λ given. sent_as (port_at place value d)
      (with_plain (λ x. record x { scratch = scratch_at place width address value x }) d))
      (λ given cached. cached ≡ d.seen.cached)
      (λ given ops. MadeStore place core value before ops)))) s (writing place width address value
      (with_plain (ends u) d)) before
  local_stored width address value is None l = absurd l
  local_stored width address value is (Some (cell.Private word)) l = absurd l
  local_stored width address value is (Some (cell.Shared word)) l = absurd l
  local_stored width address value is (Some (cell.Scratch word)) l = (
    refl,
    settled_by
        (record {
          value = 0;
          given = tt;
          is_like = like
              (with_plain (λ x. record x { scratch = scratch_at (Some (cell.Scratch word)) width address value x }) d)
              refl;
          cached = refl;
          made = refl;
        }) (inl idle),
  )
  local_stored width address value is (Some (cell.Comm word)) l =
      subst (λ w. LeavesBy (Done (SettlesBy (Comes Silent (λ given. d) (λ given cached. cached ≡ d.seen.cached)
      (λ given ops. MadeStore (Some (cell.Comm word)) core value before ops)))) s
      (writing (Some (cell.Comm word)) w address value (with_plain (ends u) d)) before) (sym is) (
        refl,
        settled_by (record { value = 0; given = tt; is_like = like d refl; cached = refl; made = (s, refl) })
            (inl idle),
      )
  local_stored width address value is (Some (cell.Port target register)) l = (
    refl,
    port_cases (λ a b c. SettlesBy (Comes Silent (λ given. sent_as (port_by a b target value d) d)
        (λ given cached. cached ≡ d.seen.cached) (λ given ops. ops ≡ before)) c before) target register value
        (with_plain (ends u) d)
        (λ b. settled_by (record {
          value = 0;
          given = tt;
          is_like = like (sent_as (port_by true b target value d) d)
              refl;
          cached = refl;
          made = refl;
        }) (inl idle))
        (settled_by (record {
          value = 0;
          given = tt;
          is_like = like (sent_as (port_by false true target value d) d)
              refl;
          cached = refl;
          made = refl;
        }) (inl idle))
        (settled_by (record {
          value = 0;
          given = tt;
          is_like = like (sent_as (port_by false false target value d) d)
              refl;
          cached = refl;
          made = refl;
        }) (inl idle)),
  )

  main_written : (t : Transfer) (width : StoreWidth) (address value v at : ℕ) (i : Interface)
      → SamePorts d.plain.interface i → (seen : History) → seen.sendings ≡ d.seen.sendings
      → (Has : List cache.Access → Type 0) → Has seen.cached
      → width ≡ store_width.Word → (place : Option Cell) → IsMainStorable place
      → LeavesBy (Done
      (Comes Silent (λ given. with_plain (λ x. record x { private = private_at place width address value x }) d)
      (λ given. Has) (λ given ops. MadeStore place core value before ops))) at
      (writing place width address value (record { plain = moved v (waiting t i).plain; seen = seen })) before
  main_written t width address value v at i ports seen sent Has has is None l = absurd l
  main_written t width address value v at i ports seen sent Has has is (Some (cell.Scratch word)) l = absurd l
  main_written t width address value v at i ports seen sent Has has is (Some (cell.Comm word)) l = absurd l
  main_written t width address value v at i ports seen sent Has has is (Some (cell.Port target register)) l = absurd l
  main_written t width address value v at i ports seen sent Has has is (Some (cell.Private word)) l = (
    refl,
    record {
      value = 0;
      given = tt;
      is_like = like_but
          (with_plain (λ x. record x { private = private_at (Some (cell.Private word)) width address value x }) d) ports
          sent;
      cached = has;
      made = refl;
    },
  )
  main_written t width address value v at i ports seen sent Has has is (Some (cell.Shared word)) l =
      subst (λ w. LeavesBy
      (Done (Comes Silent (λ given. d) (λ given. Has) (λ given ops. MadeStore (Some (cell.Shared word)) core value
      before ops))) at
      (writing (Some (cell.Shared word)) w address value (record { plain = moved v (waiting t i).plain; seen = seen }))
      before) (sym is)
      (refl, record { value = 0; given = tt; is_like = like_but d ports sent; cached = has; made = (at, refl) })

  main_stored : (cached : Bool) (width : StoreWidth) (address value : ℕ) → width ≡ store_width.Word
      → IsMainStorable (cell_of Main address)
      → SettlesBy (Comes Silent
      (λ given. with_plain (λ x. record x { private = private_at (cell_of Main address) width address value x }) d)
      (λ given has. has ≡ (with_store cached width address value d.seen).cached)
      (λ given ops. MadeStore (cell_of Main address) core value before ops))
      (with_plain (moves (writes 1 (then_on.Store cached width address value)) u) d) before
  main_stored cached width address value is l =
      let t : Transfer = writes 1 (then_on.Store cached width address value) in
      awaits_by refl (once _ t (λ v at i ports. main_written t width address value v at i ports
      (with_store cached width address value (counted v (waiting t i)).seen) (sent cached v t i)
      (λ has. has ≡ (with_store cached width address value d.seen).cached) (same cached v t i) is
      (cell_of Main address) l))
    where
      sent : (c : Bool) (v : ℕ) (t : Transfer) (i : Interface)
          → (with_store c width address value (counted v (waiting t i)).seen).sendings ≡ d.seen.sendings
      sent true v t i = refl
      sent false v t i = refl

      same : (c : Bool) (v : ℕ) (t : Transfer) (i : Interface)
          → (with_store c width address value (counted v (waiting t i)).seen).cached
          ≡ (with_store c width address value d.seen).cached
      same true v t i = refl
      same false v t i = refl

  -- ---- all of them

  -- so many words of the stack are moved, or none
  stack_moved : (write : Bool) (words : ℕ) (func : StackFunc) (count : ℕ)
      → SettlesBy (Outcome (effect.StackOp func count) d before) (with_plain
      (moves (record { write = write; words = words; then = then_on.Nothing }) u)
      (with_plain (stack_done func count) d)) before
  stack_moved write words func count = by (words == 0)
    where
      by : (b : Bool) → SettlesBy (Outcome (effect.StackOp func count) d before)
          (with_plain (λ x. elim b as (λ _. Plain) [
            | true ↦ ends u x
            | false ↦
                record x { transfer = record { write = write; words = words; then = then_on.Nothing } }
          ])
          (with_plain (stack_done func count) d)) before
      by true = settled_by (record {
        value = 0;
        given = tt;
        is_like = like (with_plain (stack_done func count) d) refl;
        cached = refl;
        made = refl;
      }) (inl idle)
      by false = settled_by (record {
        value = 0;
        given = tt;
        is_like = like (with_plain (stack_done func count) d) refl;
        cached = refl;
        made = refl;
      }) (inr refl)

  pub outcome : (e : Effect) → IsSound site e p k → LeavesBy (Done (SettlesBy (Outcome e d before))) s
      (answered e u d) before
  outcome effect.Nothing l = (
    refl,
    settled_by (record {
      value = 0;
      given = tt;
      is_like = like d refl;
      cached = refl;
      made = refl;
    }) (inl idle),
  )
  outcome (effect.Flow kind) l = (
    refl,
    settled_by (record { value = 0; given = tt; is_like = like d refl; cached = refl; made = refl })
        (inl idle),
  )
  outcome (effect.Load mem.S width rd address) l =
      let word : ℕ = slice_index d.plain.stack.words (address / 4) in (
        refl,
        settled_by
            (record {
              value = word;
              given = refl;
              is_like = like (with_plain (with_value rd width address word) d) refl;
              cached = refl;
              made = refl;
            }) (inl idle),
      )
  outcome (effect.Load mem.L width rd address) l = local_loaded width rd address (cell_of Local address) l.2
  outcome (effect.Load mem.C width rd address) l =
      (refl, by_cache width rd address (cache.cached_word d.seen.cached address) refl)
  outcome (effect.Load mem.M width rd address) l =
      let t : Transfer = reads 1 (then_on.Load rd width address) in (
        refl,
        awaits_by refl (once (Outcome (effect.Load mem.M width rd address) d before) t
            (λ v at i ports. main_loaded t width rd address v at i ports (cell_of Main address) l.2)),
      )
  outcome (effect.Store mem.S width address value) l = (
    refl,
    settled_by
        (record {
          value = 0;
          given = tt;
          is_like = like
              (with_plain (λ x. record x { stack = stack_set width address value x.stack }) d) refl;
          cached =
              refl;
          made = refl;
        }) (inl idle),
  )
  outcome (effect.Store mem.L width address value) l = local_stored width address value l.0 (cell_of Local address) l.2
  outcome (effect.Store mem.C width address value) l = (refl, main_stored true width address value l.0 l.2)
  outcome (effect.Store mem.M width address value) l = (refl, main_stored false width address value l.0 l.2)
  outcome (effect.StackOp Sres count) l = (refl, stack_moved true (length (spilled count d.plain.stack)) Sres count)
  outcome (effect.StackOp Sens count) l = (refl, stack_moved false (missing count d.plain.stack) Sens count)
  outcome (effect.StackOp Sfree count) l = (
    refl,
    settled_by (record {
      value = 0;
      given = tt;
      is_like = like (with_plain (stack_done Sfree count) d) refl;
      cached = refl;
      made = refl;
    }) (inl idle),
  )

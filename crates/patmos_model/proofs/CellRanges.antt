-- Cells: those that an address names are in range; and what is stored in them leaves a core in range.
use Rattle.std.proofs.Common.{◌≡◌, ℕ, ◌+◌, ◌*◌, ◌%◌, ◌<◌, ◌≤◌, Bool, true, false, cond, None, Some, IfSome, ◌∙◌, subst, refl, arith}
use Rattle.std.proofs.lemmas.Bool.Decides.{nat_tests}
use Rattle.shared_order.specs.Words.{put}
use Rattle.local_store.specs.declared.map.Space.{Space}
use Rattle.local_store.specs.declared.map.Space.TheVariants.{Local, Main}
use Rattle.local_store.specs.declared.map.Cell.{Cell}
use Rattle.local_store.specs.declared.map.Cell.TheVariants as cell
use Rattle.local_store.specs.Map.{IsInRange}
use Rattle.argo_ni.specs.Packet.{comm_word}
use Rattle.argo_ni.specs.Interface.{Interface}
use Rattle.argo_ni.specs.Start.{started_by}
use Rattle.argo_ni.specs.declared.event.Started.{Started}
use Rattle.argo_ni.specs.declared.event.Started.TheVariants.{Begun, Dropped, Refused}
use Rattle.argo_ni.specs.Range as ni
use Rattle.patmos_model.specs.State.{Plain, Core, with_plain}
use Rattle.patmos_model.specs.Cells.{cell_of}
use Rattle.patmos_model.specs.Transaction.{line_address}
use Rattle.patmos_model.specs.Range.{IsWord, PlainFits, InRange}
use Rattle.patmos_model.proofs.HeldWords.{put_fits}

local_cell : (scratch comm port : Bool) (s c p r : ℕ) → (scratch ≡ true → s < 2048) → (comm ≡ true → c < 512)
    → (port ≡ true → (p < 16) × (r < 16) × (r % 4 ≡ 0))
    → IfSome (cond scratch (Some (cell.Scratch s)) (cond comm (Some (cell.Comm c))
    (cond port (Some (cell.Port p r)) None))) IsInRange
local_cell true comm port s c p r hs hc hp = hs refl
local_cell false true port s c p r hs hc hp = hc refl
local_cell false false true s c p r hs hc hp = hp refl
local_cell false false false s c p r hs hc hp = tt

main_cell : (private shared : Bool) (p s : ℕ) → (private ≡ true → p < 65536) → (shared ≡ true → s < 4096)
    → IfSome (cond private (Some (cell.Private p)) (cond shared (Some (cell.Shared s)) None)) IsInRange
main_cell true shared p s hp hs = hp refl
main_cell false true p s hp hs = hs refl
main_cell false false p s hp hs = tt

-- a cell that an address names is in range
pub cell_in_range : (space : Space) (address : ℕ) → IfSome (cell_of space address) IsInRange
cell_in_range Local address = local_cell _ _ _ _ _ _ _ (λ h. grind (arith, nat_tests)) (λ h. grind (arith, nat_tests))
    (λ h. (grind (arith, nat_tests), grind (arith, nat_tests), grind (arith, nat_tests)))
cell_in_range Main address = main_cell _ _ _ _ (λ h. grind (arith, nat_tests)) (λ h. grind (arith, nat_tests))

-- the words of shared memory and of a core's communication memory are on the board
pub on_board : (words : ℕ) (x : Plain) (word : ℕ) → PlainFits words x → word < 512 → comm_word x.site.core word < words
on_board words x word h below =
    let among : x.site.core < x.site.cores =
    subst (λ n. x.site.core < n) h.cores (subst (λ n. n < x.interface.cores) h.core h.interface.among) in
    let next : 512 * x.site.core + 512 ≤ 512 * x.site.cores = omega (arith, among) in
    omega (arith, h.room)

pub shared_on_board : (words : ℕ) (x : Plain) (word : ℕ) → PlainFits words x → word < 4096 → word < words
shared_on_board words x word h below = omega (arith, h.room)

-- the words of a line of shared memory are on the board
abbrev pub LineFits : Cell → Type 0
LineFits (cell.Shared word) = word + 3 < 4096
LineFits _ = Unit {0}

main_line_fits : (private shared : Bool) (p s : ℕ) → (shared ≡ true → s + 3 < 4096)
    → IfSome (cond private (Some (cell.Private p)) (cond shared (Some (cell.Shared s)) None)) LineFits
main_line_fits true shared p s hs = tt
main_line_fits false true p s hs = hs refl
main_line_fits false false p s hs = tt

pub line_fits : (address : ℕ) → IfSome (cell_of Main (line_address address)) LineFits
line_fits address = main_line_fits _ _ _ _ (λ h. grind (arith, nat_tests))

-- the state with another interface, or scratchpad
pub interface_fits : (words : ℕ) (i : Interface) (c : Core) → InRange words c → ni.InRange i → i.core
    ≡ c.plain.interface.core → i.cores ≡ c.plain.interface.cores
    → InRange words (with_plain (λ x. record x { interface = i }) c)
interface_fits words i c h here core cores = record {
  plain = record {
    room = h.plain.room;
    code = h.plain.code;
    regs = h.plain.regs;
    stack = h.plain.stack;
    scratch = h.plain.scratch;
    private = h.plain.private;
    interface = here;
    core = core ∙ h.plain.core;
    cores = cores ∙ h.plain.cores;
    base = h.plain.base;
    offset = h.plain.offset;
    transfer = h.plain.transfer;
  };
  cached = h.cached;
}

pub scratch_fits : (words word value : ℕ) (c : Core) → InRange words c → IsWord value
    → InRange words (with_plain (λ x. record x { scratch = put word value x.scratch }) c)
scratch_fits words word value c h v = record {
  plain = record {
    room = h.plain.room;
    code = h.plain.code;
    regs = h.plain.regs;
    stack = h.plain.stack;
    scratch = put_fits word value c.plain.scratch v h.plain.scratch;
    private = h.plain.private;
    interface = h.plain.interface;
    core = h.plain.core;
    cores = h.plain.cores;
    base = h.plain.base;
    offset = h.plain.offset;
    transfer = h.plain.transfer;
  };
  cached = h.cached;
}

-- a start leaves an interface at its place
pub started_place : (answer : Started) (d count : ℕ) (x : Interface) → ((started_by answer d count x).core ≡ x.core)
    × ((started_by answer d count x).cores ≡ x.cores)
started_place Begun d count x = (refl, refl)
started_place Dropped d count x = (refl, refl)
started_place Refused d count x = (refl, refl)

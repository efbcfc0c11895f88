-- To be believed. The task by itself: what it does where only its own loads of words of the board are told, and nothing
-- of what its interface reads for packets. Of the interface it sees the registers, and how many words are left to send.
use Rattle.std.specs.Prelude.{ℕ, zero, suc, true, false, List, []}
use Rattle.slot_arbiter.specs.Stamp.{stamp}
use Rattle.shared_order.specs.Program.{fed, and_then}
use Rattle.shared_order.specs.Apart.{Alone, alone, gone_on}
use Rattle.argo_ni.specs.Interface.{Interface}
use Rattle.argo_ni.specs.Turn.{sends, injected}
use Rattle.patmos_model.specs.State.{Core}
use Rattle.patmos_model.specs.Cycle.{with_interface, own, settled}

-- the interface, and the core, without the packets that are under way
abbrev pub no_packets : Interface → Interface
no_packets x = record x { under_way = [] }

abbrev pub unsent : Core → Core
unsent c = with_interface c (no_packets c.plain.interface)

-- the interface's part of a cycle, as far as the task can tell: where a packet is sent, fewer words are left to send
abbrev pub counted_down : ℕ → Interface → Interface
counted_down cycle x = elim (sends x cycle) [ true ↦ no_packets (injected cycle [] x) | false ↦ no_packets x ]

abbrev pub unheard : ℕ → Core → Core
unheard cycle c = with_interface c (counted_down cycle c.plain.interface)

module _ (n core : ℕ) where
  -- the task's own part of a cycle, told what its own loads give
  abbrev pub task_turn : ℕ → Alone Core → Alone Core
  task_turn cycle a = gone_on
      (fed (stamp n core cycle 1) (and_then (own cycle (unheard cycle a.core)) settled) a.left) a.made

  -- the task of a core that begins as x after so many cycles, where its own loads give the values: the core without its
  -- packets, the values that are left, and the task's own operations
  abbrev pub task_apart : Core → List ℕ → ℕ → Alone Core
  task_apart x values zero = alone (unsent x) values
  task_apart x values (suc t) = task_turn t (task_apart x values t)

-- To be believed. Windows: time-division multiplexing of the network (Argo: Schoeberl et al., 2015; the schedule is
-- our own profile TP1's). A window begins every third cycle, and in the windows one after another a
-- core's turn comes to each of the others in the order of their distance from it. So no two cores
-- ever send to the same target in one window.
use Rattle.std.specs.Prelude.{ℕ, ◌+◌, ◌-◌, ◌/◌, ◌%◌, Bool, ◌&&◌, ◌==◌, nat_lt, nat_le, List}
use Rattle.argo_ni.specs.declared.port.Port.{Port}
use Rattle.argo_ni.specs.Port.{port_at}

-- the core, of n, to which the given core may send in the k-th window
abbrev pub target_in : ℕ → ℕ → ℕ → ℕ
target_in n core k = (core + (k % (n - 1) + 1)) % n

-- whether the core sends in the k-th window: with one core alone there is none to send to
abbrev pub is_used : ℕ → ℕ → List Port → ℕ → Bool
is_used n core ports k =
    nat_le 2 n && nat_lt 0 (port_at ports (target_in n core k)).channel.left

-- whether the core sends in the cycle: every third cycle begins a window
abbrev pub sends_in : ℕ → ℕ → List Port → ℕ → Bool
sends_in n core ports cycle = (cycle % 3 == 0) && is_used n core ports (cycle / 3)

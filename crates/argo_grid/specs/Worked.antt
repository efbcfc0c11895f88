-- For worked rows. Grids and schedules for worked values.
use Rattle.std.specs.Prelude.{ℕ, ◌+◌, [], ◌∷◌}
use Rattle.argo_ni.specs.Interface.{Interface, new_interface}
use Rattle.argo_ni.specs.Start.{with_source, with_target}
use Rattle.argo_grid.specs.declared.grid.Grid.{Grid}
use Rattle.argo_grid.specs.declared.grid.Entry.{Entry}
use Rattle.argo_grid.specs.declared.route.Router.{Router}
use Rattle.argo_grid.specs.Schedule.{Schedule}
use Rattle.argo_grid.specs.Transfer.{Cycle, set_target}

abbrev pub router : ℕ → ℕ → Router
router column row = record { column = column; row = row }

abbrev pub entry : ℕ → ℕ → ℕ → ℕ → Entry
entry slot from to arrive = record { slot = slot; from = from; to = to; arrive = arrive }

abbrev pub two_routers : Grid
two_routers = record { columns = 2; rows = 1 }

abbrev pub four_routers : Grid
four_routers = record { columns = 2; rows = 2 }

abbrev pub six_routers : Grid
six_routers = record { columns = 3; rows = 2 }

abbrev pub sixteen_in_a_row : Grid
sixteen_in_a_row = record { columns = 16; rows = 1 }

-- two routers that send to each other, where the first entry says when its packets arrive
abbrev pub both_ways : ℕ → Schedule
both_ways arrive = record { grid = two_routers; length = 1; entries = entry 0 0 1 arrive ∷ entry 0 1 0 9 ∷ [] }

-- four routers, round which four entries send; the fifth uses a link of the second in its slot
abbrev pub round_trip : Schedule
round_trip = record {
  grid = four_routers;
  length = 3;
  entries = entry 0 0 1 9 ∷ entry 0 1 2 12 ∷ entry 0 2 3 9 ∷ entry 0 3 0 12 ∷ entry 1 0 2 9 ∷ [];
}

-- two columns and three rows: the routes go through the link from router 1 to router 3, which the first
-- would not use if it went along its column first
abbrev pub crossing : Schedule
crossing = record {
  grid = record { columns = 2; rows = 3 };
  length = 8;
  entries = entry 0 0 3 12 ∷ entry 1 1 5 12 ∷ [];
}

-- the interface of core 0 of two, whose registers for core 1 say from word 4 to word 7
abbrev pub from_four_to_seven : Interface
from_four_to_seven = with_target 1 7 (with_source 1 4 (new_interface 2 0))

-- in each cycle the words that are read have the number of the cycle and the next one, and the core sets its
-- target register anew, which changes nothing of a transfer that is under way
abbrev pub busy : ℕ → Cycle
busy cycle = record { values = cycle ∷ (cycle + 1) ∷ []; touches = set_target 1 cycle ∷ [] }

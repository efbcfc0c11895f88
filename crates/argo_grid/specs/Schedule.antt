-- To be believed. A schedule of the network (Argo: Schoeberl et al., 2015): in each period of so many
-- slots of three cycles, each entry sends one packet.
use Rattle.std.specs.Prelude.{ℕ, ◌≤◌, List, length}
use Rattle.argo_grid.specs.declared.job.TheConstants.{MOST_ENTRIES, MOST_PERIOD}
use Rattle.argo_grid.specs.declared.grid.Grid.{Grid}
use Rattle.argo_grid.specs.declared.grid.Entry.{Entry}
use Rattle.argo_grid.specs.Grid.{routers}

-- the grid, the length of the period in slots, and the entries
pub record Schedule : Type 0 where
  pub grid : Grid
  pub length : ℕ
  pub entries : List Entry

-- a grid of 2 to 16 routers
pub record IsGrid (g : Grid) : Type 0 where
  pub columns : 1 ≤ g.columns
  pub rows : 1 ≤ g.rows
  pub least : 2 ≤ routers g
  pub most : routers g ≤ 16

-- a schedule of our own profile's sizes
pub record IsBounded (s : Schedule) : Type 0 where
  pub grid : IsGrid s.grid
  pub least : 1 ≤ s.length
  pub most : s.length ≤ MOST_PERIOD
  pub entries : length s.entries ≤ MOST_ENTRIES

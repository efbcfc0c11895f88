-- To be believed. A grid of routers, one for each core, in rows.
use Rattle.std.specs.Prelude.{ℕ, ◌*◌, ◌/◌, ◌%◌}
use Rattle.argo_grid.specs.declared.grid.Grid.{Grid}
use Rattle.argo_grid.specs.declared.route.Router.{Router}

-- how many routers, and so cores, there are
abbrev pub routers : Grid → ℕ
routers g = g.columns * g.rows

-- the router of a core: cores are counted row by row
abbrev pub router_of : Grid → ℕ → Router
router_of g core = record { column = core % g.columns; row = core / g.columns }

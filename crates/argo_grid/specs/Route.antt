-- To be believed. The way of a packet through the grid: first along the row of its sender to the column of its target,
-- and then along that column (X-then-Y routing; the links of a core into its router and back out of it count).
use Rattle.std.specs.Prelude.{ℕ, zero, suc, ◌+◌, ◌-◌, ◌==◌, nat_lt, if◌then◌else◌, List, [], ◌∷◌, ◌++◌}
use Rattle.std.specs.Int.{abs_diff}
use Rattle.argo_grid.specs.declared.grid.Grid.{Grid}
use Rattle.argo_grid.specs.declared.grid.Entry.{Entry}
use Rattle.argo_grid.specs.declared.route.Router.{Router}
use Rattle.argo_grid.specs.declared.route.Route.{Route}
use Rattle.argo_grid.specs.declared.route.Link.{Link}
use Rattle.argo_grid.specs.declared.route.Link.TheVariants.{Inject, Between, Eject}
use Rattle.argo_grid.specs.Grid.{router_of}

-- one step from a number toward another
abbrev pub toward : ℕ → ℕ → ℕ
toward from to = if nat_lt from to then from + 1 else from - 1

-- so many steps
abbrev pub moved : ℕ → ℕ → ℕ → ℕ
moved zero from to = from
moved (suc steps) from to = moved steps (toward from to) to

-- the router after this one on the way to another: a neighbour in the row until the column is reached, and
-- then one in the column
abbrev pub next_router : Router → Router → Router
next_router at to = if at.column == to.column
    then (record { column = at.column; row = toward at.row to.row })
    else (record { column = toward at.column to.column; row = at.row })

-- the router so many links on
abbrev pub router_after : ℕ → Router → Router → Router
router_after zero at to = at
router_after (suc links) at to = router_after links (next_router at to) to

-- how many links between neighbours lie between two routers
abbrev pub distance : Router → Router → ℕ
distance from to = abs_diff from.column to.column + abs_diff from.row to.row

-- the next so many links on the way
abbrev pub links_from : ℕ → Router → Router → List Link
links_from zero at to = []
links_from (suc left) at to = Between at (next_router at to) ∷ links_from left (next_router at to) to

-- the links of a route in their order
unfoldable pub links_of : Route → List Link
links_of r = Inject r.from ∷ links_from (distance r.start r.end) r.start r.end ++ Eject r.to ∷ []

-- the route from one core to another
abbrev pub route : Grid → ℕ → ℕ → Route
route g from to = record { from = from; to = to; start = router_of g from; end = router_of g to }

-- the links that each packet of an entry uses
abbrev pub links_for : Grid → Entry → List Link
links_for g e = links_of (route g e.from e.to)

-- To be believed. When a packet uses a link. An entry sends a packet in its slot of every period, for ever,
-- and the packet moves on by one link in every slot.
use Rattle.std.specs.Prelude.{◌≡◌, ℕ, ◌+◌, ◌*◌, ◌<◌, ◌≤◌, length, slice_get, Some}
use Rattle.argo_grid.specs.declared.grid.Grid.{Grid}
use Rattle.argo_grid.specs.declared.grid.Entry.{Entry}
use Rattle.argo_grid.specs.declared.route.Link.{Link}
use Rattle.argo_grid.specs.Route.{links_for}
use Rattle.argo_grid.specs.Schedule.{Schedule}

-- the cycle in which packet number j of an entry is sent, j from 0 without end
abbrev pub sent_at : Schedule → Entry → ℕ → ℕ
sent_at s e j = 3 * (e.slot + j * s.length)

-- how many cycles a packet of the entry is under way: three on each of its links
abbrev pub travel_time : Grid → Entry → ℕ
travel_time g e = 3 * length (links_for g e)

-- packet number j of the entry uses the link in the cycle: its i-th link, from 0, in the three cycles from
-- 3 * i cycles after it was sent
pub record Uses (s : Schedule) (e : Entry) (j : ℕ) (link : Link) (cycle : ℕ) : Type 0 where
  pub place : ℕ
  pub here : slice_get (links_for s.grid e) place ≡ Some link
  pub from : sent_at s e j + 3 * place ≤ cycle
  pub until : cycle < sent_at s e j + 3 * place + 3

-- some packet of the one entry and some packet of the other use one link in one cycle
pub record Meet (s : Schedule) (e other : Entry) : Type 0 where
  pub packet : ℕ
  pub other_packet : ℕ
  pub link : Link
  pub cycle : ℕ
  pub uses : Uses s e packet link cycle
  pub other_uses : Uses s other other_packet link cycle

-- To be believed. A run told by its bundles, and not by its cycles.
use Rattle.std.specs.Prelude.{ℕ, zero, suc, true, false, nat_lt, List, [], ◌∷◌, ◌++◌, filter, None}
use Rattle.patmos_model.specs.Site.{Site, method_at}
use Rattle.patmos_model.specs.Begin.{entry}
use Rattle.patmos_model.specs.State.{Core, is_running}
use Rattle.core_pace.specs.Moment.{Done, Moment, core_in, interfaced, before}
use Rattle.core_pace.specs.Next.{freed, all_moved, next}
use Rattle.core_pace.specs.Pace.{Pace, Event, came, events_in}

-- the pace before a task's first function is fetched
abbrev pub starting : Site → Pace
starting site = record {
  free = site.start;
  write = false;
  words = 0;
  line = None;
  accesses = [];
  misses = [];
  loads = [];
  held = 0;
}

-- the first event of a task: its first function is gone to
abbrev pub first_event : Site → Event
first_event site = came (method_at site.image (entry site.image))

-- the bundle at which a core is, if it has an event: one that a check stops has none, and is not done
abbrev pub done_with : List Event → Moment → List Done
done_with [] m = []
done_with (e ∷ es) m = record { base = (core_in m).plain.base; offset = (core_in m).plain.offset; cycle = m.cycle } ∷ []

-- the bundles that were done below a cycle
abbrev pub done_below : ℕ → List Done → List Done
done_below cycle bundles = filter (λ d. nat_lt d.cycle cycle) bundles

module _ (n core : ℕ) where
  -- the first moment in which a core that begins as x is about to do a bundle: its first function has been fetched
  abbrev pub first_moment : Core → List ℕ → Moment
  first_moment x values = all_moved n core (freed n core (interfaced n core (before n core x values 0)))

  -- one bundle further; a core that does not run stays
  abbrev pub onward : Moment → Moment
  onward m = elim (is_running (core_in m).plain) [ true ↦ next n core m | false ↦ m ]

  -- the moment after so many bundles
  abbrev pub after_bundles : Core → List ℕ → ℕ → Moment
  after_bundles x values zero = first_moment x values
  after_bundles x values (suc count) = onward (after_bundles x values count)

  -- the events from a moment on: none where the core does not run
  abbrev pub events_onward : Moment → List Event
  events_onward m = elim (is_running (core_in m).plain) [ true ↦ events_in n core m | false ↦ [] ]

  -- the events of so many bundles
  abbrev pub past : Core → List ℕ → ℕ → List Event
  past x values zero = first_event x.plain.site ∷ []
  past x values (suc count) = past x values count ++ events_onward (after_bundles x values count)

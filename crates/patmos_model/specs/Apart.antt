-- To be believed. The run apart of a core: what it does by itself, with its interface, when its loads of words of the
-- board give the values of a list, and 0 where the list has ended. What others deliver is not seen but
-- by these values. Times and meanings of tasks are told of this run.
use Rattle.std.specs.Prelude.{ℕ, zero, suc, List, [], ◌++◌}
use Rattle.slot_arbiter.specs.declared.place.Place.{Place}
use Rattle.slot_arbiter.specs.Stamp.{stamp}
use Rattle.shared_order.specs.declared.operation.Operation.{Operation}
use Rattle.shared_order.specs.Program.{Prog, done, Fed, fed, and_then}
use Rattle.shared_order.specs.Apart.{Alone, alone, gone_on, apart}
use Rattle.argo_ni.specs.Turn.{injection}
use Rattle.patmos_code.specs.Images.{Parts}
use Rattle.patmos_model.specs.Site.{Site}
use Rattle.patmos_model.specs.State.{Core, Sending}
use Rattle.patmos_model.specs.Begin.{begun}
use Rattle.patmos_model.specs.Cycle.{with_interface, own, settled, delivered, turn}

-- the core of a place whose task has this image
abbrev pub site_of : Place → Parts → Site
site_of place image = record {
  cores = place.cores;
  core = place.core;
  slot = place.slot;
  table = place.table;
  start = place.start;
  image = image;
}

-- the core that began as x after so many cycles, where its loads give these values
abbrev pub apart_from : Core → List ℕ → ℕ → Alone Core
apart_from x values cycles = apart turn x.plain.site.cores x.plain.site.core x values cycles

-- the core at a place with an image and an input after so many cycles, where its loads give these values
abbrev pub apart_at : Place → Parts → List ℕ → List ℕ → ℕ → Alone Core
apart_at place image input values cycles =
    apart turn place.cores place.core (begun (site_of place image) input) values cycles

-- the transfers over the network that it has asked for until then: its stores to a count register, in
-- their order
abbrev pub sendings_at : Place → Parts → List ℕ → List ℕ → ℕ → List Sending
sendings_at place image input values cycles = (apart_at place image input values cycles).core.seen.sendings

-- A run apart, and beside it the operations that the task itself made: those of its own act in each
-- cycle, without what its interface reads for packets and delivers.
pub record Followed : Type 0 where
  pub run : Alone Core
  pub own : List Operation

-- the injection of a cycle by itself
abbrev pub injected : ℕ → Core → Prog Core
injected cycle c = and_then (injection cycle c.plain.interface) (λ i. done (with_interface c i))

-- one phase further, in which the task itself does nothing, or something
abbrev pub by_interface : Fed Core → Followed → Followed
by_interface p f = record f { run = gone_on p f.run.made }

abbrev pub by_task : Fed Core → Followed → Followed
by_task p f = record { run = gone_on p f.run.made; own = f.own ++ p.ops }

module _ (n core : ℕ) where
  -- the deliveries of a cycle, its injection, and the task's own part
  abbrev pub after_delivery : ℕ → Followed → Followed
  after_delivery cycle f =
      by_interface (fed (stamp n core cycle 0) (delivered cycle f.run.core) f.run.left) f

  abbrev pub after_injection : ℕ → Followed → Followed
  after_injection cycle f =
      by_interface (fed (stamp n core cycle 1) (injected cycle f.run.core) f.run.left) f

  abbrev pub after_own : ℕ → Followed → Followed
  after_own cycle f =
      by_task (fed (stamp n core cycle 1) (and_then (own cycle f.run.core) settled) f.run.left) f

  -- a core that begins as x, after so many cycles
  abbrev pub followed : Core → List ℕ → ℕ → Followed
  followed x values zero = record { run = alone x values; own = [] }
  followed x values (suc t) = after_own t (after_injection t (after_delivery t (followed x values t)))

-- the operations of the task itself
abbrev pub own_operations : Place → Parts → List ℕ → List ℕ → ℕ → List Operation
own_operations place image input values cycles =
    (followed place.cores place.core (begun (site_of place image) input) values cycles).own

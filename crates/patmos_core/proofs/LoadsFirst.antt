-- In an event loads stand before stores.
use Rattle.std.proofs.Common.{◌≡◌, ℕ, zero, suc, ◌+◌, true, false, List, [], ◌∷◌, ◌++◌, append-nil, refl, sym, subst, Option, None, Some}
use Rattle.std.specs.List.{AllByRecursion as Each}
use Rattle.shared_order.proofs.Lists.{each-append}
use Rattle.slot_arbiter.specs.declared.event.WordOp.{WordOp}
use Rattle.argo_ni.specs.Packet.{comm_word}
use Rattle.patmos_step.specs.declared.ask.Ask.{Ask}
use Rattle.patmos_step.specs.declared.ask.Ask.TheVariants as asks
use Rattle.patmos_step.specs.Asks.{ops_of}
use Rattle.patmos_core.specs.declared.window.Window.{Window}
use Rattle.patmos_core.specs.Events.{LoadsFirst, loads_from, stores_from, window_asks}

abbrev AreLoads : List WordOp → Type 0
AreLoads acts = Each (λ o. o.write ≡ false) acts

loads_are : (word count : ℕ) → AreLoads (loads_from word count)
loads_are word zero = tt
loads_are word (suc count) = (refl, loads_are (word + 1) count)

stores_are : (word : ℕ) (values : List ℕ) → Each (λ o. o.write ≡ true) (stores_from word values)
stores_are word [] = tt
stores_are word (value ∷ values) = (refl, stores_are (word + 1) values)

window_loads : (core : ℕ) (window : Option Window) → AreLoads (window_asks core window)
window_loads core None = tt
window_loads core (Some w) = loads_are (comm_word core w.first) w.count

-- where all are loads
only_loads : (acts : List WordOp) → AreLoads acts → LoadsFirst acts
only_loads acts all =
    record { loads = acts; stores = []; whole = sym (append-nil acts); all_loads = all; all_stores = tt }

-- a packet that comes is stores
pub delivery_loads_first : (word : ℕ) (values : List ℕ) (acts : List WordOp) → acts ≡ stores_from word values
    → LoadsFirst acts
delivery_loads_first word values acts is = record {
  loads = [];
  stores = acts;
  whole = refl;
  all_loads = tt;
  all_stores = subst (Each (λ o. o.write ≡ true)) (sym is) (stores_are word values);
}

-- in an act the packet that is sent is loaded first, and then comes what the core's own act asks for
own_loads_first : (core : ℕ) (window : Option Window) (ask : Ask) → LoadsFirst (window_asks core window ++ ops_of ask)
own_loads_first core window asks.Nothing =
    only_loads _ (each-append (λ o. o.write ≡ false) (window_asks core window) [] (window_loads core window) tt)
own_loads_first core window (asks.Load word) = only_loads _ (each-append (λ o. o.write ≡ false)
    (window_asks core window) (ops_of (asks.Load word)) (window_loads core window) (refl, tt))
own_loads_first core window (asks.Line word) = only_loads _ (each-append (λ o. o.write ≡ false)
    (window_asks core window) (ops_of (asks.Line word)) (window_loads core window) (refl, (refl, (refl, (refl, tt)))))
own_loads_first core window (asks.Change word) = only_loads _ (each-append (λ o. o.write ≡ false)
    (window_asks core window) (ops_of (asks.Change word)) (window_loads core window) (refl, tt))
own_loads_first core window (asks.Store word value) =
    record {
      loads = window_asks core window;
      stores = ops_of (asks.Store word value);
      whole = refl;
      all_loads = window_loads core window;
      all_stores = (refl, tt);
    }

pub act_loads_first : (core : ℕ) (window : Option Window) (ask : Ask) (acts : List WordOp) → acts
    ≡ window_asks core window ++ ops_of ask → LoadsFirst acts
act_loads_first core window ask acts is = subst LoadsFirst (sym is) (own_loads_first core window ask)

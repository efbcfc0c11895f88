-- For worked rows. A core that does nothing but fill its communication memory and start transfers, for worked values.
use Rattle.std.specs.Prelude.{ℕ, zero, suc, true, false, ◌==◌, List, [], ◌∷◌}
use Rattle.shared_order.specs.Program.{Prog, done, and_then, sets}
use Rattle.argo_ni.specs.Packet.{comm_word}
use Rattle.argo_ni.specs.Interface.{Interface, new_interface}
use Rattle.argo_ni.specs.Start.{with_source, with_target, started}
use Rattle.argo_ni.specs.Turn.{delivery, injection}

-- in a cycle, a transfer of that many words from the own word `from` to the target's word `to`
pub record Order : Type 0 where
  pub cycle : ℕ
  pub target : ℕ
  pub from : ℕ
  pub to : ℕ
  pub count : ℕ

-- the interface, the values that the core stores in its communication memory in cycle 0, and what it
-- orders
pub record Sender : Type 0 where
  pub interface : Interface
  pub values : List ℕ
  pub orders : List Order

-- the interface after the transfers that are ordered in the cycle
abbrev pub ordered : ℕ → List Order → Interface → Interface
ordered cycle [] x = x
ordered cycle (o ∷ os) x = ordered cycle os (elim (o.cycle == cycle) [
  | true ↦ started o.target o.count (with_target o.target o.to (with_source o.target o.from x))
  | false ↦ x
])

-- the core's own part of a cycle
abbrev pub own : ℕ → Sender → Prog Sender
own zero s = sets (comm_word s.interface.core 0) s.values (done s)
own (suc cycle) s = done (record s { interface = ordered (suc cycle) s.orders s.interface })

-- both phases of a cycle
abbrev pub sender_turn : ℕ → ℕ → Sender → Prog Sender
sender_turn zero cycle s =
    and_then (delivery cycle s.interface) (λ x. done (record s { interface = x }))
sender_turn (suc phase) cycle s =
    and_then (injection cycle s.interface) (λ x. own cycle (record s { interface = x }))

-- core number `core` of n, with these values and orders
abbrev pub sender : ℕ → ℕ → List ℕ → List Order → Sender
sender n core values orders =
    record { interface = new_interface n core; values = values; orders = orders }

-- Of two cores, core 0 sends its words 0 to 2 to the words from 5 on of core 1. It starts that in
-- cycle 10, and starts again in cycle 13, while a word is left, and in cycle 16.
abbrev pub of_two : ℕ → Sender
of_two zero = sender 2 0 (7 ∷ 8 ∷ 9 ∷ []) (
    record { cycle = 10; target = 1; from = 0; to = 5; count = 3 }
    ∷ record { cycle = 13; target = 1; from = 0; to = 9; count = 1 }
    ∷ record { cycle = 16; target = 1; from = 2; to = 9; count = 1 }
    ∷ []
    )
of_two (suc core) = sender 2 1 [] []

-- of three cores, cores 0 and 1 each start in cycle 10 to send a word to word 7 of core 2
abbrev pub of_three : ℕ → Sender
of_three zero = sender 3 0 (3 ∷ []) (
    record { cycle = 10; target = 2; from = 0; to = 7; count = 1 } ∷ []
    )
of_three (suc zero) = sender 3 1 (4 ∷ []) (
    record { cycle = 10; target = 2; from = 0; to = 7; count = 1 } ∷ []
    )
of_three (suc (suc core)) = sender 3 2 [] []

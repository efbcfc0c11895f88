-- To be believed. The order of faults, and the least of a list (our subset).
use Rattle.std.specs.Prelude.{ℕ, ◌==◌, nat_lt, ◌&&◌, ◌||◌, Bool, if◌then◌else◌, List, [], ◌∷◌, Option, None, Some}
use Rattle.c_tree.specs.declared.checks.CheckFault.{CheckFault}
use Rattle.c_tree.specs.declared.checks.CheckFault.TheVariants as fault
use Rattle.c_tree.specs.declared.checks.Fault.{Fault}

abbrev pub fault_number : CheckFault → ℕ
fault_number kind = elim kind [
  | fault.Unknown ↦ 1
  | fault.Twice ↦ 2
  | fault.WrongType ↦ 3
  | fault.NoBound ↦ 4
  | fault.BoundRange ↦ 5
  | fault.Recursion ↦ 6
  | fault.Params ↦ 7
  | fault.Deep ↦ 8
  | fault.Frame ↦ 9
  | fault.Heavy ↦ 10
  | fault.Data ↦ 11
  | fault.Scratch ↦ 12
  | fault.Target ↦ 13
  | fault.NoMain ↦ 14
]

-- the earlier place comes first, and at one place the lesser number
abbrev pub is_before : Fault → Fault → Bool
is_before a b = nat_lt a.at b.at || (a.at == b.at && nat_lt (fault_number a.kind) (fault_number b.kind))

-- the lesser of what was found so far and one fault more
abbrev pub lesser : Option Fault → Fault → Option Fault
lesser None fault = Some fault
lesser (Some least) fault = if is_before fault least then Some fault else Some least

-- the least of these and of what was found so far
abbrev pub least_with : Option Fault → List Fault → Option Fault
least_with least [] = least
least_with least (fault ∷ faults) = least_with (lesser least fault) faults

abbrev pub least_of : List Fault → Option Fault
least_of faults = least_with None faults

-- the fault, where it holds
abbrev pub where_so : Bool → ℕ → CheckFault → List Fault
where_so holds at kind = if holds then record { at = at; kind = kind } ∷ [] else []

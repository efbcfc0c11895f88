-- To be believed. What a value of a TOML tree stands for, or what is wrong with it.
use Rattle.std.specs.Prelude.{◌≡◌, ℕ, ℤ, pos, negsuc, ◌&&◌, nat_le, if◌then◌else◌, List, [], ◌∷◌, Option, Some, None, Result, Ok, Err}
use Rattle.toml.specs.Data.{Data, as_str, as_integer, as_array, as_table, Items, no_items, item, Members}
use Rattle.tc_toml.specs.declared.fault.JobFault.{JobFault}
use Rattle.tc_toml.specs.declared.fault.JobFault.TheVariants as faults
use Rattle.tc_toml.specs.declared.fault.Refusal.{Refusal}
use Rattle.tc_toml.specs.declared.fault.Refusal.TheVariants as refusals

-- a call refused a value that is at fault, with that fault, unless memory ran out
abbrev pub IsRefusedBy : {B : Type 0} → Refusal → Result B JobFault → Type 0
IsRefusedBy refusals.Memory read = Unit {0}
IsRefusedBy (refusals.Fault fault) read = read ≡ Err fault

-- what a call answered, seen by a view, is what is read in the value
abbrev pub Reads : {A B : Type 0} → (A → B) → Result A Refusal → Result B JobFault → Type 0
Reads view (Ok x) read = read ≡ Ok (view x)
Reads view (Err refusal) read = IsRefusedBy refusal read

-- what is there, or the fault of what is not
abbrev pub given : {A : Type 0} → JobFault → Option A → Result A JobFault
given fault None = Err fault
given fault (Some x) = Ok x

-- an integer from low to high
abbrev pub integer_in : ℕ → ℕ → Option ℤ → Result ℕ JobFault
integer_in low high None = Err faults.Kind
integer_in low high (Some (pos n)) = if nat_le low n && nat_le n high then Ok n else Err faults.Range
integer_in low high (Some (negsuc n)) = Err faults.Range

-- the integer at a key that must be there
abbrev pub number_of : ℕ → ℕ → Option Data → Result ℕ JobFault
number_of low high None = Err faults.Missing
number_of low high (Some d) = integer_in low high (as_integer d)

-- the integer at a key that may be left out, and then stands for a number
abbrev pub number_or : ℕ → ℕ → ℕ → Option Data → Result ℕ JobFault
number_or left_out low high None = Ok left_out
number_or left_out low high (Some d) = integer_in low high (as_integer d)

-- the string at a key that must be there
abbrev pub text_of : Option Data → Result (List ℕ) JobFault
text_of None = Err faults.Missing
text_of (Some d) = given faults.Kind (as_str d)

-- one more in front, where it and the others are there
abbrev pub in_front : {A : Type 0} → Option A → Option (List A) → Option (List A)
in_front None others = None
in_front (Some x) None = None
in_front (Some x) (Some xs) = Some (x ∷ xs)

-- what f finds in each element, where it finds something in all
abbrev pub each_of : {A B : Type 0} → (A → Option B) → List A → Option (List B)
each_of f [] = Some []
each_of f (x ∷ xs) = in_front (f x) (each_of f xs)

-- what f finds in each item of an array, where it finds something in all
abbrev pub each_item : {A : Type 0} → (Data → Option A) → Items → Option (List A)
each_item f no_items = Some []
each_item f (item d ds) = in_front (f d) (each_item f ds)

-- the items of an array in which f finds something in all
abbrev pub array_of : {A : Type 0} → (Data → Option A) → Option Items → Result (List A) JobFault
array_of f None = Err faults.Kind
array_of f (Some ds) = given faults.Kind (each_item f ds)

-- an array of integers
abbrev pub integers_in : Data → Result (List ℤ) JobFault
integers_in d = array_of as_integer (as_array d)

-- an array of tables, which may be left out, and then has none
abbrev pub tables_of : Option Data → Result (List Members) JobFault
tables_of None = Ok []
tables_of (Some d) = array_of as_table (as_array d)

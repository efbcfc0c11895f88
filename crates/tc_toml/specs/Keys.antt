-- To be believed. Which keys may stand in a table, and which unknown one is reported: the least by bytes, whatever the order
-- of the members.
use Rattle.std.specs.Prelude.{ℕ, Bool, if◌then◌else◌, List, Option, Some, None, Result, Ok, Err}
use Rattle.std.specs.Cmp.Lexicographic.{slice_cmp}
use Rattle.std.specs.Ordering.{is_lt, nat_cmp}
use Rattle.toml.specs.Data.{Members, no_members, member}
use Rattle.tc_toml.specs.declared.fault.JobFault.TheVariants as faults
use Rattle.tc_toml.specs.Fault.{Fault}

-- the lesser of two keys by bytes, of which a prefix is less than what it begins
abbrev pub lesser : List ℕ → Option (List ℕ) → List ℕ
lesser key None = key
lesser key (Some other) = if is_lt (slice_cmp nat_cmp other key) then other else key

-- the least key that is none of those that may stand there
abbrev pub least_unknown : (List ℕ → Bool) → Members → Option (List ℕ)
least_unknown is_key no_members = None
least_unknown is_key (member key d others) =
    if is_key key then least_unknown is_key others else Some (lesser key (least_unknown is_key others))

-- every key may stand there, or the least that may not is at fault
abbrev pub all_known : Option ℕ → Option (List ℕ) → Result (Unit {0}) Fault
all_known task None = Ok tt
all_known task (Some key) = Err (record { kind = faults.Key; task = task; key = key })

abbrev pub known_keys : (List ℕ → Bool) → Option ℕ → Members → Result (Unit {0}) Fault
known_keys is_key task ms = all_known task (least_unknown is_key ms)

-- the first unknown key, which is the least where the members stand in the order of their keys
abbrev pub first_unknown : (List ℕ → Bool) → Members → Option (List ℕ)
first_unknown is_key no_members = None
first_unknown is_key (member key d others) = if is_key key then first_unknown is_key others else Some key

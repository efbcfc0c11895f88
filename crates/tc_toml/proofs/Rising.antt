-- The least unknown key of members that stand in the order of their keys is the first.
use Rattle.std.proofs.Common.{◌≡◌, ℕ, Bool, true, false, ◌&&◌, cond, nat_cmp, Ordering, Less, Equal, Greater, List, [], ◌∷◌, Option, Some, None, Result, Err, string_bytes, refl, ap}
use Rattle.std.proofs.lemmas.Bool.{and_parts}
use Rattle.std.proofs.lemmas.Cmp.{nat_list_cmp_total}
use Rattle.std.specs.Cmp.Lexicographic.{slice_cmp}
use Rattle.std.specs.List.Sorted.{IsStrictlySortedBy}
use Rattle.std.specs.Map.{keys_of}
use Rattle.std.specs.Ordering.{is_lt}
use Rattle.std.specs.String.{string_cmp}
use Rattle.toml.proofs.Views.{Entry, is_before-sorted}
use Rattle.toml.specs.Data.{Members, no_members, member, is_before, is_sorted, members_are_sorted}
use Rattle.toml.specs.View.{members_view}
use Rattle.tc_toml.specs.declared.fault.JobFault.{JobFault}
use Rattle.tc_toml.specs.declared.fault.JobFault.TheVariants as faults
use Rattle.tc_toml.specs.declared.fault.JobError.{JobError}
use Rattle.tc_toml.specs.declared.fault.JobError.TheVariants as errors
use Rattle.tc_toml.specs.Fault.{Fault, Fails, IsReported}
use Rattle.tc_toml.specs.Keys.{lesser, least_unknown, first_unknown, known_keys}

-- each key is before those after it
abbrev pub keys_rise : Members → Bool
keys_rise no_members = true
keys_rise (member k d ms) = is_before k ms && keys_rise ms

less_of : (o : Ordering) → is_lt o ≡ true → o ≡ Less
less_of Less h = refl
less_of Equal h = absurd (cc)
less_of Greater h = absurd (cc)

-- what is after a key is not the lesser one
stays_lesser : (key : List ℕ) (later : Option (List ℕ)) → ((other : List ℕ) → later ≡ Some other
    → slice_cmp nat_cmp key other ≡ Less) → lesser key later ≡ key
stays_lesser key None after = refl
stays_lesser key (Some other) after = rw (nat_list_cmp_total.antisymm other key, after other refl) refl

-- the first unknown key of members that are after a key is after it
first_after : (is_key : List ℕ → Bool) (key : List ℕ) (ms : Members) (other : List ℕ) → is_before key ms ≡ true
    → keys_rise ms ≡ true → first_unknown is_key ms ≡ Some other → slice_cmp nat_cmp key other ≡ Less
first_after is_key key no_members other before rise found = absurd (cc)
first_after is_key key (member k d ms) other before rise found =
    let (next, more) = and_parts (is_before k ms) (keys_rise ms) rise in
    by (is_key k) (less_of (slice_cmp nat_cmp key k) before) (λ later. first_after is_key k ms other next more later)
    found
  where
    by : (known : Bool) → slice_cmp nat_cmp key k ≡ Less → (first_unknown is_key ms ≡ Some other
        → slice_cmp nat_cmp k other ≡ Less)
        → cond known (first_unknown is_key ms) (Some k) ≡ Some other → slice_cmp nat_cmp key other ≡ Less
    by true here rest later = nat_list_cmp_total.trans key k other here (rest later)
    by false here rest same = let it : k ≡ other = cc in rw (← it) here

pub least_is_first : (is_key : List ℕ → Bool) (ms : Members) → keys_rise ms ≡ true → least_unknown is_key ms
    ≡ first_unknown is_key ms
least_is_first is_key no_members rise = refl
least_is_first is_key (member k d ms) rise =
    let (next, more) = and_parts (is_before k ms) (keys_rise ms) rise in
    by (is_key k) (least_is_first is_key ms more) (stays_lesser k (first_unknown is_key ms)
    (λ other found. first_after is_key k ms other next more found))
  where
    by : (known : Bool) → least_unknown is_key ms ≡ first_unknown is_key ms → lesser k (first_unknown is_key ms) ≡ k
        → cond known (least_unknown is_key ms) (Some (lesser k (least_unknown is_key ms)))
        ≡ cond known (first_unknown is_key ms) (Some k)
    by true same least = same
    by false same least = rw same (ap Some least)

-- members that `toml` calls sorted rise
pub rise_of_sorted : (ms : Members) → members_are_sorted ms ≡ true → keys_rise ms ≡ true
rise_of_sorted no_members sorted = refl
rise_of_sorted (member k d ms) sorted =
    let (here, more) = and_parts (is_before k ms && is_sorted d) (members_are_sorted ms) sorted in
    let (before, inside) = and_parts (is_before k ms) (is_sorted d) here in
    rw (before, rise_of_sorted ms more) refl

-- and so do the entries of a map
rise_of_entries : (es : List Entry) → IsStrictlySortedBy string_cmp (keys_of es) → keys_rise (members_view es) ≡ true
unfolding IsStrictlySortedBy
rise_of_entries [] sorted = refl
rise_of_entries (e ∷ es) sorted = rw (is_before-sorted e.0 es sorted.0, rise_of_entries es sorted.1) refl

-- a call that reports what is at fault refuses with it
pub fails_reported : {B : Type 0} (fault : JobFault) (task : Option ℕ) (key : List ℕ) (error : JobError)
    (read : Result B Fault) → IsReported fault task key error → read
    ≡ Err (record { kind = fault; task = task; key = key }) → Fails error read
fails_reported fault task key errors.Memory read told is = tt
fails_reported fault task key (errors.Fault k t name) read told is = rw (told.0, told.1, told.2) is

-- the first unknown key of a map's entries is at fault
pub unknown_key : (is_key : List ℕ → Bool) (task : Option ℕ) (e : Entry) (es : List Entry)
    → IsStrictlySortedBy string_cmp (keys_of (e ∷ es)) → is_key (string_bytes e.0) ≡ false
    → known_keys is_key task (members_view (e ∷ es))
    ≡ Err (record { kind = faults.Key; task = task; key = string_bytes e.0 })
unknown_key is_key task e es sorted unknown =
    rw (least_is_first is_key (members_view (e ∷ es)) (rise_of_entries (e ∷ es) sorted), unknown) refl

pub known_key : (is_key : List ℕ → Bool) (task : Option ℕ) (e : Entry) (es : List Entry)
    → is_key (string_bytes e.0) ≡ true
    → known_keys is_key task (members_view (e ∷ es)) ≡ known_keys is_key task (members_view es)
known_key is_key task e es known = rw known refl

pub later_keys : (e : Entry) (es : List Entry) → IsStrictlySortedBy string_cmp (keys_of (e ∷ es))
    → IsStrictlySortedBy string_cmp (keys_of es)
unfolding IsStrictlySortedBy
later_keys e es sorted = sorted.1

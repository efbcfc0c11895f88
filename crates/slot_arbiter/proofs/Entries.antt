-- What a slot table says of one core.
use Rattle.std.proofs.Common.{◌≡◌, ℕ, ◌+◌, ◌<◌, ◌≤◌, Bool, true, false, ◌&&◌, List, ◌∷◌, zero, suc, length, ap, sym, ◌∙◌, refl, arith, take, drop, replicate, ◌++◌, ◌-◌, ◌==◌, nat_lt, zero-add, get_or, length-append}
use Rattle.std.specs.List.{list_all, range_with_len, AllPass}
use Rattle.std.proofs.lemmas.List.Sums.{AllPass-from_list_all}
use Rattle.std.proofs.lemmas.List.FromFn.{length-range_with_len, get_or-range_with_len}
use Rattle.std.proofs.lemmas.List.Sums.{list_all-from_AllPass}
use Rattle.std.proofs.lemmas.List.Folds.{list_any_at}
use Rattle.std.proofs.lemmas.List.{drop-replicate}
use Rattle.std.proofs.lemmas.Bool.{eq-eqb}
use Rattle.std.proofs.lemmas.Bool.Decides.{nat_tests}
use Rattle.std.proofs.Math.Seq.{take-append_seam}
use Rattle.slot_arbiter.specs.Table.{has_entry, is_size, is_table, IsPadded}

last : (a b : Bool) → (a && b) ≡ true → b ≡ true
last true b h = h
last false b h = cc

-- each core of a table has an entry
pub owner_has_entry : (cores core : ℕ) (table : List ℕ) → is_table cores table ≡ true → core < cores
    → has_entry table core ≡ true
owner_has_entry cores core table h among =
    let all : list_all (has_entry table) (range_with_len 0 cores) ≡ true = last _ _ h in
    let pass : AllPass (has_entry table) (range_with_len 0 cores) =
    AllPass-from_list_all (has_entry table) (range_with_len 0 cores) all in
    let inside : core < length (range_with_len 0 cores) = rw length-range_with_len among in
    sym (ap (has_entry table) (get_or-range_with_len 0 cores core 0 among ∙ zero-add core)) ∙ pass core 0 inside

three : (a b c : Bool) → a ≡ true → b ≡ true → c ≡ true → (a && b && c) ≡ true
three a b c p q r = cc

-- the cores in their order are a table
pub in_turn_is_table : (n : ℕ) → 1 ≤ n → n ≤ 16 → is_table n (range_with_len 0 n) ≡ true
in_turn_is_table n some most =
    let order : List ℕ = range_with_len 0 n in
    let size : length order ≡ n = length-range_with_len 0 n in
    let counts : is_size n (length order) ≡ true = grind (arith, nat_tests) in
    let entries : list_all (λ entry. nat_lt entry n) order ≡ true =
    list_all-from_AllPass (λ entry. nat_lt entry n) order (λ k d below.
    let among : k < n = omega (arith, size) in
    ap (λ entry. nat_lt entry n) (get_or-range_with_len 0 n k d among) ∙ grind (arith, nat_tests)) in
    let cores : list_all (has_entry order) order ≡ true =
    list_all-from_AllPass (has_entry order) order (λ k d below.
    list_any_at (λ entry. entry == get_or order k d) order k d below
    (eq-eqb (get_or order k d) (get_or order k d) refl)) in
    three _ _ _ counts entries cores

pub take-range : (a m n : ℕ) → m ≤ n → take m (range_with_len a n) ≡ range_with_len a m
take-range a zero n h = refl
take-range a (suc m) zero h = absurd (omega arith)
take-range a (suc m) (suc n) h = ap (λ rest. a ∷ rest) (take-range (a + 1) m n (omega arith))

-- entries before zeros are a padded table
pub padded_copy : (xs prefix back : List ℕ) → 1 ≤ length xs → length xs ≤ 64 → prefix ≡ xs → back
    ≡ drop (length xs) (replicate 64 0) → IsPadded (length xs) (prefix ++ back)
padded_copy xs prefix back some most same zeros =
    let first : take (length xs) (prefix ++ back) ≡ xs =
    ap (λ f. take (length xs) (f ++ back)) same ∙ take-append_seam xs back in
    record {
      some = some;
      most = most;
      held = simp length-append (omega (arith, ap length same));
      rest = ap (λ f. f ++ back) same ∙ ap (λ b. xs ++ b) (zeros ∙ drop-replicate (length xs) 64 0)
          ∙ ap (λ f. f ++ replicate (64 - length xs) 0) (sym first);
    }

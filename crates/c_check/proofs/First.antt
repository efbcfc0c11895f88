-- The least of a list of faults: one of them, with none before it.
use Rattle.std.proofs.Common.{◌≡◌, ℕ, suc, Bool, true, false, List, [], ◌∷◌, None, Some, refl, sym, ◌⊎◌, inl, inr, ⊎_elim, arith}
use Rattle.std.specs.Prelude.{◌==◌, ◌&&◌, ◌||◌, nat_lt, if◌then◌else◌, IsTrue}
use Rattle.std.specs.List.{All, Contains}
use Rattle.std.proofs.lemmas.Bool.Decides.{nat_tests}
use Rattle.std.proofs.lemmas.List.Elements.{All-cons, All-nil}
use Rattle.c_tree.specs.declared.checks.Fault.{Fault}
use Rattle.c_tree.specs.Least.{is_before, fault_number, least_of, least_with}
use Rattle.c_tree.specs.Valid.{has_none}

-- ---- the order

abbrev pub comes_first : ℕ → ℕ → ℕ → ℕ → Bool
comes_first a p b q = nat_lt a b || (a == b && nat_lt p q)

not_first_itself : (a p : ℕ) → comes_first a p a p ≡ false
not_first_itself a p = grind (arith, nat_tests)

not_both_first : (a p b q : ℕ) → comes_first a p b q ≡ true → comes_first b q a p ≡ false
not_both_first a p b q h = grind (arith, nat_tests)

not_first_through : (a p b q c r : ℕ) → comes_first a p b q ≡ false → comes_first b q c r ≡ false
    → comes_first a p c r ≡ false
not_first_through a p b q c r h k = grind (arith, nat_tests)

not_itself : (f : Fault) → is_before f f ≡ false
not_itself f = not_first_itself f.at (fault_number f.kind)

not_both : (f g : Fault) → is_before f g ≡ true → is_before g f ≡ false
not_both f g h = not_both_first f.at (fault_number f.kind) g.at (fault_number g.kind) h

not_through : (f g h : Fault) → is_before f g ≡ false → is_before g h ≡ false → is_before f h ≡ false
not_through f g h a b =
    not_first_through f.at (fault_number f.kind) g.at (fault_number g.kind) h.at (fault_number h.kind) a b

-- ---- the least

contains_more : (f x : Fault) (faults : List Fault) → Contains faults f → Contains (x ∷ faults) f
contains_more f x faults (k, within, is) = (suc k, omega arith, is)

contains_head : (f x : Fault) (faults : List Fault) → f ≡ x → Contains (x ∷ faults) f
contains_head f x faults same = (0, omega arith, sym same)

-- the fault is the least of a list and of what was the least before
record IsLeastOf (least f : Fault) (faults : List Fault) : Type 0 where
  pub among : (f ≡ least) ⊎ Contains faults f
  pub first : is_before least f ≡ false
  pub rest : All (λ g. is_before g f ≡ false) faults

least_next : (b : Bool) (x least f : Fault) (faults : List Fault) → is_before x least ≡ b
    → (least_with (Some x) faults ≡ Some f → IsLeastOf x f faults) → (least_with (Some least) faults ≡ Some f
    → IsLeastOf least f faults)
    → least_with (if b then Some x else Some least) faults ≡ Some f → IsLeastOf least f (x ∷ faults)
least_next true x least f faults is from_x from_least e =
    let t : IsLeastOf x f faults = from_x e in
    record {
      among = inr (⊎_elim (contains_head f x faults) (contains_more f x faults) t.among);
      first = not_through least x f (not_both x least is) t.first;
      rest = All-cons (λ g. is_before g f ≡ false) x faults t.first t.rest;
    }
least_next false x least f faults is from_x from_least e =
    let t : IsLeastOf least f faults = from_least e in
    record {
      among = ⊎_elim inl (λ c. inr (contains_more f x faults c)) t.among;
      first = t.first;
      rest = All-cons (λ g. is_before g f ≡ false) x faults (not_through x least f is t.first) t.rest;
    }

least_from : (faults : List Fault) (least f : Fault) → least_with (Some least) faults ≡ Some f
    → IsLeastOf least f faults
least_from [] least f e =
    let same : f ≡ least = cc in
    record { among = inl same; first = rw same (not_itself least); rest = All-nil (λ g. is_before g f ≡ false) }
least_from (x ∷ faults) least f e =
    least_next (is_before x least) x least f faults refl (least_from faults x f) (least_from faults least f) e

pub one_of_them : (faults : List Fault) (f : Fault) → least_of faults ≡ Some f → Contains faults f
one_of_them [] f e = absurd cc
one_of_them (x ∷ faults) f e =
    ⊎_elim (contains_head f x faults) (contains_more f x faults) (least_from faults x f e).among

pub none_before : (faults : List Fault) (f : Fault) → least_of faults ≡ Some f → All (λ g. is_before g f ≡ false) faults
none_before [] f e = absurd cc
none_before (x ∷ faults) f e =
    let t : IsLeastOf x f faults = least_from faults x f e in
    All-cons (λ g. is_before g f ≡ false) x faults t.first t.rest

pub no_least : (faults : List Fault) → IsTrue (has_none faults) → least_of faults ≡ None
no_least [] h = refl
no_least (x ∷ faults) h = absurd cc

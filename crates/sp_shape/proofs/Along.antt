-- What holds of bundles and of calls, and of steps one after another, holds of the trails of parts.
use Rattle.std.proofs.Common.{◌≡◌, ℕ, zero, suc, Bool, true, ◌&&◌, List, [], ◌∷◌, ◌++◌, append-nil, sym, subst, refl}
use Rattle.std.specs.List.{list_all}
use Rattle.std.proofs.lemmas.Bool.{and_parts, and_from}
use Rattle.patmos_instr.specs.Bundles.{PlainBundle}
use Rattle.sp_shape.specs.Bundles.{part_all, parts_all}
use Rattle.sp_shape.specs.Parts.{PlainPart, straight, repeats, calls_to, leaves, PlainParts, no_part, part, one, joined}
use Rattle.sp_shape.specs.Run.{Run, Sources, once, run}
use Rattle.sp_shape.specs.Trail.{Step, does, begins, all_done, copies, part_trail, parts_trail}
use Rattle.sp_shape.proofs.Joins.{trail_joined}
use Rattle.sp_shape.proofs.Lists.{all_weaker}
use Rattle.sp_shape.proofs.Whole.{run_append}

-- ---- code whose bundles are of a class, and which calls functions of a class alone

abbrev mutual
  pub part_has : (PlainBundle → Bool) → (ℕ → Bool) → PlainPart → Bool
  part_has holds may (straight bs) = list_all holds bs
  part_has holds may (repeats count body tail) = parts_have holds may body && list_all holds tail
  part_has holds may (calls_to k tail) = may k && list_all holds tail
  part_has holds may (leaves tail) = list_all holds tail

  pub parts_have : (PlainBundle → Bool) → (ℕ → Bool) → PlainParts → Bool
  parts_have holds may no_part = true
  parts_have holds may (part p rest) = part_has holds may p && parts_have holds may rest

pub have_joined : (holds : PlainBundle → Bool) (may : ℕ → Bool) (a b : PlainParts) → parts_have holds may a ≡ true
    → parts_have holds may b ≡ true → parts_have holds may (joined a b) ≡ true
have_joined holds may no_part b x y = y
have_joined holds may (part p a) b x y =
    let both = and_parts (part_has holds may p) (parts_have holds may a) x in
    and_from (part_has holds may p) (parts_have holds may (joined a b)) both.0 (have_joined holds may a b both.1 y)

pub have_lone : (holds : PlainBundle → Bool) (may : ℕ → Bool) (bs : List PlainBundle) → list_all holds bs ≡ true
    → parts_have holds may (one (straight bs)) ≡ true
have_lone holds may bs all = and_from (list_all holds bs) true all refl

-- so each bundle of it is of a wider class
mutual
  part_has_so : (p q : PlainBundle → Bool) → ((b : PlainBundle) → p b ≡ true → q b ≡ true) → (may : ℕ → Bool)
      (a : PlainPart) → part_has p may a ≡ true → part_all q a ≡ true
  part_has_so p q so may (straight bs) x = all_weaker p q so bs x
  part_has_so p q so may (repeats count body tail) x =
      let both = and_parts (parts_have p may body) (list_all p tail) x in
      and_from (parts_all q body) (list_all q tail) (have_so p q so may body both.0) (all_weaker p q so tail both.1)
  part_has_so p q so may (calls_to k tail) x =
      all_weaker p q so tail (and_parts (may k) (list_all p tail) x).1
  part_has_so p q so may (leaves tail) x = all_weaker p q so tail x

  pub have_so : (p q : PlainBundle → Bool) → ((b : PlainBundle) → p b ≡ true → q b ≡ true) → (may : ℕ → Bool)
      (a : PlainParts) → parts_have p may a ≡ true → parts_all q a ≡ true
  have_so p q so may no_part x = refl
  have_so p q so may (part a rest) x =
      let both = and_parts (part_has p may a) (parts_have p may rest) x in
      and_from (part_all q a) (parts_all q rest) (part_has_so p q so may a both.0) (have_so p q so may rest both.1)

-- ---- trails

-- no step has it, and so have steps after others
pub record Composes (P : List Step → Type 0) : Type 0 where
  pub none : P []
  pub both : (xs ys : List Step) → P xs → P ys → P (xs ++ ys)

pub copied : (P : List Step → Type 0) → Composes P → (count : ℕ) (xs : List Step) → P xs → P (copies count xs)
copied P c zero xs each = c.none
copied P c (suc n) xs each = c.both xs (copies n xs) each (copied P c n xs each)

pub each_done : (P : List Step → Type 0) → Composes P → (holds : PlainBundle → Bool)
    → ((b : PlainBundle) → holds b ≡ true → P (does b ∷ [])) → (bs : List PlainBundle) → list_all holds bs ≡ true
    → P (all_done bs)
each_done P c holds each [] all = c.none
each_done P c holds each (b ∷ bs) all =
    let both = and_parts (holds b) (list_all holds bs) all in
    c.both (does b ∷ []) (all_done bs) (each b both.0) (each_done P c holds each bs both.1)

-- what holds of bundles of a class, and where a function of a class begins
pub record Along (P : List Step → Type 0) (f : ℕ → List Step) (holds : PlainBundle → Bool)
    (may : ℕ → Bool) : Type 0 where
  pub composes : Composes P
  pub done : (bs : List PlainBundle) → list_all holds bs ≡ true → P (all_done bs)
  pub called : (k : ℕ) → may k ≡ true → P (begins ∷ f k)

mutual
  part_along : (P : List Step → Type 0) (f : ℕ → List Step) (holds : PlainBundle → Bool) (may : ℕ → Bool)
      → Along P f holds may → (p : PlainPart) → part_has holds may p ≡ true → P (part_trail f p)
  part_along P f holds may a (straight bs) all = a.done bs all
  part_along P f holds may a (repeats count body tail) all =
      let both = and_parts (parts_have holds may body) (list_all holds tail) all in
      copied P a.composes count (parts_trail f body ++ all_done tail) (a.composes.both (parts_trail f body)
      (all_done tail) (parts_along P f holds may a body both.0) (a.done tail both.1))
  part_along P f holds may a (calls_to k tail) all =
      let both = and_parts (may k) (list_all holds tail) all in
      a.composes.both (all_done tail) (begins ∷ f k) (a.done tail both.1) (a.called k both.0)
  part_along P f holds may a (leaves tail) all = a.done tail all

  pub parts_along : (P : List Step → Type 0) (f : ℕ → List Step) (holds : PlainBundle → Bool) (may : ℕ → Bool)
      → Along P f holds may → (ps : PlainParts) → parts_have holds may ps ≡ true → P (parts_trail f ps)
  parts_along P f holds may a no_part all = a.composes.none
  parts_along P f holds may a (part p rest) all =
      let both = and_parts (part_has holds may p) (parts_have holds may rest) all in
      a.composes.both (part_trail f p) (parts_trail f rest) (part_along P f holds may a p both.0)
      (parts_along P f holds may a rest both.1)

pub joined_has : (P : List Step → Type 0) → Composes P → (f : ℕ → List Step) (xs ys : PlainParts)
    → P (parts_trail f xs) → P (parts_trail f ys) → P (parts_trail f (joined xs ys))
joined_has P c f xs ys a b =
    subst P (sym (trail_joined f xs ys)) (c.both (parts_trail f xs) (parts_trail f ys) a b)

pub lone_has : (P : List Step → Type 0) (f : ℕ → List Step) (bs : List PlainBundle) → P (all_done bs)
    → P (parts_trail f (one (straight bs)))
lone_has P f bs a = subst P (sym (append-nil (all_done bs))) a

pub repeated_has : (P : List Step → Type 0) → Composes P → (f : ℕ → List Step) (count : ℕ) (body : PlainParts)
    (tail : List PlainBundle) → P (parts_trail f body) → P (all_done tail)
    → P (parts_trail f (one (repeats count body tail)))
repeated_has P c f count body tail each last =
    let iteration = parts_trail f body ++ all_done tail in
    subst P (sym (append-nil (copies count iteration)))
    (copied P c count iteration (c.both (parts_trail f body) (all_done tail) each last))

-- ---- runs

-- a relation of states, of which the earlier is fit for it, and so the later
pub record Relates (Fit : Run → Type 0) (R : Run → Run → Type 0) : Type 0 where
  pub same : (m : Run) → Fit m → R m m
  pub then : (m n t : Run) → R m n → R n t → R m t
  pub fit : (m t : Run) → Fit m → R m t → Fit t

-- a run from each state that is fit leaves it so related
abbrev pub Leaves : Sources → (Run → Type 0) → (Run → Run → Type 0) → List Step → Type 0
Leaves from Fit R steps = (m : Run) → Fit m → R m (run from steps m)

module _ (from : Sources) (Fit : Run → Type 0) (R : Run → Run → Type 0) (r : Relates Fit R) where
  pub relates : Composes (Leaves from Fit R)
  relates = record {
    none = r.same;
    both = λ xs ys a b m fit. subst (R m) (sym (run_append from xs ys m)) (r.then m (run from xs m)
        (run from ys (run from xs m)) (a m fit) (b (run from xs m) (r.fit m (run from xs m) fit (a m fit))));
  }

  module _ (holds : PlainBundle → Bool) (each : (b : PlainBundle) (m : Run) → holds b ≡ true → Fit m
      → R m (once from b m)) where
    pub run_done : (bs : List PlainBundle) → list_all holds bs ≡ true → Leaves from Fit R (all_done bs)
    run_done bs all = each_done (Leaves from Fit R) relates holds (λ b is m fit. each b m is fit) bs all

    pub run_parts : (f : ℕ → List Step) (may : ℕ → Bool) → ((k : ℕ) → may k ≡ true → Leaves from Fit R (begins ∷ f k))
        → (ps : PlainParts) → parts_have holds may ps ≡ true → Leaves from Fit R (parts_trail f ps)
    run_parts f may called ps all = parts_along (Leaves from Fit R) f holds may
        (record { composes = relates; done = run_done; called = called }) ps all

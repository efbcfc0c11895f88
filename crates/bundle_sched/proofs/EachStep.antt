-- Code is packed step by step: a bundle that does nothing is left out, a second instruction that does nothing too, two
-- neighbours become one, or change places.
-- What holds of each step holds of all.
use mathlib.Core.List.{reverse_aux, reverse_aux-eq}
use Rattle.std.proofs.Common.{◌≡◌, ℕ, zero, suc, Bool, true, false, true≢false, not, if◌then◌else◌, Option, Some, None, IfSome, List, [], ◌∷◌, ◌++◌, length, reverse, refl, sym, ap, ◌∙◌, subst, append_assoc, append-nil}
use Rattle.std.specs.Prelude.{◌&&◌, ◌||◌, is_none, slice_set}
use Rattle.std.specs.List.{list_all}
use Rattle.std.proofs.lemmas.Bool.{and_parts}
use Rattle.std.proofs.lemmas.List.{length-reverse, reverse-reverse}
use Rattle.patmos_instr.specs.Bundles.{PlainBundle}
use Rattle.patmos_instr.specs.declared.instructions.Instr.{Instr}
use Rattle.sp_shape.specs.Bundles.{is_idle_op, is_idle}
use Rattle.sp_shape.specs.Formed.{is_always}
use Rattle.sp_shape.specs.Small.{idle}
use Rattle.sp_shape.specs.Words.{is_late}
use Rattle.bundle_sched.specs.Ordered.{goes_by, can_pass, goes_back, all_go_back, is_too_early, has_place, place, row_with, stood_last, stood, without_nop, put, put_unless_idle, ordered_after, ordered}
use Rattle.bundle_sched.specs.Packed.{can_join, can_pair, pair, lone, is_nop}
use Rattle.bundle_sched.specs.Packing.{paired, in_pairs, packed, comes_first, arranged}
use Rattle.bundle_sched.specs.declared.ordering.TheConstants.{WINDOW}
use Rattle.bundle_sched.proofs.TwoInOne.{pair_idle}

pub record AtEachStep (P : List PlainBundle → List PlainBundle → Type 0) : Type 0 where
  pub same : (bs : List PlainBundle) → P bs bs
  pub through : (xs ys zs : List PlainBundle) → P xs ys → P ys zs → P xs zs
  pub behind : (b : PlainBundle) (xs ys : List PlainBundle) → P xs ys → P (b ∷ xs) (b ∷ ys)
  pub left_out : (b : PlainBundle) (bs : List PlainBundle) → is_idle b ≡ true → P (b ∷ bs) bs
  pub emptied : (b : PlainBundle) (bs : List PlainBundle) → P (b ∷ bs) (without_nop b ∷ bs)
  pub joined : (a b : PlainBundle) (bs : List PlainBundle) → is_idle b ≡ false → can_join a b ≡ true
      → P (a ∷ b ∷ bs) (pair a b ∷ bs)
  pub swapped : (b x : PlainBundle) (bs : List PlainBundle) → goes_by b x ≡ true → P (b ∷ x ∷ bs) (x ∷ b ∷ bs)

-- ---- another bundle at a number

at_number : (front rest : List PlainBundle) (b y : PlainBundle) → slice_set (front ++ b ∷ rest) (length front) y
    ≡ front ++ y ∷ rest
at_number [] rest b y = refl
at_number (c ∷ cs) rest b y = ap (λ ys. c ∷ ys) (at_number cs rest b y)

set_back : (others rest : List PlainBundle) (b y : PlainBundle) → slice_set (reverse_aux others (b ∷ rest))
    (length others) y
    ≡ reverse_aux others (y ∷ rest)
set_back others rest b y =
    ap (λ xs. slice_set xs (length others) y) (reverse_aux-eq others (b ∷ rest))
    ∙ ap (λ n. slice_set (reverse others ++ b ∷ rest) n y) (sym (length-reverse others))
    ∙ at_number (reverse others) rest b y ∙ sym (reverse_aux-eq others (y ∷ rest))

twice : (bs ys : List PlainBundle) → reverse_aux (reverse bs) ys ≡ bs ++ ys
twice bs ys = reverse_aux-eq (reverse bs) ys ∙ ap (λ xs. xs ++ ys) (reverse-reverse bs)

-- ---- without what does nothing

abbrev pub cleaned : List PlainBundle → List PlainBundle
cleaned [] = []
cleaned (b ∷ bs) = if is_idle b then cleaned bs else b ∷ cleaned bs

cleaned_busy : (b : PlainBundle) (bs : List PlainBundle) → is_idle b ≡ false → cleaned (b ∷ bs) ≡ b ∷ cleaned bs
cleaned_busy b bs busy = ap (λ idles. if idles then cleaned bs else b ∷ cleaned bs) busy

cleaned_idle : (b : PlainBundle) (bs : List PlainBundle) → is_idle b ≡ true → cleaned (b ∷ bs) ≡ cleaned bs
cleaned_idle b bs is = ap (λ idles. if idles then cleaned bs else b ∷ cleaned bs) is

cleaned_append : (xs ys : List PlainBundle) → cleaned (xs ++ ys) ≡ cleaned xs ++ cleaned ys
cleaned_append [] ys = refl
cleaned_append (x ∷ xs) ys =
    elim (is_idle x) as (λ idles. (if idles then cleaned (xs ++ ys) else x ∷ cleaned (xs ++ ys))
    ≡ (if idles then cleaned xs else x ∷ cleaned xs) ++ cleaned ys) [
      | true ↦ cleaned_append xs ys
      | false ↦ ap (λ zs. x ∷ zs) (cleaned_append xs ys)
    ]

paired_cleaned : (a : PlainBundle) (bs : List PlainBundle) → paired a (cleaned bs) ≡ paired a bs
paired_cleaned a [] = refl
paired_cleaned a (b ∷ bs) =
    elim (is_idle b) as (λ idles. is_idle b ≡ idles → paired a (if idles then cleaned bs else b ∷ cleaned bs)
    ≡ (if idles then paired a bs else (if can_pair a b then paired (pair a b) bs else a ∷ paired b bs))) [
      | true ↦ λ is. paired_cleaned a bs
      | false ↦ λ busy.
          ap (λ idles. if idles then paired a (cleaned bs) else
          (if can_pair a b then paired (pair a b) (cleaned bs) else a ∷ paired b (cleaned bs))) busy
          ∙ (λ k. if can_pair a b then paired_cleaned (pair a b) bs k else a ∷ paired_cleaned b bs k)
    ] refl

pub pairs_cleaned : (bs : List PlainBundle) → in_pairs (cleaned bs) ≡ in_pairs bs
pairs_cleaned [] = refl
pairs_cleaned (b ∷ bs) =
    elim (is_idle b) as (λ idles. is_idle b ≡ idles → in_pairs (if idles then cleaned bs else b ∷ cleaned bs)
    ≡ (if idles then in_pairs bs else paired b bs)) [
      | true ↦ λ is. pairs_cleaned bs
      | false ↦ λ busy. ap (λ idles. if idles then in_pairs (cleaned bs) else paired b (cleaned bs)) busy
          ∙ paired_cleaned b bs
    ] refl

-- what does nothing has no second instruction that does nothing
idle_whole : (b : PlainBundle) → is_idle b ≡ true → without_nop b ≡ b
idle_whole b is = so b.second refl (and_parts (is_idle_op b.first.op) (is_none b.second)
    (and_parts (is_always b.first.guard) (is_idle_op b.first.op && is_none b.second) is).1).1
  where
    so : (o : Option Instr) → b.second ≡ o → is_none o ≡ true → elim o as (λ _. PlainBundle) [
      | None ↦ b
      | Some i ↦
          if is_nop i then lone b.first else b
    ] ≡ b
    so None is h = refl
    so (Some i) is h = absurd (true≢false (sym h))

ordered_cleaned : (done bs : List PlainBundle) → ordered_after done (cleaned bs) ≡ ordered_after done bs
ordered_cleaned done [] = refl
ordered_cleaned done (b ∷ bs) =
    elim (is_idle b) as (λ idles. is_idle b ≡ idles → ordered_after done (if idles then cleaned bs else b ∷ cleaned bs)
    ≡ ordered_after (put_unless_idle (without_nop b) done) bs) [
      | true ↦ λ is. ordered_cleaned done bs
          ∙ ap (λ ds. ordered_after ds bs) (sym (ap (λ c. put_unless_idle c done) (idle_whole b is)
          ∙ ap (λ idles. if idles then done else put b done) is))
      | false ↦ λ busy. ordered_cleaned (put_unless_idle (without_nop b) done) bs
    ] refl

packed_cleaned : (bs : List PlainBundle) → packed (cleaned bs) ≡ packed bs
packed_cleaned bs = ap in_pairs (ordered_cleaned [] bs)

module _ (P : List PlainBundle → List PlainBundle → Type 0) (step : AtEachStep P) where
  -- ---- neighbours in one

  paired_steps : (a : PlainBundle) (bs : List PlainBundle) → P (a ∷ bs) (paired a bs)
  paired_steps a [] = step.same (a ∷ [])
  paired_steps a (b ∷ bs) =
      elim (is_idle b) as (λ idles. is_idle b ≡ idles → P (a ∷ b ∷ bs) (if idles then paired a bs else
      (if can_pair a b then paired (pair a b) bs else a ∷ paired b bs))) [
        | true ↦ λ is. step.through (a ∷ b ∷ bs) (a ∷ bs) (paired a bs)
            (step.behind a (b ∷ bs) bs (step.left_out b bs is)) (paired_steps a bs)
        | false ↦ λ busy. elim (can_pair a b) as (λ can. can_pair a b ≡ can
            → P (a ∷ b ∷ bs) (if can then paired (pair a b) bs else a ∷ paired b bs)) [
              | true ↦ λ can. step.through (a ∷ b ∷ bs) (pair a b ∷ bs) (paired (pair a b) bs)
                  (step.joined a b bs busy (and_parts (not (is_late a.first.op)) (can_join a b) can).1)
                  (paired_steps (pair a b) bs)
              | false ↦ λ can. step.behind a (b ∷ bs) (paired b bs) (paired_steps b bs)
            ] refl
      ] refl

  pairs_steps : (bs : List PlainBundle) → P bs (in_pairs bs)
  pairs_steps [] = step.same []
  pairs_steps (b ∷ bs) =
      elim (is_idle b) as (λ idles. is_idle b ≡ idles → P (b ∷ bs) (if idles then in_pairs bs else paired b bs)) [
        | true ↦ λ is. step.through (b ∷ bs) bs (in_pairs bs) (step.left_out b bs is) (pairs_steps bs)
        | false ↦ λ busy. paired_steps b bs
      ] refl

  -- ---- one more bundle

  after_cleaned : (b : PlainBundle) (xs ys : List PlainBundle) → P (cleaned xs) (cleaned ys)
      → P (cleaned (b ∷ xs)) (cleaned (b ∷ ys))
  after_cleaned b xs ys h =
      elim (is_idle b) as (λ idles. P (if idles then cleaned xs else b ∷ cleaned xs) (if idles then cleaned ys else b
      ∷ cleaned ys)) [ true ↦ h | false ↦ step.behind b (cleaned xs) (cleaned ys) h ]

  onto_cleaned : (bs xs ys : List PlainBundle) → P (cleaned xs) (cleaned ys) → P (cleaned (reverse_aux bs xs)) (cleaned
      (reverse_aux bs ys))
  onto_cleaned [] xs ys h = h
  onto_cleaned (b ∷ bs) xs ys h = onto_cleaned bs (b ∷ xs) (b ∷ ys) (after_cleaned b xs ys h)

  module _ (x : PlainBundle) (busy : is_idle x ≡ false) where
    -- two that stand together
    two_cleaned : (b : PlainBundle) (rest : List PlainBundle) → is_idle b ≡ false → cleaned (b ∷ x ∷ rest)
        ≡ b ∷ x ∷ cleaned rest
    two_cleaned b rest other = cleaned_busy b (x ∷ rest) other ∙ ap (λ ys. b ∷ ys) (cleaned_busy x rest busy)

    stands_steps : (b : PlainBundle) (rest : List PlainBundle) → has_place b x ≡ true
        → P (cleaned (b ∷ x ∷ rest)) (cleaned (row_with b x ∷ rest))
    stands_steps b rest here =
        elim (is_idle b) as (λ idles. is_idle b ≡ idles → (idles || (can_join b x || (goes_by b x && can_join x b)))
        ≡ true
        → P (cleaned (b ∷ x ∷ rest)) (cleaned ((if idles then x else (if can_join b x then pair b x else pair x b))
        ∷ rest))) [
          | true ↦ λ is h. subst (λ ys. P ys (cleaned (x ∷ rest))) (sym (cleaned_idle b (x ∷ rest) is))
              (step.same (cleaned (x ∷ rest)))
          | false ↦ λ other h. subst (λ ys. P ys (cleaned ((if can_join b x then pair b x else pair x b) ∷ rest)))
              (sym (two_cleaned b rest other)) (beside b rest other h)
        ] refl here
      where
        beside : (b : PlainBundle) (rest : List PlainBundle) → is_idle b ≡ false
            → (can_join b x || (goes_by b x && can_join x b))
            ≡ true
            → P (b ∷ x ∷ cleaned rest) (cleaned ((if can_join b x then pair b x else pair x b) ∷ rest))
        beside b rest other here =
            elim (can_join b x) as (λ can. can_join b x ≡ can → (can || (goes_by b x && can_join x b)) ≡ true
            → P (b ∷ x ∷ cleaned rest) (cleaned ((if can then pair b x else pair x b) ∷ rest))) [
              | true ↦ λ can h. subst (P (b ∷ x ∷ cleaned rest)) (sym (cleaned_busy (pair b x) rest (pair_idle b x)))
                  (step.joined b x (cleaned rest) busy can)
              | false ↦ λ can h.
                  let both = and_parts (goes_by b x) (can_join x b) h in
                  subst (P (b ∷ x ∷ cleaned rest)) (sym (cleaned_busy (pair x b) rest (pair_idle x b)))
                  (step.through (b ∷ x ∷ cleaned rest) (x ∷ b ∷ cleaned rest) (pair x b ∷ cleaned rest)
                  (step.swapped b x (cleaned rest) both.0) (step.joined x b (cleaned rest) other both.1))
            ] refl here

    goes_steps : (b : PlainBundle) (rest : List PlainBundle) → can_pass b x ≡ true
        → P (cleaned (b ∷ x ∷ rest)) (cleaned (x ∷ b ∷ rest))
    goes_steps b rest goes =
        elim (is_idle b) as (λ idles. is_idle b ≡ idles → (idles || goes_by b x) ≡ true
        → P (cleaned (b ∷ x ∷ rest)) (cleaned (x ∷ b ∷ rest))) [
          | true ↦ λ is h.
              let back = cleaned_busy x (b ∷ rest) busy ∙ ap (λ ys. x ∷ ys) (cleaned_idle b rest is) in
              let front = cleaned_idle b (x ∷ rest) is ∙ cleaned_busy x rest busy in
              subst (λ ys. P ys (cleaned (x ∷ b ∷ rest))) (sym front) (subst (P (x ∷ cleaned rest)) (sym back)
              (step.same (x ∷ cleaned rest)))
          | false ↦ λ other by.
              let back = cleaned_busy x (b ∷ rest) busy ∙ ap (λ ys. x ∷ ys) (cleaned_busy b rest other) in
              subst (λ ys. P ys (cleaned (x ∷ b ∷ rest))) (sym (two_cleaned b rest other))
              (subst (P (b ∷ x ∷ cleaned rest)) (sym back) (step.swapped b x (cleaned rest) by))
        ] refl goes

    module _ (all : List PlainBundle) where
      abbrev Stands : ℕ × PlainBundle → Type 0
      Stands at = P (cleaned (all ++ x ∷ [])) (cleaned (slice_set all at.0 at.1))

      back_steps : (n : ℕ) (others rest : List PlainBundle) (found : Option (ℕ × PlainBundle))
          → reverse_aux others rest ≡ all
          → P (cleaned (all ++ x ∷ [])) (cleaned (reverse_aux others (x ∷ rest))) → IfSome found Stands
          → IfSome (place n x others found) Stands
      back_steps zero others rest found is moved claim = claim
      back_steps (suc n) [] rest found is moved claim = claim
      back_steps (suc n) (b ∷ others) rest found is moved claim =
          let here = if not (is_too_early others x) && has_place b x then Some (
            length others,
            row_with b x,
          ) else found in
          let now = now_steps (not (is_too_early others x) && has_place b x) refl in
          elim (can_pass b x) as (λ goes. can_pass b x ≡ goes
          → IfSome (if goes then place n x others here else here) Stands) [
            | true ↦ λ goes. back_steps n others (b ∷ rest) here is
                (step.through (cleaned (all ++ x ∷ [])) (cleaned (reverse_aux others (b ∷ x ∷ rest)))
                (cleaned (reverse_aux others (x ∷ b ∷ rest))) moved (onto_cleaned others (b ∷ x ∷ rest)
                (x ∷ b ∷ rest) (goes_steps b rest goes))) now
            | false ↦ λ goes. now
          ] refl
        where
          now_steps : (t : Bool) → (not (is_too_early others x) && has_place b x) ≡ t
              → IfSome (if t then Some (length others, row_with b x) else found) Stands
          now_steps false is_not = claim
          now_steps true here =
              subst (λ ys. P (cleaned (all ++ x ∷ [])) (cleaned ys)) (sym (set_back others rest b (row_with b x))
              ∙ ap (λ ys. slice_set ys (length others) (row_with b x)) is)
              (step.through (cleaned (all ++ x ∷ [])) (cleaned (reverse_aux others (b ∷ x ∷ rest)))
              (cleaned (reverse_aux others (row_with b x ∷ rest))) moved
              (onto_cleaned others (b ∷ x ∷ rest) (row_with b x ∷ rest)
              (stands_steps b rest (and_parts (not (is_too_early others x)) (has_place b x) here).1)))

    last_cleaned : (bs : List PlainBundle) → cleaned (stood_last x bs) ≡ cleaned (bs ++ x ∷ [])
    last_cleaned bs =
        elim (is_too_early (reverse bs) x) as (λ early. cleaned (bs ++ (if early then idle ∷ x ∷ [] else x ∷ []))
        ≡ cleaned (bs ++ x ∷ [])) [
          | true ↦ cleaned_append bs (idle ∷ x ∷ []) ∙ sym (cleaned_append bs (x ∷ []))
          | false ↦ refl
        ]

    pub put_steps : (bs : List PlainBundle) → P (cleaned bs ++ x ∷ []) (cleaned (put x bs))
    put_steps bs =
        subst (λ ys. P ys (cleaned (put x bs))) (cleaned_append bs (x ∷ [])
        ∙ ap (λ ys. cleaned bs ++ ys) (cleaned_busy x [] busy))
        (elim (is_none x.second) as (λ alone. P (cleaned (bs ++ x ∷ []))
        (cleaned (stood x bs (if alone then place WINDOW x (reverse bs) None else None)))) [
          | true ↦ so (place WINDOW x (reverse bs) None)
              (back_steps bs WINDOW (reverse bs) [] None (twice bs [] ∙ append-nil bs)
              (subst (λ ys. P (cleaned (bs ++ x ∷ [])) (cleaned ys)) (sym (twice bs (x ∷ [])))
              (step.same (cleaned (bs ++ x ∷ [])))) tt)
          | false ↦ at_end
        ])
      where
        at_end : P (cleaned (bs ++ x ∷ [])) (cleaned (stood_last x bs))
        at_end = subst (P (cleaned (bs ++ x ∷ []))) (sym (last_cleaned bs)) (step.same (cleaned (bs ++ x ∷ [])))

        so : (o : Option (ℕ × PlainBundle)) → IfSome o (λ at. P (cleaned (bs ++ x ∷ []))
            (cleaned (slice_set bs at.0 at.1)))
            → P (cleaned (bs ++ x ∷ [])) (cleaned (stood x bs o))
        so None h = at_end
        so (Some at) h = h

-- ---- the same with code after it

suffixed : (P : List PlainBundle → List PlainBundle → Type 0) → AtEachStep P
    → AtEachStep (λ xs ys. (rest : List PlainBundle)
    → P (xs ++ rest) (ys ++ rest))
suffixed P step = record {
  same = λ bs rest. step.same (bs ++ rest);
  through = λ xs ys zs f g rest. step.through (xs ++ rest) (ys ++ rest) (zs ++ rest) (f rest) (g rest);
  behind = λ b xs ys f rest. step.behind b (xs ++ rest) (ys ++ rest) (f rest);
  left_out = λ b bs is rest. step.left_out b (bs ++ rest) is;
  emptied = λ b bs rest. step.emptied b (bs ++ rest);
  joined = λ a b bs busy can rest. step.joined a b (bs ++ rest) busy can;
  swapped = λ b x bs by rest. step.swapped b x (bs ++ rest) by;
}

module _ (P : List PlainBundle → List PlainBundle → Type 0) (step : AtEachStep P) where
  front_steps : (bs xs ys : List PlainBundle) → P xs ys → P (bs ++ xs) (bs ++ ys)
  front_steps [] xs ys h = h
  front_steps (b ∷ bs) xs ys h = step.behind b (bs ++ xs) (bs ++ ys) (front_steps bs xs ys h)

  one_steps : (x : PlainBundle) (bs rest : List PlainBundle) → is_idle x ≡ false
      → P (cleaned bs ++ x ∷ rest) (cleaned (put x bs) ++ rest)
  one_steps x bs rest busy =
      subst (λ ys. P ys (cleaned (put x bs) ++ rest)) (append_assoc (cleaned bs) (x ∷ []) rest)
      (put_steps (λ xs ys. (rest : List PlainBundle) → P (xs ++ rest) (ys ++ rest)) (suffixed P step) x busy bs rest)

  after_steps : (done bs : List PlainBundle) → P (cleaned done ++ bs) (cleaned (ordered_after done bs))
  after_steps done [] = subst (λ xs. P xs (cleaned done)) (sym (append-nil (cleaned done))) (step.same (cleaned done))
  after_steps done (b ∷ bs) =
      let c = without_nop b in
      step.through (cleaned done ++ b ∷ bs) (cleaned done ++ c ∷ bs)
      (cleaned (ordered_after (put_unless_idle c done) bs)) (front_steps (cleaned done) (b ∷ bs) (c ∷ bs)
      (step.emptied b bs))
      (elim (is_idle c) as (λ idles. is_idle c ≡ idles
      → P (cleaned done ++ c ∷ bs) (cleaned (ordered_after (if idles then done else put c done) bs))) [
        | true ↦ λ is. step.through (cleaned done ++ c ∷ bs) (cleaned done ++ bs) (cleaned (ordered_after done bs))
            (front_steps (cleaned done) (c ∷ bs) bs (step.left_out c bs is)) (after_steps done bs)
        | false ↦ λ busy. step.through (cleaned done ++ c ∷ bs) (cleaned (put c done) ++ bs)
            (cleaned (ordered_after (put c done) bs)) (one_steps c done bs busy) (after_steps (put c done) bs)
      ] refl)

  -- what is ordered, but for what does nothing
  pub ordered_steps : (bs : List PlainBundle) → P bs (cleaned (ordered bs))
  ordered_steps bs = after_steps [] bs

  pub packed_steps : (bs : List PlainBundle) → P bs (packed bs)
  packed_steps bs =
      subst (P bs) (pairs_cleaned (ordered bs))
      (step.through bs (cleaned (ordered bs)) (in_pairs (cleaned (ordered bs))) (ordered_steps bs)
      (pairs_steps P step (cleaned (ordered bs))))

  -- ---- what goes back over all that stands before it

  cleaned_steps : (bs : List PlainBundle) → P bs (cleaned bs)
  cleaned_steps [] = step.same []
  cleaned_steps (b ∷ bs) =
      elim (is_idle b) as (λ idles. is_idle b ≡ idles → P (b ∷ bs) (if idles then cleaned bs else b ∷ cleaned bs)) [
        | true ↦ λ is. step.through (b ∷ bs) bs (cleaned bs) (step.left_out b bs is) (cleaned_steps bs)
        | false ↦ λ busy. step.behind b bs (cleaned bs) (cleaned_steps bs)
      ] refl

  -- one that does something
  busy_back : (x : PlainBundle) (bs rest : List PlainBundle) → is_idle x ≡ false → list_all (λ b. can_pass b x) bs
      ≡ true
      → P (cleaned (bs ++ x ∷ rest)) (cleaned (x ∷ bs ++ rest))
  busy_back x [] rest busy goes = step.same (cleaned (x ∷ rest))
  busy_back x (b ∷ bs) rest busy goes =
      let both = and_parts (can_pass b x) (list_all (λ b. can_pass b x) bs) goes in
      step.through (cleaned (b ∷ bs ++ x ∷ rest)) (cleaned (b ∷ x ∷ bs ++ rest)) (cleaned (x ∷ b ∷ bs ++ rest))
      (after_cleaned P step b (bs ++ x ∷ rest) (x ∷ bs ++ rest) (busy_back x bs rest busy both.1))
      (goes_steps P step x busy b (bs ++ rest) both.0)

  -- any
  one_back : (x : PlainBundle) (bs rest : List PlainBundle) → goes_back bs x ≡ true
      → P (cleaned (bs ++ x ∷ rest)) (cleaned (x ∷ bs ++ rest))
  one_back x bs rest goes =
      elim (is_idle x) as (λ idles. is_idle x ≡ idles → (idles || list_all (λ b. can_pass b x) bs) ≡ true
      → P (cleaned (bs ++ x ∷ rest)) (cleaned (x ∷ bs ++ rest))) [
        | true ↦ λ is h. subst (P (cleaned (bs ++ x ∷ rest))) (cleaned_append bs (x ∷ rest)
            ∙ ap (λ ys. cleaned bs ++ ys) (cleaned_idle x rest is) ∙ sym (cleaned_append bs rest)
            ∙ sym (cleaned_idle x (bs ++ rest) is)) (step.same (cleaned (bs ++ x ∷ rest)))
        | false ↦ λ busy h. busy_back x bs rest busy h
      ] refl goes

  all_back : (xs bs : List PlainBundle) → all_go_back bs xs ≡ true → P (cleaned (bs ++ xs)) (cleaned (xs ++ bs))
  all_back [] bs goes =
      subst (λ ys. P (cleaned (bs ++ [])) (cleaned ys)) (append-nil bs) (step.same (cleaned (bs ++ [])))
  all_back (x ∷ xs) bs goes =
      let both = and_parts (goes_back bs x) (all_go_back bs xs) goes in
      step.through (cleaned (bs ++ x ∷ xs)) (cleaned (x ∷ bs ++ xs)) (cleaned (x ∷ xs ++ bs)) (one_back x bs xs both.0)
      (after_cleaned P step x (bs ++ xs) (xs ++ bs) (all_back xs bs both.1))

  -- what is held and what stands before a branch, in the order in which they are packed
  pub arranged_steps : (held front back : List PlainBundle) → P (held ++ front) (packed (arranged held front back))
  arranged_steps held front back =
      elim (comes_first held front back) as (λ first. comes_first held front back ≡ first
      → P (held ++ front) (packed (if first then front ++ held else held ++ front))) [
        | true ↦ λ first. step.through (held ++ front) (cleaned (held ++ front)) (packed (front ++ held))
            (cleaned_steps (held ++ front))
            (step.through (cleaned (held ++ front)) (cleaned (front ++ held)) (packed (front ++ held))
            (all_back front held (and_parts (all_go_back held front) _ first).0)
            (subst (P (cleaned (front ++ held))) (packed_cleaned (front ++ held))
            (packed_steps (cleaned (front ++ held)))))
        | false ↦ λ last. packed_steps (held ++ front)
      ] refl

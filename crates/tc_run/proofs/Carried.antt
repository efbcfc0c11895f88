-- Lists of workers that are handed on.
use Rattle.std.proofs.Common.{◌≡◌, ℕ, ◌+◌, ◌<◌, zero, suc, List, [], ◌∷◌, ◌++◌, length, slice_index_or, slice_set, refl, sym, ap, ◌∙◌, subst, arith, append_assoc, append-nil, All, Any, inl, inr}
use Rattle.std.specs.List.{flat_map}
use Rattle.std.proofs.lemmas.Grind.{flat_map-append}
use Rattle.std.proofs.lemmas.List.Concat.{flat_map-cons}
use Rattle.std.proofs.lemmas.List.Elements.{All-append, All-cons}
use Rattle.std.proofs.lemmas.List.{length-append}
use Rattle.clock_board.specs.Board.{BoardFace}
use Rattle.core_worker.specs.Worker.{WorkerFace, IsOn, AreLater}
use Rattle.tc_run.specs.Worked.{number_of, IsAtWork}
use Rattle.tc_run.specs.Carried.{Carries}
use Rattle.tc_run.proofs.Lists.{all_prefix, all_back, any_prefix, any_back, any_apart, any_one}
use Rattle.tc_run.proofs.Workers.{later_at_work, later_have}

-- a list of lists, joined, with one more at its end
pub flat_last : {X : Type 0} (f : X → List WorkerFace) (xs rest : List X) (x : X) → xs ≡ rest ++ x ∷ [] → flat_map f xs
    ≡ flat_map f rest ++ f x
flat_last f xs rest x e =
    ap (flat_map f) e ∙ flat_map-append f rest (x ∷ []) ∙ ap (λ ys. flat_map f rest ++ ys) (append-nil (f x))

module _ (b : BoardFace) where
  -- the very same workers
  pub same_carried : (ws ws' : List WorkerFace) → ws' ≡ ws → Carries b ws ws'
  same_carried ws ws' e =
      subst (Carries b ws) (sym e) (record { count = refl; on = λ h. h; work = λ m h. h; have = λ k h. h })

  -- the same workers later
  pub later_carried : (ws ws' : List WorkerFace) → AreLater ws ws' → All (IsOn b) ws' → Carries b ws ws'
  later_carried ws ws' later on = record {
    count = later.count;
    on = λ h. on;
    work = λ m. later_at_work ws ws' later m b on;
    have = later_have ws ws' later;
  }

  -- carried twice
  pub carried_on : (xs ys zs : List WorkerFace) → Carries b xs ys → Carries b ys zs → Carries b xs zs
  carried_on xs ys zs c d = record {
    count = d.count ∙ c.count;
    on = λ h. d.on (c.on h);
    work = λ m h. d.work m (c.work m h);
    have = λ k h. d.have k (c.have k h);
  }

  module _ (xs xs' ys ys' : List WorkerFace) (c : Carries b xs xs') (d : Carries b ys ys') where
    all_beside : (P : WorkerFace → Type 0) → (All P xs → All P xs') → (All P ys → All P ys') → All P (xs ++ ys)
        → All P (xs' ++ ys')
    all_beside P f g h = All-append P xs' ys' (f (all_prefix P xs ys h)) (g (all_back P xs ys h))

    -- two lists, one after the other
    pub carried_beside : Carries b (xs ++ ys) (xs' ++ ys')
    carried_beside = record {
      count = length-append xs' ys' ∙ ap (λ n. n + length ys') c.count ∙ ap (λ n. length xs + n) d.count
          ∙ sym (length-append xs ys);
      on = all_beside (IsOn b) c.on d.on;
      work = λ m. all_beside (IsAtWork m b) (c.work m) (d.work m);
      have = λ k h. elim (any_apart (λ w. number_of w ≡ k) xs ys h) [
        | inl prefix ↦ any_prefix (λ w. number_of w ≡ k) xs' ys' (c.have k prefix)
        | inr back ↦ any_back (λ w. number_of w ≡ k) xs' ys' (d.have k back)
      ];
    }

  -- the first of two lists, and then both
  pub beside_same : (xs xs' ys : List WorkerFace) → Carries b xs xs' → Carries b (xs ++ ys) (xs' ++ ys)
  beside_same xs xs' ys c = carried_beside xs xs' ys ys c (same_carried ys ys refl)

  pub begun_with : (xs xs' ys zs : List WorkerFace) → Carries b xs xs' → Carries b (xs' ++ ys) zs
      → Carries b (xs ++ ys) zs
  begun_with xs xs' ys zs c d = carried_on (xs ++ ys) (xs' ++ ys) zs (beside_same xs xs' ys c) d

  -- one for the other
  all_swapped : (P : WorkerFace → Type 0) (xs ys : List WorkerFace) → All P (xs ++ ys) → All P (ys ++ xs)
  all_swapped P xs ys h = All-append P ys xs (all_back P xs ys h) (all_prefix P xs ys h)

  carried_swapped : (xs ys : List WorkerFace) → Carries b (xs ++ ys) (ys ++ xs)
  carried_swapped xs ys = record {
    count = length-append ys xs ∙ omega (arith, length-append xs ys);
    on = all_swapped (IsOn b) xs ys;
    work = λ m. all_swapped (IsAtWork m b) xs ys;
    have = λ k h. elim (any_apart (λ w. number_of w ≡ k) xs ys h) [
      | inl prefix ↦ any_back (λ w. number_of w ≡ k) ys xs prefix
      | inr back ↦ any_prefix (λ w. number_of w ≡ k) ys xs back
    ];
  }

  -- the last of them, later, to the end of the first
  pub last_carried : (here rest ws ws' all : List WorkerFace) → all ≡ here ++ ws' → Carries b ws ws'
      → Carries b (here ++ (rest ++ ws)) (all ++ rest)
  last_carried here rest ws ws' all e c =
      carried_on (here ++ (rest ++ ws)) (here ++ (ws' ++ rest)) (all ++ rest)
      (carried_beside here here (rest ++ ws) (ws' ++ rest) (same_carried here here refl)
      (carried_on (rest ++ ws) (ws ++ rest) (ws' ++ rest) (carried_swapped rest ws) (beside_same ws ws' rest c)))
      (same_carried (here ++ (ws' ++ rest)) (all ++ rest) (ap (λ xs. xs ++ rest) e ∙ append_assoc here ws' rest))

  -- the last of several lists
  pub last_taken : {X : Type 0} (f : X → List WorkerFace) (ws ws' : List WorkerFace) (xs rest : List X) (x : X) → xs
      ≡ rest ++ x ∷ []
      → Carries b (ws ++ f x) ws' → Carries b (ws ++ flat_map f xs) (ws' ++ flat_map f rest)
  last_taken f ws ws' xs rest x e c =
      carried_on (ws ++ flat_map f xs) ((ws ++ f x) ++ flat_map f rest) (ws' ++ flat_map f rest)
      (subst (λ ys. Carries b (ws ++ ys) ((ws ++ f x) ++ flat_map f rest)) (sym (flat_last f xs rest x e))
      (last_carried ws (flat_map f rest) (f x) (f x) (ws ++ f x) refl (same_carried (f x) (f x) refl)))
      (beside_same (ws ++ f x) ws' (flat_map f rest) c)

-- it is put among others
pub record IsPutIn {W : Type 0} (w : W) (xs ys : List W) : Type 0 where
  pub prefix : List W
  pub back : List W
  pub before : xs ≡ prefix ++ back
  pub after : ys ≡ prefix ++ w ∷ back

module _ {X W : Type 0} (f : X → List W) where
  -- where one of the lists grows at its end
  pub put_in : (xs : List X) (i : ℕ) (o y : X) (w : W) → slice_index_or xs i o ≡ o → i < length xs → f y ≡ f o ++ w ∷ []
      → IsPutIn w (flat_map f xs) (flat_map f (slice_set xs i y))
  put_in [] i o y w at below grown = absurd (omega (arith, below))
  put_in (x ∷ xs) zero o y w at below grown =
      let here : o ≡ x = sym at in
      record {
        prefix = f x;
        back = flat_map f xs;
        before = flat_map-cons f x xs;
        after = flat_map-cons f y xs ∙ ap (λ z. z ++ flat_map f xs) (grown ∙ ap (λ z. f z ++ w ∷ []) here)
            ∙ append_assoc (f x) (w ∷ []) (flat_map f xs);
      }
  put_in (x ∷ xs) (suc i) o y w at below grown =
      let r = put_in xs i o y w at (omega (arith, below)) grown in
      record {
        prefix = f x ++ r.prefix;
        back = r.back;
        before = flat_map-cons f x xs ∙ ap (λ z. f x ++ z) r.before ∙ sym (append_assoc (f x) r.prefix r.back);
        after = flat_map-cons f x (slice_set xs i y) ∙ ap (λ z. f x ++ z) r.after
            ∙ sym (append_assoc (f x) r.prefix (w ∷ r.back));
      }

module _ {W : Type 0} (P : W → Type 0) (w : W) (xs ys : List W) (put : IsPutIn w xs ys) where
  pub all_with : P w → All P xs → All P ys
  all_with one all =
      let parts = subst (All P) put.before all in
      subst (All P) (sym put.after) (All-append P put.prefix (w ∷ put.back) (all_prefix P put.prefix put.back parts)
      (All-cons P w put.back one (all_back P put.prefix put.back parts)))

  pub any_with : Any P xs → Any P ys
  any_with any = subst (Any P) (sym put.after) (elim (any_apart P put.prefix put.back (subst (Any P) put.before any)) [
    | inl prefix ↦ any_prefix P put.prefix (w ∷ put.back) prefix
    | inr back ↦ any_back P put.prefix (w ∷ put.back) (any_back P (w ∷ []) put.back back)
  ])

  pub any_new : P w → Any P ys
  any_new one = subst (Any P) (sym put.after) (any_back P put.prefix (w ∷ put.back) (any_prefix P (w ∷ []) put.back
      (any_one P w one)))

pub one_longer : {W : Type 0} (w : W) (xs ys : List W) → IsPutIn w xs ys → length ys ≡ length xs + 1
one_longer w xs ys put =
    ap length put.after ∙ length-append put.prefix (w ∷ put.back) ∙ omega (arith, length-append put.prefix put.back)
    ∙ ap (λ (z : List _). length z + 1) (sym put.before)

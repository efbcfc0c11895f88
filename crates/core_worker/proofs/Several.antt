-- Several workers, each later in its place.
use Rattle.std.proofs.Common.{◌≡◌, ℕ, ◌<◌, List, length, get_or, set, sym, subst, ◌∙◌, inl, inr, arith}
use Rattle.std.proofs.lemmas.Bool.{cases_eq}
use Rattle.std.proofs.lemmas.List.{length-set, get_or-set_same, get_or-set_other, get_or_default}
use Rattle.core_worker.specs.Worker.{WorkerFace, IsLater, AreLater, HasTurned, IsOver, IsDone}
use Rattle.core_worker.specs.declared.turn.Turn.{Turn}
use Rattle.core_worker.specs.declared.turn.Turn.TheVariants.{Ended}
use Rattle.core_worker.proofs.Going.{both}

-- what is later than a later one is later
pub later_both : (w w' w'' : WorkerFace) → IsLater w w' → IsLater w' w'' → IsLater w w''
later_both w w' w'' one two = record {
  goes_on = both w.limit w'.limit w.core w'.core w''.core w.pass.view w'.pass.view w''.pass.view one.limit
      one.goes_on two.goes_on;
  limit = two.limit ∙ one.limit;
}

-- a worker whose turn ended is done
pub done_at_end : (turn : Turn) (w w' : WorkerFace) → HasTurned turn w w' → turn ≡ Ended → IsDone w'
done_at_end turn w w' h is = let over : IsOver w w' = subst (λ t. HasTurned t w w') is h in over.ended

-- one of them later
pub all_set : (ws ws' : List WorkerFace) (k : ℕ) (d0 w' : WorkerFace) → AreLater ws ws' → k < length ws'
    → IsLater (get_or ws' k d0) w' → AreLater ws (set ws' k w')
all_set ws ws' k d0 w' h below later = record {
  count = length-set ws' k w' ∙ h.count;
  later = λ j d low. elim (cases_eq j k) [
    | inl same ↦
        let there : k < length ws = omega (arith, below, h.count) in
        let at : get_or ws' k d0 ≡ get_or ws' k d = get_or_default ws' k d0 d below in
        let two : IsLater (get_or ws k d) w' =
        later_both (get_or ws k d) (get_or ws' k d) w' (h.later k d there) (subst (λ w. IsLater w w') at later) in
        subst (λ i. IsLater (get_or ws i d) (get_or (set ws' k w') i d)) (sym same) (subst (IsLater (get_or ws k d))
        (sym (get_or-set_same ws' k w' d below)) two)
    | inr other ↦ subst (IsLater (get_or ws j d)) (sym (get_or-set_other ws' k j w' d other)) (h.later j d low)
  ];
}

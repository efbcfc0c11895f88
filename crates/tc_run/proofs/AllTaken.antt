-- The words of a board on which all of a machine was made, and its cores one after another.
use Rattle.std.proofs.Common.{◌≡◌, ℕ, ◌*◌, ◌<◌, ◌≤◌, List, [], ◌∷◌, length, slice_index, sym, ap, ◌∙◌, subst, arith, Any, inl, inr}
use Rattle.std.specs.List.{AllByRecursion as Each}
use Rattle.std.proofs.lemmas.Bool.{cases_lt}
use Rattle.tc_word.proofs.Items.{past_all}
use Rattle.shared_order.specs.declared.operation.Operation.{Operation}
use Rattle.shared_order.specs.Fit.{Fits}
use Rattle.shared_order.specs.Words.{stored_last, LeavesWord}
use Rattle.shared_order.proofs.Words.{stored_last-others}
use Rattle.shared_order.proofs.ByCycles.{all_low, word_is_stored}
use Rattle.clock_board.specs.declared.known.Record.{Record}
use Rattle.clock_board.specs.Board.{BoardFace}
use Rattle.clock_board.specs.End.{AllPast}
use Rattle.patmos_model.specs.Cycle.{turn}
use Rattle.global_step.specs.Loaded.{Machine}
use Rattle.global_step.specs.Machine.{core_among, machine, at_limit, all_operations}
use Rattle.global_step.specs.Range.{IsOfWords, board_words}
use Rattle.global_step.proofs.MachineRanges.{operations_keep}
use Rattle.tc_run.specs.Worked.{IsBoardOf, IsPast}

-- operations on so many words leave those past them
left_alone : (words w : ℕ) (os : List Operation) → words ≤ w → Each (Fits words) os → Each (LeavesWord w) os
left_alone words w [] past h = tt
left_alone words w (o ∷ os) past h = (grind (arith, past, h.0), left_alone words w os past h.1)

-- each word of the machine at its limit is what was stored in it last
machine_word : (m : Machine) (w : ℕ) → (at_limit m).words w ≡ stored_last w (all_operations m) 0
unfolding machine
machine_word m w = word_is_stored turn (length m.cores) (core_among m.cores) m.limit w

machine_low : (m : Machine) → Each (λ (o : Operation). o.stamp < 2 * m.limit * length m.cores) (all_operations m)
unfolding machine
machine_low m = all_low turn (length m.cores) (core_among m.cores) m.limit

module _ (m : Machine) (b : BoardFace) (of : IsBoardOf m b) where
  -- the passes of all cores are back
  pub all_past : (back : List Record) → ((k : ℕ) → k < length m.cores → Any (IsPast m k) back)
      → AllPast b back (2 * m.limit * length m.cores)
  all_past back past = record {
    below = subst (Each (λ (o : Operation). o.stamp < 2 * m.limit * length m.cores)) (sym of.course) (machine_low m);
    past = λ core among. past core (subst (λ n. core < n) of.cores among);
  }

  pub all_words : IsOfWords m → (answer : List ℕ) → length answer ≡ b.words
      → ((w : ℕ) → w < b.words → slice_index answer w ≡ stored_last w b.course 0) → (w : ℕ) → slice_index answer w
      ≡ (at_limit m).words w
  all_words fits answer len within w = elim (cases_lt w b.words) [
    | inl below ↦ within w below ∙ ap (λ l. stored_last w l 0) of.course ∙ sym (machine_word m w)
    | inr past ↦
        past_all answer w (subst (λ n. n ≤ w) (sym len) past)
        ∙ sym (stored_last-others w (all_operations m) 0 (left_alone (board_words m) w (all_operations m)
        (subst (λ n. n ≤ w) of.words past) (operations_keep m fits)))
        ∙ sym (machine_word m w)
  ]

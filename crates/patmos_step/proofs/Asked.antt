-- A program that follows an ask: its operations, and the store that is pending at its end.
use Rattle.std.proofs.Common.{◌≡◌, ℕ, ◌+◌, true, List, [], ◌∷◌, refl, ap, ◌∙◌}
use Rattle.slot_arbiter.specs.declared.event.WordOp.{WordOp}
use Rattle.shared_order.specs.Program.{Prog, done, get, set, fed, first, others}
use Rattle.shared_order.specs.Operation.{load, store}
use Rattle.shared_order.specs.Event.{filled}
use Rattle.patmos_step.specs.declared.ask.Ask.{Ask}
use Rattle.patmos_step.specs.declared.ask.Ask.TheVariants.{Nothing, Load, Line, Store, Change}
use Rattle.patmos_model.specs.Cells.{Acted}
use Rattle.patmos_step.specs.Asks.{loading, ops_of, LeavesPending, Ends, Loads, Stores, AsksFor, FollowsAsk}

-- such a program makes these operations, and what it leaves is such
abbrev MakesOps : (Acted → Type 0) → List WordOp → Prog Acted → Type 0
MakesOps Is acts p =
    (s : ℕ) (values : List ℕ) → ((fed s p values).ops ≡ filled s acts values) × Is (fed s p values).core

-- one that asks for nothing
ended : (Is : Acted → Type 0) (p : Prog Acted) → Ends Is p → MakesOps Is [] p
ended Is (done a) h s values = (refl, h)
ended Is (get word go_on) h s values = absurd h
ended Is (set word value rest) h s values = absurd h

-- one that loads first
loaded_first : (Is : Acted → Type 0) (GoesOn : Prog Acted → Type 0) (acts : List WordOp) (word : ℕ) (p : Prog Acted)
    → ((q : Prog Acted) → GoesOn q → MakesOps Is acts q) → Loads word GoesOn p → MakesOps Is (loading word ∷ acts) p
loaded_first Is GoesOn acts word (done a) next h s values = absurd h
loaded_first Is GoesOn acts word (get asked go_on) next h s values = (
  ap (λ w. load s w (first values) ∷ (fed s (go_on (first values)) (others values)).ops) h.0
      ∙ ap (λ ops. load s word (first values) ∷ ops) (next (go_on (first values)) (h.1 (first values)) s
      (others values)).0,
  (next (go_on (first values)) (h.1 (first values)) s (others values)).1,
)
loaded_first Is GoesOn acts word (set asked value rest) next h s values = absurd h

-- one that stores first
stored_first : (Is : Acted → Type 0) (GoesOn : Prog Acted → Type 0) (acts : List WordOp) (word value : ℕ)
    (p : Prog Acted) → ((q : Prog Acted) → GoesOn q → MakesOps Is acts q) → Stores word value GoesOn p
    → MakesOps Is (record { word = word; write = true; value = value } ∷ acts) p
stored_first Is GoesOn acts word value (done a) next h s values = absurd h
stored_first Is GoesOn acts word value (get asked go_on) next h s values = absurd h
stored_first Is GoesOn acts word value (set asked stored rest) next h s values = (
  ap (λ w. store s w stored ∷ (fed s rest values).ops) h.0
      ∙ ap (λ v. store s word v ∷ (fed s rest values).ops) h.1
      ∙ ap (λ ops. store s word value ∷ ops) (next rest h.2 s values).0,
  (next rest h.2 s values).1,
)

-- one that asks for what an ask has
asked_for : (Is : Acted → Type 0) (asked : Ask) (p : Prog Acted) → AsksFor Is asked p → MakesOps Is (ops_of asked) p
asked_for Is Nothing p h = ended Is p h
asked_for Is (Load word) p h = loaded_first Is (Ends Is) [] word p (ended Is) h
asked_for Is (Line word) p h =
    loaded_first Is (Loads (word + 1) (Loads (word + 2) (Loads (word + 3) (Ends Is))))
    (loading (word + 1) ∷ loading (word + 2) ∷ loading (word + 3) ∷ []) word p
    (λ q. loaded_first Is (Loads (word + 2) (Loads (word + 3) (Ends Is))) (loading (word + 2) ∷ loading (word + 3) ∷ [])
    (word + 1) q
    (λ r. loaded_first Is (Loads (word + 3) (Ends Is)) (loading (word + 3) ∷ []) (word + 2) r
    (λ t. loaded_first Is (Ends Is) [] (word + 3) t (ended Is)))) h
asked_for Is (Store word value) p h = stored_first Is (Ends Is) [] word value p (ended Is) h
asked_for Is (Change word) p h = loaded_first Is (Ends Is) [] word p (ended Is) h

-- its operations are those that it asks for, whatever its loads give
pub asked_ops : (asked : Ask) (p : Prog Acted) (s : ℕ) (values : List ℕ) → FollowsAsk asked p → (fed s p values).ops
    ≡ filled s (ops_of asked) values
asked_ops asked p s values h = (asked_for (λ a. LeavesPending asked a.pending_store) asked p h s values).0

-- at its end the store is pending that the ask leaves
pub asked_pending : (asked : Ask) (p : Prog Acted) (s : ℕ) (values : List ℕ) → FollowsAsk asked p
    → LeavesPending asked (fed s p values).core.pending_store
asked_pending asked p s values h = (asked_for (λ a. LeavesPending asked a.pending_store) asked p h s values).1

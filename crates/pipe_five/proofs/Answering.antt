-- What a core asks of the board, answered at once: it goes on as if the values had come from elsewhere.
use Rattle.std.proofs.Common.{◌≡◌, ℕ, ◌+◌, List, Option, None, Some, refl, sym, ap, ◌∙◌}
use Rattle.shared_order.specs.Words.{put, after}
use Rattle.shared_order.specs.Program.{Prog, done, get, set, and_then, played, fed, first, others}
use Rattle.patmos_model.specs.declared.pending_store.PendingStore.{PendingStore}
use Rattle.patmos_model.specs.State.{Core}
use Rattle.patmos_model.specs.Cells.{Acted}
use Rattle.patmos_model.specs.Cycle.{settled}
use Rattle.patmos_step.specs.declared.ask.Ask.{Ask}
use Rattle.patmos_step.specs.declared.ask.Ask.TheVariants as asks
use Rattle.patmos_step.specs.Asks.{FollowsAsk, Ends, Loads, Stores}
use Rattle.pipe_five.specs.Board.{Hears, stored_by, completed}

-- played on the words, and then settled, the program leaves the core that it leaves when it is fed the values, and the
-- words are these with the store made that is then pending
pub record IsAnswered (s : ℕ) (p : Prog Acted) (values : List ℕ) (words stored : ℕ → ℕ) : Type 0 where
  pub core : (played s (and_then p settled) words).core ≡ (fed s p values).core.core
  pub board : after (played s (and_then p settled) words).ops words
      ≡ completed (fed s p values).core.pending_store stored

-- the end of a program
settled_so : (s : ℕ) (c : Core) (pending_store : Option PendingStore) (values : List ℕ) (words : ℕ → ℕ)
    → IsAnswered s (done (record { core = c; pending_store = pending_store })) values words words
settled_so s c None values words = record { core = refl; board = refl }
settled_so s c (Some o) values words = record { core = refl; board = refl }

end_so : (Is : Acted → Type 0) (s : ℕ) (p : Prog Acted) (values : List ℕ) (words : ℕ → ℕ) → Ends Is p
    → IsAnswered s p values words words
end_so Is s (done a) values words ends = settled_so s a.core a.pending_store values words
end_so Is s (get word go_on) values words ends = absurd ends
end_so Is s (set word value rest) values words ends = absurd ends

-- a load
get_so : (s word : ℕ) (go_on : ℕ → Prog Acted) (values : List ℕ) (words stored : ℕ → ℕ) → first values ≡ words word
    → IsAnswered s (go_on (words word)) (others values) words stored → IsAnswered s (get word go_on) values words stored
get_so s word go_on values words stored hears rest = record {
  core = rest.core ∙ ap (λ v. (fed s (go_on v) (others values)).core.core) (sym hears);
  board = rest.board ∙ ap (λ v. completed (fed s (go_on v) (others values)).core.pending_store stored) (sym hears);
}

loads_so : (s word : ℕ) (GoesOn : Prog Acted → Type 0) (p : Prog Acted) (values : List ℕ) (words stored : ℕ → ℕ)
    → Loads word GoesOn p → first values ≡ words word
    → ((q : Prog Acted) → GoesOn q → IsAnswered s q (others values) words stored) → IsAnswered s p values words stored
loads_so s word GoesOn (done a) values words stored loads hears rest = absurd loads
loads_so s word GoesOn (get asked go_on) values words stored loads hears rest =
    get_so s asked go_on values words stored (hears ∙ ap words (sym loads.0))
    (rest (go_on (words asked)) (loads.1 (words asked)))
loads_so s word GoesOn (set asked value p) values words stored loads hears rest = absurd loads

-- a store
stores_so : (s word value : ℕ) (Is : Acted → Type 0) (p : Prog Acted) (values : List ℕ) (words : ℕ → ℕ)
    → Stores word value (Ends Is) p
    → IsAnswered s p values words (put word value words)
stores_so s word value Is (done a) values words stores = absurd stores
stores_so s word value Is (get asked go_on) values words stores = absurd stores
stores_so s word value Is (set asked stored p) values words stores =
    let rest : IsAnswered s p values (put asked stored words) (put asked stored words) =
    end_so Is s p values (put asked stored words) stores.2 in
    record {
      core = rest.core;
      board = rest.board ∙ (λ i. completed (fed s p values).core.pending_store (put (stores.0 i) (stores.1 i) words));
    }

pub answered_so : (s : ℕ) (asked : Ask) (p : Prog Acted) (values : List ℕ) (words : ℕ → ℕ) → FollowsAsk asked p
    → Hears asked words values
    → IsAnswered s p values words (stored_by asked words)
answered_so s asks.Nothing p values words follows hears = end_so _ s p values words follows
answered_so s (asks.Load word) p values words follows hears =
    loads_so s word (Ends _) p values words words follows hears (λ q ends. end_so _ s q (others values) words ends)
answered_so s (asks.Line word) p values words follows hears =
    loads_so s word (Loads (word + 1) (Loads (word + 2) (Loads (word + 3) (Ends _)))) p values words words
    follows hears.0
    (λ q more. loads_so s (word + 1) (Loads (word + 2) (Loads (word + 3) (Ends _))) q (others values) words
    words more hears.1
    (λ q more. loads_so s (word + 2) (Loads (word + 3) (Ends _)) q (others (others values)) words words more hears.2
    (λ q more. loads_so s (word + 3) (Ends _) q (others (others (others values))) words words more hears.3
    (λ q ends. end_so _ s q (others (others (others (others values)))) words ends))))
answered_so s (asks.Store word value) p values words follows hears = stores_so s word value _ p values words follows
answered_so s (asks.Change word) p values words follows hears =
    loads_so s word (Ends _) p values words words follows hears (λ q ends. end_so _ s q (others values) words ends)

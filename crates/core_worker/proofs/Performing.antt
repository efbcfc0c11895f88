-- An event is made on the board, one access after another.
use Rattle.std.proofs.Common.{◌≡◌, ℕ, ◌+◌, ◌<◌, ◌≤◌, true, false, List, [], ◌∷◌, ◌++◌, length, take, drop, get_or, slice_set, refl, sym, ap, subst, ◌∙◌, append_assoc, append-nil}
use Rattle.std.proofs.lemmas.List.{take_more_set, take-append-drop, drop_all, drop_more}
use Rattle.slot_arbiter.specs.declared.event.WordOp.{WordOp}
use Rattle.shared_order.specs.declared.operation.Operation.{Operation}
use Rattle.shared_order.specs.Operation.{load, store, loads}
use Rattle.shared_order.specs.Program.{first, others}
use Rattle.shared_order.specs.Event.{filled}
use Rattle.shared_order.proofs.Events.{filled_store}
use Rattle.clock_board.specs.declared.known.View.{View}
use Rattle.clock_board.specs.Record.{with_operation}
use Rattle.clock_board.specs.View.{own, given}
use Rattle.core_worker.specs.Runs.{with_made}

-- the accesses before `rest` are made: their loads gave the values; what was made and what is left changed by
-- their operations; and what is left begins with those of the rest
pub record IsPartlyMade (s : ℕ) (acts rest : List WordOp) (made left made' left' : List Operation)
    (values : List ℕ) : Type 0 where
  pub prefix : List Operation
  pub asked : (more : List ℕ) → filled s acts (values ++ more) ≡ prefix ++ filled s rest more
  pub made_is : made' ≡ made ++ prefix
  pub left_is : left ≡ prefix ++ left'
  pub later : List Operation
  pub next : left' ≡ filled s rest (loads left') ++ later

-- and with a load
filled_load : (s : ℕ) (a : WordOp) (rest : List WordOp) (more : List ℕ) → a.write ≡ false → filled s (a ∷ rest) more
    ≡ load s a.word (first more) ∷ filled s rest (others more)
filled_load s a rest more e = rw e refl

module _ (s : ℕ) (acts : List WordOp) (a : WordOp) (rest : List WordOp) (made left made' left' : List Operation)
    (values : List ℕ) (h : IsPartlyMade s acts (a ∷ rest) made left made' left' values) where
  -- a store is what is left first
  store_first : a.write ≡ true → left' ≡ store s a.word a.value ∷ (filled s rest (loads left') ++ h.later)
  store_first e = h.next ∙ ap (λ l. l ++ h.later) (filled_store s a rest (loads left') e)

  -- so is a load
  load_first : a.write ≡ false → left' ≡ load s a.word (first (loads left'))
      ∷ (filled s rest (others (loads left')) ++ h.later)
  load_first e = h.next ∙ ap (λ l. l ++ h.later) (filled_load s a rest (loads left') e)

  module _ (o : Operation) (made'' left'' : List Operation) (more_made : made'' ≡ made' ++ o ∷ [])
      (less_left : left' ≡ o ∷ left'') where
    -- what is made grows by it
    made_so : made'' ≡ made ++ (h.prefix ++ o ∷ [])
    made_so = more_made ∙ ap (λ l. l ++ o ∷ []) h.made_is ∙ append_assoc made h.prefix (o ∷ [])

    -- and what is left shrinks
    left_so : left ≡ (h.prefix ++ o ∷ []) ++ left''
    left_so = h.left_is ∙ ap (λ l. h.prefix ++ l) less_left ∙ sym (append_assoc h.prefix (o ∷ []) left'')

  -- the store is made
  store_made : (made'' left'' : List Operation) → a.write ≡ true → made'' ≡ made' ++ store s a.word a.value ∷ [] → left'
      ≡ store s a.word a.value ∷ left'' → IsPartlyMade s acts rest made left made'' left'' values
  store_made made'' left'' e more_made less_left =
      let o : Operation = store s a.word a.value in
      record {
        prefix = h.prefix ++ o ∷ [];
        asked = λ more. h.asked more ∙ ap (λ l. h.prefix ++ l) (filled_store s a rest more e)
            ∙ sym (append_assoc h.prefix (o ∷ []) (filled s rest more));
        made_is = made_so o made'' left'' more_made less_left;
        left_is = left_so o made'' left'' more_made less_left;
        later = h.later;
        next = ap (drop 1) (sym less_left ∙ store_first e) ∙ ap (λ l. filled s rest (loads l) ++ h.later) less_left;
      }

  -- the load is made
  load_made : (v : ℕ) (made'' left'' : List Operation) → a.write ≡ false → made'' ≡ made' ++ load s a.word v ∷ []
      → left' ≡ load s a.word v ∷ left'' → IsPartlyMade s acts rest made left made'' left'' (values ++ v ∷ [])
  load_made v made'' left'' e more_made less_left =
      let o : Operation = load s a.word v in
      record {
        prefix = h.prefix ++ o ∷ [];
        asked = λ more. ap (λ l. filled s acts l) (append_assoc values (v ∷ []) more) ∙ h.asked (v ∷ more)
            ∙ ap (λ l. h.prefix ++ l) (filled_load s a rest (v ∷ more) e)
            ∙ sym (append_assoc h.prefix (o ∷ []) (filled s rest more));
        made_is = made_so o made'' left'' more_made less_left;
        left_is = left_so o made'' left'' more_made less_left;
        later = h.later;
        next = ap (drop 1) (sym less_left ∙ load_first e) ∙ ap (λ l. filled s rest (others (loads l))
            ++ h.later) less_left;
      }

-- ---- by the index of the next access

module _ (s : ℕ) (acts : List WordOp) (i : ℕ) (d : WordOp) (made left made' left' : List Operation) (values : List ℕ)
    (below : i < length acts)
    (h : IsPartlyMade s acts (drop i acts) made left made' left' values) where
  there : IsPartlyMade s acts (get_or acts i d ∷ drop (i + 1) acts) made left made' left' values
  there = subst (λ l. IsPartlyMade s acts l made left made' left' values) (drop_more acts i d below) h

  pub store_done : (made'' left'' : List Operation) → (get_or acts i d).write ≡ true → made'' ≡ made'
      ++ store s (get_or acts i d).word (get_or acts i d).value ∷ []
      → left' ≡ store s (get_or acts i d).word (get_or acts i d).value ∷ left''
      → IsPartlyMade s acts (drop (i + 1) acts) made left made'' left'' values
  store_done made'' left'' e more_made less_left = store_made s acts (get_or acts i d) (drop (i + 1) acts) made left
      made' left' values there made'' left'' e more_made less_left

pub load_done : (s : ℕ) (acts : List WordOp) (i : ℕ) (d : WordOp) (made left made' left' : List Operation)
    (values values' : List ℕ) (j v : ℕ) → i < length acts
    → IsPartlyMade s acts (drop i acts) made left made' left' (take j values) → (made'' left'' : List Operation)
    → (get_or acts i d).write ≡ false → made'' ≡ made' ++ load s (get_or acts i d).word v ∷ []
    → left' ≡ load s (get_or acts i d).word v ∷ left'' → j < length values → values' ≡ slice_set values j v
    → IsPartlyMade s acts (drop (i + 1) acts) made left made'' left'' (take (j + 1) values')
load_done s acts i d made left made' left' values values' j v below h made'' left'' e more_made less_left
    within set_is =
    subst (λ l. IsPartlyMade s acts (drop (i + 1) acts) made left made'' left'' l)
    (sym (ap (take (j + 1)) set_is ∙ take_more_set values j v within))
    (load_made s acts (get_or acts i d) (drop (i + 1) acts) made left made' left' (take j values)
    (there s acts i d made left made' left' (take j values) below h) v made'' left'' e more_made less_left)

-- with nothing left, the event is made
pub all_done : (s : ℕ) (acts : List WordOp) (made left made' left' : List Operation) (values : List ℕ) (i j : ℕ)
    → length acts ≤ i → IsPartlyMade s acts (drop i acts) made left made' left' (take j values)
    → (made' ≡ made ++ filled s acts values) × (left ≡ filled s acts values ++ left')
all_done s acts made left made' left' values i j end h =
    let k : IsPartlyMade s acts [] made left made' left' (take j values) =
    subst (λ l. IsPartlyMade s acts l made left made' left' (take j values)) (drop_all i acts end) h in
    let prefix : filled s acts values ≡ k.prefix =
    ap (filled s acts) (sym (take-append-drop j values)) ∙ k.asked (drop j values) ∙ append-nil k.prefix in
    (k.made_is ∙ ap (λ l. made ++ l) (sym prefix), k.left_is ∙ ap (λ l. l ++ left') (sym prefix))

-- but for what it made the pass knows what it knew
pub same_made : (v0 v v' : View) (o : Operation) → v ≡ with_made v0 (own v).made → v'
    ≡ given v (with_operation (own v) o) → v' ≡ with_made v0 (own v').made
same_made v0 v v' o was resumed = resumed ∙ ap (λ u. given u (with_operation (own u) o)) was
    ∙ ap (with_made v0) (sym (ap (λ u. (own u).made) resumed))

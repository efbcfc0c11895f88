-- How an event is made, one access after another.
use Rattle.std.proofs.Common.{◌≡◌, ℕ, zero, ◌+◌, ◌<◌, ◌≤◌, ◌==◌, Bool, true, false, true≢false, List, [], ◌∷◌, ◌++◌, length, take, drop, get_or, slice_index, slice_set, refl, sym, ap, subst, ◌∙◌, append_assoc, append-nil, eq-eqb, eqb-true}
use Rattle.std.specs.List.{AllByRecursion as Each}
use Rattle.std.proofs.lemmas.List.{get_or-set_same, get_or-set_other, take_more_set, take-append-drop, drop_all, drop_more}
use Rattle.slot_arbiter.specs.declared.event.WordOp.{WordOp}
use Rattle.shared_order.specs.declared.operation.Operation.{Operation}
use Rattle.shared_order.specs.Operation.{load, store}
use Rattle.shared_order.specs.Words.{put, after}
use Rattle.shared_order.specs.Program.{played}
use Rattle.shared_order.specs.Event.{filled}
use Rattle.shared_order.proofs.Words.{after-append, words_put}
use Rattle.shared_order.proofs.Events.{filled_store}
use Rattle.global_step.specs.PlainEvent.{accesses}

-- the accesses before `rest` are made: their loads gave the values, and the words are those after them
pub record IsPartlyMade (s : ℕ) (acts rest : List WordOp) (begun words : ℕ → ℕ) (values : List ℕ) : Type 0 where
  pub prefix : List Operation
  pub asked : (more : List ℕ) → filled s acts (values ++ more) ≡ prefix ++ filled s rest more
  pub made : (played s (accesses acts) begun).ops ≡ prefix ++ (played s (accesses rest) words).ops
  pub after : words ≡ after prefix begun

filled_load : (s : ℕ) (a : WordOp) (rest : List WordOp) (v : ℕ) (more : List ℕ) → a.write ≡ false
    → filled s (a ∷ rest) (v ∷ more) ≡ load s a.word v ∷ filled s rest more
filled_load s a rest v more e = rw e refl

played_store : (s : ℕ) (a : WordOp) (rest : List WordOp) (words : ℕ → ℕ) → a.write ≡ true
    → (played s (accesses (a ∷ rest)) words).ops ≡ store s a.word a.value
    ∷ (played s (accesses rest) (put a.word a.value words)).ops
played_store s a rest words e = rw e refl

played_load : (s : ℕ) (a : WordOp) (rest : List WordOp) (words : ℕ → ℕ) → a.write ≡ false
    → (played s (accesses (a ∷ rest)) words).ops ≡ load s a.word (words a.word) ∷ (played s (accesses rest) words).ops
played_load s a rest words e = rw e refl

pub store_made : (s : ℕ) (acts : List WordOp) (a : WordOp) (rest : List WordOp) (begun words words' : ℕ → ℕ)
    (values : List ℕ) → a.write ≡ true → words' ≡ put a.word a.value words
    → IsPartlyMade s acts (a ∷ rest) begun words values → IsPartlyMade s acts rest begun words' values
store_made s acts a rest begun words words' values e put_is h =
    let o : Operation = store s a.word a.value in
    record {
      prefix = h.prefix ++ o ∷ [];
      asked = λ more. h.asked more ∙ ap (λ l. h.prefix ++ l) (filled_store s a rest more e)
          ∙ sym (append_assoc h.prefix (o ∷ []) (filled s rest more));
      made = h.made ∙ ap (λ l. h.prefix ++ l) (played_store s a rest words e)
          ∙ ap (λ f. h.prefix ++ (o ∷ (played s (accesses rest) f).ops)) (sym put_is)
          ∙ sym (append_assoc h.prefix (o ∷ []) (played s (accesses rest) words').ops);
      after = put_is ∙ ap (λ f. put a.word a.value f) h.after ∙ sym (after-append h.prefix (o ∷ []) begun);
    }

pub load_made : (s : ℕ) (acts : List WordOp) (a : WordOp) (rest : List WordOp) (begun words : ℕ → ℕ) (values : List ℕ)
    → a.write ≡ false → IsPartlyMade s acts (a ∷ rest) begun words values → IsPartlyMade s acts rest begun words (values
    ++ words a.word ∷ [])
load_made s acts a rest begun words values e h =
    let v : ℕ = words a.word in
    let o : Operation = load s a.word v in
    record {
      prefix = h.prefix ++ o ∷ [];
      asked = λ more. ap (λ l. filled s acts l) (append_assoc values (v ∷ []) more) ∙ h.asked (v ∷ more)
          ∙ ap (λ l. h.prefix ++ l) (filled_load s a rest v more e)
          ∙ sym (append_assoc h.prefix (o ∷ []) (filled s rest more));
      made = h.made ∙ ap (λ l. h.prefix ++ l) (played_load s a rest words e)
          ∙ sym (append_assoc h.prefix (o ∷ []) (played s (accesses rest) words).ops);
      after = h.after ∙ sym (after-append h.prefix (o ∷ []) begun);
    }

-- with nothing left, the event is made
pub all_made : (s : ℕ) (acts : List WordOp) (begun words : ℕ → ℕ) (values more : List ℕ)
    → IsPartlyMade s acts [] begun words values
    → (filled s acts (values ++ more) ≡ (played s (accesses acts) begun).ops)
    × ((w : ℕ) → words w ≡ after (played s (accesses acts) begun).ops begun w)
all_made s acts begun words values more h =
    let whole : h.prefix ≡ (played s (accesses acts) begun).ops = sym (append-nil h.prefix) ∙ sym h.made in
    (h.asked more ∙ append-nil h.prefix ∙ whole, λ w i. (h.after ∙ ap (λ l. after l begun) whole) i w)

-- ---- by the index of the next access

pub store_next : (s : ℕ) (acts : List WordOp) (begun : ℕ → ℕ) (i : ℕ) (d : WordOp) (ws ws' values : List ℕ)
    → i < length acts → (get_or acts i d).write ≡ true → (get_or acts i d).word < length ws
    → ws' ≡ slice_set ws (get_or acts i d).word (get_or acts i d).value
    → IsPartlyMade s acts (drop i acts) begun (slice_index ws) values
    → IsPartlyMade s acts (drop (i + 1) acts) begun (slice_index ws') values
store_next s acts begun i d ws ws' values below store within set_is h =
    let a : WordOp = get_or acts i d in
    store_made s acts a (drop (i + 1) acts) begun (slice_index ws) (slice_index ws') values store
    (ap slice_index set_is ∙ words_put ws a.word a.value within)
    (subst (λ l. IsPartlyMade s acts l begun (slice_index ws) values) (drop_more acts i d below) h)

pub load_next : (s : ℕ) (acts : List WordOp) (begun : ℕ → ℕ) (i : ℕ) (d : WordOp) (ws values values' : List ℕ) (j : ℕ)
    → i < length acts → (get_or acts i d).write ≡ false → j < length values
    → values' ≡ slice_set values j (slice_index ws (get_or acts i d).word)
    → IsPartlyMade s acts (drop i acts) begun (slice_index ws) (take j values)
    → IsPartlyMade s acts (drop (i + 1) acts) begun (slice_index ws) (take (j + 1) values')
load_next s acts begun i d ws values values' j below load within set_is h =
    let a : WordOp = get_or acts i d in
    subst (λ l. IsPartlyMade s acts (drop (i + 1) acts) begun (slice_index ws) l)
    (sym (ap (take (j + 1)) set_is ∙ take_more_set values j (slice_index ws a.word) within))
    (load_made s acts a (drop (i + 1) acts) begun (slice_index ws) (take j values) load
    (subst (λ l. IsPartlyMade s acts l begun (slice_index ws) (take j values)) (drop_more acts i d below) h))

pub made_whole : (s : ℕ) (acts : List WordOp) (ws values : List ℕ) (begun : ℕ → ℕ) (i j : ℕ) → length acts ≤ i
    → IsPartlyMade s acts (drop i acts) begun (slice_index ws) (take j values)
    → (filled s acts values ≡ (played s (accesses acts) begun).ops) × ((w : ℕ) → slice_index ws w
    ≡ after (played s (accesses acts) begun).ops begun w)
made_whole s acts ws values begun i j end h =
    let all = all_made s acts begun (slice_index ws) (take j values) (drop j values)
    (subst (λ l. IsPartlyMade s acts l begun (slice_index ws) (take j values)) (drop_all i acts end) h) in
    (ap (filled s acts) (sym (take-append-drop j values)) ∙ all.0, all.1)

-- How runs go on: from words in code to the next.
use Rattle.std.proofs.Common.{◌≡◌, ℕ, zero, suc, ◌+◌, ◌<◌, ◌≤◌, Bool, true, false, List, length, drop, get_or, slice_index, slice_index_or, refl, ap, sym, ◌∙◌, arith, eq-eqb, ne_eqb, ◌≢◌, if◌then◌else◌, inl, inr}
use Rattle.std.proofs.lemmas.Bool.{cases_lt}
use Rattle.std.proofs.lemmas.List.{drop_all}
use Rattle.tc_word.proofs.Items.{drop_item}
use Rattle.c_world.specs.Shown.{shown}
use Rattle.c_world.specs.World.{World, Sending, with_overrun}
use Rattle.c_world.specs.declared.memory.Memory.{Memory}
use Rattle.c_meaning.specs.declared.ways.Way.{Way}
use Rattle.c_meaning.specs.declared.ways.Way.TheVariants as way
use Rattle.c_meaning.specs.declared.actions.Action.{Action}
use Rattle.c_meaning.specs.Actions.{PlainAction, PlainActions, no_action, action}
use Rattle.c_meaning.specs.Meaning.{Done, Outcome, goes_on, then_done, iteration_done, iterations_done, way_value}
use Rattle.c_meaning.specs.Shown.{plain_action, actions_of}
use Rattle.c_meaning.specs.Resolved.{Serves, action_done, actions_done, serves, routine_outcome}
use Rattle.c_meaning.specs.Values.{State}
use Rattle.c_run.specs.Ran.{state_of, HasDone, HasOutcome, GoesOn}

-- ---- an end, and what is yet to be done

pub has_done : (d : Done) (w : Way) (frame : List ℕ) (memory : Memory) (sends : List Sending)
    → d ≡ record { way = w; state = state_of frame memory sends } → HasDone d w frame memory
has_done d w frame memory sends is = record {
  ends = is ∙ ap (λ x. let t : Done = record { way = w; state = state_of frame memory x } in t) (sym
      (ap (λ (t : Done). t.state.world.sends) is));
}

pub has_outcome : (g : Outcome) (n : ℕ) (memory : Memory) (sends : List Sending) → g
    ≡ record { value = n; world = shown memory sends } → HasOutcome g n memory
has_outcome g n memory sends is = record {
  gives = is ∙ ap (λ x. let t : Outcome = record { value = n; world = shown memory x } in t) (sym
      (ap (λ (t : Outcome). t.world.sends) is));
}

-- from these words on, it ends as the whole does
pub record Reaches (d : Done) (next : State → Done) (frame : List ℕ) (memory : Memory) : Type 0 where
  pub sends : List Sending
  pub same : d ≡ next (state_of frame memory sends)

pub reaches_first : (next : State → Done) (frame : List ℕ) (memory : Memory) (sends : List Sending)
    → Reaches (next (state_of frame memory sends)) next frame memory
reaches_first next frame memory sends = record { sends = sends; same = refl }

pub along : (d e : Done) (w : Way) (frame : List ℕ) (memory : Memory) → d ≡ e → HasDone e w frame memory
    → HasDone d w frame memory
along d e w frame memory same h = has_done d w frame memory e.state.world.sends (same ∙ h.ends)

-- ---- actions one after another

pub reach_item : (g : Serves) (d : Done) (actions : List Action) (i : ℕ) (a : Action) (f : List ℕ) (m : Memory)
    → i < length actions → a ≡ get_or actions i a
    → Reaches d (actions_done g (actions_of (drop i actions))) f m
    → Reaches d (actions_done g (action (plain_action a) (actions_of (drop (i + 1) actions)))) f m
reach_item g d actions i a f m within is r = record {
  sends = r.sends;
  same = r.same ∙ ap (λ as'. actions_done g (actions_of as') (state_of f m r.sends)) (drop_item actions i a within is);
}

pub reach_end : (g : Serves) (d : Done) (actions : List Action) (i : ℕ) (f : List ℕ) (m : Memory) → length actions ≤ i
    → Reaches d (actions_done g (actions_of (drop i actions))) f m → Reaches d (actions_done g no_action) f m
reach_end g d actions i f m past r = record {
  sends = r.sends;
  same = r.same ∙ ap (λ as'. actions_done g (actions_of as') (state_of f m r.sends)) (drop_all i actions past);
}

pub next_action : (g : Serves) (d : Done) (a : PlainAction) (rest : PlainActions) (f : List ℕ) (m : Memory)
    (f' : List ℕ) (m' : Memory)
    → Reaches d (actions_done g (action a rest)) f m
    → ((sends : List Sending) → HasDone (action_done g a (state_of f m sends)) way.On f' m')
    → Reaches d (actions_done g rest) f' m'
next_action g d a rest f m f' m' r h = record {
  sends = (action_done g a (state_of f m r.sends)).state.world.sends;
  same = r.same ∙ ap (then_done (actions_done g rest)) (h r.sends).ends;
}

pub left_by_break : (g : Serves) (d : Done) (a : PlainAction) (rest : PlainActions) (f : List ℕ) (m : Memory)
    (f' : List ℕ) (m' : Memory)
    → Reaches d (actions_done g (action a rest)) f m
    → ((sends : List Sending) → HasDone (action_done g a (state_of f m sends)) way.Broken f' m')
    → HasDone d way.Broken f' m'
left_by_break g d a rest f m f' m' r h =
    has_done d way.Broken f' m' (action_done g a (state_of f m r.sends)).state.world.sends
    (r.same ∙ ap (then_done (actions_done g rest)) (h r.sends).ends)

pub left_by_continue : (g : Serves) (d : Done) (a : PlainAction) (rest : PlainActions) (f : List ℕ) (m : Memory)
    (f' : List ℕ) (m' : Memory)
    → Reaches d (actions_done g (action a rest)) f m
    → ((sends : List Sending) → HasDone (action_done g a (state_of f m sends)) way.Continued f' m')
    → HasDone d way.Continued f' m'
left_by_continue g d a rest f m f' m' r h =
    has_done d way.Continued f' m' (action_done g a (state_of f m r.sends)).state.world.sends
    (r.same ∙ ap (then_done (actions_done g rest)) (h r.sends).ends)

pub left_by_return : (g : Serves) (d : Done) (a : PlainAction) (rest : PlainActions) (f : List ℕ) (m : Memory)
    (f' : List ℕ) (m' : Memory) (n : ℕ)
    → Reaches d (actions_done g (action a rest)) f m
    → ((sends : List Sending) → HasDone (action_done g a (state_of f m sends)) (way.Returned n) f' m')
    → HasDone d (way.Returned n) f' m'
left_by_return g d a rest f m f' m' n r h =
    has_done d (way.Returned n) f' m' (action_done g a (state_of f m r.sends)).state.world.sends
    (r.same ∙ ap (then_done (actions_done g rest)) (h r.sends).ends)

pub at_the_end : (g : Serves) (d : Done) (f : List ℕ) (m : Memory) → Reaches d (actions_done g no_action) f m
    → HasDone d way.On f m
at_the_end g d f m r = has_done d way.On f m r.sends r.same

-- ---- functions

serves_own : (fs : List PlainActions) (k n : ℕ) (args : List ℕ) (w : World) → k < n
    → serves fs n k args w ≡ routine_outcome (serves fs k) (slice_index_or fs k no_action) args w
serves_own fs k zero args w below = absurd (omega arith)
serves_own fs k (suc n) args w below = elim (cases_lt k n) [
  | inl less ↦
      let other : k ≢ n = omega arith in
      ap (λ b. if b then routine_outcome (serves fs n) (slice_index_or fs n no_action) args w else serves fs n k args w)
      (ne_eqb k n other)
      ∙ serves_own fs k n args w less
  | inr more ↦
      let same : n ≡ k = omega arith in
      ap (λ b. if b then routine_outcome (serves fs n) (slice_index_or fs n no_action) args w else serves fs n k args w)
      (eq-eqb k n (sym same))
      ∙ ap (λ m. routine_outcome (serves fs m) (slice_index_or fs m no_action) args w) same
]

pub serves_none : (fs : List PlainActions) (k n : ℕ) (args : List ℕ) (w : World) → n ≤ k → serves fs n k args w
    ≡ record { value = 0; world = w }
serves_none fs k zero args w past = refl
serves_none fs k (suc n) args w past =
    let other : k ≢ n = omega arith in
    ap (λ b. if b then routine_outcome (serves fs n) (slice_index_or fs n no_action) args w else serves fs n k args w)
    (ne_eqb k n other)
    ∙ serves_none fs k n args w (omega arith)

-- a number that no function has
pub none_given : (fs : List PlainActions) (k n : ℕ) (args : List ℕ) (m : Memory) (sends : List Sending) → n ≤ k
    → HasOutcome (serves fs n k args (shown m sends)) 0 m
none_given fs k n args m sends past =
    has_outcome (serves fs n k args (shown m sends)) 0 m sends (serves_none fs k n args (shown m sends) past)

-- the function of a number, run on its own frame
pub body_given : (fs : List PlainActions) (k n : ℕ) (args own : List ℕ) (m : Memory) (sends : List Sending)
    (body : PlainActions)
    (w : Way) (own' : List ℕ) (m' : Memory) → k < n → slice_index_or fs k no_action ≡ body → slice_index own
    ≡ slice_index args
    → HasDone (actions_done (serves fs k) body (state_of own m sends)) w own' m'
    → HasOutcome (serves fs n k args (shown m sends)) (way_value w) m'
body_given fs k n args own m sends body w own' m' below is_body frame h =
    let done = actions_done (serves fs k) body (state_of own m sends) in
    has_outcome (serves fs n k args (shown m sends)) (way_value w) m' done.state.world.sends
    (serves_own fs k n args (shown m sends) below ∙ ap (λ b. routine_outcome (serves fs k) b args
    (shown m sends)) is_body
    ∙ ap (λ locals. let d = actions_done (serves fs k) body (record { locals = locals; world = shown m sends }) in
    let t : Outcome = record { value = way_value d.way; world = d.state.world } in t) (sym frame)
    ∙ ap (λ (d : Done). let t : Outcome = record { value = way_value d.way; world = d.state.world } in t) h.ends)

-- ---- loops

pub another_iteration : (h : State → Bool) (b : State → Done) (step : State → State) (d : Done) (n k : ℕ)
    (f : List ℕ) (m : Memory)
    → n ≡ k → Reaches d (iterations_done h b step n) f m → Reaches d (iterations_done h b step k) f m
another_iteration h b step d n k f m same r =
    record { sends = r.sends; same = r.same ∙ ap (λ j. iterations_done h b step j (state_of f m r.sends)) same }

pub not_held : (h : State → Bool) (b : State → Done) (step : State → State) (d : Done) (n : ℕ) (f : List ℕ) (m : Memory)
    → Reaches d (iterations_done h b step (suc n)) f m → ((sends : List Sending) → h (state_of f m sends) ≡ false)
    → HasDone d way.On f m
not_held h b step d n f m r fails =
    has_done d way.On f m r.sends (r.same ∙ ap (λ c. elim c as (λ _. Done) [
      | true ↦ iteration_done (iterations_done h b step n) step (b (state_of f m r.sends))
      | false ↦ goes_on (state_of f m r.sends)
    ]) (fails r.sends))

held_iteration : (h : State → Bool) (b : State → Done) (step : State → State) (d : Done) (n : ℕ)
    (f : List ℕ) (m : Memory)
    → (r : Reaches d (iterations_done h b step (suc n)) f m) → ((sends : List Sending) → h (state_of f m sends) ≡ true)
    → d ≡ iteration_done (iterations_done h b step n) step (b (state_of f m r.sends))
held_iteration h b step d n f m r held =
    r.same ∙ ap (λ c. elim c as (λ _. Done) [
      | true ↦ iteration_done (iterations_done h b step n) step (b (state_of f m r.sends))
      | false ↦ goes_on (state_of f m r.sends)
    ]) (held r.sends)

pub next_iteration : (h : State → Bool) (b : State → Done) (step : State → State) (d : Done) (n : ℕ) (f : List ℕ)
    (m : Memory) (f' : List ℕ) (m' : Memory)
    → Reaches d (iterations_done h b step (suc n)) f m → ((sends : List Sending) → h (state_of f m sends) ≡ true)
    → ((sends : List Sending) → GoesOn step (b (state_of f m sends)) f' m')
    → Reaches d (iterations_done h b step n) f' m'
next_iteration h b step d n f m f' m' r held on = record {
  sends = (on r.sends).sends;
  same = held_iteration h b step d n f m r held ∙ (on r.sends).goes (iterations_done h b step n);
}

pub last_iteration : (h : State → Bool) (b : State → Done) (step : State → State) (d : Done) (n : ℕ) (f : List ℕ)
    (m : Memory) (w : Way) (f' : List ℕ) (m' : Memory)
    → Reaches d (iterations_done h b step (suc n)) f m → ((sends : List Sending) → h (state_of f m sends) ≡ true)
    → ((sends : List Sending) (more : State → Done) → HasDone (iteration_done more step (b (state_of f m sends))) w f'
    m') → HasDone d w f' m'
last_iteration h b step d n f m w f' m' r held ended =
    along d (iteration_done (iterations_done h b step n) step (b (state_of f m r.sends))) w f' m'
    (held_iteration h b step d n f m r held) (ended r.sends (iterations_done h b step n))

pub all_iterated : (h : State → Bool) (b : State → Done) (step : State → State) (d : Done) (f : List ℕ) (m : Memory)
    (held : Bool) (m' : Memory)
    → Reaches d (iterations_done h b step zero) f m → ((sends : List Sending) → held ≡ h (state_of f m sends))
    → ((sends : List Sending) → shown m' sends ≡ with_overrun held (shown m sends)) → HasDone d way.On f m'
all_iterated h b step d f m held m' r same set =
    has_done d way.On f m' r.sends (r.same ∙ ap (λ w. goes_on (record { locals = slice_index f; world = w }))
    (ap (λ c. with_overrun c (shown m r.sends)) (sym (same r.sends)) ∙ sym (set r.sends)))

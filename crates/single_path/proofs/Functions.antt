-- Functions that are made: under the mask 1 they give what their actions give, and under another they change no memory.
use Rattle.std.proofs.Common.{◌≡◌, ◌≢◌, ℕ, zero, suc, ◌+◌, ◌<◌, ◌≤◌, ◌==◌, Bool, true, false, if◌then◌else◌, List, [], ◌∷◌, length, slice_index, slice_index_or, refl, ap, sym, ◌∙◌, arith, eq-eqb, ne_eqb, true≢false, ◌⊎◌, inl, inr, None}
use Rattle.std.proofs.lemmas.Bool.{cases_lt}
use Rattle.tc_word.proofs.Items.{past_all}
use Rattle.c_world.specs.Numbers.{flag}
use Rattle.c_world.specs.World.{World}
use Rattle.sp_tree.specs.Statements.{PlainFunction, no_function}
use Rattle.sp_tree.specs.Straight.{State, Serves, with_slot, worth, stmts_done, begun_frame, function_outcome, serves}
use Rattle.c_meaning.specs.Actions.{PlainActions, no_action}
use Rattle.c_meaning.specs.Resolved as resolved
use Rattle.single_path.specs.Made.{made}
use Rattle.single_path.specs.PartWords.{outermost}
use Rattle.single_path.specs.Single.{variables, begun_mask, made_function, made_functions}
use Rattle.single_path.proofs.Acting.{live_all}
use Rattle.single_path.proofs.Calling.{Serving}
use Rattle.single_path.proofs.Ways.{Went}
use Rattle.single_path.proofs.Frames.{put_here, put_there, Order}
use Rattle.single_path.proofs.Idle.{Quiet, Dead, gone, dead}
use Rattle.single_path.proofs.Resting.{AllRest, actions_rest}
use Rattle.single_path.proofs.Sound.{Callable, AllSound}

pub outermost_order : (n : ℕ) → Order n (outermost n)
outermost_order n =
    record { result = omega arith; function = omega arith; loop = omega arith; own = omega arith; free = omega arith }

-- ---- one function, as its body begins

abbrev begun_state : ℕ → PlainActions → ℕ → List ℕ → World → State
begun_state parameters body under args w =
    record { frame = begun_frame (made_function parameters body) under args; world = w }

abbrev masked_state : ℕ → PlainActions → ℕ → List ℕ → World → State
masked_state parameters body under args w =
    let p = outermost (variables parameters body) in
    let s = begun_state parameters body under args w in
    with_slot p.function (worth (begun_mask p) s) s

mask_word : (parameters : ℕ) (body : PlainActions) (under : ℕ) (args : List ℕ) (w : World)
    → (masked_state parameters body under args w).frame (variables parameters body + 1) ≡ flag (under == 1)
mask_word parameters body under args w =
    let p = outermost (variables parameters body) in
    let s = begun_state parameters body under args w in
    put_here p.function (worth (begun_mask p) s) s.frame ∙ ap (λ u. flag (u == 1)) (put_here p.function under
    (slice_index args))

-- the words but the mask's are those of the arguments
other_word : (parameters : ℕ) (body : PlainActions) (under : ℕ) (args : List ℕ) (w : World) (x : ℕ) → x
    ≢ variables parameters body + 1
    → (masked_state parameters body under args w).frame x ≡ slice_index args x
other_word parameters body under args w x other =
    let p = outermost (variables parameters body) in
    let s = begun_state parameters body under args w in
    put_there p.function (worth (begun_mask p) s) x s.frame (λ e. other (sym e))
    ∙ put_there p.function under x (slice_index args) (λ e. other (sym e))

-- ---- what one function gives

other_dead : (parameters : ℕ) (body : PlainActions) (under : ℕ) (args : List ℕ) (w : World) → under ≢ 1
    → Dead (outermost (variables parameters body)) (masked_state parameters body under args w)
other_dead parameters body under args w other =
    let word : (masked_state parameters body under args w).frame (variables parameters body + 1) ≡ 0 =
    mask_word parameters body under args w ∙ ap flag (ne_eqb under 1 other) in
    record {
      own_word = 0;
      loop_word = 0;
      function_word = 0;
      idle = gone;
      own = word;
      loop = word;
      function = word;
      alone = λ two. refl;
    }

function_quiet : (g : Serves) → Quiet g → (parameters : ℕ) (body : PlainActions) (under : ℕ) (args : List ℕ)
    (w : World) → under ≢ 1
    → (function_outcome g (made_function parameters body) under args w).world ≡ w
function_quiet g quiet parameters body under args w other =
    let n = variables parameters body in
    (dead g quiet n body None (outermost n) (masked_state parameters body under args w) (outermost_order n)
    (other_dead parameters body under args w other)).world

-- and of its frame it changes masks alone
function_stands : (g : Serves) → Quiet g → (parameters : ℕ) (body : PlainActions) (under : ℕ) (args : List ℕ)
    (w : World) (x : ℕ) → under ≢ 1
    → x ≤ variables parameters body
    → (stmts_done g (made_function parameters body).body (begun_state parameters body under args w)).frame x
    ≡ begun_frame (made_function parameters body) under args x
function_stands g quiet parameters body under args w x other within =
    let n = variables parameters body in
    let s = masked_state parameters body under args w in
    (dead g quiet n body None (outermost n) s (outermost_order n) (other_dead parameters body under args w other)).frame
    x (omega (arith, within))
    ∙ put_there (n + 1) (worth (begun_mask (outermost n)) (begun_state parameters body under args w)) x (begun_frame
    (made_function parameters body) under args)
    (omega (arith, within))

function_serves : (Fit : ℕ → ℕ → Type 0) (gc : resolved.Serves) (g : Serves) → Serving Fit gc g → (parameters : ℕ)
    (body : PlainActions) (args : List ℕ) (w : World)
    → AllSound Fit false body → length args ≡ parameters
    → let n = variables parameters body in
    Went n (outermost n) (masked_state parameters body 1 args w) (resolved.actions_done gc body
    (record { locals = slice_index args; world = w }))
    (stmts_done g (made None (outermost n) body) (masked_state parameters body 1 args w))
function_serves Fit gc g serving parameters body args w fits count =
    let n = variables parameters body in
    let p = outermost n in
    let s = masked_state parameters body 1 args w in
    let word = mask_word parameters body 1 args w in
    live_all Fit gc g serving n body false None p s (record { locals = slice_index args; world = w })
    (outermost_order n) (λ e. absurd (true≢false (sym e)))
    (omega arith) fits tt
    (record {
      own = word;
      loop = word;
      function = word;
      result = other_word parameters body 1 args w p.result (omega arith)
          ∙ past_all args p.result (omega (arith, count));
    })
    (record { locals = λ x below. other_word parameters body 1 args w x (omega (arith, below)); world = refl })

-- ---- functions in order

pub made_at : (counts : List ℕ) (bodies : List PlainActions) (k : ℕ) → k < length counts → k < length bodies
    → slice_index_or (made_functions counts bodies) k no_function
    ≡ made_function (slice_index counts k) (slice_index_or bodies k no_action)
made_at [] bodies k within there = absurd (omega (arith, within))
made_at (c ∷ counts) [] k within there = absurd (omega (arith, there))
made_at (c ∷ counts) (body ∷ bodies) zero within there = refl
made_at (c ∷ counts) (body ∷ bodies) (suc k) within there =
    made_at counts bodies k (omega (arith, within)) (omega (arith, there))

-- one more of them serves
next_serves : (counts : List ℕ) (n : ℕ) (body : PlainActions) (f : PlainFunction) (gc : resolved.Serves) (g : Serves)
    → f ≡ made_function (slice_index counts n) body → AllSound (Callable counts n) false body
    → Serving (Callable counts n) gc g
    → Serving (Callable counts (suc n))
    (λ k args w. if k == n then resolved.routine_outcome gc body args w else gc k args w)
    (λ k under args w. if k == n then function_outcome g f under args w else g k under args w)
next_serves counts n body f gc g is fits serving = record {
  quiet = record { world = λ k under args w other. quiet_by k under args w other (k == n) };
  value = λ k args w fit. value_by k args w fit (cases_lt k n);
  world = λ k args w fit. world_by k args w fit (cases_lt k n);
}
  where
    made_f : PlainFunction
    made_f = made_function (slice_index counts n) body

    quiet_by : (k under : ℕ) (args : List ℕ) (w : World) → under ≢ 1 → (own : Bool)
        → (if own then function_outcome g f under args w else g k under args w).world ≡ w
    quiet_by k under args w other true = ap (λ h. (function_outcome g h under args w).world) is
        ∙ function_quiet g serving.quiet (slice_index counts n) body under args w other
    quiet_by k under args w other false = serving.quiet.world k under args w other

    went : (args : List ℕ) (w : World) → length args ≡ slice_index counts n
        → let m = variables (slice_index counts n) body in
        Went m (outermost m) (masked_state (slice_index counts n) body 1 args w) (resolved.actions_done gc body
        (record { locals = slice_index args; world = w }))
        (stmts_done g (made None (outermost m) body) (masked_state (slice_index counts n) body 1 args w))
    went args w count = function_serves (Callable counts n) gc g serving (slice_index counts n) body args w fits count

    value_here : (args : List ℕ) (w : World) → length args ≡ slice_index counts n
        → (function_outcome g made_f 1 args w).value ≡ (resolved.routine_outcome gc body args w).value
    value_here args w count = (went args w count).result

    world_here : (args : List ℕ) (w : World) → length args ≡ slice_index counts n
        → (function_outcome g made_f 1 args w).world ≡ (resolved.routine_outcome gc body args w).world
    world_here args w count = (went args w count).same.world

    value_by : (k : ℕ) (args : List ℕ) (w : World) → Callable counts (suc n) k (length args) → (k < n) ⊎ (n ≤ k)
        → (if k == n then function_outcome g f 1 args w else g k 1 args w).value
        ≡ (if k == n then resolved.routine_outcome gc body args w else gc k args w).value
    value_by k args w fit (inl below) =
        let other : k ≢ n = omega (arith, below) in
        rw (ne_eqb k n other) (serving.value k args w (below, fit.1))
    value_by k args w fit (inr past) =
        let same : k ≡ n = omega (arith, past, fit.0) in
        rw (eq-eqb k n same) (ap (λ h. (function_outcome g h 1 args w).value) is
        ∙ value_here args w (fit.1 ∙ ap (slice_index counts) same))

    world_by : (k : ℕ) (args : List ℕ) (w : World) → Callable counts (suc n) k (length args) → (k < n) ⊎ (n ≤ k)
        → (if k == n then function_outcome g f 1 args w else g k 1 args w).world
        ≡ (if k == n then resolved.routine_outcome gc body args w else gc k args w).world
    world_by k args w fit (inl below) =
        let other : k ≢ n = omega (arith, below) in
        rw (ne_eqb k n other) (serving.world k args w (below, fit.1))
    world_by k args w fit (inr past) =
        let same : k ≡ n = omega (arith, past, fit.0) in
        rw (eq-eqb k n same) (ap (λ h. (function_outcome g h 1 args w).world) is
        ∙ world_here args w (fit.1 ∙ ap (slice_index counts) same))

-- the first so many of them serve
pub functions_serve : (counts : List ℕ) (bodies : List PlainActions) → length counts ≡ length bodies
    → ((k : ℕ) → k < length bodies → AllSound (Callable counts k) false (slice_index_or bodies k no_action)) → (n : ℕ)
    → n ≤ length bodies
    → Serving (Callable counts n) (resolved.serves bodies n) (serves (made_functions counts bodies) n)
functions_serve counts bodies same fits zero within = record {
  quiet = record { world = λ k under args w other. refl };
  value = λ k args w fit. refl;
  world = λ k args w fit. refl;
}
functions_serve counts bodies same fits (suc n) within =
    next_serves counts n (slice_index_or bodies n no_action) (slice_index_or (made_functions counts bodies) n
    no_function) (resolved.serves bodies n)
    (serves (made_functions counts bodies) n) (made_at counts bodies n (omega (arith, within, same)) within)
    (fits n within)
    (functions_serve counts bodies same fits n (omega (arith, within)))

-- ---- functions under another mask than 1

made_quiet : (g : Serves) → Quiet g → (counts : List ℕ) (bodies : List PlainActions) (k under : ℕ) (args : List ℕ)
    (w : World) → under ≢ 1
    → (function_outcome g (slice_index_or (made_functions counts bodies) k no_function) under args w).world ≡ w
made_quiet g quiet [] bodies k under args w other = refl
made_quiet g quiet (c ∷ counts) [] k under args w other = refl
made_quiet g quiet (c ∷ counts) (body ∷ bodies) zero under args w other =
    function_quiet g quiet c body under args w other
made_quiet g quiet (c ∷ counts) (body ∷ bodies) (suc k) under args w other =
    made_quiet g quiet counts bodies k under args w other

-- whatever they call
pub functions_quiet : (counts : List ℕ) (bodies : List PlainActions) (n : ℕ)
    → Quiet (serves (made_functions counts bodies) n)
functions_quiet counts bodies zero = record { world = λ k under args w other. refl }
functions_quiet counts bodies (suc n) =
    record { world = λ k under args w other. by (functions_quiet counts bodies n) k under args w other (k == n) }
  where
    earlier : Serves
    earlier = serves (made_functions counts bodies) n

    by : Quiet earlier → (k under : ℕ) (args : List ℕ) (w : World) → under ≢ 1 → (own : Bool)
        → (if own then function_outcome earlier (slice_index_or (made_functions counts bodies) n no_function) under args
        w else earlier k under args w).world ≡ w
    by quiet k under args w other true = made_quiet earlier quiet counts bodies n under args w other
    by quiet k under args w other false = quiet.world k under args w other

pub made_stands : (g : Serves) → Quiet g → (counts : List ℕ) (bodies : List PlainActions) (k under : ℕ) (args : List ℕ)
    (w : World) (x : ℕ) → under ≢ 1
    → let f = slice_index_or (made_functions counts bodies) k no_function in x ≤ f.result
    → (stmts_done g f.body (record { frame = begun_frame f under args; world = w })).frame x
    ≡ begun_frame f under args x
made_stands g quiet [] bodies k under args w x other within = refl
made_stands g quiet (c ∷ counts) [] k under args w x other within = refl
made_stands g quiet (c ∷ counts) (body ∷ bodies) zero under args w x other within =
    function_stands g quiet c body under args w x other within
made_stands g quiet (c ∷ counts) (body ∷ bodies) (suc k) under args w x other within =
    made_stands g quiet counts bodies k under args w x other within

-- of all words of its frame a function sets masks alone
function_rests : (g : Serves) → Quiet g → (parameters : ℕ) (body : PlainActions) (under : ℕ) (args : List ℕ)
    (w : World) → under ≢ 1
    → AllRest g (made_function parameters body).body (begun_state parameters body under args w)
function_rests g quiet parameters body under args w other =
    let n = variables parameters body in (
      tt,
      actions_rest g quiet n body None (outermost n) (masked_state parameters body under args w) (outermost_order n)
          (other_dead parameters body under args w other),
    )

pub made_rests : (g : Serves) → Quiet g → (counts : List ℕ) (bodies : List PlainActions) (k under : ℕ) (args : List ℕ)
    (w : World) → under ≢ 1
    → let f = slice_index_or (made_functions counts bodies) k no_function in
    AllRest g f.body (record { frame = begun_frame f under args; world = w })
made_rests g quiet [] bodies k under args w other = tt
made_rests g quiet (c ∷ counts) [] k under args w other = tt
made_rests g quiet (c ∷ counts) (body ∷ bodies) zero under args w other =
    function_rests g quiet c body under args w other
made_rests g quiet (c ∷ counts) (body ∷ bodies) (suc k) under args w other =
    made_rests g quiet counts bodies k under args w other

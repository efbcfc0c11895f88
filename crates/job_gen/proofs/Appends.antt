-- Lines that a loop appends one after another, where so many are left.
use Rattle.std.proofs.Common.{◌≡◌, ℕ, suc, ◌+◌, ◌-◌, ◌*◌, ◌<◌, ◌≤◌, List, [], ◌++◌, refl, sym, ap, ◌∙◌, append-nil, arith, codes}
use Rattle.std.specs.Fmt.{decimal}
use Rattle.tc_word.proofs.Items.{followed}
use Rattle.job_gen.specs.Generator.{after, after_task, call_line, calls, draw, function_line, functions, more_draws, next, task, tasks}

-- what is left below an end is one more than what is left after the next place
left_suc : (end i : ℕ) → i < end → end - i ≡ suc (end - (i + 1))
left_suc end i below = omega arith

none_left : (end i : ℕ) → end ≤ i → end - i ≡ 0
none_left end i over = omega arith

-- no line is left
ended : (text rest all : List ℕ) → rest ≡ [] → text ++ rest ≡ all → text ≡ all
ended text rest all none held = sym (append-nil text) ∙ sym (ap (λ r. text ++ r) none) ∙ held

pub more_functions : (end i x y : ℕ) (text more all : List ℕ) → i < end → more ≡ text ++ function_line i x
    → y ≡ after 3 x
    → text ++ functions (end - i) i x ≡ all → more ++ functions (end - (i + 1)) (i + 1) y ≡ all
unfolding functions
more_functions end i x y text more all below appended moved held =
    followed text more all (function_line i x) (functions (end - (i + 1)) (i + 1) y) appended
    (rw moved (sym (ap (λ k. text ++ functions k i x) (left_suc end i below)) ∙ held))

pub all_functions : (end i x : ℕ) (text all : List ℕ) → end ≤ i → text ++ functions (end - i) i x ≡ all → text ≡ all
unfolding functions
all_functions end i x text all over held =
    ended text (functions (end - i) i x) all (rw (none_left end i over) refl) held

pub more_calls : (end i : ℕ) (text more all : List ℕ) → i < end → more ≡ text ++ call_line i
    → text ++ calls (end - i) i ≡ all → more ++ calls (end - (i + 1)) (i + 1) ≡ all
unfolding calls
more_calls end i text more all below appended held =
    followed text more all (call_line i) (calls (end - (i + 1)) (i + 1)) appended
    (sym (ap (λ k. text ++ calls k i) (left_suc end i below)) ∙ held)

pub all_calls : (end i : ℕ) (text all : List ℕ) → end ≤ i → text ++ calls (end - i) i ≡ all → text ≡ all
unfolding calls
all_calls end i text all over held = ended text (calls (end - i) i) all (rw (none_left end i over) refl) held

pub more_words : (end i x y : ℕ) (text more all : List ℕ) → i < end → more ≡ text ++ (codes ", " ++ decimal (draw x))
    → y ≡ next x
    → text ++ more_draws (end - i) x ≡ all → more ++ more_draws (end - (i + 1)) y ≡ all
unfolding more_draws
more_words end i x y text more all below appended moved held =
    followed text more all (codes ", " ++ decimal (draw x)) (more_draws (end - (i + 1)) y) appended
    (rw moved (sym (ap (λ k. text ++ more_draws k x) (left_suc end i below)) ∙ held))

pub all_words : (end i x : ℕ) (text all : List ℕ) → end ≤ i → text ++ more_draws (end - i) x ≡ all → text ≡ all
unfolding more_draws
all_words end i x text all over held = ended text (more_draws (end - i) x) all (rw (none_left end i over) refl) held

pub more_tasks : (end i x y : ℕ) (text more all : List ℕ) → i < end → more ≡ text ++ task i x → y ≡ after_task x
    → text ++ tasks (end - i) i x ≡ all → more ++ tasks (end - (i + 1)) (i + 1) y ≡ all
unfolding tasks
more_tasks end i x y text more all below appended moved held =
    followed text more all (task i x) (tasks (end - (i + 1)) (i + 1) y) appended
    (rw moved (sym (ap (λ k. text ++ tasks k i x) (left_suc end i below)) ∙ held))

pub all_tasks : (end i x : ℕ) (text all : List ℕ) → end ≤ i → text ++ tasks (end - i) i x ≡ all → text ≡ all
unfolding tasks
all_tasks end i x text all over held = ended text (tasks (end - i) i x) all (rw (none_left end i over) refl) held

-- the state that so many draws leave, where one draw or three are made
pub moved_once : (end i x y last : ℕ) → i < end → y ≡ next x → after (end - i) x ≡ last → after (end - (i + 1)) y ≡ last
unfolding after
moved_once end i x y last below moved held = rw moved (sym (ap (λ k. after k x) (left_suc end i below)) ∙ held)

pub moved_thrice : (end i x y last : ℕ) → i < end → y ≡ after 3 x → after (3 * (end - i)) x ≡ last
    → after (3 * (end - (i + 1))) y ≡ last
unfolding after
moved_thrice end i x y last below moved held =
    let three : 3 * (end - i) ≡ suc (suc (suc (3 * (end - (i + 1))))) = omega arith in
    rw moved (sym (ap (λ k. after k x) three) ∙ held)

pub all_moved : (end i x last : ℕ) → end ≤ i → after (end - i) x ≡ last → x ≡ last
unfolding after
all_moved end i x last over held = sym (ap (λ k. after k x) (none_left end i over)) ∙ held

pub all_moved_thrice : (end i x last : ℕ) → end ≤ i → after (3 * (end - i)) x ≡ last → x ≡ last
unfolding after
all_moved_thrice end i x last over held =
    let none : 3 * (end - i) ≡ 0 = omega arith in sym (ap (λ k. after k x) none) ∙ held

-- Programs in parts, and what they leave whatever their loads give.
use Rattle.std.proofs.Common.{◌≡◌, ℕ, List, refl, sym, ap, ◌∙◌, append_assoc, append-nil}
use Rattle.shared_order.specs.Program.{Prog, done, get, set, and_then, Fed, fed, first, others}
use Rattle.shared_order.proofs.Parts.{fed-then}
use Rattle.argo_ni.specs.Interface.{Interface}
use Rattle.patmos_model.specs.State.{Core}
use Rattle.patmos_model.specs.Cycle.{with_interface}
use Rattle.patmos_model.specs.Apart.{Followed, by_task}
use Rattle.patmos_model.proofs.Leaves.{Leaves}

-- what follows may be told in two ways that are one after all that the program leaves
pub then_same : {X Y : Type 0} (f g : X → Prog Y) (p : Prog X) → Leaves (λ x. f x ≡ g x) p → and_then p f ≡ and_then p g
then_same f g (done x) h = h
then_same f g (get word go_on) h = λ i. get word (λ value. then_same f g (go_on value) (h value) i)
then_same f g (set word value rest) h = λ i. set word value (then_same f g rest h i)

pub leaves_map : {X : Type 0} (P Q : X → Type 0) → ((x : X) → P x → Q x) → (p : Prog X) → Leaves P p → Leaves Q p
leaves_map P Q f (done x) h = f x h
leaves_map P Q f (get word go_on) h = λ value. leaves_map P Q f (go_on value) (h value)
leaves_map P Q f (set word value rest) h = leaves_map P Q f rest h

pub leaves_then : {X Y : Type 0} (P : X → Type 0) (Q : Y → Type 0) (f : X → Prog Y) → ((x : X) → P x → Leaves Q (f x))
    → (p : Prog X) → Leaves P p → Leaves Q (and_then p f)
leaves_then P Q f next (done x) h = next x h
leaves_then P Q f next (get word go_on) h = λ value. leaves_then P Q f next (go_on value) (h value)
leaves_then P Q f next (set word value rest) h = leaves_then P Q f next rest h

-- fed with values, a program leaves what it always leaves
pub fed_leaves : {X : Type 0} (P : X → Type 0) (s : ℕ) (p : Prog X) (values : List ℕ) → Leaves P p
    → P (fed s p values).core
fed_leaves P s (done x) values h = h
fed_leaves P s (get word go_on) values h = fed_leaves P s (go_on (first values)) (others values) (h (first values))
fed_leaves P s (set word value rest) values h = fed_leaves P s rest values h

-- and so does the task
pub by_task_in_parts : (s : ℕ) (p : Prog Core) (f : Core → Prog Core) (t : Followed)
    → by_task (fed s (and_then p f) t.run.left) t
    ≡ by_task (fed s (f (by_task (fed s p t.run.left) t).run.core) (by_task (fed s p t.run.left) t).run.left) (by_task
    (fed s p t.run.left) t)
by_task_in_parts s p f t =
    let one : Fed Core = fed s p t.run.left in
    let two : Fed Core = fed s (f one.core) one.left in
    ap (λ (x : Fed Core). by_task x t) (fed-then s p f t.run.left)
    ∙ (λ i. record {
      run = record { core = two.core; left = two.left; made = sym (append_assoc t.run.made one.ops two.ops) i };
      own = sym (append_assoc t.own one.ops two.ops) i;
    })

-- nothing done by the task leaves it as it was
pub by_nothing : (s : ℕ) (t : Followed) → by_task (fed s (done t.run.core) t.run.left) t ≡ t
by_nothing s t = λ i. record {
  run = record { core = t.run.core; left = t.run.left; made = append-nil t.run.made i };
  own = append-nil t.own i;
}

-- a program of the interface leaves the task as it was
pub with_interface_left : (c : Core) (s : ℕ) (p : Prog Interface) (values : List ℕ)
    → (fed s (and_then p (λ i. done (with_interface c i))) values).core ≡ with_interface c (fed s p values).core
with_interface_left c s (done x) values = refl
with_interface_left c s (get word go_on) values = with_interface_left c s (go_on (first values)) (others values)
with_interface_left c s (set word value rest) values = with_interface_left c s rest values

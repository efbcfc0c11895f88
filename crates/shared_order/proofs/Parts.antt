-- A turn in parts: what one program and then another do.
use Rattle.std.proofs.Common.{◌≡◌, ℕ, List, ◌++◌, refl, ap}
use Rattle.shared_order.specs.Operation.{load, store}
use Rattle.shared_order.specs.Words.{put, after}
use Rattle.shared_order.specs.Program.{Prog, done, get, set, and_then, played, fed, first, others, first_made, first_asked}

-- nothing after a program is no part
pub then-done : {X : Type 0} (p : Prog X) → and_then p (λ x. done x) ≡ p
then-done (done x) = refl
then-done (get word go_on) = λ i. get word (λ value. then-done (go_on value) i)
then-done (set word value rest) = λ i. set word value (then-done rest i)

pub played-then : {X Y : Type 0} (s : ℕ) (p : Prog X) (next : X → Prog Y) (words : ℕ → ℕ)
    → played s (and_then p next) words ≡ record {
      core = (played s (next (played s p words).core) (after (played s p words).ops words)).core;
      ops = (played s p words).ops ++ (played s (next (played s p words).core)
          (after (played s p words).ops words)).ops;
    }
played-then s (done x) next words = refl
played-then s (get word go_on) next words =
    ap (first_made (load s word (words word))) (played-then s (go_on (words word)) next words)
played-then s (set word value p) next words =
    ap (first_made (store s word value)) (played-then s p next (put word value words))

pub fed-then : {X Y : Type 0} (s : ℕ) (p : Prog X) (next : X → Prog Y) (values : List ℕ)
    → fed s (and_then p next) values ≡ record {
      core = (fed s (next (fed s p values).core) (fed s p values).left).core;
      left = (fed s (next (fed s p values).core) (fed s p values).left).left;
      ops = (fed s p values).ops ++ (fed s (next (fed s p values).core) (fed s p values).left).ops;
    }
fed-then s (done x) next values = refl
fed-then s (get word go_on) next values =
    ap (first_asked (load s word (first values))) (fed-then s (go_on (first values)) next (others values))
fed-then s (set word value p) next values = ap (first_asked (store s word value)) (fed-then s p next values)

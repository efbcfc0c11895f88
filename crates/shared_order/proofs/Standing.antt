-- How a core goes from stamp to stamp, and what it asks for next.
use Rattle.std.proofs.Common.{◌≡◌, ℕ, zero, suc, ◌+◌, ◌-◌, ◌*◌, ◌/◌, ◌%◌, ◌<◌, ◌≤◌, Bool, true, false, List, [], ◌++◌, ◌==◌, refl, sym, ap, ◌∙◌, subst, append_assoc, append-nil, eq-eqb, eqb-true, true≢false, arith}
use Rattle.std.proofs.lemmas.Nat.{mod_below, le-div, div_below}
use Rattle.slot_arbiter.specs.Stamp.{stamp}
use Rattle.shared_order.specs.declared.operation.Operation.{Operation}
use Rattle.shared_order.specs.Operation.{loads}
use Rattle.shared_order.specs.Order.{GoesOn}
use Rattle.shared_order.specs.Program.{Prog, done, and_then, Fed, fed}
use Rattle.shared_order.specs.Apart.{Alone, gone_on}
use Rattle.shared_order.specs.Stamps.{act_at, stepped_apart, run_apart}
use Rattle.shared_order.specs.Stands.{Stands, Midway}
use Rattle.shared_order.proofs.Lists.{loads-append, each_map, each-append}
use Rattle.shared_order.proofs.Runs.{stamps_fed, fed_fed, stepped_own, stepped_other, stands_turn, stands_still}
use Rattle.shared_order.proofs.ByStamps.{other_here}
use Rattle.shared_order.proofs.Parts.{then-done, fed-then}
use Rattle.std.proofs.lemmas.List.{append_cancel_left}

module _ {X : Type 0} (act : ℕ → X → Prog X) (n : ℕ) where
  -- ---- within an act

  pub enters : (core : ℕ) (x : X) (made : List Operation) (s : ℕ) (y : X) → s % n ≡ core → Stands act n core x made s y
      → Midway act n core x made s (act s y)
  enters core x made s y own stands = λ more.
      ap (stepped_apart act n core s) (stands more) ∙ stepped_own act n core s (record {
        core = y;
        left = more;
        made = made;
      }) (eq-eqb (s % n) core own)

  -- what one part of an act was told is after it, and the next part is still to do
  pub goes_on : {Y : Type 0} (core : ℕ) (x : X) (made : List Operation) (s : ℕ) (prefix : Prog Y) (next : Y → Prog X)
      → Midway act n core x made s (and_then prefix next) → (values : List ℕ)
      → Midway act n core x (made ++ (fed s prefix values).ops) s (next (fed s prefix values).core)
  goes_on {Y} core x made s prefix next midway values = λ more.
      let f : Fed Y = fed s prefix values in
      let rest : Fed X = fed s (next f.core) more in
      let resumed : fed s (and_then prefix next) (loads f.ops ++ more) ≡ record {
        core = rest.core;
        left = rest.left;
        ops = f.ops ++ rest.ops;
      } =
      fed-then s prefix next (loads f.ops ++ more)
      ∙ ap (λ (g : Fed Y). record {
        core = (fed s (next g.core) g.left).core;
        left = (fed s (next g.core) g.left).left;
        ops = g.ops ++ (fed s (next g.core) g.left).ops;
      }) (fed_fed s prefix values more) in
      ap (λ l. run_apart act n core x (l ++ more) (suc s)) (loads-append made f.ops)
      ∙ ap (λ l. run_apart act n core x l (suc s)) (append_assoc (loads made) (loads f.ops) more)
      ∙ midway (loads f.ops ++ more)
      ∙ ap (λ (g : Fed X). gone_on g made) resumed
      ∙ ap (λ l. record { core = rest.core; left = rest.left; made = l }) (sym (append_assoc made f.ops rest.ops))

  pub leaves : (core : ℕ) (x : X) (made : List Operation) (s : ℕ) (y : X) → Midway act n core x made s (done y)
      → Stands act n core x made (suc s) y
  leaves core x made s y midway =
      λ more. midway more ∙ ap (λ l. record { core = y; left = more; made = l }) (append-nil made)

  -- a whole act, told what its loads gave
  pub resumed : (core : ℕ) (x : X) (made : List Operation) (s : ℕ) (y : X) → s % n ≡ core → Stands act n core x made s y
      → (values : List ℕ) → Stands act n core x (made ++ (fed s (act s y) values).ops) (suc s) (fed s
      (act s y) values).core
  resumed core x made s y own stands values =
      leaves core x (made ++ (fed s (act s y) values).ops) s (fed s (act s y) values).core
      (goes_on core x made s (act s y) (λ z. done z)
      (subst (Midway act n core x made s) (sym (then-done (act s y))) (enters core x made s y own stands)) values)

  -- over stamps at which it does nothing a core stands as it was: nothing of this need be stepped
  pub skips : (core : ℕ) (x : X) (made : List Operation) (s : ℕ) (y : X) (d : ℕ) → ((u : ℕ) → s ≤ u → u < s + d → u % n
      ≡ core → act u y ≡ done y) → Stands act n core x made s y → Stands act n core x made (s + d) y
  skips core x made s y zero quiet stands =
      let here : s ≡ s + 0 = omega arith in subst (λ u. Stands act n core x made u y) here stands
  skips core x made s y (suc d) quiet stands = let far : suc (s + d) ≡ s + suc d = omega arith in
      subst (λ u. Stands act n core x made u y) far (by ((s + d) % n == core) refl
      (skips core x made s y d (λ u from below. quiet u from (omega arith)) stands))
    where
      by : (b : Bool) → ((s + d) % n == core) ≡ b → Stands act n core x made (s + d) y
          → Stands act n core x made (suc (s + d)) y
      by true own before = subst (λ l. Stands act n core x l (suc (s + d)) y) (append-nil made)
          (stands_turn act n core x made (s + d) y y [] before own (λ more. ap (λ p. fed (s + d) p more)
          (quiet (s + d) (omega arith) (omega arith) (eqb-true ((s + d) % n) core own))))
      by false other before = stands_still act n core x made (s + d) y before other

  -- ---- what comes next

  grows : (core : ℕ) (x : X) (values : List ℕ) (s d : ℕ) → GoesOn s (run_apart act n core x values s).made
      (run_apart act n core x values (s + d)).made
  grows core x values s zero =
      let same : s + 0 ≡ s = omega arith in
      record {
        later = [];
        whole = ap (λ u. (run_apart act n core x values u).made) same
            ∙ sym (append-nil (run_apart act n core x values s).made);
        from = tt;
      }
  grows core x values s (suc d) = by ((s + d) % n == core) refl (grows core x values s d)
    where
      a : Alone X
      a = run_apart act n core x values (s + d)

      before : List Operation
      before = (run_apart act n core x values s).made

      next : (run_apart act n core x values (s + suc d)).made ≡ (stepped_apart act n core (s + d) a).made
      next = let e : s + suc d ≡ suc (s + d) = omega arith in ap (λ u. (run_apart act n core x values u).made) e

      by : (b : Bool) → ((s + d) % n == core) ≡ b → GoesOn s before a.made
          → GoesOn s before (run_apart act n core x values (s + suc d)).made
      by true own h =
          let ops : List Operation = (fed (s + d) (act (s + d) a.core) a.left).ops in
          record {
            later = h.later ++ ops;
            whole = next ∙ ap (λ z. z.made) (stepped_own act n core (s + d) a own) ∙ ap (λ l. l ++ ops) h.whole
                ∙ append_assoc before h.later ops;
            from = each-append (λ o. s ≤ o.stamp) h.later ops h.from
                (each_map (λ o. o.stamp ≡ s + d) (λ o. s ≤ o.stamp) (λ o e. omega (arith, e)) ops
                (stamps_fed (s + d) (act (s + d) a.core) a.left));
          }
      by false other h = record {
        later = h.later;
        whole = next ∙ ap (λ z. z.made) (stepped_other act n core
            (s + d) a other) ∙ h.whole;
        from = h.from;
      }

  -- whatever the loads to come give, a core that is midway in an act does the rest of it next, and
  -- then only what stands at later stamps
  pub next_midway : (core : ℕ) (x : X) (made : List Operation) (s u : ℕ) (rest : Prog X) → s < u
      → Midway act n core x made s rest → (more : List ℕ) → GoesOn (suc s) (made ++ (fed s rest more).ops)
      (run_apart act n core x (loads made ++ more) u).made
  next_midway core x made s u rest below midway more =
      let far : suc s + (u - suc s) ≡ u = omega arith in
      subst (λ l. GoesOn (suc s) l (run_apart act n core x (loads made ++ more) u).made)
      (ap (λ a. a.made) (midway more))
      (subst (λ v. GoesOn (suc s) (run_apart act n core x (loads made ++ more) (suc s)).made
      (run_apart act n core x (loads made ++ more) v).made) far
      (grows core x (loads made ++ more) (suc s) (u - suc s)))

  -- so in a list of all that the core makes, what follows on what it has made begins with this
  pub left_begins : (core : ℕ) (x : X) (made left : List Operation) (s u : ℕ) (rest : Prog X) → s < u
      → Midway act n core x made s rest → (run_apart act n core x (loads (made ++ left)) u).made ≡ made ++ left
      → GoesOn (suc s) (fed s rest (loads left)).ops left
  left_begins core x made left s u rest below midway all =
      let next : GoesOn (suc s) (made ++ (fed s rest (loads left)).ops)
      (run_apart act n core x (loads made ++ loads left) u).made =
      next_midway core x made s u rest below midway (loads left) in
      record {
        later = next.later;
        whole = append_cancel_left made left ((fed s rest (loads left)).ops ++ next.later)
            (sym all ∙ ap (λ l. (run_apart act n core x l u).made) (loads-append made left) ∙ next.whole
            ∙ append_assoc made (fed s rest (loads left)).ops next.later);
        from = next.from;
      }

  -- the same of the first part of what is left of an act
  pub next_part : {Y : Type 0} (core : ℕ) (x : X) (made : List Operation) (s u : ℕ) (prefix : Prog Y)
      (rest : Y → Prog X) → s < u → Midway act n core x made s (and_then prefix rest) → (more : List ℕ)
      → GoesOn s (made ++ (fed s prefix more).ops) (run_apart act n core x (loads made ++ more) u).made
  next_part {Y} core x made s u prefix rest below midway more =
      let f : Fed Y = fed s prefix more in
      let back : List Operation = (fed s (rest f.core) f.left).ops in
      let next : GoesOn (suc s) (made ++ (fed s (and_then prefix rest) more).ops)
      (run_apart act n core x (loads made ++ more) u).made =
      next_midway core x made s u (and_then prefix rest) below midway more in
      record {
        later = back ++ next.later;
        whole = next.whole
            ∙ ap (λ (g : Fed X). (made ++ g.ops) ++ next.later) (fed-then s prefix rest more)
            ∙ ap (λ l. l ++ next.later) (sym (append_assoc made f.ops back))
            ∙ append_assoc (made ++ f.ops) back next.later;
        from = each-append (λ o. s ≤ o.stamp) back next.later
            (each_map (λ o. o.stamp ≡ s) (λ o. s ≤ o.stamp) (λ o e. omega (arith, e)) back
            (stamps_fed s (rest f.core) f.left))
            (each_map (λ o. suc s ≤ o.stamp) (λ o. s ≤ o.stamp) (λ o h. omega (arith, h)) next.later next.from);
      }

  pub left_part : {Y : Type 0} (core : ℕ) (x : X) (made left : List Operation) (s u : ℕ) (prefix : Prog Y)
      (rest : Y → Prog X) → s < u → Midway act n core x made s (and_then prefix rest)
      → (run_apart act n core x (loads (made ++ left)) u).made ≡ made ++ left
      → GoesOn s (fed s prefix (loads left)).ops left
  left_part core x made left s u prefix rest below midway all =
      let next : GoesOn s (made ++ (fed s prefix (loads left)).ops) (run_apart act n core x (loads made ++ loads left)
      u).made = next_part core x made s u prefix rest below midway (loads left) in
      record {
        later = next.later;
        whole = append_cancel_left made left ((fed s prefix (loads left)).ops ++ next.later)
            (sym all ∙ ap (λ l. (run_apart act n core x l u).made) (loads-append made left) ∙ next.whole
            ∙ append_assoc made (fed s prefix (loads left)).ops next.later);
        from = next.from;
      }

  -- and where the core stands at the end, nothing follows
  pub none_left : (core : ℕ) (x : X) (made left : List Operation) (u : ℕ) (y : X) → Stands act n core x made u y
      → (run_apart act n core x (loads (made ++ left)) u).made ≡ made ++ left → left ≡ []
  none_left core x made left u y stands all = append_cancel_left made left []
      (sym all ∙ ap (λ l. (run_apart act n core x l u).made) (loads-append made left)
      ∙ ap (λ a. a.made) (stands (loads left)) ∙ sym (append-nil made))

module _ {X : Type 0} (turn : ℕ → ℕ → X → Prog X) (n : ℕ) where
  -- ---- by cycles and phases: the stamps of one phase of one cycle are n in a row

  -- a core comes to its own stamp of the phase as it stood before the phase
  pub reaches : (core : ℕ) (x : X) (made : List Operation) (cycle phase : ℕ) (y : X) → core < n
      → Stands (act_at turn n) n core x made ((2 * cycle + phase) * n) y
      → Stands (act_at turn n) n core x made (stamp n core cycle phase) y
  reaches core x made cycle phase y among stands =
      skips (act_at turn n) n core x made ((2 * cycle + phase) * n) y core
      (λ u from below own. absurd (away core u own (other_here turn n core cycle phase u from
      (omega (arith, below, among)) (λ e. omega (arith, e, below))))) stands
    where
      away : (c u : ℕ) → u % n ≡ c → (u % n == c) ≡ false → ⊥
      away c u own other = true≢false (sym (eq-eqb (u % n) c own) ∙ other)

  -- and leaves the phase as it stands after it
  pub passes : (core : ℕ) (x : X) (made : List Operation) (cycle phase : ℕ) (y : X) → core < n
      → Stands (act_at turn n) n core x made (suc (stamp n core cycle phase)) y
      → Stands (act_at turn n) n core x made ((2 * cycle + phase) * n + n) y
  passes core x made cycle phase y among stands =
      let far : suc (stamp n core cycle phase) + (n - suc core) ≡ (2 * cycle + phase) * n + n = omega arith in
      subst (λ u. Stands (act_at turn n) n core x made u y) far
      (skips (act_at turn n) n core x made (suc (stamp n core cycle phase)) y (n - suc core)
      (λ u from below own. absurd (away core u own (other_here turn n core cycle phase u (omega (arith, from))
      (omega (arith, below, far)) (λ e. omega (arith, e, from))))) stands)
    where
      away : (c u : ℕ) → u % n ≡ c → (u % n == c) ≡ false → ⊥
      away c u own other = true≢false (sym (eq-eqb (u % n) c own) ∙ other)

  -- over whole cycles in which both its turns do nothing a core stands as it was
  pub skips_cycles : (core : ℕ) (x : X) (made : List Operation) (cycle : ℕ) (y : X) (d : ℕ) → core < n
      → ((u : ℕ) → cycle ≤ u → u < cycle + d → (turn 0 u y ≡ done y) × (turn 1 u y ≡ done y))
      → Stands (act_at turn n) n core x made (2 * cycle * n) y
      → Stands (act_at turn n) n core x made (2 * (cycle + d) * n) y
  skips_cycles core x made cycle y d among quiet stands =
      let far : 2 * cycle * n + 2 * d * n ≡ 2 * (cycle + d) * n = omega arith in
      subst (λ u. Stands (act_at turn n) n core x made u y) far
      (skips (act_at turn n) n core x made (2 * cycle * n) y (2 * d * n) (λ u from below own. still_at u
      (omega (arith, from)) (omega (arith, below, far))) stands)
    where
      at_phase : (p q : ℕ) → p < 2 → (turn 0 q y ≡ done y) × (turn 1 q y ≡ done y) → turn p q y ≡ done y
      at_phase zero q low both = both.0
      at_phase (suc zero) q low both = both.1
      at_phase (suc (suc p)) q low both = absurd (omega (arith, low))

      still_at : (u : ℕ) → 2 * cycle * n ≤ u → u < 2 * (cycle + d) * n → act_at turn n u y ≡ done y
      still_at u from below =
          let low : 2 * cycle ≤ u / n = le-div (2 * cycle) u n (omega (arith, among)) from in
          let high : u / n < 2 * (cycle + d) = div_below u n (2 * (cycle + d)) (omega (arith, among)) below in
          at_phase (u / n % 2) (u / n / 2) (mod_below (u / n) 2 (omega arith))
          (quiet (u / n / 2) (le-div cycle (u / n) 2 (omega arith) (omega (arith, low)))
          (div_below (u / n) 2 (cycle + d) (omega arith) (omega (arith, high))))

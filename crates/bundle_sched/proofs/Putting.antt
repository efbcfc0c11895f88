-- One more bundle is put where it can stand.
use Rattle.std.proofs.Common.{◌≡◌, ℕ, zero, suc, ◌+◌, ◌-◌, ◌<◌, ◌≤◌, true, false, not, if◌then◌else◌, Option, Some, IfSome, List, [], ◌∷◌, ◌++◌, length, reverse, drop, get_or, refl, sym, ap, ◌∙◌, subst, arith}
use Rattle.std.specs.Prelude.{◌&&◌}
use Rattle.std.proofs.lemmas.List.{drop_all, length-append, length-reverse, reverse-append}
use Rattle.tc_word.proofs.Items.{drop_item}
use Rattle.patmos_instr.specs.Bundles.{PlainBundle}
use Rattle.bundle_sched.specs.Ordered.{can_pass, is_too_early, has_place, row_with, place, without_nop, put_unless_idle, ordered_after}
use Rattle.bundle_sched.specs.Placed.{waits_for}
use Rattle.bundle_sched.specs.declared.ordering.TheConstants.{WINDOW}

-- the last of some bundles is the nearest
nearest : (bs front : List PlainBundle) (b : PlainBundle) → bs ≡ front ++ b ∷ [] → reverse bs ≡ b ∷ reverse front
nearest bs front b is = ap reverse is ∙ reverse-append front (b ∷ [])

pub last_too_early : (bs front : List PlainBundle) (a x : PlainBundle) → bs ≡ front ++ a ∷ []
    → is_too_early (reverse bs) x
    ≡ waits_for x a
last_too_early bs front a x is = ap (λ xs. is_too_early xs x) (nearest bs front a is)

pub none_too_early : (bs : List PlainBundle) (x : PlainBundle) → length bs ≡ 0 → is_too_early (reverse bs) x ≡ false
none_too_early [] x none = refl
none_too_early (c ∷ cs) x none = absurd (omega (arith, none))

pub front_fewer : (bs front : List PlainBundle) (b : PlainBundle) (n : ℕ) → bs ≡ front ++ b ∷ [] → length bs ≤ n
    → length front ≤ n
front_fewer bs front b n is few = omega (arith, few, ap length is ∙ length-append front (b ∷ []))

-- ---- its place, one bundle further back

module _ (bs front : List PlainBundle) (b x : PlainBundle) (k : ℕ) (found : Option (ℕ × PlainBundle))
    (within : k < WINDOW)
    (is : bs ≡ front ++ b ∷ []) where
  abbrev here : Option (ℕ × PlainBundle)
  here = if not (is_too_early (reverse front) x) && has_place b x then Some (length front, row_with b x) else found

  further : place (WINDOW - k) x (reverse bs) found ≡ (if can_pass b x then place (WINDOW - (k + 1)) x (reverse front)
      here else here)
  further =
      let one : WINDOW - k ≡ suc (WINDOW - (k + 1)) = omega (arith, within) in
      let now = λ (n : ℕ). if not (is_too_early (reverse front) x) && has_place b x then Some (
        n,
        row_with b x,
      ) else found in
      ap (λ n. place n x (reverse bs) found) one ∙ ap (λ xs. place (suc (WINDOW - (k + 1))) x xs found)
      (nearest bs front b is)
      ∙ ap (λ n. if can_pass b x then place (WINDOW - (k + 1)) x (reverse front) (now n) else now n)
      (length-reverse front)

  -- it ends there, or goes on
  module _ (next whole : Option (ℕ × PlainBundle)) (is_here : next ≡ here)
      (before : place (WINDOW - k) x (reverse bs) found ≡ whole) where
    pub place_found : can_pass b x ≡ false → next ≡ whole
    place_found stays = is_here ∙ ap (λ goes. if goes then place (WINDOW - (k + 1)) x (reverse front) here else here)
        (sym stays) ∙ sym further ∙ before

    pub place_passed : can_pass b x ≡ true → place (WINDOW - (k + 1)) x (reverse front) next ≡ whole
    place_passed goes =
        ap (place (WINDOW - (k + 1)) x (reverse front)) is_here ∙ ap (λ goes. if goes then place (WINDOW - (k + 1)) x
        (reverse front) here else here) (sym goes) ∙ sym further ∙ before

  -- it is the number of a bundle
  pub found_within : (next : Option (ℕ × PlainBundle)) (n : ℕ) → next ≡ here → length bs ≤ n
      → IfSome found (λ at. at.0 < n)
      → IfSome next (λ at. at.0 < n)
  found_within next n is_here few h =
      subst (λ o. IfSome o (λ at. at.0 < n)) (sym is_here)
      (elim (not (is_too_early (reverse front) x) && has_place b x) as (λ fits. IfSome
      (if fits then Some (length front, row_with b x) else found) (λ at. at.0 < n)) [
        | true ↦ omega (arith, few, ap length is ∙ length-append front (b ∷ []))
        | false ↦ h
      ])

nowhere : (n : ℕ) (x : PlainBundle) (found : Option (ℕ × PlainBundle)) → place n x [] found ≡ found
nowhere zero x found = refl
nowhere (suc n) x found = refl

pub place_none : (bs : List PlainBundle) (x : PlainBundle) (n : ℕ) (found : Option (ℕ × PlainBundle)) → length bs ≡ 0
    → place n x (reverse bs) found ≡ found
place_none [] x n found none = nowhere n x found
place_none (c ∷ cs) x n found none = absurd (omega (arith, none))

pub place_ended : (bs : List PlainBundle) (x : PlainBundle) (k : ℕ) (found : Option (ℕ × PlainBundle)) → WINDOW ≤ k
    → place (WINDOW - k) x (reverse bs) found ≡ found
place_ended bs x k found past =
    let end : WINDOW - k ≡ 0 = omega (arith, past) in
    ap (λ n. place n x (reverse bs) found) end

-- ---- all bundles

pub bundle_put : (bs : List PlainBundle) (i : ℕ) (b : PlainBundle) (done next whole : List PlainBundle)
    → i < length bs → b
    ≡ get_or bs i b → next ≡ put_unless_idle (without_nop b) done
    → ordered_after done (drop i bs) ≡ whole → ordered_after next (drop (i + 1) bs) ≡ whole
bundle_put bs i b done next whole within is added before = ap (λ d. ordered_after d (drop (i + 1) bs)) added
    ∙ ap (ordered_after done) (sym (drop_item bs i b within is)) ∙ before

pub bundles_put : (bs : List PlainBundle) (i : ℕ) (done whole : List PlainBundle) → length bs ≤ i
    → ordered_after done (drop i bs)
    ≡ whole → done ≡ whole
bundles_put bs i done whole past before = ap (ordered_after done) (sym (drop_all i bs past)) ∙ before

-- Each function of a shape starts at one of the image's starts.
use Rattle.std.proofs.Common.{◌≢◌, ℕ, zero, suc, ◌<◌, ◌==◌, if◌then◌else◌, List, [], ◌∷◌, length, map, sym, ap, ◌∙◌, subst, arith, ne_eqb, inl, inr}
use Rattle.std.specs.List.{Contains}
use Rattle.std.proofs.lemmas.Bool.{cases_eq}
use Rattle.std.proofs.lemmas.List.{length-map, get_or-map}
use Rattle.std.proofs.lemmas.List.Elements.{Contains-append_left, Contains-append_right}
use Rattle.sp_shape.specs.Parts.{PlainShape}
use Rattle.tc_link.specs.Placed.{others, start_of, linked}

others_have : (entry n k : ℕ) → k < n → k ≢ entry → Contains (others entry n) k
others_have entry zero k within ne = absurd (omega arith)
others_have entry (suc n) k within ne =
    let last = if n == entry then [] else n ∷ [] in
    elim (cases_eq n k) [
      | inl is ↦
          let here : Contains (n ∷ []) k = (0, omega arith, is) in
          Contains-append_right (others entry n) last k (subst (λ b. Contains (if b then [] else n ∷ []) k)
          (sym (ne_eqb n entry (λ e. ne (sym is ∙ e)))) here)
      | inr other ↦ Contains-append_left (others entry n) last k (others_have entry n k (omega (arith, other)) ne)
    ]

map_has : (f : ℕ → ℕ) (xs : List ℕ) (x : ℕ) → Contains xs x → Contains (map f xs) (f x)
map_has f xs x c = (c.0, omega (arith, c.1, length-map xs f), get_or-map f xs c.0 x (f x) c.1 ∙ ap f c.2)

pub started : (s : PlainShape) (k : ℕ) → k < length s.functions → Contains (linked s).starts (start_of s k)
started s k within = elim (cases_eq k s.entry) [
  | inl is ↦ (0, omega arith, ap (start_of s) (sym is))
  | inr ne ↦
      let c = map_has (start_of s) (others s.entry (length s.functions)) k
      (others_have s.entry (length s.functions) k within ne) in
      (suc c.0, omega (arith, c.1), c.2)
]

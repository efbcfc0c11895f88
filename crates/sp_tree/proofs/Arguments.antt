-- The words of arguments, by their numbers.
use Rattle.std.proofs.Common.{◌≡◌, ℕ, zero, suc, ◌<◌, ◌≤◌, List, [], ◌∷◌, length, map, get_or, slice_index, refl, inl, inr, arith, ap, ◌∙◌, sym}
use Rattle.std.proofs.lemmas.Bool.{cases_lt}
use Rattle.std.proofs.lemmas.List.{get_or_past}
use Rattle.sp_tree.specs.declared.expressions.SpExpr.{SpExpr}
use Rattle.sp_tree.specs.Plain.{plain_sp}
use Rattle.sp_tree.specs.Straight.{State, worth, args_worth}

pub length_worth : (args : List SpExpr) (s : State) → length (args_worth (map plain_sp args) s) ≡ length args
length_worth [] s = refl
length_worth (e ∷ args) s = ap suc (length_worth args s)

pub worth_at : (args : List SpExpr) (n : ℕ) (e : SpExpr) (s : State) → n < length args → e ≡ get_or args n e
    → slice_index (args_worth (map plain_sp args) s) n ≡ worth (plain_sp e) s
worth_at [] n e s below is = absurd (omega arith)
worth_at (x ∷ args) zero e s below is = ap (λ y. worth (plain_sp y) s) (sym is)
worth_at (x ∷ args) (suc n) e s below is = worth_at args n e s (omega arith) is

pub worth_past : (args : List SpExpr) (n : ℕ) (s : State) → length args ≤ n
    → slice_index (args_worth (map plain_sp args) s) n ≡ 0
worth_past args n s past = get_or_past (args_worth (map plain_sp args) s) n 0 (omega (arith, length_worth args s))

-- lists of words that are the same as far as one reaches, where the other is no longer
pub same_words : (own words : List ℕ) → ((k : ℕ) → k < length own → slice_index own k ≡ slice_index words k)
    → length words ≤ length own
    → slice_index own ≡ slice_index words
same_words own words same short = λ i k. at k i
  where
    at : (k : ℕ) → slice_index own k ≡ slice_index words k
    at k = elim (cases_lt k (length own)) [
      | inl below ↦ same k below
      | inr past ↦ get_or_past own k 0 past ∙ sym (get_or_past words k 0 (omega (arith, past, short)))
    ]

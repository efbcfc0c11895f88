-- The words of arguments, by their numbers.
use Rattle.std.proofs.Common.{◌≡◌, ℕ, zero, suc, ◌<◌, ◌≤◌, List, [], ◌∷◌, length, map, get_or, slice_index, refl, inl, inr, arith, ap, ◌∙◌, sym}
use Rattle.std.proofs.lemmas.Bool.{cases_lt}
use Rattle.std.proofs.lemmas.List.{get_or_past}
use Rattle.sp_tree.specs.declared.expressions.SpExpr.{SpExpr}
use Rattle.sp_tree.specs.Plain.{plain_sp}
use Rattle.c_meaning.specs.Resolved.{worth, args_worth}
use Rattle.c_meaning.specs.Values.{State}

length_worth : (args : List SpExpr) (s : State) → length (args_worth (map plain_sp args) s) ≡ length args
length_worth [] s = refl
length_worth (e ∷ args) s = ap suc (length_worth args s)

pub worth_at : (args : List SpExpr) (n : ℕ) (e : SpExpr) (s : State) → n < length args → e ≡ get_or args n e
    → slice_index (args_worth (map plain_sp args) s) n ≡ worth (plain_sp e) s
worth_at [] n e s below is = absurd (omega arith)
worth_at (x ∷ args) zero e s below is = ap (λ y. worth (plain_sp y) s) (sym is)
worth_at (x ∷ args) (suc n) e s below is = worth_at args n e s (omega arith) is

worth_past : (args : List SpExpr) (n : ℕ) (s : State) → length args ≤ n
    → slice_index (args_worth (map plain_sp args) s) n ≡ 0
worth_past args n s past = get_or_past (args_worth (map plain_sp args) s) n 0 (omega (arith, length_worth args s))

-- the words of arguments, and 0 after them
pub words_passed : (args : List SpExpr) (own : List ℕ) (s : State)
    → ((k : ℕ) → k < length args → slice_index own k ≡ slice_index (args_worth (map plain_sp args) s) k)
    → ((k : ℕ) → length args ≤ k → slice_index own k ≡ 0) → slice_index own
    ≡ slice_index (args_worth (map plain_sp args) s)
words_passed args own s passed cleared = λ i k. at k i
  where
    at : (k : ℕ) → slice_index own k ≡ slice_index (args_worth (map plain_sp args) s) k
    at k = elim (cases_lt k (length args)) [
      | inl below ↦ passed k below
      | inr past ↦ cleared k past ∙ sym (worth_past args k s past)
    ]

-- Events that ask for one operation after another.
use Rattle.std.proofs.Common.{◌≡◌, ℕ, ◌+◌, ◌<◌, List, [], ◌∷◌, ◌++◌, take, length, slice_set, sym, subst, false}
use Rattle.std.specs.List.{AllByRecursion as Each}
use Rattle.std.proofs.lemmas.List.{take_more_set}
use Rattle.shared_order.proofs.Lists.{each-append}
use Rattle.slot_arbiter.specs.declared.event.WordOp.{WordOp}

-- one more at the end of those that count
pub one_more : {X : Type 0} (xs : List X) (k : ℕ) (x : X) → k < length xs → take (k + 1) (slice_set xs k x)
    ≡ take k xs ++ x ∷ []
one_more xs k x below = take_more_set xs k x below

pub one_more_below : (words : ℕ) (ops more : List WordOp) (op : WordOp) → more ≡ ops ++ op ∷ []
    → Each (λ o. o.word < words) ops → op.word < words → Each (λ o. o.word < words) more
one_more_below words ops more op is all low =
    subst (Each (λ o. o.word < words)) (sym is) (each-append (λ o. o.word < words) ops (op ∷ []) all (low, tt))

pub one_more_unread : (ops more : List WordOp) (op : WordOp) → more ≡ ops ++ op ∷ [] → Each (λ o. o.write ≡ false
    → o.value ≡ 0) ops → (op.write ≡ false → op.value ≡ 0) → Each (λ o. o.write ≡ false → o.value ≡ 0) more
one_more_unread ops more op is all unread =
    subst (Each (λ o. o.write ≡ false → o.value ≡ 0)) (sym is) (each-append (λ o. o.write ≡ false → o.value ≡ 0) ops
    (op ∷ []) all (unread, tt))

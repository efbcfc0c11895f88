-- Bundles one after another: what holds of all, how long they are, and what they do.
use Rattle.std.proofs.Common.{◌≡◌, ◌+◌, Bool, true, not, List, [], ◌∷◌, ◌++◌, refl, ap, ◌∙◌, arith}
use Rattle.std.specs.List.{list_all}
use Rattle.std.proofs.lemmas.Bool.{and_parts, and_from}
use Rattle.std.proofs.lemmas.List.Folds.{list_all-append}
use Rattle.patmos_instr.specs.Bundles.{PlainBundle}
use Rattle.sp_shape.specs.Formed.{is_flow, are_calm}
use Rattle.sp_shape.specs.Trail.{does, all_done}
use Rattle.sp_shape.specs.Words.{bundles_room}

-- what holds of all bundles of both
pub all_append : (holds : PlainBundle → Bool) (xs ys : List PlainBundle) → list_all holds xs ≡ true
    → list_all holds ys ≡ true
    → list_all holds (xs ++ ys) ≡ true
all_append holds xs ys x y = list_all-append holds xs ys ∙ and_from (list_all holds xs) (list_all holds ys) x y

-- what follows from it, bundle by bundle
pub all_weaker : (p q : PlainBundle → Bool) → ((b : PlainBundle) → p b ≡ true → q b ≡ true) → (bs : List PlainBundle)
    → list_all p bs
    ≡ true → list_all q bs ≡ true
all_weaker p q so [] x = refl
all_weaker p q so (b ∷ bs) x =
    let parts = and_parts (p b) (list_all p bs) x in
    and_from (q b) (list_all q bs) (so b parts.0) (all_weaker p q so bs parts.1)

pub calm_append : (xs ys : List PlainBundle) → are_calm xs ≡ true → are_calm ys ≡ true → are_calm (xs ++ ys) ≡ true
calm_append [] ys cx cy = cy
calm_append (x ∷ xs) ys cx cy =
    let parts = and_parts (not (is_flow x.first.op)) (are_calm xs) cx in
    and_from (not (is_flow x.first.op)) (are_calm (xs ++ ys)) parts.0 (calm_append xs ys parts.1 cy)

pub room_append : (xs ys : List PlainBundle) → bundles_room (xs ++ ys) ≡ bundles_room xs + bundles_room ys
room_append [] ys = omega arith
room_append (x ∷ xs) ys = omega (arith, room_append xs ys)

pub done_append : (xs ys : List PlainBundle) → all_done (xs ++ ys) ≡ all_done xs ++ all_done ys
done_append [] ys = refl
done_append (x ∷ xs) ys = ap (λ l. does x ∷ l) (done_append xs ys)

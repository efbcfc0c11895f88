-- Parts after others.
use Rattle.std.proofs.Common.{◌≡◌, ℕ, List, [], ◌∷◌, ◌++◌, refl, ap, sym, ◌∙◌}
use Rattle.std.proofs.lemmas.List.{append_assoc}
use Rattle.sp_shape.specs.Parts.{PlainParts, no_part, part, joined}
use Rattle.sp_shape.specs.Shown.{plain_part, parts_of}
use Rattle.sp_shape.specs.Trail.{Step, part_trail, parts_trail}
use Rattle.sp_shape.specs.declared.parts.Part.{Part}

pub shown : (xs ys : List Part) → parts_of (xs ++ ys) ≡ joined (parts_of xs) (parts_of ys)
shown [] ys = refl
shown (p ∷ xs) ys = ap (part (plain_part p)) (shown xs ys)

pub joined-assoc : (xs ys zs : PlainParts) → joined (joined xs ys) zs ≡ joined xs (joined ys zs)
joined-assoc no_part ys zs = refl
joined-assoc (part p xs) ys zs = ap (part p) (joined-assoc xs ys zs)

pub joined-nothing : (xs : PlainParts) → joined xs no_part ≡ xs
joined-nothing no_part = refl
joined-nothing (part p xs) = ap (part p) (joined-nothing xs)

pub trail_joined : (f : ℕ → List Step) (xs ys : PlainParts) → parts_trail f (joined xs ys) ≡ parts_trail f xs
    ++ parts_trail f ys
trail_joined f no_part ys = refl
trail_joined f (part p xs) ys = ap (λ l. part_trail f p ++ l) (trail_joined f xs ys)
    ∙ sym (append_assoc (part_trail f p) (parts_trail f xs) (parts_trail f ys))

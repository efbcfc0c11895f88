-- Sets of names.
use Rattle.std.proofs.Common.{◌≡◌, ◌∙◌, ℕ, cond, ◌||◌, Bool, true, false, List, [], ◌∷◌, ◌++◌, map, refl, ap}
use Rattle.std.specs.Str.{bytes_eq}
use Rattle.std.specs.List.{list_any}
use Rattle.std.proofs.lemmas.List.{map-append}
use Rattle.indexmap.specs.IndexSet.{insert_key}
use Rattle.patmos_asm.specs.Assembly.{is_among, noted}
use denote.Ref.{Bor}

pub among_keys : (name : List ℕ) (keys : List (Bor (List ℕ))) → list_any (λ k. bytes_eq name k.now) keys
    ≡ is_among name (map (λ k. k.now) keys)
among_keys name [] = refl
among_keys name (k ∷ ks) = ap (λ t. bytes_eq name k.now || t) (among_keys name ks)

push_when : (among : Bool) (keys : List (Bor (List ℕ))) (k : Bor (List ℕ)) →
    map (λ k. k.now) (cond among keys (keys ++ k ∷ [])) ≡ cond among (map (λ k. k.now) keys) (map (λ k. k.now) keys
    ++ k.now ∷ [])
push_when true keys k = refl
push_when false keys k = map-append (λ k. k.now) keys (k ∷ [])

pub noted_keys : (keys : List (Bor (List ℕ))) (k : Bor (List ℕ)) →
    map (λ k. k.now) (insert_key (λ x y. bytes_eq x.now y.now) keys k) ≡ noted k.now (map (λ k. k.now) keys)
noted_keys keys k = push_when (list_any (λ y. bytes_eq k.now y.now) keys) keys k
    ∙ ap (λ t. cond t (map (λ k. k.now) keys) (map (λ k. k.now) keys ++ k.now ∷ [])) (among_keys k.now keys)

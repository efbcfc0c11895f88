-- The bundles of a function's words, one by one, and the offsets that they branch to.
use Rattle.std.proofs.Common.{arith, ◌≡◌, ◌∙◌, ℕ, ◌+◌, ◌^◌, ◌<◌, ◌≤◌, ◌==◌, ◌||◌, Bool, true, false, cond, List, [], ◌∷◌, ◌++◌, length, get_or, drop, refl, ap, append_assoc, Option, Some, None}
use Rattle.std.specs.List.{list_any}
use Rattle.std.specs.Option.{option_map, unwrap_or}
use Rattle.std.proofs.lemmas.Bool.Decides.{nat_tests}
use Rattle.indexmap.specs.IndexSet.{insert_key}
use Rattle.patmos_instr.specs.Bundles.{PlainBundle}
use denote.Ref.{Bor}
use Rattle.patmos_code.specs.Decoding.{bundle_at}
use Rattle.patmos_asm.specs.Printed.{before_rest, bundles_from, targets_of, is_target, lines_of, label_line, head_line, function_text}

-- a bundle of one word, and of two, in front of others
pub one_word_first : (ws : List ℕ) (o : Option PlainBundle) (at : ℕ) → 2 ≤ length ws → get_or ws 0 0 < 2 ^ 31 → o
    ≡ bundle_at (get_or ws 0 0) (get_or ws 1 0) →
    bundles_from at ws ≡ before_rest at o (bundles_from (at + 1) (drop 1 ws))
one_word_first [] o at long small is = absurd (omega arith)
one_word_first (w ∷ []) o at long small is = absurd (omega arith)
one_word_first (w ∷ v ∷ ws) o at long small is = rw is (grind (arith, nat_tests))

pub two_words_first : (ws : List ℕ) (o : Option PlainBundle) (at : ℕ) → 2 ≤ length ws → 2 ^ 31 ≤ get_or ws 0 0 → o
    ≡ bundle_at (get_or ws 0 0) (get_or ws 1 0) →
    bundles_from at ws ≡ before_rest at o (bundles_from (at + 2) (drop 2 ws))
two_words_first [] o at long large is = absurd (omega arith)
two_words_first (w ∷ []) o at long large is = absurd (omega arith)
two_words_first (w ∷ v ∷ ws) o at long large is = rw is (grind (arith, nat_tests))

same_when : (n t : ℕ) (ts : List ℕ) (b : Bool) → n == t ≡ b → list_any (λ k. t == k) ts ≡ true → is_target n ts
    ≡ (b || is_target n ts)
same_when n t ts true e among = let k : n ≡ t = grind (arith, nat_tests) in rw k among
same_when n t ts false e among = refl

or_swap : (a b c : Bool) → (a || (b || c)) ≡ (b || (a || c))
or_swap true true c = refl
or_swap true false c = refl
or_swap false b c = refl

or_false : (a : Bool) → a ≡ (a || false)
or_false true = refl
or_false false = refl

any_append : (n t : ℕ) (ts : List ℕ) → is_target n (ts ++ t ∷ []) ≡ (n == t || is_target n ts)
any_append n t [] = refl
any_append n t (k ∷ ts) = ap (λ x. n == k || x) (any_append n t ts) ∙ or_swap (n == k) (n == t) (is_target n ts)

inserted : (n t : ℕ) (ts : List ℕ) (among : Bool) → list_any (λ k. t == k) ts ≡ among
    → is_target n (cond among ts (ts ++ t ∷ [])) ≡ (n == t || is_target n ts)
inserted n t ts true e = same_when n t ts (n == t) refl e
inserted n t ts false e = any_append n t ts

-- what is among the targets once one more is inserted
pub any_insert : (n t : ℕ) (ts : List ℕ) → is_target n (insert_key (λ x y. x == y) ts t)
    ≡ (is_target n (t ∷ []) || is_target n ts)
any_insert n t ts = inserted n t ts (list_any (λ k. t == k) ts) refl ∙ ap (λ x. x || is_target n ts) (or_false (n == t))

regroup : (a b c d : List ℕ) → ((a ++ b) ++ c) ++ d ≡ a ++ ((b ++ c) ++ d)
regroup a b c d = simp append_assoc

-- a function is written by its parts
pub function_parts : (functions : ℕ → List ℕ) (branched : ℕ → Bool) (name body old head lines new : List ℕ) →
    ((n : ℕ) → branched n ≡ is_target n (targets_of (bundles_from 0 body))) →
    head ≡ old ++ head_line name → lines ≡ head ++ lines_of functions branched (bundles_from 0 body) → new ≡ lines
    ++ label_line branched (length body) →
    new ≡ old ++ function_text functions name body
unfolding function_text
function_parts functions branched name body old head lines new same h l n =
    let k : branched ≡ (λ n. is_target n (targets_of (bundles_from 0 body))) = λ i n. same n i in
    n ∙ ap (λ x. x ++ label_line branched (length body)) l
    ∙ ap (λ x. (x ++ lines_of functions branched (bundles_from 0 body)) ++ label_line branched (length body)) h
    ∙ regroup old (head_line name) (lines_of functions branched (bundles_from 0 body))
    (label_line branched (length body))
    ∙ ap (λ (b : ℕ → Bool). old ++ ((head_line name ++ lines_of functions b (bundles_from 0 body))
    ++ label_line b (length body))) k

name_when : (same : Bool) (start q : ℕ) (name : Bor (List ℕ)) (find : ℕ → Option (Bor (List ℕ))) (other : List ℕ)
    → start == q ≡ same → find start ≡ None →
    unwrap_or (option_map (λ s. s.now) (cond same (Some name) (find q))) other
    ≡ unwrap_or (option_map (λ s. s.now) (find q)) (cond same name.now other)
name_when true start q name find other e free = let k : q ≡ start = grind (arith, nat_tests) in rw (k, free) refl
name_when false start q name find other e free = refl

-- a place that had no name gets it, and the others keep theirs
pub name_set : (start q : ℕ) (name : Bor (List ℕ)) (find : ℕ → Option (Bor (List ℕ))) (new : Option (Bor (List ℕ)))
    (other : List ℕ) →
    new ≡ cond (start == q) (Some name) (find q) → find start ≡ None →
    unwrap_or (option_map (λ s. s.now) new) other ≡ unwrap_or (option_map (λ s. s.now) (find q)) (cond
    (q == start) name.now other)
name_set start q name find new other e free =
    let turned : start == q ≡ q == start = grind (arith, nat_tests) in
    ap (λ o. unwrap_or (option_map (λ s. s.now) o) other) e ∙ name_when (start == q) start q name find other refl free
    ∙ ap (λ b. unwrap_or (option_map (λ s. s.now) (find q)) (cond b name.now other)) turned

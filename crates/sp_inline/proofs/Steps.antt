-- One step more of what is written in the place of a call.
use Rattle.std.proofs.Common.{◌≡◌, ℕ, zero, suc, ◌+◌, ◌<◌, ◌≤◌, Bool, List, [], ◌∷◌, ◌++◌, length, length-append, map, get_or, drop, refl, sym, ◌∙◌, ap, ap₂, arith}
use Rattle.std.specs.Prelude.{◌-◌, Option, Result, Ok, Err, OnOk}
use Rattle.std.proofs.lemmas.List.{length-map}
use Rattle.sp_inline.proofs.Growth.{handed_length}
use Rattle.tc_word.proofs.Items.{drop_item}
use Rattle.sp_tree.specs.declared.expressions.SpExpr.{SpExpr}
use Rattle.sp_tree.specs.declared.statements.SpStmt.{SpStmt}
use Rattle.sp_tree.specs.Formed.{slots_of}
use Rattle.sp_tree.specs.Plain.{PlainSp, plain_sp, constant}
use Rattle.sp_tree.specs.Shown.{plain_stmt, stmts_of}
use Rattle.sp_tree.specs.Statements.{PlainStmts, no_stmt, stmt, one, joined, masks, PlainFunction}
use Rattle.sp_tree.proofs.Joins.{joined_shown}
use Rattle.sp_inline.specs.Moved.{stmts_moved}
use Rattle.sp_inline.specs.Taken.{begun_words, handed, call_mask, entered, given_set, call_statements}
use Rattle.sp_tree.specs.MaskTests.{tests_mask}
use Rattle.sp_inline.proofs.Parts.{joined_joined, joined_none}

pub one_more : (out : List SpStmt) (t : SpStmt) → stmts_of (out ++ t ∷ []) ≡ joined (stmts_of out) (one (plain_stmt t))
one_more out t = joined_shown out (t ∷ [])

-- one statement more, and those that come after it
followed : (old new rest : PlainStmts) (more : PlainStmts) → new ≡ joined old more → joined new rest
    ≡ joined old (joined more rest)
followed old new rest more is = ap (λ xs. joined xs rest) is ∙ joined_joined old more rest

-- what is so where all was done
pub on_done : {E A : Type 0} {P Q : Type 0} (r : Result A E) → (P → Q) → OnOk r P → OnOk r Q
on_done (Ok v) f h = f h
on_done (Err e) f h = h

-- ---- arguments

begun_next : (at n : ℕ) (e : PlainSp) (args : List PlainSp) → 0 < n → begun_words at n (e ∷ args)
    ≡ stmt (masks at e) (begun_words (at + 1) (n - 1) args)
begun_next at zero e args some = absurd (omega (arith, some))
begun_next at (suc n) e args some = ap (λ m. stmt (masks at e) (begun_words (at + 1) m args)) (omega arith)

pub next_argument : (place k : ℕ) (args : List SpExpr) (e : SpExpr) (old new whole : PlainStmts) → k < length args → e
    ≡ get_or args k e
    → new ≡ joined old (one (masks (place + k) (plain_sp e)))
    → joined old (begun_words (place + k) (length args - k) (map plain_sp (drop k args))) ≡ whole
    → joined new (begun_words (place + (k + 1)) (length args - (k + 1)) (map plain_sp (drop (k + 1) args))) ≡ whole
next_argument place k args e old new whole within is added so_far =
    let rest = begun_words (place + (k + 1)) (length args - (k + 1)) (map plain_sp (drop (k + 1) args)) in
    followed old new rest (one (masks (place + k) (plain_sp e))) added
    ∙ ap (λ xs. joined old (stmt (masks (place + k) (plain_sp e)) xs))
    (ap₂ (λ at n. begun_words at n (map plain_sp (drop (k + 1) args))) (omega arith) (omega arith))
    ∙ sym (ap (joined old) (ap (λ xs. begun_words (place + k) (length args - k) (map plain_sp xs))
    (drop_item args k e within is)
    ∙ begun_next (place + k) (length args - k) (plain_sp e) (map plain_sp (drop (k + 1) args)) (omega (arith, within))))
    ∙ so_far

pub no_argument : (place k : ℕ) (args : List SpExpr) (out whole : PlainStmts) → length args ≤ k
    → joined out (begun_words (place + k) (length args - k) (map plain_sp (drop k args))) ≡ whole → out ≡ whole
no_argument place k args out whole past so_far =
    let none : length args - k ≡ 0 = omega (arith, past) in
    sym (joined_none out) ∙ sym (ap (λ n. joined out (begun_words (place + k) n (map plain_sp (drop k args)))) none)
    ∙ so_far

-- ---- words that are 0

zero_next : (at n : ℕ) → 0 < n → begun_words at n [] ≡ stmt (masks at (constant 0)) (begun_words (at + 1) (n - 1) [])
zero_next at zero some = absurd (omega (arith, some))
zero_next at (suc n) some = ap (λ m. stmt (masks at (constant 0)) (begun_words (at + 1) m [])) (omega arith)

pub next_zero : (slot to : ℕ) (old new whole : PlainStmts) → slot < to → new ≡ joined old (begun_words slot 1 [])
    → joined old (begun_words slot (to - slot) []) ≡ whole → joined new (begun_words (slot + 1) (to - (slot + 1)) [])
    ≡ whole
next_zero slot to old new whole below added so_far =
    followed old new (begun_words (slot + 1) (to - (slot + 1)) []) (begun_words slot 1 []) added
    ∙ ap (λ n. joined old (stmt (masks slot (constant 0)) (begun_words (slot + 1) n []))) (omega arith)
    ∙ sym (ap (joined old) (zero_next slot (to - slot) (omega (arith, below)))) ∙ so_far

pub no_zero : (slot to : ℕ) (out whole : PlainStmts) → to ≤ slot → joined out (begun_words slot (to - slot) [])
    ≡ whole → out ≡ whole
no_zero slot to out whole past so_far =
    let none : to - slot ≡ 0 = omega (arith, past) in
    sym (joined_none out) ∙ sym (ap (λ n. joined out (begun_words slot n [])) none) ∙ so_far

-- ---- all words that are begun

-- some words, and those after them
begun_more : (at m n : ℕ) (args more : List PlainSp) → length args ≡ m → joined (begun_words at m args) (begun_words
    (at + m) n more) ≡ begun_words at (m + n) (args ++ more)
begun_more at m n [] more count =
    ap (λ k. joined (begun_words at k []) (begun_words (at + k) n more)) (sym count)
    ∙ ap₂ (λ a k. begun_words a k more) (omega arith) (omega (arith, count))
begun_more at m n (e ∷ args) more count =
    ap (λ k. joined (begun_words at k (e ∷ args)) (begun_words (at + k) n more)) (sym count)
    ∙ ap (λ a. stmt (masks at e) (joined (begun_words (at + 1) (length args) args) (begun_words a n more))) moved_on
    ∙ ap (stmt (masks at e)) (begun_more (at + 1) (length args) n args more refl)
    ∙ sym (ap (λ k. begun_words at k (e ∷ (args ++ more))) again)
  where
    moved_on : at + length (e ∷ args) ≡ (at + 1) + length args
    moved_on = omega arith

    again : m + n ≡ suc (length args + n)
    again = omega (arith, count)

begun_split : (at m : ℕ) (args : List PlainSp) → joined (begun_words at (length args) args) (begun_words
    (at + length args) m []) ≡ begun_words at (length args + m) args
begun_split at m [] = ap₂ (λ a n. begun_words a n []) (omega arith) (omega arith)
begun_split at m (e ∷ args) =
    ap (λ a. joined (begun_words at (length (e ∷ args)) (e ∷ args)) (begun_words a m [])) moved_on
    ∙ ap (stmt (masks at e)) (begun_split (at + 1) m args) ∙ ap (λ n. begun_words at n (e ∷ args)) more
  where
    moved_on : at + length (e ∷ args) ≡ (at + 1) + length args
    moved_on = omega arith

    more : suc (length args + m) ≡ length (e ∷ args) + m
    more = omega arith

-- so many 0
abbrev zeros : ℕ → List PlainSp
zeros zero = []
zeros (suc n) = constant 0 ∷ zeros n

zeros_begun : (at n : ℕ) → begun_words at n [] ≡ begun_words at n (zeros n)
zeros_begun at zero = refl
zeros_begun at (suc n) = ap (stmt (masks at (constant 0))) (zeros_begun (at + 1) n)

zeros_length : (n : ℕ) → length (zeros n) ≡ n
zeros_length zero = refl
zeros_length (suc n) = let rest = zeros_length n in omega (arith, rest)

-- what a function is handed, piece by piece
handed_is : (at : ℕ) (mask : PlainSp) (args : List PlainSp) → length args ≤ at → (args ++ zeros (at - length args))
    ++ mask ∷ [] ≡ handed at mask args
handed_is zero mask [] few = refl
handed_is zero mask (e ∷ args) few = absurd (omega (arith, few))
handed_is (suc n) mask [] few =
    ap (λ k. zeros k ++ mask ∷ []) (let same : suc n - 0 ≡ suc (n - 0) = omega arith in same)
    ∙ ap (λ es. constant 0 ∷ es) (handed_is n mask [] (omega arith))
handed_is (suc n) mask (e ∷ args) few =
    ap (λ k. (e ∷ args ++ zeros k) ++ mask ∷ [])
    (let same : suc n - length (e ∷ args) ≡ n - length args = omega arith in same)
    ∙ ap (λ es. e ∷ es) (handed_is n mask args (omega (arith, few)))

-- the arguments, then 0, and then the mask
pub all_handed : (place at : ℕ) (mask : PlainSp) (args : List SpExpr) (old first second new : PlainStmts)
    → length args ≤ at
    → first ≡ joined old (begun_words place (length args) (map plain_sp args))
    → second ≡ joined first (begun_words (place + length args) (place + at - (place + length args)) [])
    → new ≡ joined second (one (masks (place + at) mask))
    → new ≡ joined old (begun_words place (at + 1) (handed at mask (map plain_sp args)))
all_handed place at mask args old first second new few a b c =
    c ∙ followed first second (one (masks (place + at) mask)) (begun_words (place + length args)
    (place + at - (place + length args)) []) b
    ∙ followed old first (joined (begun_words (place + length args) (place + at - (place + length args)) [])
    (one (masks (place + at) mask))) (begun_words place (length args) es) a
    ∙ ap (joined old) (sym (joined_joined (begun_words place (length args) es) (begun_words (place + length args)
    (place + at - (place + length args)) []) (one (masks (place + at) mask))) ∙ whole)
  where
    es : List PlainSp
    es = map plain_sp args

    count : length es ≡ length args
    count = length-map args plain_sp

    left : ℕ
    left = at - length args

    both : length (es ++ zeros left) ≡ at
    both = (let x = length-append es (zeros left) in let y = zeros_length left in omega (arith, x, y, count, few))

    upto : joined (begun_words place (length args) es) (begun_words (place + length args)
        (place + at - (place + length args)) []) ≡ begun_words place at (es ++ zeros left)
    upto =
        ap (λ n. joined (begun_words place (length args) es) (begun_words (place + length args) n [])) (omega arith)
        ∙ ap (joined (begun_words place (length args) es)) (zeros_begun (place + length args) left)
        ∙ begun_more place (length args) left es (zeros left) count ∙ ap (λ n. begun_words place n (es ++ zeros left))
        (omega (arith, few))

    whole : joined (joined (begun_words place (length args) es) (begun_words (place + length args)
        (place + at - (place + length args)) [])) (one (masks (place + at) mask))
        ≡ begun_words place (at + 1) (handed at mask es)
    whole =
        ap (λ ts. joined ts (one (masks (place + at) mask))) upto
        ∙ begun_more place at 1 (es ++ zeros left) (mask ∷ []) both
        ∙ ap (begun_words place (at + 1)) (ap (λ n. (es ++ zeros (at - n)) ++ mask ∷ []) (sym count)
        ∙ handed_is at mask es (omega (arith, few, count)))

-- and then 0 in the others
pub all_begun : (place words at : ℕ) (mask : PlainSp) (args : List PlainSp) (old middle new : PlainStmts) → at < words
    → middle ≡ joined old (begun_words place (at + 1) (handed at mask args))
    → new ≡ joined middle (begun_words (place + at + 1) (place + words - (place + at + 1)) [])
    → new ≡ joined old (begun_words place words (handed at mask args))
all_begun place words at mask args old middle new few first second =
    second ∙ followed old middle (begun_words (place + at + 1) (place + words - (place + at + 1)) []) (begun_words place
    (at + 1) (handed at mask args)) first
    ∙ ap (joined old)
    (ap₂ (λ a n. joined (begun_words place n (handed at mask args)) (begun_words a (place + words - (place + at + 1))
    [])) (omega (arith, count)) (sym count)
    ∙ begun_split place (place + words - (place + at + 1)) (handed at mask args)
    ∙ ap (λ n. begun_words place n (handed at mask args)) (omega (arith, few, count)))
  where
    count : length (handed at mask args) ≡ at + 1
    count = handed_length at mask args

-- ---- a call

pub nothing_set : (out : PlainStmts) → out ≡ joined out no_stmt
nothing_set out = sym (joined_none out)

pub call_added : (o mask words : ℕ) (tests : Bool) (f : PlainFunction) (args : List PlainSp) (result : Option ℕ)
    (old begun moved new : PlainStmts)
    → words ≡ slots_of f → tests ≡ tests_mask f.mask f.body → begun
    ≡ joined old (begun_words o words (handed f.mask (call_mask tests mask) args))
    → moved ≡ joined begun (stmts_moved o (entered tests f.body)) → new
    ≡ joined moved (given_set mask result (o + f.result))
    → new ≡ joined old (call_statements o f mask args result)
call_added o mask words tests f args result old begun moved new same tested a b c =
    let last = given_set mask result (o + f.result) in
    let own = stmts_moved o (entered tests f.body) in
    let begin = begun_words o words (handed f.mask (call_mask tests mask) args) in
    c ∙ followed begun moved last own b ∙ followed old begun (joined own last) begin a
    ∙ ap₂ (λ n test. joined old (joined (begun_words o n (handed f.mask (call_mask test mask) args))
    (joined (stmts_moved o (entered test f.body)) last))) same tested

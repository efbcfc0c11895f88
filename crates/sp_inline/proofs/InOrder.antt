-- Functions one after another, each with what may be taken in of those before it.
use Rattle.std.proofs.Common.{◌≡◌, ℕ, zero, suc, ◌+◌, ◌<◌, ◌≤◌, List, [], ◌∷◌, ◌++◌, length, length-append, refl, sym, ◌∙◌, ap, ap₂, slice_index, arith, ◌^◌, Bool, true, false, if◌then◌else◌}
use Rattle.std.specs.Prelude.{◌-◌, nat_lt, nat_le}
use Rattle.std.proofs.lemmas.Bool.{and_parts, ltb-true, leb-true}
use Rattle.std.proofs.lemmas.List.{get_or_append_left, get_or_at, length-map}
use Rattle.sp_tree.specs.declared.statements.SpFunction.{SpFunction}
use Rattle.sp_tree.specs.declared.statements.SpStmt.{SpStmt}
use Rattle.sp_tree.specs.Cost.{cost}
use Rattle.sp_tree.specs.Formed.{stmts_levels, slots_of}
use Rattle.sp_tree.specs.Shown.{plain_function, functions_of, stmts_of}
use Rattle.sp_tree.specs.Statements.{PlainStmts, no_stmt, PlainFunction, no_function}
use Rattle.sp_inline.specs.declared.measured.Measured.{Measured}
use Rattle.sp_inline.specs.Shown.{measured_functions}
use Rattle.sp_inline.specs.declared.room.Room.{Room}
use Rattle.sp_inline.specs.Reach.{stmts_reach}
use Rattle.sp_inline.specs.Taken.{PlainCaller, Taken, with_room, room_of, is_whole, stmts_taken, taken_after, body_taken, grown, function_taken, first_taken}
use Rattle.sp_inline.proofs.Limits.{stmts_within}
use Rattle.sp_inline.proofs.Taking.{first_length}

-- the first so many do not depend on those after them
first_same : (most frames : List ℕ) (fs more : List PlainFunction) (n : ℕ) → n ≤ length fs → first_taken most frames (fs
    ++ more) n ≡ first_taken most frames fs n
first_same most frames fs more zero within = refl
first_same most frames fs more (suc n) within =
    ap₂ (λ before f. before ++ function_taken before (slice_index most n) (slice_index frames n) f ∷ [])
    (first_same most frames fs more n (omega (arith, within))) (get_or_append_left fs more no_function n
    (omega (arith, within)))

shown_more : (fs : List SpFunction) (f : SpFunction) → functions_of (fs ++ f ∷ []) ≡ functions_of fs
    ++ plain_function f ∷ []
shown_more [] f = refl
shown_more (g ∷ fs) f = ap (λ gs. plain_function g ∷ gs) (shown_more fs f)

measured_more : (ms : List Measured) (m : Measured) → measured_functions (ms ++ m ∷ []) ≡ measured_functions ms
    ++ plain_function m.function ∷ []
measured_more [] m = refl
measured_more (n ∷ ms) m = ap (λ gs. plain_function n.function ∷ gs) (measured_more ms m)

step : (most frames : List ℕ) (fs : List PlainFunction) (f : PlainFunction) (n : ℕ) → n ≡ length fs
    → first_taken most frames fs n ++ function_taken (first_taken most frames fs n) (slice_index most n)
    (slice_index frames n) f ∷ []
    ≡ first_taken most frames (fs ++ f ∷ []) (suc n)
step most frames fs f n is =
    sym (ap₂ (λ before g. before ++ function_taken before (slice_index most n) (slice_index frames n) g ∷ [])
    (first_same most frames fs (f ∷ []) n (omega (arith, is))) (get_or_at fs f [] no_function n (sym is)))

pub next_function : (most frames : List ℕ) (made : List Measured) (m : Measured) (fs : List SpFunction) (f : SpFunction)
    → measured_functions made ≡ first_taken most frames (functions_of fs) (length fs)
    → plain_function m.function ≡ function_taken (measured_functions made) (slice_index most (length made))
    (slice_index frames (length made)) (plain_function f)
    → measured_functions (made ++ m ∷ []) ≡ first_taken most frames (functions_of (fs ++ f ∷ [])) (length
    (fs ++ f ∷ []))
next_function most frames made m fs f so_far is =
    measured_more made m ∙ ap (λ g. measured_functions made ++ g ∷ []) (is
    ∙ ap (λ n. function_taken (measured_functions made) (slice_index most n) (slice_index frames n)
    (plain_function f)) count)
    ∙ ap (λ before. before ++ function_taken before (slice_index most (length fs)) (slice_index frames (length fs))
    (plain_function f) ∷ []) so_far
    ∙ step most frames (functions_of fs) (plain_function f) (length fs) (sym (length-map fs plain_function))
    ∙ ap₂ (first_taken most frames) (sym (shown_more fs f)) more
  where
    count : length made ≡ length fs
    count = sym (length-map made (λ x. plain_function x.function)) ∙ ap length so_far
        ∙ first_length most frames (functions_of fs) (length fs)

    more : suc (length fs) ≡ length (fs ++ f ∷ [])
    more = omega (arith, length-append fs (f ∷ []))

pub next_shown : (fs : List SpFunction) (ms : List Measured) (m : Measured) → functions_of fs ≡ measured_functions ms
    → functions_of (fs ++ m.function ∷ []) ≡ measured_functions (ms ++ m ∷ [])
next_shown fs ms m same =
    shown_more fs m.function ∙ ap (λ gs. gs ++ plain_function m.function ∷ []) same ∙ sym (measured_more ms m)

-- ---- a function

no_before : (t : Taken) → taken_after no_stmt t ≡ t
no_before t = refl

-- the walk of the code is that of the definition
pub taken_walk : (earlier : List Measured) (most frame : ℕ) (own : Measured) (room left : Room)
    (statements inside out : List SpStmt)
    → room ≡ room_of (most - cost (plain_function own.function)) (slots_of (plain_function own.function)) (stmts_levels
    (stmts_of own.function.body))
    → statements ≡ own.function.body → inside ≡ []
    → with_room (stmts_of out) left
    ≡ taken_after (stmts_of inside) (stmts_taken (record {
      functions = measured_functions earlier;
      words = own.words;
      frame = frame;
    }) 0 room (stmts_of statements))
    → with_room (stmts_of out) left ≡ body_taken (measured_functions earlier) most frame (plain_function own.function)
taken_walk earlier most frame own room left statements inside out first same none walked =
    let words = own.words_are in
    walked
    ∙ (λ i. taken_after (stmts_of (none i))
    (stmts_taken (record { functions = measured_functions earlier; words = words i; frame = frame }) 0 (first i)
    (stmts_of (same i))))
    ∙ no_before (body_taken (measured_functions earlier) most frame (plain_function own.function))

-- the words of its frame are within a word
pub walk_small : (earlier : List Measured) (most frame number : ℕ) (own : Measured) (left : Room) (out : PlainStmts)
    → frame < 2 ^ 32
    → is_whole number (plain_function own.function) ≡ true → with_room out left
    ≡ body_taken (measured_functions earlier) most frame (plain_function own.function)
    → left.words + (stmts_levels out + 2) < 2 ^ 32
walk_small earlier most frame number own left out narrow whole walked =
    let f = plain_function own.function in
    let c : PlainCaller = record { functions = measured_functions earlier; words = slots_of f; frame = frame } in
    let r : Room = room_of (most - cost f) (slots_of f) (stmts_levels f.body) in
    let h = stmts_within c 0 r f.body (omega arith) in
    let some = ltb-true f.result (slots_of f) (and_parts (nat_lt f.result (slots_of f)) _ whole).0 in
    let few = own.few (omega (arith, some, own.words_are)) in
    let bounds = h.frame in
    let inside = h.inside in
    let words = ap (λ (t : Taken). t.room.words) walked in
    let levels = ap (λ (t : Taken). stmts_levels t.body) walked in
    omega (arith, bounds, inside, words, levels, few, narrow, own.words_are, own.levels_are)

pub whole_some : (number : ℕ) (own : Measured) → is_whole number (plain_function own.function) ≡ true → 0 < own.words
whole_some number own whole =
    let f = plain_function own.function in
    let some = ltb-true f.result (slots_of f) (and_parts (nat_lt f.result (slots_of f)) _ whole).0 in
    omega (arith, some, own.words_are)

whole_reach : (number : ℕ) (own : Measured) → is_whole number (plain_function own.function) ≡ true
    → stmts_reach (stmts_of own.function.body) ≤ own.words
whole_reach number own whole =
    let f = plain_function own.function in
    let more = (and_parts (nat_lt f.result (slots_of f)) _ whole).1 in
    let within =
    leb-true (stmts_reach f.body) (slots_of f) (and_parts (nat_le (stmts_reach f.body) (slots_of f)) _ more).0 in
    omega (arith, within, own.words_are)

-- what the walk asks of it
pub walk_asks : (number : ℕ) (own : Measured) (room : Room) (statements : List SpStmt) (most : ℕ)
    → is_whole number (plain_function own.function) ≡ true
    → room ≡ room_of (most - cost (plain_function own.function)) (slots_of (plain_function own.function)) (stmts_levels
    (stmts_of own.function.body))
    → statements ≡ own.function.body → (0 + stmts_levels (stmts_of statements) ≤ room.levels)
    × (stmts_reach (stmts_of statements) ≤ own.words)
walk_asks number own room statements most whole first same =
    let levels = ap (λ (r : Room). r.levels) first in
    let level = ap (λ ts. stmts_levels (stmts_of ts)) same in
    let reach = ap (λ ts. stmts_reach (stmts_of ts)) same in
    (omega (arith, levels, level), omega (arith, reach, whole_reach number own whole))

chosen : (b given : Bool) (f g : PlainFunction) → b ≡ given → (if b then f else g) ≡ (if given then f else g)
chosen b given f g is = ap (λ (x : Bool). if x then f else g) is

pub whole_taken : (earlier : List Measured) (most frame : ℕ) (f : PlainFunction) → is_whole (length earlier) f ≡ true
    → let fs = measured_functions earlier in grown f (body_taken fs most frame f) ≡ function_taken fs most frame f
whole_taken earlier most frame f whole =
    let fs = measured_functions earlier in
    sym (chosen (is_whole (length fs) f) true (grown f (body_taken fs most frame f)) f
    (ap (λ n. is_whole n f) (length-map earlier (λ m. plain_function m.function)) ∙ whole))

pub other_taken : (earlier : List Measured) (most frame : ℕ) (f : PlainFunction) → is_whole (length earlier) f ≡ false
    → f ≡ function_taken (measured_functions earlier) most frame f
other_taken earlier most frame f other =
    let fs = measured_functions earlier in
    sym (chosen (is_whole (length fs) f) false (grown f (body_taken fs most frame f)) f
    (ap (λ n. is_whole n f) (length-map earlier (λ m. plain_function m.function)) ∙ other))

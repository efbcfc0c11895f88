-- A well-formed unit is so with the calls that it takes in.
use Rattle.std.proofs.Common.{◌≡◌, ℕ, zero, suc, ◌+◌, ◌<◌, ◌≤◌, ◌==◌, Bool, true, false, if◌then◌else◌, List, [], ◌∷◌, length, Option, Some, None, slice_index, slice_index_or, refl, ap, sym, ◌∙◌, arith, ap₂, subst}
use Rattle.std.specs.Prelude.{nat_lt, nat_le, ◌&&◌}
use Rattle.std.proofs.lemmas.Bool.{and_parts, and_from, ltb-true, lt-ltb, leb-true, le-leb}
use Rattle.sp_tree.specs.Cost.{cost}
use Rattle.sp_tree.specs.Formed.{names_words, expr_formed, args_formed, target_formed, result_formed, callee_formed, send_formed, stmt_formed, stmts_formed, array_formed, slots_of, function_formed, functions_formed, entry_formed, data_formed, is_formed}
use Rattle.sp_tree.specs.Need.{need, both_need}
use Rattle.sp_tree.specs.Plain.{PlainSp, constant, frame_word, cell_word, array_word, before_one, between_two}
use Rattle.sp_tree.specs.Statements.{PlainSpTarget, to_slot, to_cell, to_array, PlainStmt, masks, writes, calls, transfers, overruns, iterations, PlainStmts, no_stmt, stmt, one, joined, PlainFunction, no_function, PlainUnit}
use Rattle.sp_tree.specs.Uses.{uses_of, are_apart}
use Rattle.sp_tree.proofs.Forms.{FunctionParts, parts_of_function, more_stmts, earlier_one}
use Rattle.sp_tree.proofs.Joins.{joined_formed}
use Rattle.sp_inline.specs.Moved.{moved, args_moved, target_moved, result_moved, stmt_moved, stmts_moved}
use Rattle.sp_inline.specs.Reach.{expr_reach, args_reach, target_reach, result_reach, stmt_reach, stmts_reach, stmt_calls, stmts_calls}
use Rattle.sp_inline.specs.declared.room.Room.{Room}
use Rattle.sp_inline.specs.Taken.{begun_words, handed, call_mask, entered, given_set, call_statements, front, short_body, shortened, PlainCaller, Taken, callee, room_after, is_taken, kept, call_taken, stmt_taken, stmts_taken, body_taken, grown, is_whole, function_taken, first_taken, unit_taken}
use Rattle.sp_tree.specs.MaskTests.{tests_mask}
use Rattle.sp_inline.proofs.Limits.{function_kept}
use Rattle.sp_inline.proofs.Shortened.{short_is, short_slots}
use Rattle.sp_inline.proofs.Entered.{entered_so}
use Rattle.sp_inline.proofs.Taking.{first_at, first_before, first_length}
use Rattle.sp_inline.proofs.Used.{still_apart}

-- ---- words of a frame from a place on

moved_need : (o : ℕ) (e : PlainSp) → need (moved o e) ≡ need e
moved_need o (array_word array index) = moved_need o index
moved_need o (before_one op of) = moved_need o of
moved_need o (between_two op a b) = ap₂ both_need (moved_need o a) (moved_need o b)
moved_need o _ = refl

-- over the words from a place on, and others after them
record Inside (o slots width : ℕ) : Type 0 where
  within : o + slots ≤ width

moved_slot : (o slots width slot : ℕ) → Inside o slots width → nat_lt slot slots ≡ true → nat_lt (o + slot) width ≡ true
moved_slot o slots width slot i h =
    lt-ltb (o + slot) width (let below = ltb-true slot slots h in omega (arith, below, i.within))

moved_names : (o slots width : ℕ) (e : PlainSp) → Inside o slots width → names_words slots e ≡ true
    → names_words width (moved o e) ≡ true
moved_names o slots width (constant n) i h = refl
moved_names o slots width (frame_word slot) i h = moved_slot o slots width slot i h
moved_names o slots width (cell_word cell) i h = h
moved_names o slots width (array_word array index) i h =
    let both = and_parts (array_formed array) (names_words slots index) h in
    and_from (array_formed array) (names_words width (moved o index)) both.0 (moved_names o slots width index i both.1)
moved_names o slots width (before_one op of) i h = moved_names o slots width of i h
moved_names o slots width (between_two op a b) i h =
    let both = and_parts (names_words slots a) (names_words slots b) h in
    and_from (names_words width (moved o a)) (names_words width (moved o b)) (moved_names o slots width a i both.0)
    (moved_names o slots width b i both.1)

moved_expr : (o slots width : ℕ) (e : PlainSp) → Inside o slots width → expr_formed slots e ≡ true
    → expr_formed width (moved o e) ≡ true
moved_expr o slots width e i h =
    let both = and_parts (names_words slots e) (nat_le (need e) 12) h in
    and_from (names_words width (moved o e)) (nat_le (need (moved o e)) 12) (moved_names o slots width e i both.0)
    (ap (λ n. nat_le n 12) (moved_need o e) ∙ both.1)

moved_args : (o slots width : ℕ) (args : List PlainSp) → Inside o slots width → args_formed slots args ≡ true
    → args_formed width (args_moved o args) ≡ true
moved_args o slots width [] i h = refl
moved_args o slots width (e ∷ args) i h =
    let both = and_parts (expr_formed slots e) (args_formed slots args) h in
    and_from (expr_formed width (moved o e)) (args_formed width (args_moved o args))
    (moved_expr o slots width e i both.0) (moved_args o slots width args i both.1)

moved_count : (o : ℕ) (args : List PlainSp) → length (args_moved o args) ≡ length args
moved_count o [] = refl
moved_count o (e ∷ args) = ap suc (moved_count o args)

moved_target : (o slots width : ℕ) (target : PlainSpTarget) → Inside o slots width → target_formed slots target ≡ true
    → target_formed width (target_moved o target) ≡ true
moved_target o slots width (to_slot slot) i h = moved_slot o slots width slot i h
moved_target o slots width (to_cell cell) i h = h
moved_target o slots width (to_array array index) i h =
    let both = and_parts (array_formed array) (expr_formed slots index) h in
    and_from (array_formed array) (expr_formed width (moved o index)) both.0 (moved_expr o slots width index i both.1)

moved_result : (o slots width : ℕ) (result : Option ℕ) → Inside o slots width → result_formed slots result ≡ true
    → result_formed width (result_moved o result) ≡ true
moved_result o slots width None i h = refl
moved_result o slots width (Some slot) i h = moved_slot o slots width slot i h

-- the functions before one have as many parameters
record SameCounts (number : ℕ) (fs gs : List PlainFunction) : Type 0 where
  same : (k : ℕ) → k < number → (slice_index_or gs k no_function).parameters
      ≡ (slice_index_or fs k no_function).parameters

later_callee : (fs : List PlainFunction) (number more k args : ℕ) → number ≤ more → callee_formed fs number k args
    ≡ true → callee_formed fs more k args ≡ true
later_callee fs number more k args grows h =
    let both = and_parts (nat_lt k number) _ h in
    and_from (nat_lt k more) _ (lt-ltb k more (let below = ltb-true k number both.0 in omega (arith, below, grows)))
    both.1

counted_callee : (fs gs : List PlainFunction) (number k args : ℕ) → SameCounts number fs gs
    → callee_formed fs number k args ≡ true → callee_formed gs number k args ≡ true
counted_callee fs gs number k args c h =
    let both = and_parts (nat_lt k number) _ h in
    and_from (nat_lt k number) _ both.0 (ap (λ n. args == n) (c.same k (ltb-true k number both.0)) ∙ both.1)

mutual
  moved_stmt : (fs : List PlainFunction) (number more o slots width : ℕ) → number ≤ more → Inside o slots width
      → (t : PlainStmt)
      → stmt_formed fs number slots t ≡ true → stmt_formed fs more width (stmt_moved o t) ≡ true
  moved_stmt fs number more o slots width grows i (masks slot e) h =
      let a = and_parts (nat_lt slot slots) (expr_formed slots e) h in
      and_from (nat_lt (o + slot) width) (expr_formed width (moved o e)) (moved_slot o slots width slot i a.0)
      (moved_expr o slots width e i a.1)
  moved_stmt fs number more o slots width grows i (writes mask target e) h =
      let a = and_parts (nat_lt mask slots) (target_formed slots target && expr_formed slots e) h in
      let b = and_parts (target_formed slots target) (expr_formed slots e) a.1 in
      and_from (nat_lt (o + mask) width) _ (moved_slot o slots width mask i a.0)
      (and_from (target_formed width (target_moved o target)) _ (moved_target o slots width target i b.0)
      (moved_expr o slots width e i b.1))
  moved_stmt fs number more o slots width grows i (calls mask k args result) h =
      let a = and_parts (nat_lt mask slots) (callee_formed fs number k (length args)
      && (args_formed slots args && result_formed slots result)) h in
      let b = and_parts (callee_formed fs number k (length args)) (args_formed slots args && result_formed slots result)
      a.1 in
      let c = and_parts (args_formed slots args) (result_formed slots result) b.1 in
      and_from (nat_lt (o + mask) width) _ (moved_slot o slots width mask i a.0)
      (and_from (callee_formed fs more k (length (args_moved o args))) _
      (ap (callee_formed fs more k) (moved_count o args) ∙ later_callee fs number more k (length args) grows b.0)
      (and_from (args_formed width (args_moved o args)) _ (moved_args o slots width args i c.0)
      (moved_result o slots width result i c.1)))
  moved_stmt fs number more o slots width grows i (transfers mask core source target count) h =
      let a = and_parts (nat_lt mask slots) (send_formed slots core source target count) h in
      let b = and_parts (nat_lt core 16)
      (expr_formed slots source && (expr_formed slots target && expr_formed slots count)) a.1 in
      let c = and_parts (expr_formed slots source) (expr_formed slots target && expr_formed slots count) b.1 in
      let d = and_parts (expr_formed slots target) (expr_formed slots count) c.1 in
      and_from (nat_lt (o + mask) width) _ (moved_slot o slots width mask i a.0)
      (and_from (nat_lt core 16) _ b.0 (and_from (expr_formed width (moved o source)) _
      (moved_expr o slots width source i c.0)
      (and_from (expr_formed width (moved o target)) _ (moved_expr o slots width target i d.0)
      (moved_expr o slots width count i d.1))))
  moved_stmt fs number more o slots width grows i (overruns mask e) h =
      let a = and_parts (nat_lt mask slots) (expr_formed slots e) h in
      and_from (nat_lt (o + mask) width) (expr_formed width (moved o e)) (moved_slot o slots width mask i a.0)
      (moved_expr o slots width e i a.1)
  moved_stmt fs number more o slots width grows i (iterations count body) h =
      let a = and_parts (nat_lt 0 count) (stmts_formed fs number slots body) h in
      and_from (nat_lt 0 count) _ a.0 (moved_stmts fs number more o slots width grows i body a.1)

  moved_stmts : (fs : List PlainFunction) (number more o slots width : ℕ) → number ≤ more → Inside o slots width
      → (ts : PlainStmts)
      → stmts_formed fs number slots ts ≡ true → stmts_formed fs more width (stmts_moved o ts) ≡ true
  moved_stmts fs number more o slots width grows i no_stmt h = refl
  moved_stmts fs number more o slots width grows i (stmt t rest) h =
      let a = and_parts (stmt_formed fs number slots t) (stmts_formed fs number slots rest) h in
      and_from (stmt_formed fs more width (stmt_moved o t)) _ (moved_stmt fs number more o slots width grows i t a.0)
      (moved_stmts fs number more o slots width grows i rest a.1)

-- ---- over more words

more_names : (slots width : ℕ) (e : PlainSp) → slots ≤ width → names_words slots e ≡ true → names_words width e ≡ true
more_names slots width (constant n) more h = refl
more_names slots width (frame_word slot) more h =
    lt-ltb slot width (let below = ltb-true slot slots h in omega (arith, more, below))
more_names slots width (cell_word cell) more h = h
more_names slots width (array_word array index) more h =
    let both = and_parts (array_formed array) (names_words slots index) h in
    and_from (array_formed array) (names_words width index) both.0 (more_names slots width index more both.1)
more_names slots width (before_one op of) more h = more_names slots width of more h
more_names slots width (between_two op a b) more h =
    let both = and_parts (names_words slots a) (names_words slots b) h in
    and_from (names_words width a) (names_words width b) (more_names slots width a more both.0)
    (more_names slots width b more both.1)

more_expr : (slots width : ℕ) (e : PlainSp) → slots ≤ width → expr_formed slots e ≡ true → expr_formed width e ≡ true
more_expr slots width e more h =
    let both = and_parts (names_words slots e) (nat_le (need e) 12) h in
    and_from (names_words width e) (nat_le (need e) 12) (more_names slots width e more both.0) both.1

-- ---- a call that is taken in

joined_so : (fs : List PlainFunction) (number width : ℕ) (xs ys : PlainStmts) → stmts_formed fs number width xs ≡ true
    → stmts_formed fs number width ys ≡ true
    → stmts_formed fs number width (joined xs ys) ≡ true
joined_so fs number width xs ys hx hy = joined_formed fs number width xs ys ∙ and_from (stmts_formed fs number width xs)
    (stmts_formed fs number width ys) hx hy

begun_formed : (fs : List PlainFunction) (number o width at n : ℕ) (args : List PlainSp) → o ≤ width → at + n ≤ width
    → args_formed o args ≡ true
    → stmts_formed fs number width (begun_words at n args) ≡ true
begun_formed fs number o width at zero args more fits h = refl
begun_formed fs number o width at (suc n) [] more fits h =
    and_from (stmt_formed fs number width (masks at (constant 0))) _
    (and_from (nat_lt at width) (expr_formed width (constant 0)) (lt-ltb at width (omega (arith, fits))) refl)
    (begun_formed fs number o width (at + 1) n [] more (omega (arith, fits)) refl)
begun_formed fs number o width at (suc n) (e ∷ args) more fits h =
    let both = and_parts (expr_formed o e) (args_formed o args) h in
    and_from (stmt_formed fs number width (masks at e)) _
    (and_from (nat_lt at width) (expr_formed width e) (lt-ltb at width (omega (arith, fits)))
    (more_expr o width e more both.0))
    (begun_formed fs number o width (at + 1) n args more (omega (arith, fits)) both.1)

mask_formed : (o : ℕ) (tests : Bool) (mask : ℕ) → mask < o → expr_formed o (call_mask tests mask) ≡ true
mask_formed o true mask mask_in = rw (lt-ltb mask o mask_in) refl
mask_formed o false mask mask_in = rw (lt-ltb mask o mask_in) refl

handed_formed : (o at : ℕ) (mask : PlainSp) (args : List PlainSp) → expr_formed o mask ≡ true → args_formed o args
    ≡ true → args_formed o (handed at mask args) ≡ true
handed_formed o zero mask args formed h = and_from (expr_formed o mask) true formed refl
handed_formed o (suc n) mask [] formed h = handed_formed o n mask [] formed refl
handed_formed o (suc n) mask (e ∷ args) formed h =
    let both = and_parts (expr_formed o e) (args_formed o args) h in
    and_from (expr_formed o e) (args_formed o (handed n mask args)) both.0 (handed_formed o n mask args formed both.1)

given_formed : (fs : List PlainFunction) (number width mask : ℕ) (result : Option ℕ) (word : ℕ) → mask < width
    → result_formed width result ≡ true → word < width
    → stmts_formed fs number width (given_set mask result word) ≡ true
given_formed fs number width mask None word mask_in h word_in = refl
given_formed fs number width mask (Some slot) word mask_in h word_in =
    and_from (stmt_formed fs number width (writes mask (to_slot slot) (frame_word word))) true
    (and_from (nat_lt mask width) _ (lt-ltb mask width mask_in)
    (and_from (nat_lt slot width) _ h (and_from (nat_lt word width) true (lt-ltb word width word_in) refl))) refl

-- without the mask that it sets last all of it still is
short_parts : (fs : List PlainFunction) (number : ℕ) (f : PlainFunction) → FunctionParts fs number f
    → FunctionParts fs number (shortened f)
short_parts fs number f p =
    let same = short_slots f in
    record {
      frame = p.frame;
      parameters = p.parameters;
      before_mask = p.before_mask;
      before_result = p.before_result;
      mask = omega (arith, same, p.mask);
      result = omega (arith, same, p.result);
      body = subst (λ n. stmts_formed fs number n (short_body f.result f.body) ≡ true) (sym same)
          (short_is (λ xs. stmts_formed fs number (slots_of f) xs ≡ true) f.result f.body p.body
          (λ h. (and_parts (stmts_formed fs number (slots_of f) (front f.body)) _
          (sym (joined_formed fs number (slots_of f) (front f.body) (one (masks h.slot h.value)))
          ∙ ap (stmts_formed fs number (slots_of f)) h.is ∙ p.body)).0));
      room = omega (arith, same, p.mask);
    }

call_formed : (gs : List PlainFunction) (number k o width : ℕ) (f : PlainFunction) (mask : ℕ) (args : List PlainSp)
    (result : Option ℕ) → k ≤ number → FunctionParts gs k f
    → o + slots_of f ≤ width → mask < o → args_formed o args ≡ true → result_formed width result ≡ true
    → stmts_formed gs number width (call_statements o f mask args result) ≡ true
call_formed gs number k o width f mask args result below p fits mask_in h into =
    let at_result = p.result in
    let tests = tests_mask f.mask f.body in
    let own = entered tests f.body in
    let all = handed f.mask (call_mask tests mask) args in
    let last = given_set mask result (o + f.result) in
    joined_so gs number width (begun_words o (slots_of f) all) (joined (stmts_moved o own) last)
    (begun_formed gs number o width o (slots_of f) all (omega (arith, fits)) (omega (arith, fits, at_result))
    (handed_formed o f.mask (call_mask tests mask) args (mask_formed o tests mask mask_in) h))
    (joined_so gs number width (stmts_moved o own) last
    (moved_stmts gs k number o (slots_of f) width below (record { within = fits }) own
    (entered_so (λ xs. stmts_formed gs k (slots_of f) xs ≡ true)
    (λ t rest is. (and_parts (stmt_formed gs k (slots_of f) t) _ is).1) tests f.body p.body))
    (given_formed gs number width mask result (o + f.result) (omega (arith, mask_in, fits)) into
    (omega (arith, fits, at_result))))

-- ---- the statements of a function that takes in calls

call_words : (c : PlainCaller) (depth : ℕ) (r : Room) (mask k : ℕ) (args : List PlainSp) (result : Option ℕ)
    → r.words ≤ (call_taken c depth r mask k args result).room.words
call_words c depth r mask k args result = by (is_taken c depth r k more args)
  where
    more : PlainStmts
    more = call_statements c.words (shortened (callee c k)) mask args result

    by : (b : Bool) → r.words
        ≤ (if b then (let t : Taken = record { body = more; room = room_after c depth r (callee c k) more args } in t)
        else kept r (calls mask k args result)).room.words
    by true = omega arith
    by false = omega arith

mutual
  stmt_words : (c : PlainCaller) (depth : ℕ) (r : Room) (t : PlainStmt) → r.words ≤ (stmt_taken c depth r t).room.words
  stmt_words c depth r (calls mask k args result) = call_words c depth r mask k args result
  stmt_words c depth r (iterations count body) = stmts_words c (depth + 1) r body
  stmt_words c depth r _ = omega arith

  stmts_words : (c : PlainCaller) (depth : ℕ) (r : Room) (ts : PlainStmts)
      → r.words ≤ (stmts_taken c depth r ts).room.words
  stmts_words c depth r no_stmt = omega arith
  stmts_words c depth r (stmt t rest) =
      let a = stmt_words c depth r t in
      let b = stmts_words c depth (stmt_taken c depth r t).room rest in
      omega (arith, a, b)

kept_formed : (gs : List PlainFunction) (number slots width : ℕ) (t : PlainStmt) → slots ≤ width
    → stmt_formed gs number slots t ≡ true
    → stmts_formed gs number width (one t) ≡ true
kept_formed gs number slots width t more h =
    more_stmts gs number slots width (one t) more (and_from (stmt_formed gs number slots t) true h refl)

taken_call_formed : (c : PlainCaller) (fs gs : List PlainFunction) (number : ℕ) → SameCounts number fs gs
    → ((k : ℕ) → k < number → FunctionParts gs k (callee c k))
    → (depth : ℕ) (r : Room) (mask k : ℕ) (args : List PlainSp) (result : Option ℕ) (width : ℕ)
    → stmt_formed fs number c.words (calls mask k args result) ≡ true
    → c.words ≤ width → (call_taken c depth r mask k args result).room.words ≤ width
    → stmts_formed gs number width (call_taken c depth r mask k args result).body ≡ true
taken_call_formed c fs gs number counts each depth r mask k args result width h more fits =
    by (is_taken c depth r k statements args) fits
  where
    statements : PlainStmts
    statements = call_statements c.words (shortened (callee c k)) mask args result

    by : (b : Bool)
        → (if b then (let t : Taken = record {
          body = statements;
          room = room_after c depth r (callee c k) statements
              args;
        } in t) else kept r (calls mask k args result)).room.words ≤ width
        → stmts_formed gs number width
        (if b then (let t : Taken = record {
          body = statements;
          room = room_after c depth r (callee c k) statements
              args;
        } in t) else kept r (calls mask k args result)).body ≡ true
    by true fits =
        let p = and_parts (nat_lt mask c.words) _ h in
        let q = and_parts (callee_formed fs number k (length args)) _ p.1 in
        let v = and_parts (nat_lt k number) _ q.0 in
        let w = and_parts (args_formed c.words args) (result_formed c.words result) q.1 in
        let below = ltb-true k number v.0 in
        call_formed gs number k c.words width (shortened (callee c k)) mask args result (omega (arith, below))
        (short_parts gs k (callee c k) (each k below)) (omega (arith, fits, short_slots (callee c k)))
        (ltb-true mask c.words p.0) w.0 (more_result result w.1)
      where
        more_result : (result : Option ℕ) → result_formed c.words result ≡ true → result_formed width result ≡ true
        more_result None is = refl
        more_result (Some slot) is =
            lt-ltb slot width (let below = ltb-true slot c.words is in omega (arith, below, more))
    by false fits =
        let p = and_parts (nat_lt mask c.words) _ h in
        let q = and_parts (callee_formed fs number k (length args)) _ p.1 in
        kept_formed gs number c.words width (calls mask k args result) more
        (and_from (nat_lt mask c.words) _ p.0 (and_from (callee_formed gs number k (length args)) _
        (counted_callee fs gs number k (length args) counts q.0) q.1))

mutual
  stmt_taken_formed : (c : PlainCaller) (fs gs : List PlainFunction) (number : ℕ) → SameCounts number fs gs
      → ((k : ℕ) → k < number → FunctionParts gs k (callee c k))
      → (depth : ℕ) (r : Room) (t : PlainStmt) (width : ℕ) → stmt_formed fs number c.words t ≡ true → c.words ≤ width
      → (stmt_taken c depth r t).room.words ≤ width → stmts_formed gs number width (stmt_taken c depth r t).body ≡ true
  stmt_taken_formed c fs gs number counts each depth r (calls mask k args result) width h more fits =
      taken_call_formed c fs gs number counts each depth r mask k args result width h more fits
  stmt_taken_formed c fs gs number counts each depth r (transfers mask core source target count) width h more fits =
      kept_formed gs number c.words width (transfers mask core source target count) more h
  stmt_taken_formed c fs gs number counts each depth r (iterations count body) width h more fits =
      let p = and_parts (nat_lt 0 count) (stmts_formed fs number c.words body) h in
      and_from (stmt_formed gs number width (iterations count (stmts_taken c (depth + 1) r body).body)) true
      (and_from (nat_lt 0 count) _ p.0 (stmts_taken_formed c fs gs number counts each (depth + 1) r body width p.1
      more fits)) refl
  stmt_taken_formed c fs gs number counts each depth r other width h more fits =
      kept_formed gs number c.words width other more h

  stmts_taken_formed : (c : PlainCaller) (fs gs : List PlainFunction) (number : ℕ) → SameCounts number fs gs
      → ((k : ℕ) → k < number → FunctionParts gs k (callee c k))
      → (depth : ℕ) (r : Room) (ts : PlainStmts) (width : ℕ) → stmts_formed fs number c.words ts ≡ true
      → c.words ≤ width
      → (stmts_taken c depth r ts).room.words ≤ width → stmts_formed gs number width (stmts_taken c depth r ts).body
      ≡ true
  stmts_taken_formed c fs gs number counts each depth r no_stmt width h more fits = refl
  stmts_taken_formed c fs gs number counts each depth r (stmt t rest) width h more fits =
      let p = and_parts (stmt_formed fs number c.words t) (stmts_formed fs number c.words rest) h in
      let first = stmt_taken c depth r t in
      let others = stmts_taken c depth first.room rest in
      let grows = stmts_words c depth first.room rest in
      joined_so gs number width first.body others.body (stmt_taken_formed c fs gs number counts each depth r t width p.0
      more (omega (arith, grows, fits)))
      (stmts_taken_formed c fs gs number counts each depth first.room rest width p.1 more fits)

-- ---- functions

-- functions whose frames are within what each may have
pub record Roomy (frames : List ℕ) (fs : List PlainFunction) (number : ℕ) : Type 0 where
  pub within : (k : ℕ) → k < number → (slice_index_or fs k no_function).frame ≤ slice_index frames k
  pub small : (k : ℕ) → k < number → slice_index frames k ≤ 128

grown_formed : (before fs gs : List PlainFunction) (number most frame : ℕ) (f : PlainFunction) → SameCounts number fs gs
    → ((k : ℕ) → k < number → FunctionParts gs k (slice_index_or before k no_function)) → f.frame ≤ frame → frame ≤ 128
    → function_formed fs number f ≡ true
    → function_formed gs number (grown f (body_taken before most frame f)) ≡ true
grown_formed before fs gs number most frame f counts each within small formed =
    let p = parts_of_function fs number f formed in
    let k = function_kept before most frame f p.mask in
    let g = grown f (body_taken before most frame f) in
    let kept_frame = k.frame within in
    let words = k.words in
    let more = k.more in
    let mask = p.mask in
    let result = p.result in
    and_from (nat_le g.frame 128) _ (le-leb g.frame 128 (omega (arith, kept_frame, small)))
    (and_from (nat_le f.parameters 6) _ (le-leb f.parameters 6 p.parameters)
    (and_from (nat_le f.parameters f.mask) _ (le-leb f.parameters f.mask p.before_mask)
    (and_from (nat_lt f.mask (slots_of g)) _ (lt-ltb f.mask (slots_of g) (omega (arith, mask, words, more)))
    (and_from (nat_le f.parameters f.result) _ (le-leb f.parameters f.result p.before_result)
    (and_from (nat_lt f.result (slots_of g)) _ (lt-ltb f.result (slots_of g) (omega (arith, result, words, more)))
    (stmts_taken_formed (record { functions = before; words = slots_of f; frame = frame }) fs gs number counts each 0 _
    f.body (slots_of g) p.body
    (omega (arith, words, more)) (omega (arith, words))))))))

-- ---- what is well formed names no words but its own

names_reach : (o : ℕ) (e : PlainSp) → names_words o e ≡ true → expr_reach e ≤ o
names_reach o (constant n) h = omega arith
names_reach o (frame_word slot) h = let below = ltb-true slot o h in omega (arith, below)
names_reach o (cell_word cell) h = omega arith
names_reach o (array_word array index) h =
    names_reach o index (and_parts (array_formed array) (names_words o index) h).1
names_reach o (before_one op of) h = names_reach o of h
names_reach o (between_two op a b) h =
    let both = and_parts (names_words o a) (names_words o b) h in
    omega (arith, names_reach o a both.0, names_reach o b both.1)

formed_reach : (o : ℕ) (e : PlainSp) → expr_formed o e ≡ true → expr_reach e ≤ o
formed_reach o e h = names_reach o e (and_parts (names_words o e) (nat_le (need e) 12) h).0

formed_args : (o : ℕ) (args : List PlainSp) → args_formed o args ≡ true → args_reach args ≤ o
formed_args o [] h = omega arith
formed_args o (e ∷ args) h =
    let both = and_parts (expr_formed o e) (args_formed o args) h in
    let rest = formed_args o args both.1 in
    omega (arith, formed_reach o e both.0, rest)

formed_target : (o : ℕ) (target : PlainSpTarget) → target_formed o target ≡ true → target_reach target ≤ o
formed_target o (to_slot slot) h = let below = ltb-true slot o h in omega (arith, below)
formed_target o (to_cell cell) h = omega arith
formed_target o (to_array array index) h =
    formed_reach o index (and_parts (array_formed array) (expr_formed o index) h).1

formed_result : (o : ℕ) (result : Option ℕ) → result_formed o result ≡ true → result_reach result ≤ o
formed_result o None h = omega arith
formed_result o (Some slot) h = let below = ltb-true slot o h in omega (arith, below)

mutual
  formed_stmt : (fs : List PlainFunction) (number o : ℕ) (t : PlainStmt) → stmt_formed fs number o t ≡ true
      → (stmt_reach t ≤ o) × (stmt_calls t ≤ number)
  formed_stmt fs number o (masks slot e) h =
      let p = and_parts (nat_lt slot o) (expr_formed o e) h in
      let below = ltb-true slot o p.0 in
      (omega (arith, below, formed_reach o e p.1), omega arith)
  formed_stmt fs number o (writes mask target e) h =
      let p = and_parts (nat_lt mask o) (target_formed o target && expr_formed o e) h in
      let q = and_parts (target_formed o target) (expr_formed o e) p.1 in
      let below = ltb-true mask o p.0 in
      (omega (arith, below, formed_target o target q.0, formed_reach o e q.1), omega arith)
  formed_stmt fs number o (calls mask k args result) h =
      let p = and_parts (nat_lt mask o) _ h in
      let q = and_parts (callee_formed fs number k (length args)) (args_formed o args && result_formed o result) p.1 in
      let v = and_parts (args_formed o args) (result_formed o result) q.1 in
      let w = and_parts (nat_lt k number) _ q.0 in
      let below = ltb-true mask o p.0 in
      let earlier = ltb-true k number w.0 in
      (omega (arith, below, formed_args o args v.0, formed_result o result v.1), omega (arith, earlier))
  formed_stmt fs number o (transfers mask core source target count) h =
      let p = and_parts (nat_lt mask o) (send_formed o core source target count) h in
      let q = and_parts (nat_lt core 16) (expr_formed o source && (expr_formed o target && expr_formed o count)) p.1 in
      let v = and_parts (expr_formed o source) (expr_formed o target && expr_formed o count) q.1 in
      let w = and_parts (expr_formed o target) (expr_formed o count) v.1 in
      let below = ltb-true mask o p.0 in (
        omega (arith, below, formed_reach o source v.0, formed_reach o target w.0, formed_reach o count w.1),
        omega arith,
      )
  formed_stmt fs number o (overruns mask e) h =
      let p = and_parts (nat_lt mask o) (expr_formed o e) h in
      let below = ltb-true mask o p.0 in
      (omega (arith, below, formed_reach o e p.1), omega arith)
  formed_stmt fs number o (iterations count body) h =
      formed_stmts fs number o body (and_parts (nat_lt 0 count) (stmts_formed fs number o body) h).1

  formed_stmts : (fs : List PlainFunction) (number o : ℕ) (ts : PlainStmts) → stmts_formed fs number o ts ≡ true
      → (stmts_reach ts ≤ o) × (stmts_calls ts ≤ number)
  formed_stmts fs number o no_stmt h = (omega arith, omega arith)
  formed_stmts fs number o (stmt t rest) h =
      let p = and_parts (stmt_formed fs number o t) (stmts_formed fs number o rest) h in
      let a = formed_stmt fs number o t p.0 in
      let b = formed_stmts fs number o rest p.1 in
      let a0 = a.0 in
      let b0 = b.0 in
      let a1 = a.1 in
      let b1 = b.1 in
      (omega (arith, a0, b0), omega (arith, a1, b1))

formed_whole : (fs : List PlainFunction) (number : ℕ) (f : PlainFunction) → function_formed fs number f ≡ true
    → is_whole number f ≡ true
formed_whole fs number f h =
    let p = parts_of_function fs number f h in
    let named = formed_stmts fs number (slots_of f) f.body p.body in
    and_from (nat_lt f.result (slots_of f)) _ (lt-ltb f.result (slots_of f) p.result)
    (and_from (nat_le (stmts_reach f.body) (slots_of f)) _ (le-leb (stmts_reach f.body) (slots_of f) named.0)
    (and_from (nat_le (stmts_calls f.body) number) _ (le-leb (stmts_calls f.body) number named.1)
    (lt-ltb f.mask (slots_of f) p.mask)))

-- what is well formed takes in calls
pub taken_grown : (before fs : List PlainFunction) (number most frame : ℕ) (f : PlainFunction) → length before ≡ number
    → function_formed fs number f ≡ true
    → function_taken before most frame f ≡ grown f (body_taken before most frame f)
taken_grown before fs number most frame f size h =
    ap (λ b. if b then grown f (body_taken before most frame f) else f) (ap (λ n. is_whole n f) size
    ∙ formed_whole fs number f h)

-- a function keeps its parameters
same_parameters : (before : List PlainFunction) (most frame : ℕ) (f : PlainFunction)
    → (function_taken before most frame f).parameters ≡ f.parameters
same_parameters before most frame f = by (is_whole (length before) f)
  where
    by : (b : Bool) → (if b then grown f (body_taken before most frame f) else f).parameters ≡ f.parameters
    by true = refl
    by false = refl

pub taken_formed : (most frames : List ℕ) (fs : List PlainFunction) (all n : ℕ) → n ≤ all → Roomy frames fs n
    → functions_formed fs n ≡ true
    → functions_formed (first_taken most frames fs all) n ≡ true
taken_formed most frames fs all zero within roomy formed = refl
taken_formed most frames fs all (suc n) within roomy formed =
    let both = and_parts (functions_formed fs n) (function_formed fs n (slice_index_or fs n no_function)) formed in
    next (taken_formed most frames fs all n (omega (arith, within)) (record {
      within = λ k below. roomy.within k (omega (arith, below));
      small = λ k below. roomy.small k (omega (arith, below));
    }) both.0) both.1
  where
    gs : List PlainFunction
    gs = first_taken most frames fs all

    next : functions_formed gs n ≡ true → function_formed fs n (slice_index_or fs n no_function) ≡ true
        → (functions_formed gs n && function_formed gs n (slice_index_or gs n no_function)) ≡ true
    next earlier own =
        and_from (functions_formed gs n) _ earlier
        (ap (function_formed gs n) (first_at most frames fs all n (omega (arith, within)))
        ∙ ap (function_formed gs n) (taken_grown (first_taken most frames fs n) fs n (slice_index most n)
        (slice_index frames n) (slice_index_or fs n no_function)
        (first_length most frames fs n) own)
        ∙ grown_formed (first_taken most frames fs n) fs gs n (slice_index most n)
        (slice_index frames n) (slice_index_or fs n no_function)
        (record {
          same = λ k below. ap (λ f. f.parameters) (first_at most frames fs all k (omega (arith, below, within)))
              ∙ same_parameters (first_taken most frames fs k) (slice_index most k) (slice_index frames k)
              (slice_index_or fs k no_function);
        })
        (λ k below. subst (FunctionParts gs k)
        (sym (first_before most frames fs n all k below (omega (arith, below, within))))
        (parts_of_function gs k (slice_index_or gs k no_function) (earlier_one gs k n below earlier)))
        (roomy.within n (omega arith)) (roomy.small n (omega arith)) own)

-- ---- units

pub unit_formed : (most frames : List ℕ) (u : PlainUnit) → Roomy frames u.functions (length u.functions) → is_formed u
    ≡ true → is_formed (unit_taken most frames u) ≡ true
unit_formed most frames u roomy formed =
    let all = length u.functions in
    let gs = first_taken most frames u.functions all in
    let same = first_length most frames u.functions all in
    let a = and_parts (nat_le all 512) _ formed in
    let b = and_parts (functions_formed u.functions all) _ a.1 in
    let c = and_parts (entry_formed u) _ b.1 in
    let d = and_parts (data_formed u) (are_apart (uses_of u)) c.1 in
    let e = and_parts (nat_lt u.entry all) _ c.0 in
    let there = ltb-true u.entry all e.0 in
    and_from (nat_le (length gs) 512) _ (ap (λ n. nat_le n 512) same ∙ a.0)
    (and_from (functions_formed gs (length gs)) _
    (ap (functions_formed gs) same ∙ taken_formed most frames u.functions all all (omega arith) roomy b.0)
    (and_from (entry_formed (unit_taken most frames u)) _
    (and_from (nat_lt u.entry (length gs)) _ (ap (λ n. nat_lt u.entry n) same ∙ e.0)
    (ap (λ (f : PlainFunction). f.parameters == 0) (first_at most frames u.functions all u.entry there)
    ∙ ap (λ n. n == 0) (same_parameters (first_taken most frames u.functions u.entry) (slice_index most u.entry)
    (slice_index frames u.entry)
    (slice_index_or u.functions u.entry no_function)) ∙ e.1))
    (and_from (data_formed u) _ d.0 (still_apart most frames u d.1))))

pub still_formed : (most frames : List ℕ) (u : PlainUnit) → is_formed u ≡ true
    → ((k : ℕ) → k < length u.functions → (slice_index_or u.functions k no_function).frame ≤ slice_index frames k)
    → ((k : ℕ) → k < length u.functions → slice_index frames k ≤ 128) → is_formed (unit_taken most frames u) ≡ true
still_formed most frames u formed within small =
    unit_formed most frames u (record { within = within; small = small }) formed

-- ---- words of code, and of frames

record Limited (most frames : List ℕ) (u : PlainUnit) (k : ℕ) : Type 0 where
  costs : cost (slice_index_or u.functions k no_function) ≤ slice_index most k
      → cost (slice_index_or (unit_taken most frames u).functions k no_function) ≤ slice_index most k
  width : (slice_index_or u.functions k no_function).frame ≤ slice_index frames k
      → (slice_index_or (unit_taken most frames u).functions k no_function).frame ≤ slice_index frames k

limited : (most frames : List ℕ) (u : PlainUnit) (k : ℕ) → is_formed u ≡ true → k < length u.functions
    → Limited most frames u k
limited most frames u k formed below =
    let fs = u.functions in
    let all = length fs in
    let before = first_taken most frames fs k in
    let f = slice_index_or fs k no_function in
    let each = (and_parts (functions_formed fs all) _ (and_parts (nat_le all 512) _ formed).1).0 in
    let own = earlier_one fs k all below each in
    let kept = function_kept before (slice_index most k) (slice_index frames k) f (parts_of_function fs k f own).mask in
    let is = first_at most frames fs all k below
    ∙ taken_grown before fs k (slice_index most k) (slice_index frames k) f (first_length most frames fs k) own in
    record {
      costs = λ light. (let small = kept.cost light in let same = ap cost is in omega (arith, small, same));
      width = λ within. (let small = kept.frame within in let same = ap (λ (g : PlainFunction). g.frame) is in
          omega (arith, small, same));
    }

pub cost_kept : (most frames : List ℕ) (u : PlainUnit) (k : ℕ) → is_formed u ≡ true → k < length u.functions
    → cost (slice_index_or u.functions k no_function) ≤ slice_index most k
    → cost (slice_index_or (unit_taken most frames u).functions k no_function) ≤ slice_index most k
cost_kept most frames u k formed below = (limited most frames u k formed below).costs

pub frame_kept : (most frames : List ℕ) (u : PlainUnit) (k : ℕ) → is_formed u ≡ true → k < length u.functions
    → (slice_index_or u.functions k no_function).frame ≤ slice_index frames k
    → (slice_index_or (unit_taken most frames u).functions k no_function).frame ≤ slice_index frames k
frame_kept most frames u k formed below = (limited most frames u k formed below).width

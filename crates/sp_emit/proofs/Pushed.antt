-- Parts that are pushed after others.
use Rattle.std.proofs.Common.{◌≡◌, ℕ, ◌-◌, Option, None, Some, List, [], ◌∷◌, ◌++◌, ap, sym, ◌∙◌}
use Rattle.patmos_instr.specs.Bundles.{PlainBundle}
use Rattle.sp_shape.proofs.Joins.{shown, joined-nothing, joined-assoc}
use Rattle.sp_shape.specs.Parts.{PlainParts, no_part, part, straight, repeats, one, joined}
use Rattle.sp_shape.specs.Shown.{plain_part, parts_of}
use Rattle.sp_shape.specs.declared.parts.Part.{Part, Straight}
use Rattle.sp_emit.specs.Division.{highest_bit, digits, around}
use Rattle.sp_emit.specs.Flags.{begun_body}
use Rattle.sp_emit.specs.Functions.{function_begin, function_end, leaving, body_code, function_code, frame_words}
use Rattle.sp_emit.specs.Expressions.{expr_code}
use Rattle.sp_emit.specs.Statements.{target_write, guarded_code, straight_op, write_by, write_code, mask_handed, way_to, after_call, call_code, iterations_begin, iterations_tail, stmt_code, stmts_code}
use Rattle.sp_tree.specs.Shown.{plain_function}
use Rattle.sp_tree.specs.Plain.{PlainSp}
use Rattle.sp_tree.specs.Statements.{PlainSpTarget, PlainStmts, iterations}
use Rattle.patmos_instr.specs.declared.instructions.Op.{Op}
use Rattle.sp_emit.specs.declared.registers.TheConstants.{FIRST}
use Rattle.sp_tree.specs.declared.statements.SpFunction.{SpFunction}
use Rattle.sp_emit.specs.declared.stands.Homes.{Homes}

pub straight_push : (xs : List Part) (bundles : List PlainBundle) → parts_of (xs ++ Straight bundles ∷ [])
    ≡ joined (parts_of xs) (one (straight bundles))
unfolding plain_part
straight_push xs bundles = shown xs (Straight bundles ∷ [])

pub part_push : (xs : List Part) (p : Part) → parts_of (xs ++ p ∷ []) ≡ joined (parts_of xs) (one (plain_part p))
part_push xs p = shown xs (p ∷ [])

pub two_pushed : (old first second a b : PlainParts) → first ≡ joined old a → second ≡ joined first b → second
    ≡ joined old (joined a b)
two_pushed old first second a b one two = two ∙ ap (λ p. joined p b) one ∙ joined-assoc old a b

pub three_pushed : (old first second third a b c : PlainParts) → first ≡ joined old a → second ≡ joined first b → third
    ≡ joined second c → third ≡ joined old (joined a (joined b c))
three_pushed old first second third a b c one two three =
    three ∙ ap (λ p. joined p c) (two_pushed old first second a b one two) ∙ joined-assoc old (joined a b) c
    ∙ ap (joined old) (joined-assoc a b c)

pub around_pushed : (old first second third : PlainParts) (before behind : List PlainBundle) → first
    ≡ joined old (one (straight (before ++ highest_bit ∷ []))) → second ≡ joined first (one digits)
    → third ≡ joined second (one (straight behind)) → third ≡ joined old (around before behind)
around_pushed old first second third before behind one two three =
    three_pushed old first second third (part (straight (before ++ highest_bit ∷ [])) no_part) (part digits no_part)
    (part (straight behind) no_part) one two three

pub function_pushed : (homes : Homes) (f : SpFunction) (xs : List Part) (ts : PlainStmts)
    (first second third fourth : PlainParts) → xs ≡ [] → ts ≡ begun_body homes.flags (plain_function f)
    → first ≡ joined (parts_of xs) (one (straight (function_begin homes (plain_function f)))) → second
    ≡ joined first (stmts_code homes (frame_words homes.first (plain_function f)) (f.frame - 3) ts)
    → third ≡ joined second (one (straight (function_end homes.first (plain_function f)))) → fourth
    ≡ joined third (one leaving) → fourth ≡ function_code homes (plain_function f)
function_pushed homes f xs ts first second third fourth none is a b c d =
    let begin = one (straight (function_begin homes (plain_function f))) in
    let body = body_code homes (plain_function f) in
    let end = one (straight (function_end homes.first (plain_function f))) in
    let b' : second ≡ joined first body = b
    ∙ ap (λ s. joined first (stmts_code homes (frame_words homes.first (plain_function f)) (f.frame - 3) s)) is in
    let a' : first ≡ begin = a ∙ ap (λ l. joined (parts_of l) begin) none in
    d ∙ ap (λ x. joined x (one leaving)) (c ∙ ap (λ x. joined x end) (b' ∙ ap (λ x. joined x body) a'))
    ∙ joined-assoc (joined begin body) end (one leaving)
    ∙ joined-assoc begin body (joined end (one leaving))

pub nothing_pushed : (old : PlainParts) → old ≡ joined old no_part
nothing_pushed old = sym (joined-nothing old)

-- ---- what is set under a mask

pub guarded_pushed : (homes : Homes) (mask : ℕ) (target : PlainSpTarget) (e : PlainSp) (op : Op) (old new : PlainParts)
    → Some op ≡ straight_op homes target e → new ≡ joined old (guarded_code homes mask e op) → new
    ≡ joined old (write_code homes mask target e)
guarded_pushed homes mask target e op old new is pushed =
    pushed ∙ ap (λ o. joined old (write_by homes mask target e o)) is

pub stored_pushed : (homes : Homes) (mask : ℕ) (target : PlainSpTarget) (e : PlainSp) (old first new : PlainParts)
    → None ≡ straight_op homes target e → first ≡ joined old (expr_code homes e FIRST) → new
    ≡ joined first (target_write homes mask target) → new ≡ joined old (write_code homes mask target e)
stored_pushed homes mask target e old first new is a b = two_pushed old first new (expr_code homes e FIRST)
    (target_write homes mask target) a b ∙ ap (λ o. joined old (write_by homes mask target e o)) is

-- ---- sends

pub send_pushed : (old first second a b c d : PlainParts) → first ≡ joined old (joined a (joined b c)) → second
    ≡ joined first d → second ≡ joined old (joined a (joined b (joined c d)))
send_pushed old first second a b c d one two =
    two_pushed old first second (joined a (joined b c)) d one two ∙ ap (joined old) (joined-assoc a (joined b c) d
    ∙ ap (joined a) (joined-assoc b c d))

-- ---- calls and iterations

pub call_pushed : (homes : Homes) (old first second third : PlainParts) (frame mask k : ℕ) (slot : Option ℕ) → first
    ≡ joined old (one (straight (mask_handed homes mask)))
    → second ≡ joined first (one (way_to k)) → third ≡ joined second (one (straight (after_call homes frame mask slot)))
    → third ≡ joined old (call_code homes frame mask k slot)
call_pushed homes old first second third frame mask k slot a b c =
    three_pushed old first second third (one (straight (mask_handed homes mask))) (one (way_to k))
    (one (straight (after_call homes frame mask slot))) a b c

pub iterations_pushed : (homes : Homes) (old first second iteration : PlainParts) (frame counter count : ℕ)
    (body : PlainStmts) → first ≡ joined old (one (straight (iterations_begin homes.first counter count)))
    → iteration ≡ stmts_code homes frame (counter - 1) body → second
    ≡ joined first (one (repeats count iteration (iterations_tail homes.first counter))) → second
    ≡ joined old (stmt_code homes frame counter (iterations count body))
iterations_pushed homes old first second iteration frame counter count body a is b =
    two_pushed old first second (one (straight (iterations_begin homes.first counter count)))
    (one (repeats count (stmts_code homes frame (counter - 1) body) (iterations_tail homes.first counter))) a
    (b ∙ ap (λ t. joined first (one (repeats count t (iterations_tail homes.first counter)))) is)

pub straight_as : (old new : PlainParts) (xs ys : List PlainBundle) → new ≡ joined old (one (straight xs))
    → xs ≡ ys → new
    ≡ joined old (one (straight ys))
straight_as old new xs ys is same = is ∙ ap (λ l. joined old (one (straight l))) same

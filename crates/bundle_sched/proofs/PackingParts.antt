-- One more part is packed, after straight code that is held.
use Rattle.std.proofs.Common.{◌≡◌, Bool, true, ℕ, ◌+◌, ◌<◌, ◌≤◌, List, [], ◌∷◌, ◌++◌, length, drop, get_or, refl, sym, ap, ◌∙◌, arith}
use Rattle.std.specs.Prelude.{◌&&◌}
use Rattle.std.proofs.lemmas.Bool.{and_from}
use Rattle.std.proofs.lemmas.List.{drop_all}
use Rattle.tc_word.proofs.Items.{drop_item}
use Rattle.patmos_instr.specs.Bundles.{PlainBundle}
use Rattle.sp_shape.proofs.Joins.{shown, joined-assoc, joined-nothing}
use Rattle.sp_shape.proofs.Plain.{straight_said, repeat_said, call_said, leave_said}
use Rattle.sp_shape.specs.Parts.{PlainPart, straight, repeats, calls_to, leaves, PlainParts, no_part, part, one, joined}
use Rattle.sp_shape.specs.Shown.{plain_part, parts_of}
use Rattle.sp_shape.specs.declared.parts.Part.{Part, Straight, CallTo, Leave}
use Rattle.sp_shape.specs.declared.parts.Part.TheViews.{Repeat}
use Rattle.bundle_sched.specs.Legal.{has_legal_flow, part_legal, parts_legal}
use Rattle.bundle_sched.specs.Packing.{packed, kept, way, from_branch, iteration_packed, straights, left_over, parts_merged, function_merged}

-- ---- a part goes out

pushed : (out next : List Part) (p : Part) (said : PlainPart) (rest : PlainParts) → next ≡ out ++ p ∷ [] → plain_part p
    ≡ said → joined (parts_of next) rest ≡ joined (parts_of out) (part said rest)
pushed out next p said rest is same =
    ap (λ xs. joined (parts_of xs) rest) is ∙ ap (λ xs. joined xs rest) (shown out (p ∷ []))
    ∙ joined-assoc (parts_of out) (one (plain_part p)) rest
    ∙ ap (λ x. joined (parts_of out) (part x rest)) same

pub straight_pushed : (out next : List Part) (bs : List PlainBundle) (rest : PlainParts) → 0 < length bs → next ≡ out
    ++ Straight bs ∷ [] → joined (parts_of next) rest ≡ joined (parts_of out) (straights bs rest)
straight_pushed out next [] rest some is = absurd (omega (arith, some))
straight_pushed out next (b ∷ bs) rest some is =
    pushed out next (Straight (b ∷ bs)) (straight (b ∷ bs)) rest is (straight_said (Straight (b ∷ bs)) (b ∷ bs) refl)

pub none_pushed : (bs : List PlainBundle) (rest : PlainParts) → length bs ≡ 0 → rest ≡ straights bs rest
none_pushed [] rest none = refl
none_pushed (b ∷ bs) rest none = absurd (omega (arith, none))

-- ---- a part comes in: straight code is held, and goes out before any other part

pub straight_held : (p : Part) (bs held next : List PlainBundle) (out : List Part) (rest : PlainParts) → p ≡ Straight bs
    → next ≡ held ++ bs
    → joined (parts_of out) (parts_merged next rest) ≡ joined (parts_of out) (parts_merged held
    (part (plain_part p) rest))
straight_held p bs held next out rest is added =
    ap (λ h. joined (parts_of out) (parts_merged h rest)) added
    ∙ ap (λ x. joined (parts_of out) (parts_merged held (part x rest))) (sym (straight_said p bs is))

-- from what goes out before the part
module _ (p : Part) (held before next : List PlainBundle) (out mid all : List Part) (rest : PlainParts)
    (none : next ≡ [])
    (went : (more : PlainParts) → joined (parts_of mid) more ≡ joined (parts_of out) (straights before more)) where
  went_out : (q : Part) (said : PlainPart) → plain_part q ≡ said → all ≡ mid ++ q ∷ []
      → joined (parts_of all) (parts_merged next rest)
      ≡ joined (parts_of out) (straights before (part said (parts_merged [] rest)))
  went_out q said same added =
      ap (λ h. joined (parts_of all) (parts_merged h rest)) none
      ∙ pushed mid all q said (parts_merged [] rest) added same ∙ went (part said (parts_merged [] rest))

pub repeat_packed : (p : Part) (count : ℕ) (body done : List Part) (tail slots held next : List PlainBundle)
    (out mid all : List Part) (rest : PlainParts) → p ≡ Repeat count body tail → next ≡ []
    → ((more : PlainParts) → joined (parts_of mid) more ≡ joined (parts_of out) (straights (packed held) more))
    → parts_of done ≡ parts_merged [] (parts_of body) → slots ≡ iteration_packed (left_over [] (parts_of body)) tail
    → all ≡ mid ++ Repeat count done slots ∷ [] → joined (parts_of all) (parts_merged next rest)
    ≡ joined (parts_of out) (parts_merged held (part (plain_part p) rest))
repeat_packed p count body done tail slots held next out mid all rest is none went same kept added =
    went_out p held (packed held) next out mid all rest none went (Repeat count done slots)
    (repeats count (parts_merged [] (parts_of body)) (iteration_packed (left_over [] (parts_of body)) tail))
    (repeat_said (Repeat count done slots) count done slots refl ∙ (λ k. repeats count (same k) (kept k))) added
    ∙ ap (λ x. joined (parts_of out) (parts_merged held (part x rest))) (sym (repeat_said p count body tail is))

pub call_packed : (p : Part) (k : ℕ) (tail slots held next : List PlainBundle) (out mid all : List Part)
    (rest : PlainParts)
    → p ≡ CallTo k tail → next ≡ []
    → ((more : PlainParts) → joined (parts_of mid) more ≡ joined (parts_of out) (straights (kept (packed held) tail)
    more)) → slots ≡ way (packed held) tail
    → all ≡ mid ++ CallTo k slots ∷ [] → joined (parts_of all) (parts_merged next rest)
    ≡ joined (parts_of out) (parts_merged held (part (plain_part p) rest))
call_packed p k tail slots held next out mid all rest is none went filled added =
    went_out p held (kept (packed held) tail) next out mid all rest none went (CallTo k slots)
    (calls_to k (way (packed held) tail))
    (call_said (CallTo k slots) k slots refl ∙ ap (calls_to k) filled) added
    ∙ ap (λ x. joined (parts_of out) (parts_merged held (part x rest))) (sym (call_said p k tail is))

pub leave_packed : (p : Part) (tail slots held next : List PlainBundle) (out mid all : List Part) (rest : PlainParts)
    → p
    ≡ Leave tail → next ≡ []
    → ((more : PlainParts) → joined (parts_of mid) more ≡ joined (parts_of out) (straights (kept (packed held) tail)
    more)) → slots ≡ way (packed held) tail
    → all ≡ mid ++ Leave slots ∷ [] → joined (parts_of all) (parts_merged next rest)
    ≡ joined (parts_of out) (parts_merged held (part (plain_part p) rest))
leave_packed p tail slots held next out mid all rest is none went filled added =
    went_out p held (kept (packed held) tail) next out mid all rest none went (Leave slots)
    (leaves (way (packed held) tail))
    (leave_said (Leave slots) slots refl ∙ ap leaves filled) added
    ∙ ap (λ x. joined (parts_of out) (parts_merged held (part x rest))) (sym (leave_said p tail is))

-- ---- what is left over

pub straight_left : (p : Part) (bs held next : List PlainBundle) (rest : PlainParts) → p ≡ Straight bs
    → next ≡ held ++ bs
    → left_over next rest ≡ left_over held (part (plain_part p) rest)
straight_left p bs held next rest is added =
    ap (λ h. left_over h rest) added ∙ ap (λ x. left_over held (part x rest)) (sym (straight_said p bs is))

pub repeat_left : (p : Part) (count : ℕ) (body : List Part) (tail held next : List PlainBundle) (rest : PlainParts) → p
    ≡ Repeat count body tail → next ≡ [] → left_over next rest ≡ left_over held (part (plain_part p) rest)
repeat_left p count body tail held next rest is none =
    ap (λ h. left_over h rest) none ∙ ap (λ x. left_over held (part x rest)) (sym (repeat_said p count body tail is))

pub call_left : (p : Part) (k : ℕ) (tail held next : List PlainBundle) (rest : PlainParts) → p
    ≡ CallTo k tail → next ≡ []
    → left_over next rest ≡ left_over held (part (plain_part p) rest)
call_left p k tail held next rest is none =
    ap (λ h. left_over h rest) none ∙ ap (λ x. left_over held (part x rest)) (sym (call_said p k tail is))

pub leave_left : (p : Part) (tail held next : List PlainBundle) (rest : PlainParts) → p ≡ Leave tail → next ≡ []
    → left_over next rest ≡ left_over held (part (plain_part p) rest)
leave_left p tail held next rest is none =
    ap (λ h. left_over h rest) none ∙ ap (λ x. left_over held (part x rest)) (sym (leave_said p tail is))

-- ---- what stands beside a flow

pub straight_legal : (p : Part) (bs : List PlainBundle) → p ≡ Straight bs → part_legal (plain_part p) ≡ true
straight_legal p bs is = ap part_legal (straight_said p bs is)

pub repeat_legal : (p : Part) (count : ℕ) (body : List Part) (tail : List PlainBundle) → p ≡ Repeat count body tail
    → parts_legal (parts_of body) ≡ true → has_legal_flow (from_branch tail) ≡ true
    → part_legal (plain_part p) ≡ true
repeat_legal p count body tail is inside own =
    ap part_legal (repeat_said p count body tail is) ∙ and_from (parts_legal (parts_of body)) (has_legal_flow
    (from_branch tail)) inside own

pub call_legal : (p : Part) (k : ℕ) (tail : List PlainBundle) → p ≡ CallTo k tail → has_legal_flow tail ≡ true
    → part_legal (plain_part p) ≡ true
call_legal p k tail is own = ap part_legal (call_said p k tail is) ∙ own

pub leave_legal : (p : Part) (tail : List PlainBundle) → p ≡ Leave tail → has_legal_flow tail ≡ true
    → part_legal (plain_part p) ≡ true
leave_legal p tail is own = ap part_legal (leave_said p tail is) ∙ own

pub legal_next : (ps : List Part) (i : ℕ) (p : Part) (whole : Bool) → i < length ps → p ≡ get_or ps i p
    → part_legal (plain_part p) ≡ true
    → parts_legal (parts_of (drop i ps)) ≡ whole → parts_legal (parts_of (drop (i + 1) ps)) ≡ whole
legal_next ps i p whole within is own before =
    ap (λ l. l && parts_legal (parts_of (drop (i + 1) ps))) (sym own) ∙ ap (λ xs. parts_legal (parts_of xs)) (sym
    (drop_item ps i p within is)) ∙ before

pub legal_done : (ps : List Part) (i : ℕ) (whole : Bool) → length ps ≤ i → parts_legal (parts_of (drop i ps))
    ≡ whole → whole ≡ true
legal_done ps i whole past before = sym before ∙ ap (λ xs. parts_legal (parts_of xs)) (drop_all i ps past)

-- ---- all parts

pub part_packed : (ps : List Part) (i : ℕ) (p : Part) (done next : List Part) (held later : List PlainBundle)
    (whole : PlainParts) → i < length ps → p ≡ get_or ps i p
    → ((rest : PlainParts) → joined (parts_of next) (parts_merged later rest)
    ≡ joined (parts_of done) (parts_merged held (part (plain_part p) rest)))
    → joined (parts_of done) (parts_merged held (parts_of (drop i ps))) ≡ whole
    → joined (parts_of next) (parts_merged later (parts_of (drop (i + 1) ps))) ≡ whole
part_packed ps i p done next held later whole within is added before =
    added (parts_of (drop (i + 1) ps)) ∙ ap (λ xs. joined (parts_of done) (parts_merged held (parts_of xs))) (sym
    (drop_item ps i p within is)) ∙ before

pub part_left : (ps : List Part) (i : ℕ) (p : Part) (held later whole : List PlainBundle) → i < length ps → p
    ≡ get_or ps i p
    → ((rest : PlainParts) → left_over later rest ≡ left_over held (part (plain_part p) rest))
    → left_over held (parts_of (drop i ps)) ≡ whole → left_over later (parts_of (drop (i + 1) ps)) ≡ whole
part_left ps i p held later whole within is added before = added (parts_of (drop (i + 1) ps))
    ∙ ap (λ xs. left_over held (parts_of xs)) (sym (drop_item ps i p within is)) ∙ before

pub parts_done : (ps : List Part) (i : ℕ) (done : List Part) (held : List PlainBundle) (whole : PlainParts)
    → length ps ≤ i
    → joined (parts_of done) (parts_merged held (parts_of (drop i ps))) ≡ whole → parts_of done ≡ whole
parts_done ps i done held whole past before = sym (joined-nothing (parts_of done))
    ∙ ap (λ xs. joined (parts_of done) (parts_merged held (parts_of xs))) (sym (drop_all i ps past)) ∙ before

-- ---- a function

pub function_done : (done all : List Part) (held : List PlainBundle) (ps : PlainParts) → parts_of done
    ≡ parts_merged [] ps
    → held ≡ left_over [] ps
    → ((more : PlainParts) → joined (parts_of all) more ≡ joined (parts_of done) (straights (packed held) more))
    → parts_of all ≡ function_merged ps
function_done done all held ps same left went =
    sym (joined-nothing (parts_of all)) ∙ went no_part ∙ (λ k. joined (same k) (straights (packed (left k)) no_part))

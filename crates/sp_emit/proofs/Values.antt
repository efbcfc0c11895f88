-- The code of an expression keeps the registers below its own, the stack and all memories, and leaves its value.
use Rattle.std.proofs.Common.{◌≡◌, ℕ, ◌+◌, ◌<◌, ◌≤◌, ◌^◌, Bool, true, false, if◌then◌else◌, List, refl, sym, ap, ◌∙◌, subst, arith, nat_lt, append-nil, true≢false, Option, None, Some}
use Rattle.std.specs.Prelude.{is_none}
use Rattle.std.proofs.lemmas.Bool.{and_parts, ltb-true, eqb-true}
use Rattle.patmos_instr.specs.Bundles.{PlainBundle}
use Rattle.sp_tree.specs.Formed.{names_words, array_formed}
use Rattle.sp_tree.specs.Need.{need}
use Rattle.sp_tree.specs.Operators.{unary_value, binary_value}
use Rattle.sp_tree.specs.Plain.{PlainSp, constant, frame_word, cell_word, array_word, before_one, between_two}
use Rattle.sp_tree.specs.Straight.{State}
use Rattle.sp_tree.specs.Values.{sp_value, array_value}
use Rattle.sp_tree.specs.declared.expressions.SpArray.{SpArray}
use Rattle.sp_tree.specs.declared.operators.SpBinary.{SpBinary}
use Rattle.sp_tree.specs.declared.operators.SpUnary.{SpUnary}
use Rattle.sp_shape.proofs.Whole.{run_append}
use Rattle.sp_shape.specs.Parts.{straight, PlainParts, no_part, one, joined}
use Rattle.sp_shape.specs.Run.{Run, Sources, by_words, run, IsWhole}
use Rattle.sp_shape.specs.Trail.{Step, all_done, parts_trail}
use Rattle.sp_shape.proofs.Joins.{trail_joined}
use Rattle.sp_emit.specs.Expressions.{unary_code, binary_code, held_code, element_code, number_of, value_code, operands_code, expr_code, operand_code, value_at, is_home, is_immediate, word_code, home_of}
use Rattle.sp_emit.specs.Fits.{ExprFits}
use Rattle.sp_emit.specs.Holding.{held, so, Keeps}
use Rattle.sp_emit.specs.Means.{HasWords, Shows, IsReady}
use Rattle.sp_shape.proofs.Along.{have_joined}
use Rattle.sp_emit.proofs.Effects.{is_in, none}
use Rattle.sp_emit.proofs.Calm.{calm, calm_parts, IsCalm, keeps_all, own_free}
use Rattle.sp_emit.proofs.Walks.{Room, value_is, operands_is, in_walk}
use Rattle.sp_emit.proofs.Elements.{element_leaves}
use Rattle.sp_emit.proofs.Leaving.{number_leaves, truth_leaves, cell_leaves, unary_leaves}
use Rattle.sp_emit.proofs.Held.{held_leaves}
use Rattle.sp_emit.proofs.Binary.{binary_leaves}
use Rattle.sp_emit.proofs.Needs.{covers, lesser, greater, some_need, word_named, array_named, first_fits, second_fits, first_fits_after, second_fits_after}
use Rattle.sp_emit.specs.Places.{flag_of, in_register, held_in, shown_word}
use Rattle.sp_emit.proofs.FlagWords.{flag_range, shown_plain, shown_still, is_none_of}
use Rattle.sp_emit.specs.declared.registers.TheConstants.{SPARE, OVERRUN}
use Rattle.sp_emit.proofs.Operands.{word_below, home_below, operand_is, Handed, needs_handed, fits_handed, both_handed}
use Rattle.sp_emit.proofs.WordPlaces.{in_place, read_leaves}
use Rattle.sp_emit.proofs.Words.{value_word}
use Rattle.sp_emit.specs.declared.stands.Homes.{Homes}

-- ---- what is kept

-- the code of two parts one after another
pub run_joined : (from : Sources) (f : ℕ → List Step) (xs ys : PlainParts) (m : Run)
    → run from (parts_trail f (joined xs ys)) m ≡ run from (parts_trail f ys) (run from (parts_trail f xs) m)
run_joined from f xs ys m =
    ap (λ steps. run from steps m) (trail_joined f xs ys) ∙ run_append from (parts_trail f xs) (parts_trail f ys) m

left : {rd : ℕ} (e : PlainSp) → ExprFits e rd → rd ≤ 20
left e fits = omega (arith, fits.registers, some_need e)

-- the registers before the window suffice
pub before : {rd : ℕ} (homes : Homes) (e : PlainSp) → rd + need e ≤ homes.first → rd < homes.first
before homes e free = omega (arith, free, some_need e)

-- what gives the value is calm from the register on to which that goes
pub value_calm : (homes : Homes) (low top : ℕ) (e : PlainSp) (rd to : ℕ) → low ≤ to → to < OVERRUN → to < top
    → IsCalm low top (value_code homes e rd to)
value_calm homes low top e rd to le few within =
    value_is (in_walk (calm low top) refl none) refl homes (λ e rd. Unit {0}) (λ slot rd h out. refl) e rd to
    tt (own_free low top to le few within)

above_handed : (low : ℕ) → Handed (λ e rd. low ≤ rd)
above_handed low = record {
  index = λ array index rd h. h;
  operand = λ op of rd h. h;
  first = λ op a b rd h. h;
  second = λ op a b rd h. h;
  first_behind = λ op a b rd less h. omega (arith, h);
  second_behind = λ op a b rd more h. omega (arith, h);
}

-- the operands are calm from the first register on
pub operands_calm : (homes : Homes) (low : ℕ) (e : PlainSp) (rd : ℕ) → low ≤ rd → ExprFits e rd
    → rd + need e ≤ homes.first → IsCalm low homes.first (operands_code homes e rd)
operands_calm homes low e rd le fits free =
    let room : Room (calm low homes.first) homes (λ e rd. (low ≤ rd)
    × (ExprFits e rd × (rd + need e ≤ homes.first))) = record {
      handed = both_handed (above_handed low) (both_handed fits_handed (needs_handed homes.first));
      sets = λ e rd h.
          own_free low homes.first rd h.0 (omega (arith, left e h.1.0)) (before homes e h.1.1);
      reads = λ slot rd h out. refl;
    } in
    operands_is (in_walk (calm low homes.first) refl none) refl room e rd (le, (fits, free))

operands_keep : (homes : Homes) (from : Sources) (f : ℕ → List Step) (e : PlainSp) (rd : ℕ) (m : Run) → ExprFits e rd
    → rd + need e ≤ homes.first → IsWhole m
    → Keeps rd homes.first m (run from (parts_trail f (operands_code homes e rd)) m)
operands_keep homes from f e rd m fits free whole =
    calm_parts from rd homes.first f (operands_code homes e rd) m (omega (arith, left e fits)) whole (operands_calm homes rd e rd
    (omega arith) fits free)

-- what gives the value keeps all but its register and spare ones
pub value_keeps : (homes : Homes) (from : Sources) (f : ℕ → List Step) (e : PlainSp) (rd to : ℕ) (m : Run)
    → to < OVERRUN → IsWhole m → Keeps to (to + 1) m (run from (parts_trail f (value_code homes e rd to)) m)
value_keeps homes from f e rd to m few whole =
    calm_parts from to (to + 1) f (value_code homes e rd to) m (omega (arith, few)) whole (value_calm homes to (to + 1) e rd to
    (omega arith) few (omega arith))

pub expr_keeps : (homes : Homes) (from : Sources) (f : ℕ → List Step) (e : PlainSp) (rd : ℕ) (m : Run) → ExprFits e rd
    → rd + need e ≤ homes.first → IsWhole m → Keeps rd homes.first m (run from (parts_trail f (expr_code homes e rd)) m)
expr_keeps homes from f e rd m fits free whole =
    let code = value_calm homes rd homes.first e rd rd (omega arith) (omega (arith, left e fits))
    (before homes e free) in
    calm_parts from rd homes.first f (expr_code homes e rd) m (omega (arith, left e fits)) whole (have_joined (is_in (calm rd homes.first)) none (operands_code homes e rd)
    (value_code homes e rd rd) (operands_calm homes rd e rd (omega arith) fits free) code)

-- what a run shows it still shows
pub shows_still : {homes : Homes} {slots rd : ℕ} {s : State} {m t : Run} → Keeps rd homes.first m t
    → Shows homes slots s m → Shows homes slots s t
shows_still {homes} {slots} {rd} {s} {m} {t} keeps shows = record {
  frame = λ slot lt. shown_still homes slot m t keeps.high keeps.flags keeps.stack keeps.st ∙ shows.frame slot lt;
  world = subst (HasWords s.world) (sym keeps.memory) shows.world;
}

-- ---- what is left

-- the code of straight bundles alone
pub run_lone : (from : Sources) (f : ℕ → List Step) (bs : List PlainBundle) (m : Run)
    → run from (parts_trail f (one (straight bs))) m ≡ run from (all_done bs) m
run_lone from f bs m = ap (λ steps. run from steps m) (append-nil (all_done bs))

pub fits_of : {homes : Homes} {slots rd : ℕ} {e : PlainSp} {s : State} {m : Run} → IsReady homes slots e rd s m
    → ExprFits e rd
fits_of {homes} {slots} r = record { slots = slots; most = r.most; names = r.names; registers = r.registers }

few_of : {homes : Homes} {slots rd : ℕ} {s : State} {m : Run} (e : PlainSp) → IsReady homes slots e rd s m → rd ≤ 20
few_of e r = omega (arith, r.registers, some_need e)

pub value_small : {homes : Homes} {slots rd : ℕ} {s : State} {m : Run} (e : PlainSp) → IsReady homes slots e rd s m
    → sp_value s.frame s.world e < 2 ^ 32
value_small {homes} {slots} {rd} {s} e r = value_word slots s e r.names r.constants r.words

-- the run after the code of an expression, and what it leaves
abbrev pub behind : Homes → (ℕ → List Step) → PlainSp → ℕ → Run → Run
behind homes f e rd m = run by_words (parts_trail f (expr_code homes e rd)) m

-- and after that of its operands
abbrev pub worked : Homes → (ℕ → List Step) → PlainSp → ℕ → Run → Run
worked homes f e rd m = run by_words (parts_trail f (operands_code homes e rd)) m

abbrev pub Leaves : Homes → (ℕ → List Step) → PlainSp → ℕ → State → Run → Type 0
Leaves homes f e rd s m = held rd (behind homes f e rd m) ≡ sp_value s.frame s.world e

after_keeps : {homes : Homes} {slots rd : ℕ} {s : State} {m : Run} (f : ℕ → List Step) (e : PlainSp)
    → IsReady homes slots e rd s m → Keeps rd homes.first m (behind homes f e rd m)
after_keeps {homes} {slots} {rd} {s} {m} f e r = expr_keeps homes by_words f e rd m (fits_of r) r.free r.whole

pub worked_keeps : {homes : Homes} {slots rd : ℕ} {s : State} {m : Run} (f : ℕ → List Step) (e : PlainSp)
    → IsReady homes slots e rd s m → Keeps rd homes.first m (worked homes f e rd m)
worked_keeps {homes} {slots} {rd} {s} {m} f e r = operands_keep homes by_words f e rd m (fits_of r) r.free r.whole

-- ---- the parts of an expression are ready where it is

index_ready : {homes : Homes} {slots rd : ℕ} {s : State} {m : Run} (array : SpArray) (index : PlainSp)
    → IsReady homes slots (array_word array index) rd s m → IsReady homes slots index rd s m
index_ready {homes} {slots} array index r = record {
  some = r.some;
  most = r.most;
  names = (and_parts (array_formed array) (names_words slots index) r.names).1;
  registers = r.registers;
  free = r.free;
  constants = r.constants;
  words = r.words;
  whole = r.whole;
  shows = r.shows;
}

pub operand_ready : {homes : Homes} {slots rd : ℕ} {s : State} {m : Run} (op : SpUnary) (of : PlainSp)
    → IsReady homes slots (before_one op of) rd s m → IsReady homes slots of rd s m
operand_ready op of r = record {
  some = r.some;
  most = r.most;
  names = r.names;
  registers = r.registers;
  free = r.free;
  constants = r.constants;
  words = r.words;
  whole = r.whole;
  shows = r.shows;
}

pub operands_named : {homes : Homes} {slots rd : ℕ} {s : State} {m : Run} (op : SpBinary) (a b : PlainSp)
    → IsReady homes slots (between_two op a b) rd s m → (names_words slots a ≡ true) × (names_words slots b ≡ true)
operands_named {homes} {slots} op a b r = and_parts (names_words slots a) (names_words slots b) r.names

-- of two operands each is, in the run before or after the other, from a register on that suffices
pub first_ready : {homes : Homes} {slots rd : ℕ} {s : State} {m : Run} (op : SpBinary) (a b : PlainSp)
    → IsReady homes slots (between_two op a b) rd s m
    → (from : ℕ) (t : Run) → rd ≤ from → from + need a ≤ 21 → from + need a ≤ homes.first → Keeps rd homes.first m t
    → IsReady homes slots a from s t
first_ready op a b r from t above registers free keeps = record {
  some = omega (arith, r.some, above);
  most = r.most;
  names = (operands_named op a b r).0;
  registers = registers;
  free = free;
  constants = r.constants.0;
  words = r.words;
  whole = keeps.whole;
  shows = shows_still keeps r.shows;
}

pub second_ready : {homes : Homes} {slots rd : ℕ} {s : State} {m : Run} (op : SpBinary) (a b : PlainSp)
    → IsReady homes slots (between_two op a b) rd s m
    → (from : ℕ) (t : Run) → rd ≤ from → from + need b ≤ 21 → from + need b ≤ homes.first → Keeps rd homes.first m t
    → IsReady homes slots b from s t
second_ready op a b r from t above registers free keeps = record {
  some = omega (arith, r.some, above);
  most = r.most;
  names = (operands_named op a b r).1;
  registers = registers;
  free = free;
  constants = r.constants.1;
  words = r.words;
  whole = keeps.whole;
  shows = shows_still keeps r.shows;
}

-- ---- what is left, operand by operand

-- the operator, once its operands stand in two registers
applied : (f : ℕ → List Step) (op : SpBinary) (rd ra rb a b : ℕ) (m : Run) → IsWhole m → 1 ≤ rd → rd < 32 → ra < 27
    → rb < 27 → a < 2 ^ 32 → b < 2 ^ 32 → held ra m ≡ a → held rb m ≡ b
    → held rd (run by_words (parts_trail f (binary_code op rd ra rb)) m) ≡ binary_value op a b
applied f op rd ra rb a b m whole some few low_a low wa wb is_a is_b =
    binary_leaves by_words f op rd ra rb m whole some few low_a low (subst (λ n. n < 2 ^ 32) (sym is_a) wa)
    (subst (λ n. n < 2 ^ 32) (sym is_b) wb)
    ∙ ap (λ n. binary_value op n (held rb m)) is_a ∙ ap (binary_value op a) is_b

-- of an expression, wherever it is ready
pub LeavesAnywhere : Homes → ℕ → (ℕ → List Step) → PlainSp → State → Type 0
LeavesAnywhere homes slots f e s = (rd : ℕ) (m : Run) → IsReady homes slots e rd s m → Leaves homes f e rd s m

-- the run after the code of an operand, and where its value stands then
abbrev pub operand_after : Homes → (ℕ → List Step) → PlainSp → ℕ → Run → Run
operand_after homes f e rd m = run by_words (parts_trail f (operand_code homes e rd)) m

pub operand_keeps : {homes : Homes} {slots rd : ℕ} {s : State} {m : Run} (f : ℕ → List Step) (e : PlainSp)
    → IsReady homes slots e rd s m → Keeps rd homes.first m (operand_after homes f e rd m)
operand_keeps {homes} {slots} {rd} {s} {m} f e r =
    operand_is (λ ps. Keeps rd homes.first m (run by_words (parts_trail f ps) m)) homes e rd
    (keeps_all rd homes.first m r.whole) (after_keeps f e r)

-- a word of the frame in a register holds what the state has, and register 0 holds 0
home_left : (homes : Homes) (slots : ℕ) (e : PlainSp) (s : State) (m : Run) → IsWhole m → names_words slots e ≡ true
    → Shows homes slots s m → is_home homes e ≡ true → held (home_of homes e) m ≡ sp_value s.frame s.world e
home_left homes slots (frame_word slot) s m whole names shows is =
    let both = and_parts (is_none (flag_of homes.flags slot)) (in_register homes.first slot) is in
    sym (shown_plain homes slot m (is_none_of (flag_of homes.flags slot) both.0) ∙ in_place homes.first slot m both.1)
    ∙ shows.frame slot (ltb-true slot slots names)
home_left homes slots (constant n) s m whole names shows is = whole.fits.zero ∙ sym (eqb-true n 0 is)
home_left homes slots _ s m whole names shows is = absurd (true≢false (sym is))

-- code from a later register on leaves it there
home_stays : {from : ℕ} (homes : Homes) (e : PlainSp) (m t : Run) → 1 ≤ from → Keeps from homes.first m t
    → is_home homes e ≡ true → held (home_of homes e) t ≡ held (home_of homes e) m
home_stays homes (frame_word slot) m t some keeps is =
    keeps.high (homes.first + slot) (omega arith) (word_below homes slot is)
home_stays homes _ m t some keeps is = keeps.low 0 some

pub operand_left : {homes : Homes} {slots rd : ℕ} {s : State} {m : Run} (f : ℕ → List Step) (e : PlainSp)
    → IsReady homes slots e rd s m → LeavesAnywhere homes slots f e s
    → held (value_at homes e rd) (operand_after homes f e rd m) ≡ sp_value s.frame s.world e
unfolding LeavesAnywhere
operand_left {homes} {slots} {rd} {s} {m} f e r leaves = by (is_home homes e) refl
  where
    by : (b : Bool) → is_home homes e ≡ b → held (if b then home_of homes e else rd) (run by_words
        (parts_trail f (if b then no_part else expr_code homes e rd)) m) ≡ sp_value s.frame s.world e
    by true is = home_left homes slots e s m r.whole r.names r.shows is
    by false is = leaves rd m r

-- later code from a later register on leaves it there
value_stays : {from : ℕ} (homes : Homes) (rd : ℕ) (e : PlainSp) (m t : Run) → rd < from → Keeps from homes.first m t
    → held (value_at homes e rd) t ≡ held (value_at homes e rd) m
value_stays {from} homes rd e m t lt keeps = by (is_home homes e) refl
  where
    by : (b : Bool) → is_home homes e ≡ b → held (if b then home_of homes e else rd) t
        ≡ held (if b then home_of homes e else rd) m
    by true is = home_stays homes e m t (omega (arith, lt)) keeps is
    by false is = keeps.low rd lt

-- no operand stands in a register that operators use beside
pub value_low : (homes : Homes) (rd : ℕ) (e : PlainSp) → rd ≤ 21 → value_at homes e rd < 27
value_low homes rd e few = by (is_home homes e) refl
  where
    by : (b : Bool) → is_home homes e ≡ b → (if b then home_of homes e else rd) < 27
    by true is = let lt = home_below homes e is in omega (arith, lt)
    by false is = omega (arith, few)

-- ---- what gives the value leaves it in its register, later on too, where what the operands left stands

-- of an expression, wherever it is ready
GoesAnywhere : Homes → ℕ → (ℕ → List Step) → PlainSp → State → Type 0
GoesAnywhere homes slots f e s = (rd : ℕ) (m : Run) → IsReady homes slots e rd s m → (from : ℕ) (t : Run)
    → rd + 1 < from → Keeps from homes.first (worked homes f e rd m) t → (to : ℕ) → 1 ≤ to → to < OVERRUN
    → held to (run by_words (parts_trail f (value_code homes e rd to)) t) ≡ sp_value s.frame s.world e

left_from : (homes : Homes) (slots : ℕ) (s : State) (f : ℕ → List Step) (e : PlainSp) → GoesAnywhere homes slots f e s
    → LeavesAnywhere homes slots f e s
unfolding GoesAnywhere LeavesAnywhere
left_from homes slots s f e goes rd m r =
    let n = worked homes f e rd m in
    ap (held rd) (run_joined by_words f (operands_code homes e rd) (value_code homes e rd rd) m)
    ∙ goes rd m r (rd + 2) n (omega arith) (keeps_all (rd + 2) homes.first n (worked_keeps f e r).whole) rd r.some
    (omega (arith, few_of e r))

-- an operand stands in a register
pub record Stands (e : PlainSp) (at : ℕ) (s : State) (t : Run) : Type 0 where
  pub low : at < 27
  pub is : held at t ≡ sp_value s.frame s.world e

-- the first one alone, and both, whichever is worked out first
pub one_stands : {homes : Homes} {slots : ℕ} {s : State} (f : ℕ → List Step) (op : SpBinary) (a b : PlainSp)
    → LeavesAnywhere homes slots f a s → (rd : ℕ) (m : Run) → IsReady homes slots (between_two op a b) rd s m
    → (from : ℕ) (t : Run) → rd + 1 < from → Keeps from homes.first (operand_after homes f a rd m) t
    → Stands a (value_at homes a rd) s t
one_stands {homes} {slots} {s} f op a b va rd m r from t past keeps =
    let ready = first_ready op a b r rd m (omega arith) (first_fits op a b (fits_of r)).registers
    (omega (arith, r.free, (covers (nat_lt (need a) (need b)) (need a) (need b)).0))
    (keeps_all rd homes.first m r.whole) in
    record {
      low = value_low homes rd a (omega (arith, few_of (between_two op a b) r));
      is = value_stays homes rd a (operand_after homes f a rd m) t (omega (arith, past)) keeps
          ∙ operand_left f a ready va;
    }

pub second_stands : {homes : Homes} {slots : ℕ} {s : State} (f : ℕ → List Step) (op : SpBinary) (a b : PlainSp)
    → LeavesAnywhere homes slots f a s → LeavesAnywhere homes slots f b s → (rd : ℕ) (m : Run)
    → IsReady homes slots (between_two op a b) rd s m
    → nat_lt (need a) (need b) ≡ true → (from : ℕ) (t : Run) → rd + 1 < from
    → Keeps from homes.first (run by_words
    (parts_trail f (joined (operand_code homes b rd) (operand_code homes a (rd + 1)))) m) t
    → Stands a (value_at homes a (rd + 1)) s t × Stands b (value_at homes b rd) s t
second_stands {homes} {slots} {s} f op a b va vb rd m r less from t past keeps =
    let whole_fits = fits_of r in
    let ready = second_ready op a b r rd m (omega arith) (second_fits op a b whole_fits).registers
    (omega (arith, r.free, (covers (nat_lt (need a) (need b)) (need a) (need b)).1))
    (keeps_all rd homes.first m r.whole) in
    let n = operand_after homes f b rd m in
    let other = first_ready op a b r (rd + 1) n (omega arith) (first_fits_after op a b whole_fits less).registers
    (omega (arith, r.free, lesser (need a) (need b) less)) (operand_keeps f b ready) in
    let u = operand_after homes f a (rd + 1) n in
    let later = subst (λ x. Keeps from homes.first x t) (run_joined by_words f (operand_code homes b rd)
    (operand_code homes a (rd + 1)) m) keeps in
    let low = few_of (between_two op a b) r in (
      record {
        low = value_low homes (rd + 1) a (omega (arith, low));
        is = value_stays homes (rd + 1) a u t past later
            ∙ operand_left f a other va;
      },
      record {
        low = value_low homes rd b (omega (arith, low));
        is = value_stays homes rd b u t (omega (arith, past)) later ∙ value_stays homes rd b n u (omega arith)
            (operand_keeps f a other) ∙ operand_left f b ready vb;
      },
    )

pub first_stands : {homes : Homes} {slots : ℕ} {s : State} (f : ℕ → List Step) (op : SpBinary) (a b : PlainSp)
    → LeavesAnywhere homes slots f a s → LeavesAnywhere homes slots f b s → (rd : ℕ) (m : Run)
    → IsReady homes slots (between_two op a b) rd s m
    → nat_lt (need a) (need b) ≡ false → (from : ℕ) (t : Run) → rd + 1 < from
    → Keeps from homes.first (run by_words
    (parts_trail f (joined (operand_code homes a rd) (operand_code homes b (rd + 1)))) m) t
    → Stands a (value_at homes a rd) s t × Stands b (value_at homes b (rd + 1)) s t
first_stands {homes} {slots} {s} f op a b va vb rd m r more from t past keeps =
    let whole_fits = fits_of r in
    let ready = first_ready op a b r rd m (omega arith) (first_fits op a b whole_fits).registers
    (omega (arith, r.free, (covers (nat_lt (need a) (need b)) (need a) (need b)).0))
    (keeps_all rd homes.first m r.whole) in
    let n = operand_after homes f a rd m in
    let other = second_ready op a b r (rd + 1) n (omega arith) (second_fits_after op a b whole_fits more).registers
    (omega (arith, r.free, greater (need a) (need b) more)) (operand_keeps f a ready) in
    let u = operand_after homes f b (rd + 1) n in
    let later = subst (λ x. Keeps from homes.first x t) (run_joined by_words f (operand_code homes a rd)
    (operand_code homes b (rd + 1)) m) keeps in
    let low = few_of (between_two op a b) r in (
      record {
        low = value_low homes rd a (omega (arith, low));
        is = value_stays homes rd a u t (omega (arith, past)) later ∙ value_stays homes rd a n u (omega arith)
            (operand_keeps f b other) ∙ operand_left f a ready va;
      },
      record {
        low = value_low homes (rd + 1) b (omega (arith, low));
        is = value_stays homes (rd + 1) b u t past later
            ∙ operand_left f b other vb;
      },
    )

-- so the code of an operator, whichever operand is worked out first
both_go : {homes : Homes} {slots : ℕ} {s : State} (f : ℕ → List Step) (op : SpBinary) (a b : PlainSp)
    → LeavesAnywhere homes slots f a s → LeavesAnywhere homes slots f b s → (rd : ℕ) (m : Run)
    → IsReady homes slots (between_two op a b) rd s m
    → (is less : Bool) → is_immediate op b ≡ is → nat_lt (need a) (need b) ≡ less → (from : ℕ) (t : Run) → rd + 1 < from
    → Keeps from homes.first (run by_words (parts_trail f (if is then operand_code homes a rd else if less then joined
    (operand_code homes b rd) (operand_code homes a (rd + 1)) else joined (operand_code homes a rd)
    (operand_code homes b (rd + 1)))) m) t
    → (to : ℕ) → 1 ≤ to → to < OVERRUN
    → held to (run by_words
    (parts_trail f (if is then one (straight (held_code op to (value_at homes a rd) (number_of b))) else if less
    then binary_code op to (value_at homes a (rd + 1)) (value_at homes b rd) else binary_code op to
    (value_at homes a rd) (value_at homes b (rd + 1)))) t)
    ≡ binary_value op (sp_value s.frame s.world a) (sp_value s.frame s.world b)
both_go {homes} {slots} {s} f op a (constant n) va vb rd m r true less is_it less_is from t past keeps to some few =
    let x = one_stands f op a (constant n) va rd m r from t past keeps in
    let small = value_word slots s a (operands_named op a (constant n) r).0 r.constants.0 r.words in
    ap (held to) (run_lone by_words f (held_code op to (value_at homes a rd) n) t)
    ∙ held_leaves by_words op to (value_at homes a rd) n t keeps.whole some (omega (arith, few)) x.low (subst
    (λ v. v < 2 ^ 32) (sym x.is) small) is_it
    ∙ ap (λ v. binary_value op v n) x.is
both_go f op a (frame_word slot) va vb rd m r true less is_it less_is from t past keeps to some few =
    absurd (true≢false (sym is_it))
both_go {homes} {slots} {s} f op a b va vb rd m r false true is_it less_is from t past keeps to some few =
    let x = second_stands f op a b va vb rd m r less_is from t past keeps in
    let first = x.0 in
    let second = x.1 in
    applied f op to (value_at homes a (rd + 1)) (value_at homes b rd) (sp_value s.frame s.world a)
    (sp_value s.frame s.world b) t keeps.whole some (omega (arith, few)) first.low second.low
    (value_word slots s a (operands_named op a b r).0 r.constants.0 r.words)
    (value_word slots s b (operands_named op a b r).1 r.constants.1 r.words) first.is second.is
both_go {homes} {slots} {s} f op a b va vb rd m r false false is_it less_is from t past keeps to some few =
    let x = first_stands f op a b va vb rd m r less_is from t past keeps in
    let first = x.0 in
    let second = x.1 in
    applied f op to (value_at homes a rd) (value_at homes b (rd + 1)) (sp_value s.frame s.world a)
    (sp_value s.frame s.world b) t keeps.whole some (omega (arith, few)) first.low second.low
    (value_word slots s a (operands_named op a b r).0 r.constants.0 r.words)
    (value_word slots s b (operands_named op a b r).1 r.constants.1 r.words) first.is second.is
both_go f op a _ va vb rd m r true less is_it less_is from t past keeps to some few = absurd (true≢false (sym is_it))

-- a word of the frame, wherever it stands
word_leaves : (homes : Homes) (to slot : ℕ) (t : Run) → IsWhole t → 1 ≤ to → to < 32 → slot < 128
    → shown_word homes slot t < 2 ^ 32
    → held to (run by_words (all_done (word_code (flag_of homes.flags slot) homes.first to slot)) t)
    ≡ shown_word homes slot t
word_leaves homes to slot t whole some few near word = by (flag_of homes.flags slot) refl word
  where
    by : (o : Option ℕ) → flag_of homes.flags slot ≡ o → held_in o homes.first slot t < 2 ^ 32
        → held to (run by_words (all_done (word_code o homes.first to slot)) t) ≡ held_in o homes.first slot t
    by None is word = read_leaves by_words homes.first to slot t refl whole some few near word
    by (Some p) is word = truth_leaves by_words p to (so p t) t whole some few (flag_range homes.flags slot p is).1 refl

value_goes : (homes : Homes) (slots : ℕ) (s : State) (f : ℕ → List Step) (e : PlainSp) → GoesAnywhere homes slots f e s
unfolding GoesAnywhere
value_goes homes slots s f (constant n) rd m r from t past keeps to some few =
    number_leaves by_words to n t keeps.whole some (omega (arith, few)) r.constants
value_goes homes slots s f (frame_word slot) rd m r from t past keeps to some few =
    let shown = (shows_still keeps r.shows).frame slot (ltb-true slot slots r.names) in
    ap (held to) (run_lone by_words f (word_code (flag_of homes.flags slot) homes.first to slot) t)
    ∙ word_leaves homes to slot t keeps.whole some (omega (arith, few)) (word_named slot (fits_of r)) (subst
    (λ v. v < 2 ^ 32) (sym shown) (r.words.frame slot (ltb-true slot slots r.names))) ∙ shown
value_goes homes slots s f (cell_word cell) rd m r from t past keeps to some few =
    cell_leaves cell to s.world t keeps.whole some (omega (arith, few)) r.names (shows_still keeps r.shows).world
value_goes homes slots s f (array_word array index) rd m r from t past keeps to some few =
    let ready = index_ready array index r in
    let ra = value_at homes index rd in
    let world = (shows_still keeps (shows_still (operand_keeps f index ready) r.shows)).world in
    ap (held to) (run_lone by_words f (element_code array to ra) t)
    ∙ element_leaves array to ra s.world t keeps.whole some few (value_low homes rd index
    (omega (arith, few_of index ready))) (array_named array index (fits_of r)) world
    ∙ ap (λ n. array_value array n s.world) (value_stays homes rd index (operand_after homes f index rd m) t (omega
    (arith, past)) keeps ∙ operand_left f index ready (left_from homes slots s f index
    (value_goes homes slots s f index)))
value_goes homes slots s f (before_one op of) rd m r from t past keeps to some few =
    let ready = operand_ready op of r in
    ap (held to) (run_lone by_words f (unary_code op to (value_at homes of rd)) t)
    ∙ unary_leaves by_words op to (value_at homes of rd) t keeps.whole some (omega (arith, few))
    ∙ ap (unary_value op) (value_stays homes rd of (operand_after homes f of rd m) t (omega (arith, past)) keeps
    ∙ operand_left f of ready (left_from homes slots s f of (value_goes homes slots s f of)))
value_goes homes slots s f (between_two op a b) rd m r from t past keeps to some few =
    both_go f op a b (left_from homes slots s f a (value_goes homes slots s f a)) (left_from homes slots s f b
    (value_goes homes slots s f b)) rd m r (is_immediate op b) (nat_lt (need a) (need b)) refl refl from t past
    keeps to some few

-- the code of an expression leaves its value in the register to which it goes, also where a test stands before its end
pub value_sent : {homes : Homes} {slots rd : ℕ} {s : State} {m : Run} (f : ℕ → List Step) (e : PlainSp)
    → IsReady homes slots e rd s m → (t : Run) → Keeps SPARE homes.first (worked homes f e rd m) t → (to : ℕ)
    → 1 ≤ to → to < OVERRUN
    → held to (run by_words (parts_trail f (value_code homes e rd to)) t) ≡ sp_value s.frame s.world e
unfolding GoesAnywhere
value_sent {homes} {slots} {rd} {s} {m} f e r t keeps to some few =
    value_goes homes slots s f e rd m r SPARE t (omega (arith, few_of e r)) keeps to some few

pub value_left : {homes : Homes} {slots rd : ℕ} {s : State} {m : Run} (f : ℕ → List Step) (e : PlainSp)
    → IsReady homes slots e rd s m → Leaves homes f e rd s m
unfolding LeavesAnywhere
value_left {homes} {slots} {rd} {s} {m} f e r = left_from homes slots s f e (value_goes homes slots s f e) rd m r

pub left_anywhere : (homes : Homes) (slots : ℕ) (f : ℕ → List Step) (e : PlainSp) (s : State)
    → LeavesAnywhere homes slots f e s
left_anywhere homes slots f e s = left_from homes slots s f e (value_goes homes slots s f e)

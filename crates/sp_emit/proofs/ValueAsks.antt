-- What the code of values asks for: the variables and elements that it reads.
use Rattle.std.proofs.Common.{true≢false, ◌≡◌, ℕ, suc, ◌+◌, ◌*◌, ◌%◌, ◌^◌, ◌<◌, ◌≤◌, inl, inr, Bool, true, false, List, [], ◌∷◌, ◌++◌, append-nil, nat_lt, refl, sym, ap, ◌∙◌, subst, arith}
use Rattle.std.specs.Prelude.{nat_le}
use Rattle.std.specs.List.{All}
use Rattle.std.proofs.lemmas.Bool.{and_parts, leb-true, ltb-true}
use Rattle.std.proofs.lemmas.List.Elements.{All-nil, All-cons}
use Rattle.patmos_instr.specs.Bundles.{PlainBundle}
use Rattle.patmos_instr.specs.declared.memories.Mem.{Mem}
use Rattle.patmos_instr.specs.declared.memories.Mem.TheVariants as mem
use Rattle.patmos_instr.specs.declared.memories.Width.TheVariants as load
use Rattle.patmos_sem.specs.Effects.{address_of as address_by}
use Rattle.patmos_sem.specs.declared.effects.Effect.{Effect}
use Rattle.patmos_sem.specs.declared.effects.Effect.TheVariants as effect
use Rattle.patmos_sem.specs.declared.writes.Write.TheVariants as write
use Rattle.c_world.specs.Shown.{room_in}
use Rattle.c_world.specs.declared.region.Region.{Region}
use Rattle.c_world.specs.declared.region.Region.TheVariants as region
use Rattle.sp_tree.specs.Formed.{all_rooms, first_of, cell_formed, array_formed}
use Rattle.sp_tree.specs.Need.{need}
use Rattle.sp_tree.specs.Plain.{PlainSp, constant, frame_word, cell_word, array_word, before_one, between_two}
use Rattle.sp_tree.specs.Uses.{Use, reads_cell, reads_array, expr_uses}
use Rattle.sp_tree.specs.declared.expressions.SpArray.{SpArray}
use Rattle.sp_tree.specs.declared.expressions.SpCell.{SpCell}
use Rattle.sp_tree.specs.declared.operators.SpBinary.{SpBinary}
use Rattle.sp_shape.proofs.Joins.{trail_joined}
use Rattle.sp_shape.specs.Parts.{straight, PlainParts, one, joined}
use Rattle.sp_shape.specs.Run.{Run, Sources, once, run, IsWhole}
use Rattle.sp_shape.specs.Trail.{Step, all_done, parts_trail}
use Rattle.sp_emit.proofs.Values.{value_low}
use Rattle.sp_emit.proofs.Operands.{one_of, Handed, fits_handed, both_handed, operands_are}
use Rattle.sp_emit.specs.Accesses.{IsReadPlace, MayLoad, MayAsk, cached_address, Asks, AsksOnly}
use Rattle.sp_emit.specs.Expressions.{address_of, cell_space, array_space, offset_of, unary_code, binary_code, held_code, cell_code, element_code, number_of, word_code, value_code, operands_code, expr_to, value_at, is_immediate}
use Rattle.sp_emit.specs.Fits.{ExprFits}
use Rattle.sp_emit.specs.Holding.{held}
use Rattle.sp_emit.specs.Instructions.{always, set_number, load_from, combine}
use Rattle.sp_emit.specs.Places.{flag_of}
use Rattle.sp_emit.specs.Truths.{flag_code, bit_sought}
use Rattle.sp_emit.specs.declared.registers.TheConstants.{FIRST, OVERRUN, SPARE}
use Rattle.sp_emit.proofs.Accessing.{asks_append, asks_nothing, near_asks, near_parts, nearby}
use Rattle.sp_emit.proofs.Effects.{AreIn, none}
use Rattle.sp_emit.proofs.Footprints.{number_in, word_in, unary_in, held_in, tests_in, bit_in, cell_in, element_in}
use Rattle.sp_emit.proofs.Walks.{binary_is, in_walk}
use Rattle.sp_emit.proofs.Cells.{few_words, first_small}
use Rattle.sp_emit.proofs.Elements.{Reached, looked_up, reaches, looks_up, looks_at_0}
use Rattle.sp_emit.proofs.Leaving.{did_set_number}
use Rattle.sp_emit.proofs.Needs.{some_need, array_named, index_named, second_fits, first_fits}
use Rattle.sp_emit.proofs.Portless.{unwritten, unwritten_start}
use Rattle.sp_emit.proofs.Once.{with_written, did_load, whole_written, got}
use Rattle.sp_emit.proofs.TruthCode.{TruthParts, flag_is}
use Rattle.sp_emit.specs.declared.stands.Homes.{Homes}

-- a load of a whole word
abbrev word_load : Mem → ℕ → ℕ → Effect
word_load space rd address = effect.Load space load.Word rd address

-- one load more
asks_load : (Named : Use → Type 0) (space : Mem) (rd address : ℕ) (m t : Run) → t.asked ≡ m.asked
    ++ word_load space rd address ∷ [] → MayAsk Named (word_load space rd address)
    → Asks Named (cached_address (word_load space rd address)) m t
asks_load Named space rd address m t is may = record {
  news = word_load space rd address ∷ [];
  is = is;
  may = All-cons
      (MayAsk Named) (word_load space rd address) [] may (All-nil (MayAsk Named));
  loads =
      append-nil (cached_address (word_load space rd address));
}

-- ---- variables

variable_read : (Named : Use → Type 0) (r : Region) (word rd : ℕ) → cell_formed (record { region = r; word = word })
    ≡ true → Named (reads_cell (record { region = r; word = word })) → MayAsk Named (word_load (cell_space r) rd
    (address_of r word))
variable_read Named region.Scratch word rd formed named = (
  refl,
  inl (
    record { region = region.Scratch; word = word },
    named,
    record { formed = formed; space_is = refl; address_is = refl },
  ),
)
variable_read Named other word rd formed named = (
  refl,
  inl (
    record { region = other; word = word },
    named,
    record { formed = formed; space_is = refl; address_is = refl },
  ),
)

pub cell_asks : (Named : Use → Type 0) (c : SpCell) (rd : ℕ) → 1 ≤ rd → rd < 32 → cell_formed c ≡ true
    → Named (reads_cell c) → AsksOnly Named (all_done (cell_code c rd))
cell_asks Named c rd some few formed named = record {
  cached = cached_address (word_load (cell_space c.region) rd at);
  asks = λ from m whole.
      let n = with_written (write.Register rd ((0 + at) % 2 ^ 32)) m in
      let h = whole_written (write.Register rd ((0 + at) % 2 ^ 32)) m whole in
      let is : held rd n ≡ at = got rd ((0 + at) % 2 ^ 32) m whole some few ∙ omega (arith, small) in
      asks_load Named (cell_space c.region) rd at m (run from (all_done (cell_code c rd)) m)
      (ap (λ t. (once from (load_from (cell_space c.region) rd rd 0) t).asked) (did_set_number from rd at m whole)
      ∙ ap (λ t. t.asked) (did_load from always (cell_space c.region) rd rd 0 n h h.fits.always)
      ∙ ap (λ a. m.asked ++ word_load (cell_space c.region) rd (address_by a 0 4) ∷ []) is
      ∙ ap (λ a. m.asked ++ word_load (cell_space c.region) rd a ∷ [])
      (let e : (at + 0 * 4) % 2 ^ 32 ≡ at = omega (arith, small) in e))
      (variable_read Named c.region c.word rd formed named);
  starts = λ from m whole words. unwritten_start from unwritten refl (cell_code c rd) m
      (cell_in unwritten c rd refl refl);
}
  where
    at : ℕ
    at = address_of c.region c.word

    small : address_of c.region c.word < 2 ^ 32
    small = first_small c.region c.word (omega (
      arith,
      ltb-true c.word (room_in c.region all_rooms)
          (and_parts (nat_le (first_of c.region) c.word) (nat_lt c.word (room_in c.region all_rooms)) formed).1,
    ))

-- ---- elements

element_read : (Named : Use → Type 0) (a : SpArray) (index rd : ℕ) → array_formed a ≡ true → Named (reads_array a)
    → index < a.length → MayAsk Named (word_load (array_space a.region) rd (address_of a.region (a.first + index)))
element_read Named a index rd formed named within = by a.region refl
  where
    place : (space : Mem) → space ≡ array_space a.region → IsReadPlace Named space (address_of a.region
        (a.first + index))
    place space is = inr (inl (
      a,
      named,
      record {
        formed = formed;
        index = index;
        within = within;
        space_is = is;
        address_is = refl;
      },
    ))

    by : (r : Region) → a.region ≡ r → MayLoad Named (array_space r) load.Word (address_of a.region (a.first + index))
    by region.Scratch is = (refl, place mem.L (sym (ap array_space is)))
    by region.Comm is = (refl, place mem.L (sym (ap array_space is)))
    by region.Private is = (refl, place mem.M (sym (ap array_space is)))
    by region.Shared is = (refl, place mem.M (sym (ap array_space is)))

no_element_read : (Named : Use → Type 0) (a : SpArray) (rd : ℕ) → Named (reads_array a)
    → MayAsk Named (word_load (array_space a.region) rd 0)
no_element_read Named a rd named = by a.region refl
  where
    place : (space : Mem) → space ≡ array_space a.region → IsReadPlace Named space 0
    place space is = inr (inr (a, named, record { space_is = is; address_is = refl }))

    by : (r : Region) → a.region ≡ r → MayLoad Named (array_space r) load.Word 0
    by region.Scratch is = (refl, place mem.L (sym (ap array_space is)))
    by region.Comm is = (refl, place mem.L (sym (ap array_space is)))
    by region.Private is = (refl, place mem.M (sym (ap array_space is)))
    by region.Shared is = (refl, place mem.M (sym (ap array_space is)))

-- elements are not loaded by the data cache
not_cached : (r : Region) (rd address : ℕ) → cached_address (word_load (array_space r) rd address) ≡ []
not_cached region.Scratch rd address = refl
not_cached _ rd address = refl

asks_element : (Named : Use → Type 0) (a : SpArray) (rd address : ℕ) (m t : Run) → t.asked ≡ m.asked
    ++ word_load (array_space a.region) rd address ∷ [] → MayAsk Named (word_load (array_space a.region) rd address)
    → Asks Named [] m t
asks_element Named a rd address m t is may = subst (λ l. Asks Named l m t) (not_cached a.region rd address)
    (asks_load Named (array_space a.region) rd address m t is may)

pub element_asks : (Named : Use → Type 0) (a : SpArray) (rd ra : ℕ) → 1 ≤ rd → rd < OVERRUN → ra < SPARE
    → array_formed a ≡ true → Named (reads_array a) → AsksOnly Named (all_done (element_code a rd ra))
element_asks Named a rd ra some few low formed named = record {
  cached = [];
  asks = asks;
  starts = λ from m whole words.
      unwritten_start from unwritten refl (element_code a rd ra) m (element_in unwritten a rd ra refl refl);
}
  where
    within : a.first + a.length ≤ room_in a.region all_rooms
    within = leb-true (a.first + a.length) (room_in a.region all_rooms) (and_parts (nat_le (first_of a.region) a.first)
        (nat_le (a.first + a.length) (room_in a.region all_rooms)) formed).1

    by : (from : Sources) (m t : Run) → Reached a rd (held ra m) m t → (b : Bool) → nat_lt (held ra m) a.length ≡ b
        → Asks Named [] m (looked_up from a rd t)
    by from m t r true less =
        let i = held ra m in
        let lies : a.first + i < room_in a.region all_rooms = omega (arith, within, ltb-true i a.length less) in
        asks_element Named a rd (address_of a.region (a.first + i)) m (looked_up from a rd t)
        (ap (λ x. x.asked) (looks_up from a rd t r.whole (r.test ∙ less))
        ∙ ap (λ l. l ++ word_load (array_space a.region) rd (address_by (held rd t) (offset_of a) 4) ∷ []) r.asked
        ∙ ap (λ x. m.asked ++ word_load (array_space a.region) rd x ∷ []) (r.address lies))
        (element_read Named a i rd formed named (ltb-true i a.length less))
    by from m t r false more =
        asks_element Named a rd 0 m (looked_up from a rd t)
        ((looks_at_0 from a rd t r.whole some (omega (arith, few)) (r.test ∙ more)).asked
        ∙ ap (λ l. l ++ word_load (array_space a.region) rd 0 ∷ []) r.asked)
        (no_element_read Named a rd named)

    asks : (from : Sources) (m : Run) → IsWhole m → Asks Named [] m (run from (all_done (element_code a rd ra)) m)
    asks from m whole =
        let all = reaches from a rd ra m whole some few low (omega (arith, within, few_words a.region))
        (first_small a.region a.first (omega (arith, within))) in
        subst (Asks Named [] m) (sym all.1) (by from m all.0 all.2 (nat_lt (held ra m) a.length) refl)

-- ---- expressions

-- all of these uses are named
abbrev pub AreNamed : (Use → Type 0) → List Use → Type 0
AreNamed Named [] = Unit {0}
AreNamed Named (u ∷ us) = Named u × AreNamed Named us

pub are_named : (Named : Use → Type 0) (us : List Use) → All Named us → AreNamed Named us
are_named Named [] all = tt
are_named Named (u ∷ us) all =
    (all 0 u (omega arith), are_named Named us (λ k d less. all (suc k) d (omega (arith, less))))

pub named_left : (Named : Use → Type 0) (xs ys : List Use) → AreNamed Named (xs ++ ys) → AreNamed Named xs
named_left Named [] ys all = tt
named_left Named (x ∷ xs) ys all = (all.0, named_left Named xs ys all.1)

pub named_right : (Named : Use → Type 0) (xs ys : List Use) → AreNamed Named (xs ++ ys) → AreNamed Named ys
named_right Named [] ys all = all
named_right Named (x ∷ xs) ys all = named_right Named xs ys all.1

pub asks_joined : {Named : Use → Type 0} (f : ℕ → List Step) (xs ys : PlainParts) → AsksOnly Named (parts_trail f xs)
    → AsksOnly Named (parts_trail f ys) → AsksOnly Named (parts_trail f (joined xs ys))
asks_joined {Named} f xs ys a b = subst (AsksOnly Named) (sym (trail_joined f xs ys)) (asks_append a b)

pub asks_lone : {Named : Use → Type 0} (f : ℕ → List Step) (bs : List PlainBundle) → AsksOnly Named (all_done bs)
    → AsksOnly Named (parts_trail f (one (straight bs)))
asks_lone {Named} f bs a = subst (AsksOnly Named) (sym (append-nil (all_done bs))) a

operator_asks : (Named : Use → Type 0) (f : ℕ → List Step) (op : SpBinary) (rd ra rb : ℕ)
    → AsksOnly Named (parts_trail f (binary_code op rd ra rb))
operator_asks Named f op rd ra rb = near_parts Named f none (λ k may. absurd (true≢false (sym may)))
    (binary_code op rd ra rb) (binary_is (in_walk nearby refl none) op rd ra rb refl)

value_asks : (homes : Homes) (Named : Use → Type 0) (f : ℕ → List Step) (e : PlainSp) (rd to : ℕ) → 1 ≤ to
    → to < OVERRUN → ExprFits e rd → AreNamed Named (expr_uses e)
    → AsksOnly Named (parts_trail f (value_code homes e rd to))
value_asks homes Named f (constant n) rd to some few fits named =
    asks_lone f (set_number to n ∷ []) (near_asks Named (set_number to n ∷ []) (rw (number_in nearby to n refl) refl))
value_asks homes Named f (frame_word slot) rd to some few fits named =
    let bs = word_code (flag_of homes.flags slot) homes.first to slot in
    asks_lone f bs (near_asks Named bs (word_in nearby homes to slot refl (λ out. refl)))
value_asks homes Named f (cell_word cell) rd to some few fits named =
    asks_lone f (cell_code cell to) (cell_asks Named cell to some (omega (arith, few)) fits.names named.0)
value_asks homes Named f (array_word array index) rd to some few fits named =
    asks_lone f (element_code array to (value_at homes index rd)) (element_asks Named array to (value_at homes index rd)
    some few (value_low homes rd index (omega (arith, (index_named array index fits).registers, some_need index)))
    (array_named array index fits) named.0)
value_asks homes Named f (before_one op of) rd to some few fits named =
    asks_lone f (unary_code op to (value_at homes of rd)) (near_asks Named (unary_code op to (value_at homes of rd))
    (unary_in nearby op to (value_at homes of rd) refl))
value_asks homes Named f (between_two op a b) rd to some few fits named =
    one_of (λ ps. AsksOnly Named (parts_trail f ps)) (is_immediate op b) (nat_lt (need a) (need b))
    (one (straight (held_code op to (value_at homes a rd) (number_of b))))
    (binary_code op to (value_at homes a (rd + 1)) (value_at homes b rd))
    (binary_code op to (value_at homes a rd) (value_at homes b (rd + 1)))
    (asks_lone f (held_code op to (value_at homes a rd) (number_of b))
    (near_asks Named (held_code op to (value_at homes a rd) (number_of b))
    (held_in nearby op to (value_at homes a rd) (number_of b) refl)))
    (λ less. operator_asks Named f op to (value_at homes a (rd + 1)) (value_at homes b rd))
    (λ more. operator_asks Named f op to (value_at homes a rd) (value_at homes b (rd + 1)))

some_handed : Handed (λ e rd. 1 ≤ rd)
some_handed = record {
  index = λ array index rd h. h;
  operand = λ op of rd h. h;
  first = λ op a b rd h. h;
  second = λ op a b rd h. h;
  first_behind = λ op a b rd less h. omega arith;
  second_behind = λ op a b rd more h. omega arith;
}

uses_handed : (Named : Use → Type 0) → Handed (λ e rd. AreNamed Named (expr_uses e))
uses_handed Named = record {
  index = λ array index rd h. h.1;
  operand = λ op of rd h. h;
  first = λ op a b rd h. named_left Named (expr_uses a) (expr_uses b) h;
  second = λ op a b rd h. named_right Named (expr_uses a) (expr_uses b) h;
  first_behind = λ op a b rd less h. named_left Named (expr_uses a) (expr_uses b) h;
  second_behind = λ op a b rd more h. named_right Named (expr_uses a) (expr_uses b) h;
}

pub operands_ask : (homes : Homes) (Named : Use → Type 0) (f : ℕ → List Step) (e : PlainSp) (rd : ℕ) → 1 ≤ rd
    → ExprFits e rd → AreNamed Named (expr_uses e) → AsksOnly Named (parts_trail f (operands_code homes e rd))
operands_ask homes Named f e rd some fits named =
    operands_are (λ ps. AsksOnly Named (parts_trail f ps)) homes (λ e rd. (1 ≤ rd)
    × (ExprFits e rd × AreNamed Named (expr_uses e))) (asks_nothing Named) (asks_joined f)
    (both_handed some_handed (both_handed fits_handed (uses_handed Named)))
    (λ e rd h. value_asks homes Named f e rd rd h.0 (omega (arith, h.1.0.registers, some_need e)) h.1.0 h.1.1) e rd
    (some, (fits, named))

pub expr_asks : (homes : Homes) (Named : Use → Type 0) (f : ℕ → List Step) (e : PlainSp) (rd to : ℕ) → 1 ≤ to
    → to < OVERRUN → 1 ≤ rd → ExprFits e rd → AreNamed Named (expr_uses e)
    → AsksOnly Named (parts_trail f (expr_to homes e rd to))
expr_asks homes Named f e rd to some_to few some fits named =
    asks_joined f (operands_code homes e rd) (value_code homes e rd to) (operands_ask homes Named f e rd some fits
    named) (value_asks homes Named f e rd to some_to few fits named)

-- a truth that goes to a predicate asks for what its operands do
pub flag_asks : (homes : Homes) (Named : Use → Type 0) (f : ℕ → List Step) (p : ℕ) (e : PlainSp) → ExprFits e FIRST
    → AreNamed Named (expr_uses e) → AsksOnly Named (parts_trail f (flag_code homes p e))
flag_asks homes Named f p e fits named =
    flag_is parts p (λ func a b. bundles (combine func p a b ∷ []) refl) e (fits, named)
  where
    bundles : (bs : List PlainBundle) → AreIn nearby bs → AsksOnly Named (parts_trail f (one (straight bs)))
    bundles bs all = asks_lone f bs (near_asks Named bs all)

    parts : TruthParts (λ ps. AsksOnly Named (parts_trail f ps)) homes (λ e. ExprFits e FIRST
        × AreNamed Named (expr_uses e))
    parts = record {
      none = asks_nothing Named;
      both = asks_joined f;
      first = λ op a b h. (first_fits op a b h.0, named_left Named (expr_uses a) (expr_uses b) h.1);
      second = λ op a b h. (second_fits op a b h.0, named_right Named (expr_uses a) (expr_uses b) h.1);
      operands = λ e h. operands_ask homes Named f e FIRST (omega arith) h.0 h.1;
      tests = λ bs tests. bundles bs (tests_in nearby bs tests);
      bits = λ slot h. bundles (bit_sought homes.first slot) (bit_in nearby homes.first slot (λ out. refl));
    }

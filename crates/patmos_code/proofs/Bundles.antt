-- The bundle that is found for two words is exactly the one for which they stand.
use Rattle.std.proofs.Common.{arith, ◌≡◌, ℕ, ◌+◌, ◌-◌, ◌<◌, ◌≤◌, ◌^◌, Bool, true, false, refl, sym, subst, not, ◌&&◌, IsTrue, ◌∙◌, ap, Option, Some, None, if◌then◌else◌, nat_lt, [], ◌∷◌, IfSome}
use Rattle.std.proofs.lemmas.Bool.Decides.{nat_tests}
use Rattle.patmos_instr.specs.Instructions.{is_long, is_second_kind, FitsInstr}
use Rattle.patmos_instr.specs.Bundles.{PlainBundle, FitsBundle}
use Rattle.patmos_instr.specs.declared.guards.Guard.{Guard}
use Rattle.patmos_instr.specs.declared.instructions.Instr.{Instr}
use Rattle.patmos_instr.specs.declared.instructions.Op.{Op}
use Rattle.patmos_instr.specs.declared.instructions.Op.TheVariants.{AluLong}
use Rattle.patmos_code.specs.Codes.{instr_code, second_word, words, code, StandFor, Decodes}
use Rattle.patmos_code.specs.Decoding.{instr_at, lone, beside, double, bundle_at}
use Rattle.patmos_code.proofs.Instructions.{HasConstant, instr_small, instr_back, instr_taken}

short_word : (op : Op) → is_long op ≡ false → second_word op None ≡ None
short_word (AluLong f rd ra c) e = cc
short_word _ e = refl

long_word : (op : Op) (c : ℕ) → is_long op ≡ true → HasConstant op c → second_word op None ≡ Some c
long_word (AluLong f rd ra d) c e same = ap Some same
long_word _ c e same = cc

-- how two words are one bundle's words, in either case
one_word : (w first second : ℕ) → first < 2 ^ 31 → w ≡ first →
    words w None ≡ (if nat_lt first (2 ^ 31) then first ∷ [] else first ∷ second ∷ [])
one_word w first second small e = grind (arith, nat_tests)

two_words : (w v first second : ℕ) → 2 ^ 31 ≤ first → w ≡ first - 2 ^ 31 → v ≡ second →
    words w (Some v) ≡ (if nat_lt first (2 ^ 31) then first ∷ [] else first ∷ second ∷ [])
two_words w v first second big e k = grind (arith, nat_tests)

split : (b : Bool) (x y : Option PlainBundle) (P : PlainBundle → Type 0) → (b ≡ true → IfSome x P)
    → (b ≡ false → IfSome y P) →
    IfSome (if b then x else y) P
split true x y P f g = f refl
split false x y P f g = g refl

Taken : Instr → ℕ → ℕ → Type 0
Taken i c w = FitsInstr i × HasConstant i.op c × (instr_code i ≡ w)

lone_taken : (first second : ℕ) (o : Option Instr) → first < 2 ^ 31 → IfSome o (λ i. Taken i 0 first) →
    IfSome (lone o) (λ b. FitsBundle b × StandFor first second b)
unfolding Taken code
lone_taken first second None small h = tt
lone_taken first second (Some i) small h =
    split (is_long i.op) None (Some (record { first = i; second = None })) (λ b. FitsBundle b × StandFor first second b)
    (λ _. tt)
    (λ e. (
      record { legal = refl; first = h.0; second = tt },
      ap (words (instr_code i)) (short_word i.op e)
          ∙ one_word (instr_code i) first second small h.2,
    ))

long_taken : (first second : ℕ) (i : Instr) → 2 ^ 31 ≤ first → Taken i second (first - 2 ^ 31) → is_long i.op ≡ true →
    FitsBundle (record { first = i; second = None }) × StandFor first second (record { first = i; second = None })
unfolding Taken code
long_taken first second i big h e = (
  record { legal = refl; first = h.0; second = tt },
  ap (words (instr_code i)) (long_word i.op second e h.1)
      ∙ two_words (instr_code i) second first second big h.2 refl,
)

double_taken : (first second : ℕ) (o p : Option Instr) → 2 ^ 31 ≤ first →
    IfSome o (λ i. Taken i second (first - 2 ^ 31)) → IfSome p (λ i. Taken i 0 second) →
    IfSome (double o p) (λ b. FitsBundle b × StandFor first second b)
unfolding Taken code
double_taken first second None p big h k = tt
double_taken first second (Some i) None big h k =
    split (is_long i.op) (Some (record { first = i; second = None })) None (λ b. FitsBundle b × StandFor first second b)
    (long_taken first second i big h) (λ _. tt)
double_taken first second (Some i) (Some j) big h k =
    split (is_long i.op) (Some (record { first = i; second = None })) (beside i (Some j)) (λ b. FitsBundle b
    × StandFor first second b)
    (long_taken first second i big h)
    (λ l. split (is_second_kind j.op) (Some (record { first = i; second = Some j })) None (λ b. FitsBundle b
    × StandFor first second b)
    (λ t. (
      record { legal = rw (l, t) refl; first = h.0; second = k.0 },
      two_words (instr_code i) (instr_code j) first
          second big h.2 k.2,
    ))
    (λ _. tt))

-- the bundle that is found fits its fields, and the words stand for it
pub bundle_taken : (first second : ℕ) → first < 2 ^ 32 → second < 2 ^ 32
    → IfSome (bundle_at first second) (λ b. FitsBundle b × StandFor first second b)
unfolding Taken code bundle_at
bundle_taken first second f s =
    split (nat_lt first (2 ^ 31)) (lone (instr_at first 0)) (double (instr_at (first - 2 ^ 31) second)
    (instr_at second 0)) (λ b. FitsBundle b × StandFor first second b)
    (λ e. lone_taken first second (instr_at first 0) (grind (arith, nat_tests)) (instr_taken first 0 (omega arith)))
    (λ e. double_taken first second (instr_at (first - 2 ^ 31) second) (instr_at second 0) (grind (arith, nat_tests))
    (instr_taken (first - 2 ^ 31) second s) (instr_taken second 0 (omega arith)))

-- what first and second word a bundle's words are
one_back : (w first second : ℕ) → words w None ≡ (if nat_lt first (2 ^ 31) then first ∷ [] else first ∷ second ∷ []) →
    (nat_lt first (2 ^ 31) ≡ true) × (first ≡ w)
one_back w first second e = grind (arith, nat_tests)

two_back : (w v first second : ℕ) → words w (Some v) ≡ (if nat_lt first (2 ^ 31) then first ∷ [] else first
    ∷ second ∷ []) →
    (nat_lt first (2 ^ 31) ≡ false) × (first - 2 ^ 31 ≡ w) × (second ≡ v)
two_back w v first second e = grind (arith, nat_tests)

alone_back : (g : Guard) (op : Op) → FitsInstr (record { guard = g; op = op }) → (first second : ℕ) →
    StandFor first second (record { first = record { guard = g; op = op }; second = None }) →
    bundle_at first second ≡ Some (record { first = record { guard = g; op = op }; second = None })
unfolding code bundle_at
alone_back g (AluLong f rd ra c) h first second e =
    let i : Instr = record { guard = g; op = AluLong f rd ra c } in
    let t : (nat_lt first (2 ^ 31) ≡ false) × (first - 2 ^ 31 ≡ instr_code i) × (second ≡ c) =
    two_back (instr_code i) c first second e in
    rw (t.0, t.1, t.2, instr_back i h c refl) refl
alone_back g op h first second e =
    let i : Instr = record { guard = g; op = op } in
    let t : (nat_lt first (2 ^ 31) ≡ true) × (first ≡ instr_code i) = one_back (instr_code i) first second e in
    rw (t.0, t.1, instr_back i h 0 tt) refl

short_has : (op : Op) (c : ℕ) → is_long op ≡ false → HasConstant op c
short_has (AluLong f rd ra d) c e = cc
short_has _ c e = tt

second_has : (op : Op) (c : ℕ) → is_second_kind op ≡ true → HasConstant op c
second_has (AluLong f rd ra d) c e = cc
second_has _ c e = tt

beside_back : (i j : Instr) → FitsInstr i → FitsInstr j → is_long i.op ≡ false → is_second_kind j.op ≡ true
    → (first second : ℕ) →
    StandFor first second (record { first = i; second = Some j }) → bundle_at first second
    ≡ Some (record { first = i; second = Some j })
unfolding code bundle_at
beside_back i j h k l t first second e =
    let s : (nat_lt first (2 ^ 31) ≡ false) × (first - 2 ^ 31 ≡ instr_code i) × (second ≡ instr_code j) =
    two_back (instr_code i) (instr_code j) first second e in
    rw (
      s.0,
      s.1,
      s.2,
      instr_back i h (instr_code j) (short_has i.op (instr_code j) l),
      instr_back j k 0
          (second_has j.op 0 t),
      l,
      t,
    ) refl

both_true : (a b : Bool) → IsTrue (not a && b) → (a ≡ false) × (b ≡ true)
both_true true b e = cc
both_true false b e = (refl, e)

slots_back : (i : Instr) (o : Option Instr) → FitsBundle (record { first = i; second = o }) → (first second : ℕ) →
    StandFor first second (record { first = i; second = o }) → bundle_at first second
    ≡ Some (record { first = i; second = o })
slots_back i None h first second e = alone_back i.guard i.op h.first first second e
slots_back i (Some j) h first second e =
    let t : (is_long i.op ≡ false) × (is_second_kind j.op ≡ true) =
    both_true (is_long i.op) (is_second_kind j.op) h.legal in
    beside_back i j h.first h.second t.0 t.1 first second e

-- where words stand for a bundle that fits its fields, that bundle is found
pub bundle_back : (b : PlainBundle) → FitsBundle b → (first second : ℕ) → StandFor first second b
    → bundle_at first second ≡ Some b
bundle_back b h first second e = slots_back b.first b.second h first second e

-- the bundle that is found is exactly the one for which the words stand
pub bundle_exact : (first second : ℕ) → first < 2 ^ 32 → second < 2 ^ 32 → (o : Option PlainBundle) → o
    ≡ bundle_at first second → Decodes first second o
bundle_exact first second f s None e =
    λ b h t. let k : bundle_at first second ≡ Some b = bundle_back b h first second t in cc
bundle_exact first second f s (Some b) e =
    subst (λ p. IfSome p (λ b. FitsBundle b × StandFor first second b)) (sym e) (bundle_taken first second f s)

-- words that stand for a bundle
words_stand : (w : ℕ) (o : Option ℕ) → w < 2 ^ 31 → (first : ℕ) × (second : ℕ)
    × (words w o ≡ (if nat_lt first (2 ^ 31) then first ∷ [] else first ∷ second ∷ []))
words_stand w None h = (w, 0, one_word w w 0 h refl)
words_stand w (Some v) h = (2 ^ 31 + w, v, two_words w v (2 ^ 31 + w) v (omega arith) (omega arith) refl)

-- bundles of one code are one bundle
pub code_apart : (a b : PlainBundle) → FitsBundle a → FitsBundle b → code a ≡ code b → a ≡ b
unfolding code
code_apart a b f g e =
    let t : (first : ℕ) × (second : ℕ)
    × (code a ≡ (if nat_lt first (2 ^ 31) then first ∷ [] else first ∷ second ∷ [])) =
    words_stand (instr_code a.first) (second_word a.first.op a.second) (instr_small a.first f.first) in
    let k : bundle_at t.0 t.1 ≡ Some a = bundle_back a f t.0 t.1 t.2 in
    let l : bundle_at t.0 t.1 ≡ Some b = bundle_back b g t.0 t.1 (sym e ∙ t.2) in
    cc

-- A loop's counter, in a register or in the frame, counts its iterations, whatever loads from other memories give.
use Rattle.std.proofs.Common.{◌≡◌, ℕ, zero, suc, ◌+◌, ◌^◌, ◌<◌, ◌≤◌, ◌==◌, true, not, List, [], ◌∷◌, ◌++◌, refl, sym, ap, ◌∙◌, subst, arith, ne_eqb}
use Rattle.patmos_instr.specs.Bundles.{PlainBundle}
use Rattle.patmos_instr.specs.declared.functions.CmpFunc.TheVariants as cmp
use Rattle.patmos_instr.specs.declared.functions.ImmFunc.TheVariants as imm
use Rattle.sp_shape.proofs.Whole.{once_whole, run_append}
use Rattle.sp_shape.specs.Formed.{are_calm}
use Rattle.sp_shape.specs.Parts.{PlainParts}
use Rattle.sp_shape.specs.Run.{Run, Sources, branches, once, run, IsWhole}
use Rattle.sp_shape.specs.Trail.{Step, all_done, parts_trail}
use Rattle.sp_shape.specs.Iterating.{AsksAgain, AsksNoMore, AllIterations}
use Rattle.sp_emit.specs.Holding.{held, so}
use Rattle.sp_emit.specs.Instructions.{always, with_short, compare_short}
use Rattle.sp_emit.specs.Places.{word_of, fetch_word, fetched_at, keep_word, stack_word}
use Rattle.sp_emit.specs.Statements.{iterations_tail}
use Rattle.sp_emit.specs.declared.registers.TheConstants.{SPARE, MORE}
use Rattle.sp_emit.proofs.Asking.{same_ways, back_again, again, no_more, counts_down, tests_count}
use Rattle.sp_emit.proofs.Calm.{calm_done}
use Rattle.sp_emit.specs.Flags.{no_flags}
use Rattle.sp_emit.specs.declared.stands.Homes.{Homes}
use Rattle.sp_emit.proofs.Low.{low_within}
use Rattle.sp_emit.proofs.Effects.{AreIn}
use Rattle.sp_emit.proofs.Walks.{tails}
use Rattle.sp_emit.proofs.Passing.{Ready, ready_still, low, Passes, passes_done}
use Rattle.sp_emit.proofs.WordPlaces.{fetch_is, fetched_some, fetched_few, fetch_leaves, keep_is, keep_leaves, behind_word, word_still}

-- the counter's word after a body that leaves it
still : (homes counter n : ℕ) (m t : Run) → Passes (homes + counter) (stack_word homes counter) m t
    → word_of homes counter m ≡ n → word_of homes counter t ≡ n
still homes counter n m t p is = behind_word homes counter m t p.keeps ∙ is

-- up to the branch
abbrev counter_tested : ℕ → ℕ → List PlainBundle
counter_tested homes counter =
    fetch_word homes counter
    ∷ with_short always imm.Sub (fetched_at homes counter) (fetched_at homes counter) 1
    ∷ keep_word homes counter
    ∷ compare_short cmp.Neq MORE (fetched_at homes counter) 0
    ∷ []

tested_calm : (homes counter : ℕ) → are_calm (counter_tested homes counter) ≡ true
tested_calm homes counter =
    let left = fetched_at homes counter in
    let kept = keep_is (λ b. are_calm (b ∷ compare_short cmp.Neq MORE left 0 ∷ []) ≡ true) homes counter refl
    (λ out. refl) in
    fetch_is (λ b. are_calm (b ∷ with_short always imm.Sub left left 1 ∷ keep_word homes counter
    ∷ compare_short cmp.Neq MORE left 0 ∷ []) ≡ true) homes counter kept (λ out. kept)

-- a counter that was so much and 1, before its branch
record Counted (homes counter n : ℕ) (m t : Run) : Type 0 where
  whole : IsWhole t
  test : so MORE t ≡ not (n == 0)
  word : word_of homes counter t ≡ n
  ways : t.ways ≡ m.ways

counter_counted : (from : Sources) (homes counter n : ℕ) (m : Run) → from.stack ≡ true → 1 ≤ homes → IsWhole m
    → counter < 128 → word_of homes counter m ≡ suc n → suc n < 2 ^ 32
    → Counted homes counter n m (run from (all_done (counter_tested homes counter)) m)
counter_counted from homes counter n m told some whole few is word =
    let left = fetched_at homes counter in
    let m1 = once from (fetch_word homes counter) m in
    let h1 = once_whole from (fetch_word homes counter) m whole in
    let m2 = once from (with_short always imm.Sub left left 1) m1 in
    let h2 = once_whole from (with_short always imm.Sub left left 1) m1 h1 in
    let c2 : held left m2 ≡ n = counts_down from left n m1 h1 (fetched_some homes counter some) (fetched_few homes
    counter) (fetch_leaves from homes counter m told whole few ∙ is) word in
    let m3 = once from (keep_word homes counter) m2 in
    let h3 = once_whole from (keep_word homes counter) m2 h2 in
    let back = keep_leaves from homes counter m2 h2 few in
    let behind =
    calm_done from SPARE homes (compare_short cmp.Neq MORE left 0 ∷ []) m3 (omega arith) h3 refl in
    let m4 = once from (compare_short cmp.Neq MORE left 0) m3 in
    record {
      whole = behind.whole;
      test = tests_count from MORE left n m3 h3 (omega arith) (omega arith) (back.stays ∙ c2);
      word = word_still homes counter m3 m4 behind.high behind.stack behind.st ∙ back.word ∙ c2;
      ways = same_ways from (counter_tested homes counter) m (tested_calm homes counter);
    }

tail_low : (homes counter : ℕ) → AreIn (low (homes + (counter + 1)) (stack_word homes (counter + 1)))
    (iterations_tail homes counter)
tail_low homes counter =
    let places : Homes = record { first = homes; flags = no_flags } in
    tails (low_within places counter) counter (omega arith) refl

-- a tail, and what it leaves of the counter
record TailCounted (homes counter n : ℕ) (m t : Run) : Type 0 where
  keeps : Passes (homes + (counter + 1)) (stack_word homes (counter + 1)) m t
  word : word_of homes counter t ≡ n

tail_counted : (from : Sources) (homes counter n : ℕ) (m : Run) → from.stack ≡ true → 1 ≤ homes → IsWhole m
    → counter < 128 → word_of homes counter m ≡ suc n → suc n < 2 ^ 32
    → TailCounted homes counter n m (run from (all_done (iterations_tail homes counter)) m)
tail_counted from homes counter n m told some whole few is word =
    let c = counter_counted from homes counter n m told some whole few is word in
    let t = run from (all_done (counter_tested homes counter)) m in
    let k = calm_done from SPARE homes (back_again MORE) t (omega arith) c.whole refl in
    record {
      keeps = passes_done from (homes + (counter + 1)) (stack_word homes (counter + 1)) (iterations_tail homes counter)
          m (omega (arith, few)) whole (tail_low homes counter);
      word = word_still homes counter t (run from (all_done (back_again MORE)) t) k.high k.stack k.st ∙ c.word;
    }

asks_again : (from : Sources) (homes counter n : ℕ) (m : Run) → from.stack ≡ true → 1 ≤ homes → IsWhole m
    → counter < 128 → word_of homes counter m ≡ suc (suc n) → suc (suc n) < 2 ^ 32
    → AsksAgain (run from) (iterations_tail homes counter) m
asks_again from homes counter n m told some whole few is word =
    let c = counter_counted from homes counter (suc n) m told some whole few is word in
    again from MORE (run from (all_done (counter_tested homes counter)) m) c.whole (c.test
    ∙ ap not (ne_eqb (suc n) 0 (omega arith))) ∙ ap (λ w. w ++ branches ∷ []) c.ways

asks_no_more : (from : Sources) (homes counter : ℕ) (m : Run) → from.stack ≡ true → 1 ≤ homes → IsWhole m
    → counter < 128 → word_of homes counter m ≡ 1 → AsksNoMore (run from) (iterations_tail homes counter) m
asks_no_more from homes counter m told some whole few is =
    let c = counter_counted from homes counter 0 m told some whole few is (omega arith) in
    no_more from MORE (run from (all_done (counter_tested homes counter)) m) c.whole c.test ∙ c.ways

-- all iterations of a loop whose body leaves the counter
pub counter_iterations : (from : Sources) (f : ℕ → List Step) (Body : Run → Type 0) (body : PlainParts)
    (homes counter least : ℕ) → from.stack ≡ true → 1 ≤ homes → counter < 128
    → ((m : Run) → Ready least m → Body m)
    → ((m : Run) → Ready least m → Passes (homes + counter) (stack_word homes counter) m (run from (parts_trail f body) m))
    → (n : ℕ) → n < 2 ^ 32 → (m : Run) → Ready least m → word_of homes counter m ≡ n
    → AllIterations (run from) Body (parts_trail f body) (iterations_tail homes counter) n m
counter_iterations from f Body body homes counter least told some few each passes zero word m ready is = tt
counter_iterations from f Body body homes counter least told some few each passes (suc zero) word m ready is =
    let p = passes m ready in (
      each m ready,
      asks_no_more from homes counter (run from (parts_trail f body) m) told some p.whole few
          (still homes counter 1 m (run from (parts_trail f body) m) p is),
    )
counter_iterations from f Body body homes counter least told some few each passes (suc (suc n)) word m ready is =
    let p = passes m ready in
    let t = run from (parts_trail f body) m in
    let c = tail_counted from homes counter (suc n) t told some p.whole few (still homes counter (suc (suc n)) m t p is)
    word in
    let u = run from (all_done (iterations_tail homes counter)) t in (
      each m ready,
      asks_again from homes counter n t told some p.whole few (still homes counter (suc (suc n)) m t p is) word,
      subst (AllIterations (run from) Body (parts_trail f body) (iterations_tail homes counter) (suc n))
          (sym (run_append from (parts_trail f body) (all_done (iterations_tail homes counter)) m))
          (counter_iterations from f Body body homes counter least told some few each passes (suc n) (omega (arith, word))
          u (ready_still (ready_still ready p) c.keeps) c.word),
    )

-- A program that is alone by the texts of a job is so by what its tasks reach.
use Rattle.std.proofs.Common.{◌≡◌, ◌≢◌, ℕ, zero, suc, ◌+◌, ◌<◌, ◌==◌, not, ◌&&◌, ◌||◌, Bool, true, false, List, [], ◌∷◌, inl, inr, slice_index_or, refl, sym, ap, ◌∙◌, subst, arith, true≢false, ne_eqb}
use Rattle.std.specs.List.{Contains}
use Rattle.std.proofs.lemmas.Bool.{and_parts}
use Rattle.argo_ni.specs.Packet.{comm_word}
use Rattle.c_tree.specs.Plain.{PlainItem}
use Rattle.c_world.specs.declared.region.Region.{Region}
use Rattle.c_world.specs.declared.region.Region.TheVariants as region
use Rattle.c_mentions.specs.Alone.{Running, idle, assembly, program, reaches, writes_shared, any_other, is_alone_with, is_alone}
use Rattle.c_mentions.specs.Mentions.{Array, comm_array, shared_array, mentions, assigns}
use Rattle.c_mentions.specs.Mentions as source
use Rattle.sp_tree.specs.Uses.{reads_cell, reads_array, writes_cell, writes_array, uses_of}
use Rattle.single_path.specs.Single.{single}
use Rattle.single_path.specs.Used.{same_region, reads_region, writes_region, memory_of}
use Rattle.single_path.proofs.TakenIn.{taken_reads, taken_writes}
use Rattle.task_machine.specs.Machines.{IsCommOf, MayChange, IsAlone}
use Rattle.task_words.specs.Reach.{ReadsIn, WritesIn, MayLoadWord}
use Rattle.c_task.specs.Programs.{task_of, task_on}
use Rattle.c_task.proofs.Runs.{any_of, sent_in_text}

-- ---- tasks of other cores

not_first : (a b : Bool) → (a || b) ≡ false → a ≡ false
not_first true b is = absurd (true≢false is)
not_first false b is = refl

not_second : (a b : Bool) → (a || b) ≡ false → b ≡ false
not_second true b is = absurd (true≢false is)
not_second false b is = is

not_right : (a b : Bool) → a ≡ false → (not a && b) ≡ false → b ≡ false
not_right true b is h = absurd (true≢false is)
not_right false b is h = h

not_both : (a b : Bool) → not (a && b) ≡ true → a ≡ true → b ≡ false
not_both true true h is = absurd (true≢false (sym h))
not_both true false h is = refl
not_both false b h is = absurd (true≢false (sym is))

none_other : (core : ℕ) (test : Running → Bool) → test idle ≡ false → (at : ℕ) (tasks : List Running)
    → any_other core test at tasks ≡ false → (i : ℕ) → at + i ≢ core → test (slice_index_or tasks i idle) ≡ false
none_other core test rests at [] none i away = rests
none_other core test rests at (t ∷ tasks) none zero away =
    let here : at + 0 ≡ at = omega arith in
    not_right (at == core) (test t) (ne_eqb at core (λ same. away (here ∙ same)))
    (not_first (not (at == core) && test t) (any_other core test (at + 1) tasks) none)
none_other core test rests at (t ∷ tasks) none (suc i) away =
    let there : at + suc i ≡ at + 1 + i = omega arith in
    none_other core test rests (at + 1) tasks (not_second (not (at == core) && test t)
    (any_other core test (at + 1) tasks) none) i (λ same. away (there ∙ same))

-- ---- what a tree uses is in its text

same_itself : (r s : Region) → r ≡ s → same_region s r ≡ true
same_itself r s same = subst (λ k. same_region s k ≡ true) (sym same) (by s)
  where
    by : (s : Region) → same_region s s ≡ true
    by region.Scratch = refl
    by _ = refl

pub mentioned : (items : List PlainItem) (a : Array) → ReadsIn (Contains (uses_of (single items))) (memory_of a)
    → mentions a items ≡ true
mentioned items a (inl (c, (at, is))) = taken_reads a items (any_of (reads_region (memory_of a))
    (uses_of (single items)) (reads_cell c) at (same_itself c.region (memory_of a) is))
mentioned items a (inr (c, (at, is))) = taken_reads a items (any_of (reads_region (memory_of a))
    (uses_of (single items)) (reads_array c) at (same_itself c.region (memory_of a) is))

pub assigned : (items : List PlainItem) (a : Array) → WritesIn (Contains (uses_of (single items))) (memory_of a)
    → assigns a items ≡ true
assigned items a (inl (c, (at, is))) = taken_writes a items (any_of (writes_region (memory_of a))
    (uses_of (single items)) (writes_cell c) at (same_itself c.region (memory_of a) is))
assigned items a (inr (c, (at, is))) = taken_writes a items (any_of (writes_region (memory_of a))
    (uses_of (single items)) (writes_array c) at (same_itself c.region (memory_of a) is))

-- ---- words of different cores

comm_apart : (c d word : ℕ) → IsCommOf c word → IsCommOf d word → c ≡ d
comm_apart c d word (j, (few, is)) (k, (few', is')) =
    let both : comm_word c j ≡ comm_word d k = sym is ∙ is' in omega (arith, few, few', both)

not_shared : (c word : ℕ) → IsCommOf c word → word < 4096 → ⊥
not_shared c word (j, (few, is)) low = omega (arith, is, low)

-- ---- alone

module _ (items : List PlainItem) (n core : ℕ) (tasks : List Running) where
  -- no task of another core may change what the text mentions
  record Leave (other : Running) : Type 0 where
    comm : mentions comm_array items ≡ true → reaches core other ≡ false
    shared : mentions shared_array items ≡ true → writes_shared other ≡ false

  left_by : (at : ℕ) → at ≢ core → (t : Running) → Leave t → (word : ℕ)
      → MayLoadWord (Contains (uses_of (single items))) core word → MayChange (task_of t) at word → ⊥
  left_by at away idle l word read changes = changes
  left_by at away assembly l word (inl (low, reads)) changes =
      true≢false (l.shared (mentioned items shared_array reads))
  left_by at away assembly l word (inr (k, (few, (is, reads)))) changes =
      true≢false (l.comm (mentioned items comm_array reads))
  left_by at away (program others) l word (inl (low, reads)) (inl (inl (low', writes))) =
      true≢false (sym (assigned others shared_array writes) ∙ l.shared (mentioned items shared_array reads))
  left_by at away (program others) l word (inl (low, reads)) (inl (inr (k, (few, (is, writes))))) =
      not_shared at word (k, (few, is)) low
  left_by at away (program others) l word (inl (low, reads)) (inr (d, (sent, there))) = not_shared d word there low
  left_by at away (program others) l word (inr (k, (few, (is, reads)))) (inl (inl (low, writes))) =
      not_shared core word (k, (few, is)) low
  left_by at away (program others) l word (inr (k, (few, (is, reads)))) (inl (inr (j, (fewer, (same, writes))))) =
      away (comm_apart at core word (j, (fewer, same)) (k, (few, is)))
  left_by at away (program others) l word (inr (k, (few, (is, reads)))) (inr (d, (sent, there))) =
      true≢false (sym (sent_in_text others d sent) ∙ ap (λ c. source.sends_to c others) (comm_apart d core word there
      (k, (few, is))) ∙ l.comm (mentioned items comm_array reads))

  at_zero : (k : ℕ) → 0 + k ≡ k
  at_zero k = omega arith

  leave : is_alone_with core tasks items ≡ true → (other : ℕ) → other ≢ core → Leave (task_on tasks other)
  leave h other away =
      let both = and_parts (not (mentions comm_array items && any_other core (reaches core) 0 tasks))
      (not (mentions shared_array items && any_other core writes_shared 0 tasks)) h in
      record {
        comm = λ is. none_other core (reaches core) refl 0 tasks (not_both (mentions comm_array items)
            (any_other core (reaches core) 0 tasks) both.0 is) other (λ same. away (sym (at_zero other) ∙ same));
        shared = λ is. none_other core writes_shared refl 0 tasks (not_both (mentions shared_array items)
            (any_other core writes_shared 0 tasks) both.1 is) other (λ same. away (sym (at_zero other) ∙ same));
      }

  pub alone_by_texts : task_on tasks core ≡ program items → is_alone core tasks ≡ true
      → IsAlone (single items) n core (λ k. task_of (task_on tasks k))
  alone_by_texts is h other below away word read changes =
      left_by other away (task_on tasks other)
      (leave (sym (ap (λ t. elim t as (λ _. Bool) [
        | idle ↦ false
        | assembly ↦ false
        | program own ↦
            is_alone_with core tasks own
      ]) is) ∙ h) other away) word read changes

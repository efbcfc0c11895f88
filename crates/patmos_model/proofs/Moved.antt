-- A transfer is its transactions.
use Rattle.std.proofs.Common.{◌≡◌, ℕ, zero, suc, ◌+◌, ◌-◌, ◌*◌, ◌/◌, Bool, true, false, List, [], ◌∷◌, ◌++◌, length, append_assoc, append-nil, refl, sym, ap, subst, ◌∙◌, arith}
use Rattle.method_cache.specs.declared.cache.Method.{Method}
use Rattle.method_cache.specs.Residents.{resident, is_among, fill_of}
use Rattle.patmos_model.specs.declared.transfer.Transfer.{Transfer}
use Rattle.patmos_model.specs.declared.transfer.Then.TheVariants as then_on
use Rattle.patmos_model.specs.State.{Core}
use Rattle.patmos_model.specs.Transfers.{nothing, reads}
use Rattle.patmos_model.specs.Flows.{fetch_of}
use Rattle.patmos_model.specs.Transaction.{counted, burst}
use Rattle.patmos_model.specs.Bursts.{slots_of, bursts_in, bursts, in_cycles, moved_in}

made_in : (cycles : List ℕ) (slots : ℕ) (c : Core) → length cycles ≡ slots
    → (moved_in cycles c).seen.accesses ≡ c.seen.accesses ++ in_cycles cycles (bursts_in slots c.plain.transfer.write
    c.plain.transfer.words)
made_in [] slots c count = sym (append-nil c.seen.accesses)
made_in (cycle ∷ cycles) zero c count = absurd (omega (arith, count))
made_in (cycle ∷ cycles) (suc slots) c count =
    made_in cycles slots (counted cycle c) (omega (arith, count))
    ∙ append_assoc c.seen.accesses (record {
      cycle = cycle;
      write = c.plain.transfer.write;
      words = burst c.plain.transfer;
    } ∷ [])
    (in_cycles cycles (bursts_in slots c.plain.transfer.write (c.plain.transfer.words - 4)))

pub bursts_made : (c : Core) (cycles : List ℕ) → length cycles ≡ slots_of c.plain.transfer.words
    → (moved_in cycles c).seen.accesses ≡ c.seen.accesses ++ in_cycles cycles (bursts c.plain.transfer)
bursts_made c cycles count = made_in cycles (slots_of c.plain.transfer.words) c count

words_after : (cycles : List ℕ) (c : Core) → (moved_in cycles c).plain.transfer.words ≡ c.plain.transfer.words - 4
    * length cycles
words_after [] c = omega arith
words_after (cycle ∷ cycles) c = words_after cycles (counted cycle c)
    ∙ (let one : c.plain.transfer.words - 4 - 4 * length cycles ≡ c.plain.transfer.words - 4
    * suc (length cycles) = omega arith in one)

pub all_moved : (c : Core) (cycles : List ℕ) → length cycles ≡ slots_of c.plain.transfer.words
    → (moved_in cycles c).plain.transfer.words ≡ 0
all_moved c cycles count = omega (arith, words_after cycles c, count)

how_many : (slots : ℕ) (write : Bool) (words : ℕ) → length (bursts_in slots write words) ≡ slots
how_many zero write words = refl
how_many (suc slots) write words = ap suc (how_many slots write (words - 4))

-- what is fetched, by whether the method cache has the function
abbrev fetched_by : ℕ → Bool → Transfer
fetched_by words hit = elim hit [ true ↦ nothing | false ↦ reads (words + 1) then_on.Nothing ]

pub fill_takes : (misses : List Method) (m : Method) → is_among m.function (resident misses) ≡ false
    → length (bursts (fetch_of misses m)) ≡ fill_of m.words
fill_takes misses m miss = subst (λ hit. length (bursts (fetched_by m.words hit)) ≡ fill_of m.words) (sym miss)
    (how_many (slots_of (m.words + 1)) false (m.words + 1))

pub hit_takes_none : (misses : List Method) (m : Method) → is_among m.function (resident misses) ≡ true
    → bursts (fetch_of misses m) ≡ []
hit_takes_none misses m hit = subst (λ hit. bursts (fetched_by m.words hit) ≡ []) (sym hit) refl

-- What code asks for, whatever its loads give: bundles that reach the stack alone; and code after other code.
use Rattle.std.proofs.Common.{◌≡◌, ℕ, ◌%◌, Bool, true, false, true≢false, List, [], ◌∷◌, ◌++◌, append-nil, refl, sym, ap, ◌∙◌, subst, arith}
use Rattle.std.proofs.lemmas.List.{append_assoc}
use Rattle.std.proofs.lemmas.List.Elements.{All-nil, All-cons, All-append}
use Rattle.patmos_instr.specs.Bundles.{PlainBundle}
use Rattle.patmos_instr.specs.declared.memories.Mem.TheVariants as mem
use Rattle.patmos_sem.specs.Bundles.{effect_of}
use Rattle.patmos_sem.specs.declared.effects.Effect.{Effect}
use Rattle.patmos_sem.specs.declared.effects.Effect.TheVariants as effect
use Rattle.sp_tree.specs.Uses.{Use}
use Rattle.sp_shape.proofs.Along.{parts_have, Composes, parts_along, Relates, run_done}
use Rattle.sp_shape.proofs.Whole.{behind, once_whole, run_append, run_whole}
use Rattle.sp_shape.specs.Parts.{PlainParts}
use Rattle.sp_shape.specs.Run.{Run, IsWhole, Sources, once, effected, run, begun}
use Rattle.sp_shape.specs.Trail.{Step, begins, all_done, parts_trail}
use Rattle.sp_emit.specs.Accesses.{MayAsk, cached_addresses, cached_address, Asks, AsksOnly}
use Rattle.sp_emit.proofs.Effects.{Footprint, is_in, AreIn, everything, IsWide, IsWordOf, AsksIn, effect_in}
use Rattle.sp_emit.proofs.Portless.{unwritten_start, start_append, words_left, words_right}

-- ---- one after another

cached_append : (xs ys : List Effect) → cached_addresses (xs ++ ys) ≡ cached_addresses xs ++ cached_addresses ys
cached_append [] ys = refl
cached_append (x ∷ xs) ys = ap (λ l. cached_address x ++ l) (cached_append xs ys)
    ∙ sym (append_assoc (cached_address x) (cached_addresses xs) (cached_addresses ys))

pub asks_none : (Named : Use → Type 0) (m t : Run) → t.asked ≡ m.asked → Asks Named [] m t
asks_none Named m t same =
    record { news = []; is = same ∙ sym (append-nil m.asked); may = All-nil (MayAsk Named); loads = refl }

pub asks_then : {Named : Use → Type 0} {xs ys : List ℕ} {m n t : Run} → Asks Named xs m n → Asks Named ys n t
    → Asks Named (xs ++ ys) m t
asks_then {Named} {xs} {ys} {m} {n} {t} a b = record {
  news = a.news ++ b.news;
  is = b.is ∙ ap (λ l. l ++ b.news) a.is ∙ append_assoc m.asked a.news b.news;
  may = All-append (MayAsk Named) a.news b.news a.may b.may;
  loads = cached_append a.news b.news ∙ ap (λ l. l ++ cached_addresses b.news) a.loads ∙ ap (λ l. xs ++ l) b.loads;
}

pub asks_append : {Named : Use → Type 0} {xs ys : List Step} → AsksOnly Named xs → AsksOnly Named ys
    → AsksOnly Named (xs ++ ys)
asks_append {Named} {xs} {ys} a b = record {
  cached = a.cached ++ b.cached;
  asks = λ from m whole. subst (Asks Named (a.cached ++ b.cached) m) (sym (run_append from xs ys m))
      (asks_then (a.asks from m whole) (b.asks from (run from xs m) (run_whole from xs m whole)));
  starts = λ from m whole words.
      start_append from xs ys m (a.starts from m whole (words_left from xs ys m words)) (b.starts from (run from xs m)
      (run_whole from xs m whole) (words_right from xs ys m words));
}

pub asks_nothing : (Named : Use → Type 0) → AsksOnly Named []
asks_nothing Named =
    record { cached = []; asks = λ from m whole. asks_none Named m m refl; starts = λ from m whole words. tt }

asks_begun : {Named : Use → Type 0} {xs : List Step} → AsksOnly Named xs → AsksOnly Named (begins ∷ xs)
asks_begun {Named} {xs} a = record {
  cached = a.cached;
  asks = λ from m whole. asks_then (asks_none Named m (begun m) refl)
      (a.asks from (begun m) (run_whole from (begins ∷ []) m whole));
  starts = λ from m whole words. a.starts from (begun m) (run_whole from (begins ∷ []) m whole) words;
}

pub asks_compose : (Named : Use → Type 0) → Composes (AsksOnly Named)
asks_compose Named = record { none = asks_nothing Named; both = λ xs ys a b. asks_append a b }

-- ---- bundles that reach no memory but the stack

abbrev pub nearby : Footprint
nearby = record everything { loads = false; writes = false }

pub near_wide : IsWide nearby
near_wide = record { sets = λ r. refl; reads = λ word. refl; stores = λ word. refl }

asks_one : (Named : Use → Type 0) (e : Effect) (m t : Run) → t.asked ≡ m.asked ++ e ∷ [] → MayAsk Named e
    → cached_address e ≡ [] → Asks Named [] m t
asks_one Named e m t is may none = record {
  news = e ∷ [];
  is = is;
  may = All-cons (MayAsk Named) e [] may
      (All-nil (MayAsk Named));
  loads = append-nil (cached_address e) ∙ none;
}

aligned : {may : ℕ → Bool} {address : ℕ} → IsWordOf may address → address % 4 ≡ 0
aligned w = let is = w.2 in omega (arith, is)

near_asked : (Named : Use → Type 0) (from : Sources) (e : Effect) (m : Run) → AsksIn nearby e
    → Asks Named [] m (effected from e m)
near_asked Named from (effect.Load mem.S width rd address) m asks =
    asks_one Named (effect.Load mem.S width rd address) m _ refl (asks.0, aligned asks.1) refl
near_asked Named from (effect.Load _ width rd address) m asks = absurd (true≢false (sym asks))
near_asked Named from (effect.Store mem.S width address value) m asks =
    asks_one Named (effect.Store mem.S width address value) m _ refl (asks.0, aligned asks.1) refl
near_asked Named from (effect.Store _ width address value) m asks = absurd (true≢false (sym asks))
near_asked Named from (effect.StackOp func count) m asks = asks_one Named (effect.StackOp func count) m _ refl tt refl
near_asked Named from _ m asks = asks_none Named m _ refl

near_once : (Named : Use → Type 0) (from : Sources) (b : PlainBundle) (m : Run) → is_in nearby b ≡ true → IsWhole m
    → Asks Named [] m (once from b m)
near_once Named from b m within whole =
    let a = near_asked Named from (effect_of b m.regs) (behind b m) (effect_in nearby b m.regs whole.fits.zero within) in
    record { news = a.news; is = a.is; may = a.may; loads = a.loads }

abbrev Near : (Use → Type 0) → Run → Run → Type 0
Near Named m t = IsWhole t × Asks Named [] m t

near_relates : (Named : Use → Type 0) → Relates IsWhole (Near Named)
near_relates Named = record {
  same = λ m whole. (whole, asks_none Named m m refl);
  then = λ m n t a b. (b.0, asks_then a.1 b.1);
  fit = λ m t whole a. a.0;
}

pub near_run : (Named : Use → Type 0) (from : Sources) (bs : List PlainBundle) (m : Run) → IsWhole m → AreIn nearby bs
    → Asks Named [] m (run from (all_done bs) m)
near_run Named from bs m whole all =
    (run_done from IsWhole (Near Named) (near_relates Named) (is_in nearby)
    (λ b m within whole. (once_whole from b m whole, near_once Named from b m within whole)) bs all m whole).1

pub near_asks : (Named : Use → Type 0) (bs : List PlainBundle) → AreIn nearby bs → AsksOnly Named (all_done bs)
near_asks Named bs all = record {
  cached = [];
  asks = λ from m whole. near_run Named from bs m whole all;
  starts = λ from m whole words. unwritten_start from nearby refl bs m all;
}

-- parts of such bundles, and calls
pub near_parts : (Named : Use → Type 0) (f : ℕ → List Step) (may : ℕ → Bool)
    → ((k : ℕ) → may k ≡ true → AsksOnly Named (f k)) → (ps : PlainParts) → parts_have (is_in nearby) may ps ≡ true
    → AsksOnly Named (parts_trail f ps)
near_parts Named f may called ps all = parts_along (AsksOnly Named) f (is_in nearby) may (record {
  composes = asks_compose Named;
  done = near_asks Named;
  called = λ k is. asks_begun (called k is);
}) ps all

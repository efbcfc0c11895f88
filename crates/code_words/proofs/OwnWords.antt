-- What a bundle's effect leaves of a core's own words, its words being moved.
use Rattle.std.proofs.Common.{◌≡◌, if◌then◌else◌, ℕ, zero, suc, ◌+◌, ◌*◌, ◌/◌, ◌%◌, ◌<◌, ◌≤◌, ◌==◌, cond, List, [], ◌∷◌, ◌++◌, Option, None, Some, inl, inr, sym, ap, ◌∙◌, subst, arith}
use Rattle.std.specs.Prelude.{slice_index, unwrap_or}
use Rattle.shared_order.specs.Words.{put}
use Rattle.data_cache.specs.Accesses as cache
use Rattle.local_store.specs.declared.map.Space.TheVariants.{Local, Main}
use Rattle.local_store.specs.declared.map.Cell.{Cell}
use Rattle.local_store.specs.declared.map.Cell.TheVariants as cell
use Rattle.local_store.proofs.Cells.{private_at}
use Rattle.stack_cache.specs.Stack.{reserved, spilled}
use Rattle.patmos_instr.specs.declared.functions.StackFunc.TheVariants.{Sres}
use Rattle.patmos_instr.specs.declared.memories.Mem.TheVariants as mem
use Rattle.patmos_instr.specs.declared.memories.StoreWidth.{StoreWidth}
use Rattle.patmos_instr.specs.declared.memories.StoreWidth.TheVariants as store
use Rattle.patmos_sem.specs.Narrow.{merged}
use Rattle.patmos_sem.specs.declared.effects.Effect.{Effect}
use Rattle.patmos_sem.specs.declared.effects.Effect.TheVariants as effect
use Rattle.patmos_model.specs.Site.{Site}
use Rattle.patmos_model.specs.State.{Core, with_plain}
use Rattle.patmos_model.specs.Cells.{cell_of}
use Rattle.patmos_model.specs.Transaction.{line_address}
use Rattle.patmos_model.proofs.Acts.{port_cases}
use Rattle.core_pace.proofs.StackWords.{kept_below, put_here, put_there}
use Rattle.sp_shape.specs.Memory as run
use Rattle.sp_shape.specs.Memory.{Memory}
use Rattle.sp_shape.specs.Pointers.{pointers_of}
use Rattle.sp_shape.specs.Run.{Run, effected}
use Rattle.std.proofs.lemmas.List.{map-append}
use Rattle.code_core.specs.Goes.{by_stack}
use Rattle.code_core.specs.Held.{HoldsStack, HoldsPorts}
use Rattle.code_core.specs.Sound.{IsSound, IsLocalLoadable, IsMainLoadable, IsLocalStorable, IsMainStorable}
use Rattle.code_core.proofs.Outcome as outcome
use Rattle.code_core.proofs.Outcome.{did, sent_as, port_at, scratch_at, IsLike, IsWordOf, Given, IsLineOf, LoadsLine, hits, misses, Caches}
use Rattle.code_core.proofs.StackHeld.{reserves}
use Rattle.code_words.specs.Own.{sending_of, HoldsOwn, AreOwn, IsBelow, IsUncached, KeepsApart}
use Rattle.code_words.proofs.Lines.{after_hit, after_miss, after_store}
use Rattle.code_words.proofs.Saying.{IsOwnWord, OfLoad}

put_alike : (f g : ℕ → ℕ) (at v w x : ℕ) → v ≡ w → f x ≡ g x → put at v f x ≡ put at w g x
put_alike f g at v w x same there = λ i. cond (at == x) (same i) (there i)

pub private_cell : (address : ℕ) → address / 4 < 49152 → cell_of Main address ≡ Some (cell.Private (address / 4))
private_cell address low = private_at (address / 4) (address / 4 * 4) (omega arith) (omega (arith, low))

pub line_cell : (address : ℕ) → address / 4 < 49152 → cell_of Main (line_address address)
    ≡ Some (cell.Private (address / 16 * 4))
line_cell address low = private_at (address / 16 * 4) (address / 16 * 16 / 4 * 4) (omega arith) (omega (arith, low))

-- four words from a place on
one_of_four : (f : ℕ → ℕ) (w i a : ℕ) → i < 4 → w + i ≡ a → slice_index (f w ∷ f (w + 1) ∷ f (w + 2) ∷ f (w + 3) ∷ []) i
    ≡ f a
one_of_four f w zero a few is = ap f (omega (arith, is))
one_of_four f w (suc zero) a few is = ap f is
one_of_four f w (suc (suc zero)) a few is = ap f is
one_of_four f w (suc (suc (suc zero))) a few is = ap f is
one_of_four f w (suc (suc (suc (suc i)))) a few is = absurd (omega (arith, few))

module _ (Cached : ℕ → Type 0) (are_own : AreOwn Cached) (site : Site) (m : Run) (d : Core)
    (stack : HoldsStack m d.plain.stack d.plain.private) (h : HoldsOwn Cached m.memory d)
    (ports : HoldsPorts m.memory d.plain.interface) where
  -- ---- what loads gave

  local_said : (value : ℕ) (place : Option Cell) → IsLocalLoadable place → IsWordOf place d.plain value
      → IsOwnWord place m.memory value
  local_said value None s given = absurd s
  local_said value (Some (cell.Scratch word)) s given = given ∙ h.scratch word
  local_said value (Some (cell.Comm word)) s given = tt
  local_said value (Some (cell.Port target register)) s given = absurd s
  local_said value (Some (cell.Private word)) s given = absurd s
  local_said value (Some (cell.Shared word)) s given = absurd s

  main_said : (value : ℕ) (place : Option Cell) → IsMainLoadable place → IsBelow place → IsWordOf place d.plain value
      → IsOwnWord place m.memory value
  main_said value None s low given = absurd s
  main_said value (Some (cell.Scratch word)) s low given = absurd s
  main_said value (Some (cell.Comm word)) s low given = absurd s
  main_said value (Some (cell.Port target register)) s low given = absurd s
  main_said value (Some (cell.Private word)) s low given = given ∙ h.private word low
  main_said value (Some (cell.Shared word)) s low given = tt

  -- the words of a line that was read
  line_is : (address : ℕ) (line : List ℕ) → Cached address → IsLineOf (cell_of Main (line_address address)) d.plain line
      → line ≡ d.plain.private (address / 16 * 4) ∷ d.plain.private (address / 16 * 4 + 1)
      ∷ d.plain.private (address / 16 * 4 + 2) ∷ d.plain.private (address / 16 * 4 + 3) ∷ []
  line_is address line c of = subst (λ place. IsLineOf place d.plain line) (line_cell address (are_own address c)) of

  -- by the data cache it is the word of private memory
  cached_said : (address value : ℕ) (cached : List cache.Access) → Cached address
      → LoadsLine (cell_of Main (line_address address)) d address value cached → value ≡ d.plain.private (address / 4)
  cached_said address value cached c (hits hit is) = h.fresh address value c hit
  cached_said address value cached c (misses line of gave is) =
      gave ∙ ap (λ l. slice_index l (address / 4 % 4)) (line_is address line c of)
      ∙ one_of_four d.plain.private (address / 16 * 4) (address / 4 % 4) (address / 4) (omega arith) (omega arith)

  pub own_said : (e : Effect) (value : ℕ) (cached : List cache.Access) → IsSound site e (pointers_of m) m.memory
      → KeepsApart Cached e → Given e d.plain value → Caches e d value cached
      → OfLoad IsOwnWord e m.memory value
  own_said (effect.Load mem.L width rd address) value cached s a given has =
      local_said value (cell_of Local address) s.2 given
  own_said (effect.Load mem.C width rd address) value cached s a given has =
      subst (λ place. IsOwnWord place m.memory value) (sym (private_cell address (are_own address a)))
      (cached_said address value cached a has ∙ h.private (address / 4) (are_own address a))
  own_said (effect.Load mem.M width rd address) value cached s a given has =
      main_said value (cell_of Main address) s.2 a given
  own_said _ value cached s a given has = tt

  -- ---- the words

  -- a core with the same words of its own
  with_same : (c : Core) → c.plain.scratch ≡ d.plain.scratch → c.plain.private ≡ d.plain.private → c.seen.sendings
      ≡ d.seen.sendings
      → ((address word : ℕ) → Cached address → cache.cached_word c.seen.cached address ≡ Some word → word
      ≡ d.plain.private (address / 4)) → HoldsOwn Cached m.memory c
  with_same c scratch private sendings fresh = record {
    scratch = λ word. ap (λ f. f word) scratch ∙ h.scratch word;
    private = λ word low. ap (λ f. f word) private ∙ h.private word low;
    fresh = λ address word there hit. fresh address word there hit ∙ sym (ap (λ f. f (address / 4)) private);
    sent = sendings ∙ h.sent;
  }

  -- and the same in its data cache
  fresh_still : (cached : List cache.Access) → cached ≡ d.seen.cached → (address word : ℕ) → Cached address
      → cache.cached_word cached address ≡ Some word → word ≡ d.plain.private (address / 4)
  fresh_still cached same address word there hit =
      h.fresh address word there (sym (ap (λ l. cache.cached_word l address) same) ∙ hit)

  still : (c : Core) → c.plain.scratch ≡ d.plain.scratch → c.plain.private ≡ d.plain.private → c.seen.sendings
      ≡ d.seen.sendings → c.seen.cached ≡ d.seen.cached → HoldsOwn Cached m.memory c
  still c scratch private sendings cached = with_same c scratch private sendings (fresh_still c.seen.cached cached)

  fresh_loaded : (address value : ℕ) (cached : List cache.Access) → Cached address
      → LoadsLine (cell_of Main (line_address address)) d address value cached
      → (other word : ℕ) → Cached other → cache.cached_word cached other ≡ Some word → word
      ≡ d.plain.private (other / 4)
  fresh_loaded address value cached c (hits hit is) other word there found =
      h.fresh other word there (after_hit d.seen.cached address value other word hit
      (sym (ap (λ l. cache.cached_word l other) is) ∙ found))
  fresh_loaded address value cached c (misses line of gave is) other word there found =
      elim (after_miss d.seen.cached address line other word (sym (ap (λ l. cache.cached_word l other) is) ∙ found)) [
        | inl k ↦ sym k.1 ∙ ap (λ l. slice_index l (cache.place_of other)) (line_is address line c of)
            ∙ one_of_four d.plain.private (address / 16 * 4) (other / 4 % 4) (other / 4) (omega arith)
            (omega (arith, k.0))
        | inr k ↦ h.fresh other word there k
      ]

  local_own : (width : StoreWidth) (address value : ℕ) (c : Core) → width ≡ store.Word → (place : Option Cell)
      → IsLocalStorable site m.memory value place
      → IsLike (sent_as (port_at place value d)
      (with_plain (λ x. record x { scratch = scratch_at place width address value x }) d)) c → c.seen.cached
      ≡ d.seen.cached
      → HoldsOwn Cached (run.with_word place (merged width address (run.word_at place m.memory) value) m.memory) c
  local_own width address value c word None s is cached = absurd s
  local_own width address value c word (Some (cell.Private at)) s is cached = absurd s
  local_own width address value c word (Some (cell.Shared at)) s is cached = absurd s
  local_own width address value c word (Some (cell.Scratch at)) s is cached = record {
    scratch = λ x. ap (λ f. f x) is.scratch ∙ put_alike d.plain.scratch m.memory.scratch at _ _ x (ap
        (λ old. merged width address old value) (h.scratch at)) (h.scratch x);
    private = λ x low. ap (λ f. f x) is.private ∙ h.private x low;
    fresh = λ other found there hit. fresh_still c.seen.cached cached other found there hit
        ∙ sym (ap (λ f. f (other / 4)) is.private);
    sent = is.sendings ∙ h.sent;
  }
  local_own width address value c word (Some (cell.Comm at)) s is cached =
      let k = still c is.scratch is.private is.sendings cached in record {
        scratch = k.scratch;
        private = k.private;
        fresh = k.fresh;
        sent = k.sent;
      }
  local_own width address value c word (Some (cell.Port target register)) s is cached =
      port_cases (λ a b x. IsLike (sent_as x d) c
      → HoldsOwn Cached (if a then record m.memory { source = put target new m.memory.source } else
      (if b then record m.memory { target = put target new m.memory.target }
      else record m.memory {
        starts = m.memory.starts ++ record {
          core = target;
          source = m.memory.source target;
          target = m.memory.target target;
          count = new;
        } ∷ [];
      })) c) target register value d
      (λ b is. let k = still c is.scratch is.private is.sendings cached in record {
        scratch = k.scratch;
        private = k.private;
        fresh = k.fresh;
        sent = k.sent;
      })
      (λ is. let k = still c is.scratch is.private is.sendings cached in record {
        scratch = k.scratch;
        private = k.private;
        fresh = k.fresh;
        sent = k.sent;
      })
      (λ is. record {
        scratch = λ x. ap (λ f. f x) is.scratch ∙ h.scratch x;
        private = λ x low. ap (λ f. f x) is.private ∙ h.private x low;
        fresh = λ other found there hit. fresh_still c.seen.cached cached other found there hit
            ∙ sym (ap (λ f. f (other / 4)) is.private);
        sent = is.sendings
            ∙ (λ i. h.sent i ++ record {
              target = target;
              from = ports.source target s.0 i;
              to = ports.target target s.0
                  i;
              count = merged (sym word i) address 0 value;
            } ∷ [])
            ∙ sym (map-append sending_of m.memory.starts (record {
              core = target;
              source = m.memory.source target;
              target = m.memory.target target;
              count = new;
            } ∷ []));
      }) is
    where
      new : ℕ
      new = merged width address 0 value

  -- a private word is stored, where the data cache then has what memory has
  put_own : (width : StoreWidth) (address value at : ℕ) (c : Core) → at < 49152
      → IsLike (with_plain (λ x. record x { private = put at (merged width address (x.private at) value) x.private }) d)
      c
      → ((other word : ℕ) → Cached other → cache.cached_word c.seen.cached other ≡ Some word → word
      ≡ put at (merged width address (d.plain.private at) value) d.plain.private (other / 4))
      → HoldsOwn Cached (record m.memory {
        private = put at (merged width address (m.memory.private at) value)
            m.memory.private;
      }) c
  put_own width address value at c low is fresh = record {
    scratch = λ x. ap (λ f. f x) is.scratch ∙ h.scratch x;
    private = λ x below. ap (λ f. f x) is.private ∙ put_alike d.plain.private m.memory.private at _ _ x (ap
        (λ old. merged width address old value) (h.private at low)) (h.private x below);
    fresh = λ other word there hit. fresh other word there hit ∙ sym (ap (λ f. f (other / 4)) is.private);
    sent = is.sendings ∙ h.sent;
  }

  -- past the data cache, at a word that it never loads
  main_own : (width : StoreWidth) (address value : ℕ) (c : Core) (place : Option Cell) → IsMainStorable place
      → IsUncached Cached place
      → IsLike (with_plain (λ x. record x { private = outcome.private_at place width address value x }) d) c
      → c.seen.cached ≡ d.seen.cached
      → HoldsOwn Cached (run.with_word place (merged width address (run.word_at place m.memory) value) m.memory) c
  main_own width address value c None s apart is cached = absurd s
  main_own width address value c (Some (cell.Scratch at)) s apart is cached = absurd s
  main_own width address value c (Some (cell.Comm at)) s apart is cached = absurd s
  main_own width address value c (Some (cell.Port target register)) s apart is cached = absurd s
  main_own width address value c (Some (cell.Private at)) s apart is cached =
      put_own width address value at c s is (λ other word there hit. fresh_still c.seen.cached cached other word there
      hit ∙ sym (put_there d.plain.private at _ (other / 4) (λ e. apart other there (sym e))))
  main_own width address value c (Some (cell.Shared at)) s apart is cached =
      let k = still c is.scratch is.private is.sendings cached in record {
        scratch = k.scratch;
        private = k.private;
        fresh = k.fresh;
        sent = k.sent;
      }

  -- by the data cache
  cache_own : (width : StoreWidth) (address value : ℕ) (c : Core) → width ≡ store.Word → address / 4 < 49152
      → IsLike (with_plain (λ x. record x { private = outcome.private_at (cell_of Main address) width address value x })
      d) c
      → c.seen.cached ≡ d.seen.cached ++ cache.Store address (merged width address
      (unwrap_or (cache.cached_word d.seen.cached address) 0) value) ∷ []
      → HoldsOwn Cached (run.with_word (cell_of Main address)
      (merged width address (run.word_at (cell_of Main address) m.memory) value) m.memory) c
  cache_own width address value c word low is cached =
      subst (λ place. IsLike (with_plain (λ x. record x { private = outcome.private_at place width address value x }) d)
      c
      → HoldsOwn Cached (run.with_word place (merged width address (run.word_at place m.memory) value) m.memory) c)
      (sym (private_cell address low))
      (λ is. put_own width address value (address / 4) c low is fresh) is
    where
      whole : (old : ℕ) → merged width address old value ≡ value
      whole old = ap (λ w. merged w address old value) word

      old : ℕ
      old = unwrap_or (cache.cached_word d.seen.cached address) 0

      new : ℕ → ℕ
      new = put (address / 4) (merged width address (d.plain.private (address / 4)) value) d.plain.private

      fresh : (other found : ℕ) → Cached other → cache.cached_word c.seen.cached other ≡ Some found → found
          ≡ new (other / 4)
      fresh other found there hit = elim (after_store d.seen.cached address (merged width address old value) other found
          (sym (ap (λ l. cache.cached_word l other) cached) ∙ hit)) [
            | inl k ↦ sym k.1 ∙ whole old
                ∙ sym (ap new (sym k.0) ∙ put_here d.plain.private (address / 4) (merged width address
                (d.plain.private (address / 4)) value) ∙ whole (d.plain.private (address / 4)))
            | inr k ↦ h.fresh other found there k.1 ∙ sym (put_there d.plain.private (address / 4)
                (merged width address (d.plain.private (address / 4)) value) (other / 4) k.0)
          ]

  pub own_left : (e : Effect) (value : ℕ) (c : Core) → IsSound site e (pointers_of m) m.memory → KeepsApart Cached e
      → IsLike (did e value d) c → Caches e d value c.seen.cached
      → HoldsOwn Cached (effected by_stack e m).memory c
  own_left (effect.Load mem.C width rd address) value c s a is has =
      with_same c is.scratch is.private is.sendings (fresh_loaded address value c.seen.cached a has)
  own_left (effect.Store mem.L width address stored) value c s a is has =
      local_own width address stored c s.0 (cell_of Local address) s.2 is has
  own_left (effect.Store mem.C width address stored) value c s a is has = cache_own width address stored c s.0 a is has
  own_left (effect.Store mem.M width address stored) value c s a is has =
      main_own width address stored c (cell_of Main address) s.2 a is has
  own_left (effect.StackOp Sres count) value c s a is has =
      let high : 49152 ≤ (reserved count d.plain.stack).ss =
      omega (arith, (reserves count m d.plain.stack d.plain.private stack s.0 s.1).is_stack) in
      record {
        scratch = λ x. ap (λ f. f x) is.scratch ∙ h.scratch x;
        private = λ x low. ap (λ f. f x) is.private ∙ kept_below d.plain.private (reserved count d.plain.stack).ss
            (spilled count d.plain.stack) x (omega (arith, low, high)) ∙ h.private x low;
        fresh = λ other found there hit. fresh_still c.seen.cached has other found there hit
            ∙ sym (ap (λ f. f (other / 4)) is.private ∙ kept_below d.plain.private (reserved count d.plain.stack).ss
            (spilled count d.plain.stack) (other / 4) (omega (arith, are_own other there, high)));
        sent = is.sendings ∙ h.sent;
      }
  own_left (effect.StackOp _ count) value c s a is has = still c is.scratch is.private is.sendings has
  own_left _ value c s a is has = still c is.scratch is.private is.sendings has

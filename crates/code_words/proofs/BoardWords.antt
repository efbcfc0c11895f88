-- What a bundle's effect leaves of the words that other cores reach too, its words being moved.
use Rattle.std.proofs.Common.{◌≡◌, if◌then◌else◌, ℕ, ◌<◌, ◌==◌, Bool, true, false, List, [], ◌∷◌, ◌++◌, Option, None, Some, inl, inr, refl, sym, ap, ◌∙◌, subst, arith}
use Rattle.std.specs.Prelude.{IfSome}
use Rattle.std.proofs.lemmas.Bool.{cases_eq}
use Rattle.shared_order.specs.Operation.{load, store}
use Rattle.shared_order.specs.Words.{put, after, Sees}
use Rattle.shared_order.proofs.Words.{after-append, sees_first, sees_rest}
use Rattle.shared_order.specs.declared.operation.Operation.{Operation}
use Rattle.local_store.specs.Map.{IsInRange}
use Rattle.local_store.specs.declared.map.Space.TheVariants.{Local, Main}
use Rattle.local_store.specs.declared.map.Cell.{Cell}
use Rattle.local_store.specs.declared.map.Cell.TheVariants as cell
use Rattle.argo_ni.specs.Packet.{comm_word}
use Rattle.patmos_instr.specs.declared.functions.StackFunc.TheVariants.{Sres, Sens, Sfree}
use Rattle.patmos_instr.specs.declared.memories.Mem.TheVariants as mem
use Rattle.patmos_instr.specs.declared.memories.StoreWidth.{StoreWidth}
use Rattle.patmos_instr.specs.declared.memories.StoreWidth.TheVariants as store_width
use Rattle.patmos_sem.specs.Narrow.{merged}
use Rattle.patmos_sem.specs.declared.effects.Effect.{Effect}
use Rattle.patmos_sem.specs.declared.effects.Effect.TheVariants as effect
use Rattle.patmos_model.specs.Site.{Site}
use Rattle.patmos_model.specs.Cells.{cell_of}
use Rattle.patmos_model.proofs.CellRanges.{cell_in_range}
use Rattle.core_pace.proofs.StackWords.{put_here, put_there}
use Rattle.sp_shape.specs.Memory as run
use Rattle.sp_shape.specs.Memory.{Memory}
use Rattle.sp_shape.specs.Pointers.{pointers_of}
use Rattle.sp_shape.specs.Run.{Run, effected}
use Rattle.code_words.specs.Board.{HoldsBoard}
use Rattle.code_core.specs.Goes.{by_stack}
use Rattle.code_core.specs.Sound.{IsSound, IsLocalLoadable, IsMainLoadable, IsLocalStorable, IsMainStorable}
use Rattle.code_core.proofs.Outcome.{MadeLoad, MadeStore, MadeLine, Made}
use Rattle.code_words.specs.Own.{AreOwn, KeepsApart}
use Rattle.code_words.proofs.Saying.{IsBoardWord, OfLoad}
use Rattle.code_words.proofs.OwnWords.{private_cell, line_cell}

module _ (world : ℕ → ℕ) (board : ℕ) where
  -- a load more: the value is the word's, and the words stay
  loaded_true : (s word value : ℕ) (ops : List Operation) → Sees world (ops ++ load s word value ∷ [])
      → (value ≡ after ops world word) × (after (ops ++ load s word value ∷ []) world ≡ after ops world)
  loaded_true s word value ops so =
      ((sees_rest world ops (load s word value ∷ []) so).0 refl, after-append ops (load s word value ∷ []) world)

  stored_words : (s word value : ℕ) (ops : List Operation) → after (ops ++ store s word value ∷ []) world
      ≡ put word value (after ops world)
  stored_words s word value ops = after-append ops (store s word value ∷ []) world

  comm_stored : (word value : ℕ) (m : Memory) (words : ℕ → ℕ) → word < 512 → HoldsBoard board m words
      → HoldsBoard board (record m { comm = put word value m.comm }) (put (comm_word board word) value words)
  comm_stored word value m words few h = record {
    shared = λ at low. put_there words (comm_word board word) value at (λ e. omega (arith, e, low)) ∙ h.shared at low;
    comm = λ at low. elim (cases_eq at word) [
      | inl same ↦ ap (λ k. put (comm_word board word) value words (comm_word board k)) same
          ∙ put_here words (comm_word board word) value ∙ sym (ap (put word value m.comm) same
          ∙ put_here m.comm word value)
      | inr other ↦ put_there words (comm_word board word) value (comm_word board at) (λ e. other (omega (arith, e)))
          ∙ h.comm at low ∙ sym (put_there m.comm word value at (λ e. other (sym e)))
    ];
  }

  shared_stored : (word value : ℕ) (m : Memory) (words : ℕ → ℕ) → word < 4096 → HoldsBoard board m words
      → HoldsBoard board (record m { shared = put word value m.shared }) (put word value words)
  shared_stored word value m words few h = record {
    shared = λ at low. elim (cases_eq at word) [
      | inl same ↦ ap (put word value words) same ∙ put_here words word value ∙ sym (ap (put word value m.shared) same
          ∙ put_here m.shared word value)
      | inr other ↦ put_there words word value at (λ e. other (sym e)) ∙ h.shared at low
          ∙ sym (put_there m.shared word value at (λ e. other (sym e)))
    ];
    comm = λ at low. put_there words word value (comm_word board at) (λ e. omega (arith, e, few)) ∙ h.comm at low;
  }

  -- what is said of a value, and the memory that the run then has, after these operations
  pub record Tells (Own : Type 0) (k : Memory) (ops : List Operation) : Type 0 where
    pub own : Own
    pub holds_board : HoldsBoard board k (after ops world)

  module _ (Cached : ℕ → Type 0) (are_own : AreOwn Cached) (site : Site) (m : Run) (before : List Operation)
      (h : Sees world before → HoldsBoard board m.memory (after before world)) where
    -- all loads so far were true
    abbrev Says : Type 0 → Memory → List Operation → Type 0
    Says Own k ops = Sees world ops → Tells Own k ops

    -- with no operation more
    still : (Own : Type 0) (k : Memory) (ops : List Operation) → Own → k.shared ≡ m.memory.shared → k.comm
        ≡ m.memory.comm → ops ≡ before → Says Own k ops
    still Own k ops own shared comm same so =
        let b = h (subst (Sees world) same so) in
        record {
          own = own;
          holds_board = subst (λ o. HoldsBoard board k (after o world)) (sym same)
              (record {
                shared = λ word low. b.shared word low ∙ ap (λ f. f word) (sym shared);
                comm = λ word low. b.comm word low ∙ ap (λ f. f word) (sym comm);
              });
        }

    -- one load more
    loaded : (word value : ℕ) (own : ℕ) (ops : List Operation) → (HoldsBoard board m.memory (after before world)
        → after before world word ≡ own) → (s : ℕ) × (ops ≡ before ++ load s word value ∷ [])
        → Says (value ≡ own) m.memory ops
    loaded word value own ops of made so =
        let here : Sees world (before ++ load made.0 word value ∷ []) = subst (Sees world) made.1 so in
        let t = loaded_true made.0 word value before here in
        let b = h (sees_first world before (load made.0 word value ∷ []) here) in
        record {
          own = t.0 ∙ of b;
          holds_board = subst (λ o. HoldsBoard board m.memory (after o world)) (sym made.1)
              (subst (HoldsBoard board m.memory) (sym t.1) b);
        }

    local_loaded : (value : ℕ) (ops : List Operation) (place : Option Cell) → IsLocalLoadable place
        → IfSome place IsInRange → MadeLoad place board value before ops
        → Says (IsBoardWord place m.memory value) m.memory ops
    local_loaded value ops None l r made = absurd l
    local_loaded value ops (Some (cell.Scratch word)) l r made = still _ m.memory ops tt refl refl made
    local_loaded value ops (Some (cell.Comm word)) l r made =
        loaded (comm_word board word) value (m.memory.comm word) ops (λ b. b.comm word r) made
    local_loaded value ops (Some (cell.Port target register)) l r made = absurd l
    local_loaded value ops (Some (cell.Private word)) l r made = absurd l
    local_loaded value ops (Some (cell.Shared word)) l r made = absurd l

    main_loaded : (value : ℕ) (ops : List Operation) (place : Option Cell) → IsMainLoadable place
        → IfSome place IsInRange → MadeLoad place board value before ops
        → Says (IsBoardWord place m.memory value) m.memory ops
    main_loaded value ops None l r made = absurd l
    main_loaded value ops (Some (cell.Scratch word)) l r made = absurd l
    main_loaded value ops (Some (cell.Comm word)) l r made = absurd l
    main_loaded value ops (Some (cell.Port target register)) l r made = absurd l
    main_loaded value ops (Some (cell.Private word)) l r made = still _ m.memory ops tt refl refl made
    main_loaded value ops (Some (cell.Shared word)) l r made =
        loaded word value (m.memory.shared word) ops (λ b. b.shared word r) made

    -- one store more, of a whole word
    stored : (word value : ℕ) (k : Memory) (ops : List Operation) → (HoldsBoard board m.memory (after before world)
        → HoldsBoard board k (put word value (after before world))) → (s : ℕ)
        × (ops ≡ before ++ store s word value ∷ [])
        → Says (Unit {0}) k ops
    stored word value k ops puts made so =
        let b = h (sees_first world before (store made.0 word value ∷ []) (subst (Sees world) made.1 so)) in
        record {
          own = tt;
          holds_board = subst (λ o. HoldsBoard board k (after o world)) (sym made.1)
              (subst (HoldsBoard board k) (sym (stored_words made.0 word value before)) (puts b));
        }

    local_stored : (width : StoreWidth) (address value : ℕ) (ops : List Operation) → width ≡ store_width.Word
        → (place : Option Cell) → IsLocalStorable site m.memory value place → IfSome place IsInRange
        → MadeStore place board value before ops
        → Says (Unit {0}) (run.with_word place (merged width address (run.word_at place m.memory) value) m.memory) ops
    local_stored width address value ops is None l r made = absurd l
    local_stored width address value ops is (Some (cell.Private word)) l r made = absurd l
    local_stored width address value ops is (Some (cell.Shared word)) l r made = absurd l
    local_stored width address value ops is (Some (cell.Scratch word)) l r made = still _ _ ops tt refl refl made
    local_stored width address value ops is (Some (cell.Comm word)) l r made =
        subst (λ w. Says (Unit {0}) (record m.memory {
          comm = put word (merged w address (m.memory.comm word) value)
              m.memory.comm;
        }) ops) (sym is)
        (stored (comm_word board word) value (record m.memory { comm = put word value m.memory.comm }) ops
        (λ b. comm_stored word value m.memory (after before world) r b) made)
    local_stored width address value ops is (Some (cell.Port target register)) l r made =
        by (register == 0) (register == 4)
      where
        new : ℕ
        new = merged width address 0 value

        by : (a b : Bool) → Says (Unit {0}) (if a then record m.memory { source = put target new m.memory.source } else
            (if b then record m.memory { target = put target new m.memory.target }
            else record m.memory {
              starts = m.memory.starts ++ record {
                core = target;
                source = m.memory.source target;
                target = m.memory.target target;
                count = new;
              } ∷ [];
            })) ops
        by true b = still _ _ ops tt refl refl made
        by false true = still _ _ ops tt refl refl made
        by false false = still _ _ ops tt refl refl made

    main_stored : (width : StoreWidth) (address value : ℕ) (ops : List Operation) → width ≡ store_width.Word
        → (place : Option Cell) → IsMainStorable place → IfSome place IsInRange → MadeStore place board value before ops
        → Says (Unit {0}) (run.with_word place (merged width address (run.word_at place m.memory) value) m.memory) ops
    main_stored width address value ops is None l r made = absurd l
    main_stored width address value ops is (Some (cell.Scratch word)) l r made = absurd l
    main_stored width address value ops is (Some (cell.Comm word)) l r made = absurd l
    main_stored width address value ops is (Some (cell.Port target register)) l r made = absurd l
    main_stored width address value ops is (Some (cell.Private word)) l r made = still _ _ ops tt refl refl made
    main_stored width address value ops is (Some (cell.Shared word)) l r made =
        subst (λ w. Says (Unit {0}) (record m.memory {
          shared = put word (merged w address (m.memory.shared word) value)
              m.memory.shared;
        }) ops) (sym is)
        (stored word value (record m.memory { shared = put word value m.memory.shared }) ops
        (λ b. shared_stored word value m.memory (after before world) r b) made)

    pub board_left : (e : Effect) (value : ℕ) (ops : List Operation) → IsSound site e (pointers_of m) m.memory
        → KeepsApart Cached e → Made e board value before ops → Sees world ops
        → Tells (OfLoad IsBoardWord e m.memory value) (effected by_stack e m).memory ops
    board_left (effect.Load mem.S width rd address) value ops l a made = still _ m.memory ops tt refl refl made
    board_left (effect.Load mem.L width rd address) value ops l a made =
        local_loaded value ops (cell_of Local address) l.2 (cell_in_range Local address) made
    board_left (effect.Load mem.C width rd address) value ops l a made =
        subst (λ place. Says (IsBoardWord place m.memory value) m.memory ops)
        (sym (private_cell address (are_own address a)))
        (still _ m.memory ops tt refl refl (subst (λ place. MadeLine place before ops)
        (line_cell address (are_own address a)) made))
    board_left (effect.Load mem.M width rd address) value ops l a made =
        main_loaded value ops (cell_of Main address) l.2 (cell_in_range Main address) made
    board_left (effect.Store mem.S width address value') value ops l a made = still _ m.memory ops tt refl refl made
    board_left (effect.Store mem.L width address stored) value ops l a made =
        local_stored width address stored ops l.0 (cell_of Local address) l.2 (cell_in_range Local address) made
    board_left (effect.Store _ width address stored) value ops l a made =
        main_stored width address stored ops l.0 (cell_of Main address) l.2 (cell_in_range Main address) made
    board_left (effect.StackOp Sres count) value ops l a made = still _ m.memory ops tt refl refl made
    board_left (effect.StackOp Sens count) value ops l a made = still _ m.memory ops tt refl refl made
    board_left (effect.StackOp Sfree count) value ops l a made = still _ m.memory ops tt refl refl made
    board_left _ value ops l a made = still _ m.memory ops tt refl refl made

-- The lines of parts stand for the bundles of the image.
use Rattle.std.proofs.Common.{arith, ◌≡◌, ◌∙◌, ℕ, pos, ◌+◌, ◌-ℤ◌, ◌^◌, ◌<◌, ◌==◌, ◌&&◌, not, nat_lt, Bool, true, false, if◌then◌else◌, List, [], ◌∷◌, ◌++◌, length, refl, sym, ap, subst, Some, codes}
use Rattle.std.specs.Prelude.{unwrap_or}
use Rattle.std.proofs.lemmas.Bool.{and_parts, ltb-true}
use Rattle.std.proofs.lemmas.Int.{ints}
use Rattle.patmos_instr.specs.Bundles.{PlainBundle}
use Rattle.patmos_instr.specs.declared.instructions.Op.{Op}
use Rattle.patmos_instr.specs.declared.instructions.Op.TheVariants as op
use Rattle.patmos_forms.specs.Readers.{is_name}
use Rattle.patmos_syntax.specs.Drafts.{Draft, ready}
use Rattle.patmos_asm.specs.Assembly.{Lookup}
use Rattle.patmos_asm.specs.Printed.{label_name}
use Rattle.patmos_asm.proofs.Counted.{label_is_name}
use Rattle.patmos_asm.proofs.ReadForms as forms
use Rattle.sp_shape.specs.Formed.{is_flow, is_branch, is_call, is_return, is_always, are_calm, are_delay_slots, is_iteration, is_way, part_formed, parts_formed, function_formed}
use Rattle.sp_shape.specs.Parts.{PlainPart, straight, repeats, calls_to, leaves, PlainParts, no_part, part}
use Rattle.sp_shape.specs.Words.{bundle_words, bundles_words, part_words, parts_words}
use Rattle.tc_link.specs.Flat.{call_to, branch_back, called, turned, flat_part, flat_parts, with_op}
use Rattle.tc_link.proofs.Counted.{flat_part_words, flat_words}
use Rattle.code_text.specs.Lines.{Line, remark, begins, marks, does}
use Rattle.code_text.specs.Listing.{name_of, aimed, draft_of, bundle_lines, part_loops, part_lines, parts_lines, loop_end}
use Rattle.code_text.specs.declared.aims.Aim.{Aim}
use Rattle.code_text.specs.declared.aims.Aim.TheVariants.{Onward, Loop, Entry}
use Rattle.code_text.proofs.Standing.{StandsFor, Stand, stand_both}

-- the labels of loops are known: of the first loop in parts this is the number
abbrev mutual
  pub IsKnown : Lookup → ℕ → ℕ → PlainPart → Type 0
  IsKnown labels at loop (repeats count body tail) =
      (labels (label_name loop) ≡ Some at) × (loop < 2 ^ 63) × AreKnown labels at (loop + 1) body
  IsKnown labels at loop _ = Unit {0}

  pub AreKnown : Lookup → ℕ → ℕ → PlainParts → Type 0
  AreKnown labels at loop no_part = Unit {0}
  AreKnown labels at loop (part p rest) =
      IsKnown labels at loop p × AreKnown labels (at + part_words p) (loop + part_loops p) rest

calm_plain : (o : Op) → not (is_flow o) ≡ true → forms.is_flow o ≡ false
calm_plain (op.Branch z) e = cc
calm_plain (op.Call n) e = cc
calm_plain (op.BranchFill n) e = cc
calm_plain _ e = refl

return_plain : (o : Op) → is_return o ≡ true → forms.is_flow o ≡ false
return_plain op.Return e = refl
return_plain (op.Branch z) e = cc
return_plain (op.Call n) e = cc
return_plain (op.BranchFill n) e = cc
return_plain _ e = refl

aimed_calm : (names : List (List ℕ)) (aim : Aim) (o : Op) → not (is_flow o) ≡ true → aimed names aim o ≡ ready o
aimed_calm names (Loop loop) (op.Branch z) e = cc
aimed_calm names (Entry k) (op.Call n) e = cc
aimed_calm names aim o e = refl

stand_end : (functions labels : Lookup) (at : ℕ) (ls : List Line) (bs : List PlainBundle) (note : List ℕ)
    → Stand functions labels at ls bs → Stand functions labels at (ls ++ remark note ∷ []) bs
stand_end functions labels at [] [] note s = tt
stand_end functions labels at [] (x ∷ bs) note s = absurd s
stand_end functions labels at (remark n ∷ ls) bs note s = stand_end functions labels at ls bs note s
stand_end functions labels at (begins n ∷ ls) bs note s = absurd s
stand_end functions labels at (marks loop ∷ ls) bs note s = stand_end functions labels at ls bs note s
stand_end functions labels at (does b n ∷ ls) [] note s = absurd s
stand_end functions labels at (does b n ∷ ls) (x ∷ bs) note s =
    (s.0, stand_end functions labels (at + bundle_words x) ls bs note s.1)

module _ (names : List (List ℕ)) (words : List ℕ) (functions labels : Lookup) where
  plain_stands : (at : ℕ) (b : PlainBundle) (d : Draft) → d ≡ ready b.first.op → forms.is_flow b.first.op ≡ false
      → StandsFor functions labels at (record {
        first = record { guard = b.first.guard; draft = d };
        second = b.second;
      }) b
  plain_stands at b d e plain =
      subst (λ x. StandsFor functions labels at (record {
        first = record { guard = b.first.guard; draft = x };
        second = b.second;
      }) b) (sym e)
      (record { is = refl; known = refl; named = plain; size = refl })

  calm_stands : (aim : Aim) (at : ℕ) (bs : List PlainBundle) → are_calm bs ≡ true
      → Stand functions labels at (bundle_lines names words aim at bs) bs
  calm_stands aim at [] e = tt
  calm_stands aim at (b ∷ bs) e =
      let t = and_parts (not (is_flow b.first.op)) (are_calm bs) e in (
        plain_stands at b (aimed names aim b.first.op) (aimed_calm names aim b.first.op t.0)
            (calm_plain b.first.op t.0),
        calm_stands aim (at + bundle_words b) bs t.1,
      )

  -- ---- the tail of a loop

  back_calm : (behind : ℕ) (b : PlainBundle) → not (is_flow b.first.op) ≡ true → branch_back behind b ≡ b
  back_calm behind b e = so b.first.op e
    where
      so : (o : Op) → not (is_flow o) ≡ true → branch_back behind (with_op o b) ≡ with_op o b
      so (op.Branch z) e = cc
      so _ e = refl

  turned_calm : (behind : ℕ) (bs : List PlainBundle) → are_calm bs ≡ true → turned behind bs ≡ bs
  turned_calm behind [] e = refl
  turned_calm behind (b ∷ bs) e =
      let t = and_parts (not (is_flow b.first.op)) (are_calm bs) e in
      ap (λ x. x ∷ turned (behind + bundle_words b) bs) (back_calm behind b t.0)
      ∙ ap (λ xs. b ∷ xs) (turned_calm (behind + bundle_words b) bs t.1)

  branch_stands : (loop begin behind at : ℕ) (b : PlainBundle) → labels (label_name loop) ≡ Some begin
      → loop < 2 ^ 63 → at
      ≡ begin + behind → is_branch b.first.op ≡ true
      → StandsFor functions labels at (draft_of names (Loop loop) b) (branch_back behind b)
  branch_stands loop begin behind at b found small here e = so b.first.op e
    where
      so : (o : Op) → is_branch o ≡ true → StandsFor functions labels at (draft_of names (Loop loop) (with_op o b))
          (branch_back behind (with_op o b))
      so (op.Branch z) e = record {
        is = ap (λ (o : Op). with_op o b) (ap (λ p. op.Branch (pos (unwrap_or p 0) -ℤ pos at)) found
            ∙ ap (λ z. op.Branch z) (omega (arith, ints, here)));
        known = rw found refl;
        named = label_is_name loop (omega (arith, small));
        size = refl;
      }
      so _ e = cc

  slots_calm : (count : ℕ) (bs : List PlainBundle) → are_delay_slots count bs ≡ true → are_calm bs ≡ true
  slots_calm count bs e = (and_parts (length bs == count) (are_calm bs) e).1

  back_words : (behind : ℕ) (b : PlainBundle) → bundle_words (branch_back behind b) ≡ bundle_words b
  back_words behind b = so b.first.op
    where
      so : (o : Op) → bundle_words (branch_back behind (with_op o b)) ≡ bundle_words (with_op o b)
      so (op.Branch z) = refl
      so _ = refl

  iteration_first : (t : Bool) (loop begin behind at : ℕ) (b : PlainBundle) (bs : List PlainBundle)
      → is_branch b.first.op ≡ t
      → labels (label_name loop) ≡ Some begin → loop < 2 ^ 63 → at ≡ begin + behind
      → (is_iteration bs ≡ true → Stand functions labels (at + bundle_words b) (bundle_lines names words (Loop loop)
      (at + bundle_words b) bs) (turned (behind + bundle_words b) bs))
      → (if t then are_delay_slots 2 bs else (not (is_flow b.first.op) && is_iteration bs)) ≡ true
      → Stand functions labels at (bundle_lines names words (Loop loop) at (b ∷ bs)) (turned behind (b ∷ bs))
  iteration_first true loop begin behind at b bs is found small here more rest =
      let calm = slots_calm 2 bs rest in (
        branch_stands loop begin behind at b found small here is,
        subst (λ xs. Stand functions labels (at + bundle_words (branch_back behind b))
            (bundle_lines names words (Loop loop) (at + bundle_words b) bs) xs)
            (sym (turned_calm (behind + bundle_words b) bs calm))
            (subst (λ n. Stand functions labels (at + n) (bundle_lines names words (Loop loop) (at + bundle_words b) bs)
            bs) (sym (back_words behind b)) (calm_stands (Loop loop) (at + bundle_words b) bs calm)),
      )
  iteration_first false loop begin behind at b bs is found small here more rest =
      let t = and_parts (not (is_flow b.first.op)) (is_iteration bs) rest in
      subst (λ x. StandsFor functions labels at (draft_of names (Loop loop) b) x
      × Stand functions labels (at + bundle_words x) (bundle_lines names words (Loop loop) (at + bundle_words b) bs)
      (turned (behind + bundle_words b) bs)) (sym (back_calm behind b t.0)) (
        plain_stands at b (aimed names (Loop loop) b.first.op) (aimed_calm names (Loop loop) b.first.op t.0)
            (calm_plain b.first.op t.0),
        more t.1,
      )

  iteration_stands : (loop begin behind at : ℕ) (bs : List PlainBundle) → labels (label_name loop) ≡ Some begin
      → loop < 2 ^ 63 → at ≡ begin + behind → is_iteration bs ≡ true
      → Stand functions labels at (bundle_lines names words (Loop loop) at bs) (turned behind bs)
  iteration_stands loop begin behind at [] found small here e = tt
  iteration_stands loop begin behind at (b ∷ bs) found small here e =
      iteration_first (is_branch b.first.op) loop begin behind at b bs refl found small here
      (iteration_stands loop begin (behind + bundle_words b) (at + bundle_words b) bs found small
      (omega (arith, here))) e

  -- ---- calls and returns

  call_stands : (k start at : ℕ) (b : PlainBundle) → functions (name_of names k) ≡ Some start
      → is_name (name_of names k)
      ≡ true → is_call b.first.op ≡ true
      → StandsFor functions labels at (draft_of names (Entry k) b) (call_to start b) × (bundle_words (call_to start b)
      ≡ bundle_words b)
  call_stands k start at b found named e = so b.first.op e
    where
      so : (o : Op) → is_call o ≡ true → StandsFor functions labels at (draft_of names (Entry k) (with_op o b))
          (call_to start (with_op o b)) × (bundle_words (call_to start (with_op o b)) ≡ bundle_words (with_op o b))
      so (op.Call n) e = (
        record {
          is = ap (λ (o : Op). with_op o b) (ap (λ p. op.Call (unwrap_or p 0)) found);
          known = rw found refl;
          named = named;
          size = refl;
        },
        refl,
      )
      so _ e = cc

  way_parts : (is_it : Op → Bool) (b : PlainBundle) (bs : List PlainBundle) → is_way is_it (b ∷ bs) ≡ true
      → (is_it b.first.op ≡ true) × (are_calm bs ≡ true)
  way_parts is_it b bs e =
      let t = and_parts (is_it b.first.op) (is_always b.first.guard && are_delay_slots 3 bs) e in
      (t.0, slots_calm 3 bs (and_parts (is_always b.first.guard) (are_delay_slots 3 bs) t.1).1)

  entry_stands : (k start at : ℕ) (bs : List PlainBundle) → functions (name_of names k) ≡ Some start
      → is_name (name_of names k) ≡ true → is_way is_call bs ≡ true
      → Stand functions labels at (bundle_lines names words (Entry k) at bs) (called start bs)
  entry_stands k start at [] found named e = tt
  entry_stands k start at (b ∷ bs) found named e =
      let t = way_parts is_call b bs e in
      let c = call_stands k start at b found named t.0 in (
        c.0,
        subst (λ n. Stand functions labels (at + n) (bundle_lines names words (Entry k) (at + bundle_words b) bs)
            bs) (sym c.1) (calm_stands (Entry k) (at + bundle_words b) bs t.1),
      )

  return_stands : (at : ℕ) (bs : List PlainBundle) → is_way is_return bs ≡ true
      → Stand functions labels at (bundle_lines names words Onward at bs) bs
  return_stands at [] e = tt
  return_stands at (b ∷ bs) e =
      let t = way_parts is_return b bs e in (
        plain_stands at b (ready b.first.op) refl (return_plain b.first.op t.0),
        calm_stands Onward
            (at + bundle_words b) bs t.1,
      )

  -- ---- parts

  module _ (start : ℕ → ℕ) (number : ℕ) (found : (k : ℕ) → k < number → functions (name_of names k) ≡ Some (start k))
      (named : (k : ℕ) → k < number → is_name (name_of names k) ≡ true) where
    both_stand : (at loop : ℕ) (p : PlainPart) (rest : PlainParts)
        → Stand functions labels at (part_lines names words at loop p) (flat_part start p)
        → Stand functions labels (at + part_words p) (parts_lines names words (at + part_words p) (loop + part_loops p)
        rest) (flat_parts start rest)
        → Stand functions labels at (parts_lines names words at loop (part p rest)) (flat_parts start (part p rest))
    both_stand at loop p rest one more =
        stand_both functions labels at (part_lines names words at loop p) (parts_lines names words (at + part_words p)
        (loop + part_loops p) rest) (flat_part start p) (flat_parts start rest) one
        (subst (λ n. Stand functions labels (at + n) (parts_lines names words (at + part_words p) (loop + part_loops p)
        rest) (flat_parts start rest)) (sym (flat_part_words start p)) more)

    mutual
      part_stands : (at loop : ℕ) (p : PlainPart) → part_formed number p ≡ true → IsKnown labels at loop p
          → Stand functions labels at (part_lines names words at loop p) (flat_part start p)
      part_stands at loop (straight bs) e known = calm_stands Onward at bs e
      part_stands at loop (repeats count body tail) e known =
          let t = and_parts (nat_lt 0 count) (parts_formed number body && is_iteration tail) e in
          let u = and_parts (parts_formed number body) (is_iteration tail) t.1 in
          stand_both functions labels at (parts_lines names words at (loop + 1) body)
          (bundle_lines names words (Loop loop) (at + parts_words body) tail ++ loop_end loop ∷ [])
          (flat_parts start body) (turned (parts_words body) tail)
          (parts_stand at (loop + 1) body u.0 known.2)
          (subst (λ n. Stand functions labels (at + n)
          (bundle_lines names words (Loop loop) (at + parts_words body) tail ++ loop_end loop ∷ [])
          (turned (parts_words body) tail)) (sym (flat_words start body))
          (stand_end functions labels (at + parts_words body) (bundle_lines names words (Loop loop)
          (at + parts_words body) tail) (turned (parts_words body) tail) (codes "end " ++ label_name loop)
          (iteration_stands loop at (parts_words body) (at + parts_words body) tail known.0 known.1 refl u.1)))
      part_stands at loop (calls_to k tail) e known =
          let t = and_parts (nat_lt k number) (is_way is_call tail) e in
          let below : k < number = ltb-true k number t.0 in
          entry_stands k (start k) at tail (found k below) (named k below) t.1
      part_stands at loop (leaves tail) e known = cc

      parts_stand : (at loop : ℕ) (ps : PlainParts) → parts_formed number ps ≡ true → AreKnown labels at loop ps
          → Stand functions labels at (parts_lines names words at loop ps) (flat_parts start ps)
      parts_stand at loop no_part e known = tt
      parts_stand at loop (part p rest) e known =
          let t = and_parts (part_formed number p) (parts_formed number rest) e in
          both_stand at loop p rest (part_stands at loop p t.0 known.0) (parts_stand (at + part_words p)
          (loop + part_loops p) rest t.1 known.1)

    one_more : (at loop : ℕ) (p : PlainPart) (rest : PlainParts)
        → (function_formed number rest ≡ true → AreKnown labels (at + part_words p) (loop + part_loops p) rest
        → Stand functions labels (at + part_words p) (parts_lines names words (at + part_words p) (loop + part_loops p)
        rest) (flat_parts start rest))
        → part_formed number p && function_formed number rest ≡ true → AreKnown labels at loop (part p rest)
        → Stand functions labels at (parts_lines names words at loop (part p rest)) (flat_parts start (part p rest))
    one_more at loop p rest more e known =
        let t = and_parts (part_formed number p) (function_formed number rest) e in
        both_stand at loop p rest (part_stands at loop p t.0 known.0) (more t.1 known.1)

    -- the parts of a function, the last of which is its return
    pub function_stands : (at loop : ℕ) (ps : PlainParts) → function_formed number ps ≡ true
        → AreKnown labels at loop ps → Stand functions labels at (parts_lines names words at loop ps)
        (flat_parts start ps)
    function_stands at loop no_part e known = cc
    function_stands at loop (part (leaves tail) no_part) e known =
        both_stand at loop (leaves tail) no_part (return_stands at tail e) tt
    function_stands at loop (part (leaves tail) (part p rest)) e known = cc
    function_stands at loop (part (straight bs) rest) e known =
        one_more at loop (straight bs) rest (function_stands (at + bundles_words bs) (loop + 0) rest) e known
    function_stands at loop (part (repeats count body tail) rest) e known =
        one_more at loop (repeats count body tail) rest (function_stands (at + part_words (repeats count body tail))
        (loop + part_loops (repeats count body tail)) rest) e known
    function_stands at loop (part (calls_to k tail) rest) e known =
        one_more at loop (calls_to k tail) rest (function_stands (at + bundles_words tail) (loop + 0) rest) e known

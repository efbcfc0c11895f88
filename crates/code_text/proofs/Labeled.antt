-- The labels of a function's loops: they rise, and each is found at the first word of its loop's body.
use Rattle.std.proofs.Common.{arith, ◌≡◌, ◌∙◌, ℕ, ◌+◌, ◌^◌, ◌<◌, ◌≤◌, List, [], ◌∷◌, ◌++◌, refl, sym, ap, subst, append_assoc, append-nil, true, ◌||◌, ◌&&◌, is_some, if◌then◌else◌, nat_lt, Some, codes}
use Rattle.std.proofs.lemmas.Bool.{and_parts}
use Rattle.patmos_instr.specs.Instructions.{is_long}
use Rattle.patmos_instr.specs.declared.instructions.Op.{Op}
use Rattle.patmos_instr.specs.declared.instructions.Op.TheVariants as op
use Rattle.patmos_syntax.specs.Drafts.{is_long_draft, size_of}
use Rattle.sp_shape.specs.Formed.{is_iteration, part_formed, parts_formed, function_formed}
use Rattle.std.specs.Fmt.{decimal}
use Rattle.patmos_instr.specs.Bundles.{PlainBundle}
use Rattle.patmos_syntax.specs.Items.{Item}
use Rattle.patmos_asm.specs.Assembly.{Lookup, Places, place_of, labels_from}
use Rattle.patmos_asm.specs.Printed.{label_name}
use Rattle.patmos_asm.proofs.Counted.{label_apart, bytes_eq_refl}
use Rattle.patmos_asm.proofs.Lines.{lacks}
use Rattle.sp_shape.specs.Parts.{PlainPart, straight, repeats, calls_to, leaves, PlainParts, no_part, part}
use Rattle.sp_shape.specs.Words.{bundle_words, bundles_words, part_words, parts_words}
use Rattle.code_text.specs.Lines.{Line, remark, begins, marks, does}
use Rattle.code_text.specs.Listing.{aimed, draft_of, bundle_lines, part_loops, parts_loops, part_lines, parts_lines, loop_end}
use Rattle.code_text.specs.declared.aims.Aim.{Aim}
use Rattle.code_text.specs.declared.aims.Aim.TheVariants.{Onward, Loop, Entry}
use Rattle.code_text.proofs.Inline.{lacks_both, decimal_inline, label_inline, note_inline}
use Rattle.code_text.proofs.Placing.{IsKnown, AreKnown}
use Rattle.code_text.proofs.Reading.{items_at}
use Rattle.code_text.proofs.Standing.{Stand, Rise, AreInline, inline_both}

-- the labels of loops, with the offsets of their bodies
abbrev mutual
  pub marks_in : ℕ → ℕ → PlainPart → Places
  marks_in at loop (repeats count body tail) = (label_name loop, at) ∷ all_marks at (loop + 1) body
  marks_in at loop _ = []

  pub all_marks : ℕ → ℕ → PlainParts → Places
  all_marks at loop no_part = []
  all_marks at loop (part p rest) = marks_in at loop p ++ all_marks (at + part_words p) (loop + part_loops p) rest

-- ---- each is found

-- these names are passed by labels from a number on
abbrev IsPassed : ℕ → Places → Type 0
IsPassed n before = (loop : ℕ) (more : Places) → n ≤ loop → loop < 2 ^ 63 → place_of (before ++ more) (label_name loop)
    ≡ place_of more (label_name loop)

passed_one : (n loop at : ℕ) (before : Places) → IsPassed n before → n ≤ loop → loop < 2 ^ 63
    → IsPassed (loop + 1) (before ++ (label_name loop, at) ∷ [])
passed_one n loop at before pass from small other more above within =
    ap (λ ps. place_of ps (label_name other)) (append_assoc before ((label_name loop, at) ∷ []) more)
    ∙ pass other ((label_name loop, at) ∷ more) (omega (arith, from, above)) within
    ∙ (let a = label_apart other loop (omega (arith, within)) (omega (arith, small)) (λ e. omega (arith, e, above)) in
    rw a refl)

passed_later : (n m : ℕ) (before : Places) → IsPassed n before → n ≤ m → IsPassed m before
passed_later n m before pass less loop more from small = pass loop more (omega (arith, less, from)) small

nothing_more : (loop : ℕ) (before : Places) → IsPassed loop before → IsPassed (loop + 0) (before ++ [])
nothing_more loop before pass =
    subst (IsPassed (loop + 0)) (sym (append-nil before)) (passed_later loop (loop + 0) before pass (omega arith))

mutual
  passed_part : (at loop : ℕ) (p : PlainPart) (before : Places) → IsPassed loop before → loop + part_loops p ≤ 2 ^ 63
      → IsPassed (loop + part_loops p) (before ++ marks_in at loop p)
  passed_part at loop (repeats count body tail) before pass small =
      let one : IsPassed (loop + 1) (before ++ (label_name loop, at) ∷ []) =
      passed_one loop loop at before pass (omega arith) (omega (arith, small)) in
      let more = passed_parts at (loop + 1) body (before ++ (label_name loop, at) ∷ []) one (omega (arith, small)) in
      subst (λ ps. IsPassed (loop + (1 + parts_loops body)) ps) (append_assoc before ((label_name loop, at) ∷ [])
      (all_marks at (loop + 1) body))
      (passed_later (loop + 1 + parts_loops body) (loop + (1 + parts_loops body)) (before ++ (label_name loop, at) ∷ []
      ++ all_marks at (loop + 1) body) more (omega arith))
  passed_part at loop _ before pass small = nothing_more loop before pass

  passed_parts : (at loop : ℕ) (ps : PlainParts) (before : Places) → IsPassed loop before → loop + parts_loops ps
      ≤ 2 ^ 63 → IsPassed (loop + parts_loops ps) (before ++ all_marks at loop ps)
  passed_parts at loop no_part before pass small = nothing_more loop before pass
  passed_parts at loop (part p rest) before pass small =
      let one = passed_part at loop p before pass (omega (arith, small)) in
      let more = passed_parts (at + part_words p) (loop + part_loops p) rest (before ++ marks_in at loop p) one
      (omega (arith, small)) in
      subst (λ ps. IsPassed (loop + (part_loops p + parts_loops rest)) ps) (append_assoc before (marks_in at loop p)
      (all_marks (at + part_words p) (loop + part_loops p) rest))
      (passed_later (loop + part_loops p + parts_loops rest) (loop + (part_loops p + parts_loops rest))
      (before ++ marks_in at loop p ++ all_marks (at + part_words p) (loop + part_loops p) rest) more (omega arith))

found_first : (name : List ℕ) (at : ℕ) (more : Places) → place_of ((name, at) ∷ more) name ≡ Some at
found_first name at more = let same = bytes_eq_refl name in rw same refl

mutual
  known_part : (at loop : ℕ) (p : PlainPart) (before later : Places) → IsPassed loop before → loop + part_loops p
      ≤ 2 ^ 63 → IsKnown (place_of (before ++ (marks_in at loop p ++ later))) at loop p
  known_part at loop (repeats count body tail) before later pass small =
      let one : IsPassed (loop + 1) (before ++ (label_name loop, at) ∷ []) =
      passed_one loop loop at before pass (omega arith) (omega (arith, small)) in (
        pass loop ((label_name loop, at) ∷ (all_marks at (loop + 1) body ++ later)) (omega arith) (omega (arith, small))
            ∙ found_first (label_name loop) at (all_marks at (loop + 1) body ++ later),
        omega (arith, small),
        subst (λ ps. AreKnown (place_of ps) at (loop + 1) body) (append_assoc before ((label_name loop, at) ∷ [])
            (all_marks at (loop + 1) body ++ later))
            (known_parts at (loop + 1) body (before ++ (label_name loop, at) ∷ []) later one (omega (arith, small))),
      )
  known_part at loop _ before later pass small = tt

  known_parts : (at loop : ℕ) (ps : PlainParts) (before later : Places) → IsPassed loop before → loop + parts_loops ps
      ≤ 2 ^ 63 → AreKnown (place_of (before ++ (all_marks at loop ps ++ later))) at loop ps
  known_parts at loop no_part before later pass small = tt
  known_parts at loop (part p rest) before later pass small =
      let first = marks_in at loop p in
      let next = all_marks (at + part_words p) (loop + part_loops p) rest in
      let whole : before ++ ((first ++ next) ++ later) ≡ before ++ (first ++ (next ++ later)) =
      ap (λ ps. before ++ ps) (append_assoc first next later) in (
        subst (λ ps. IsKnown (place_of ps) at loop p) (sym whole) (known_part at loop p before (next ++ later) pass
            (omega (arith, small))),
        subst (λ ps. AreKnown (place_of ps) (at + part_words p) (loop + part_loops p) rest)
            (append_assoc before first (next ++ later) ∙ sym whole)
            (known_parts (at + part_words p) (loop + part_loops p) rest (before ++ first) later
            (passed_part at loop p before pass (omega (arith, small))) (omega (arith, small))),
      )

pub function_known : (ps : PlainParts) → parts_loops ps ≤ 2 ^ 63 → AreKnown (place_of (all_marks 0 0 ps)) 0 0 ps
function_known ps small = subst (λ qs. AreKnown (place_of qs) 0 0 ps) (append-nil (all_marks 0 0 ps))
    (known_parts 0 0 ps [] [] (λ loop more from within. refl) (omega (arith, small)))

-- ---- they rise

module _ (names : List (List ℕ)) (words : List ℕ) where
  rise_bundles : (n : ℕ) (aim : Aim) (at : ℕ) (bs : List PlainBundle) (ls : List Line) → Rise n ls
      → Rise n (bundle_lines names words aim at bs ++ ls)
  rise_bundles n aim at [] ls r = r
  rise_bundles n aim at (b ∷ bs) ls r = rise_bundles n aim (at + bundle_words b) bs ls r

  mutual
    rise_part : (at loop : ℕ) (p : PlainPart) (ls : List Line) → loop + part_loops p ≤ 2 ^ 63
        → Rise (loop + part_loops p) ls → Rise loop (part_lines names words at loop p ++ ls)
    rise_part at loop (straight bs) ls small r =
        rise_bundles loop Onward at bs ls (subst (λ n. Rise n ls) (omega arith) r)
    rise_part at loop (repeats count body tail) ls small r =
        let inner = parts_lines names words at (loop + 1) body in
        let way = bundle_lines names words (Loop loop) (at + parts_words body) tail in (
          omega arith,
          omega (arith, small),
          subst (Rise (loop + 1)) (sym (append_assoc inner (way ++ loop_end loop ∷ []) ls))
              (rise_parts at (loop + 1) body ((way ++ loop_end loop ∷ []) ++ ls) (omega (arith, small))
              (subst (Rise (loop + 1 + parts_loops body)) (sym (append_assoc way (loop_end loop ∷ []) ls))
              (rise_bundles (loop + 1 + parts_loops body) (Loop loop) (at + parts_words body) tail (loop_end loop ∷ ls)
              (subst (λ n. Rise n ls) (omega arith) r)))),
        )
    rise_part at loop (calls_to k tail) ls small r =
        rise_bundles loop (Entry k) at tail ls (subst (λ n. Rise n ls) (omega arith) r)
    rise_part at loop (leaves tail) ls small r =
        rise_bundles loop Onward at tail ls (subst (λ n. Rise n ls) (omega arith) r)

    pub rise_parts : (at loop : ℕ) (ps : PlainParts) (ls : List Line) → loop + parts_loops ps ≤ 2 ^ 63
        → Rise (loop + parts_loops ps) ls → Rise loop (parts_lines names words at loop ps ++ ls)
    rise_parts at loop no_part ls small r = subst (λ n. Rise n ls) (omega arith) r
    rise_parts at loop (part p rest) ls small r =
        let one = part_lines names words at loop p in
        let more = parts_lines names words (at + part_words p) (loop + part_loops p) rest in
        subst (Rise loop) (sym (append_assoc one more ls))
        (rise_part at loop p (more ++ ls) (omega (arith, small))
        (rise_parts (at + part_words p) (loop + part_loops p) rest ls (omega (arith, small))
        (subst (λ n. Rise n ls) (omega arith) r)))

  -- ---- comments end on their line

  inline_bundles : (aim : Aim) (at : ℕ) (bs : List PlainBundle) → AreInline (bundle_lines names words aim at bs)
  inline_bundles aim at [] = tt
  inline_bundles aim at (b ∷ bs) = (note_inline words at (bundle_words b), inline_bundles aim (at + bundle_words b) bs)

  begin_inline : (loop count : ℕ) → lacks 10 (codes "loop " ++ label_name loop ++ codes " iterations " ++ decimal count)
      ≡ true
  begin_inline loop count =
      lacks_both (codes "loop " ++ label_name loop ++ codes " iterations ") (decimal count)
      (lacks_both (codes "loop " ++ label_name loop) (codes " iterations ") (label_inline loop) refl)
      (decimal_inline count)

  mutual
    inline_part : (at loop : ℕ) (p : PlainPart) → AreInline (part_lines names words at loop p)
    inline_part at loop (straight bs) = inline_bundles Onward at bs
    inline_part at loop (repeats count body tail) = (
      begin_inline loop count,
      (
        tt,
        inline_both (parts_lines names words at (loop + 1) body) _ (inline_parts at (loop + 1) body)
            (inline_both (bundle_lines names words (Loop loop) (at + parts_words body) tail) (loop_end loop ∷ [])
            (inline_bundles (Loop loop) (at + parts_words body) tail) (label_inline loop, tt)),
      ),
    )
    inline_part at loop (calls_to k tail) = inline_bundles (Entry k) at tail
    inline_part at loop (leaves tail) = inline_bundles Onward at tail

    pub inline_parts : (at loop : ℕ) (ps : PlainParts) → AreInline (parts_lines names words at loop ps)
    inline_parts at loop no_part = tt
    inline_parts at loop (part p rest) = inline_both (part_lines names words at loop p) _ (inline_part at loop p)
        (inline_parts (at + part_words p) (loop + part_loops p) rest)

-- ---- the labels that lines set

-- with their offsets, where the first line stands at this one
abbrev pub labels_in : ℕ → List Line → Places
labels_in at [] = []
labels_in at (remark note ∷ ls) = labels_in at ls
labels_in at (begins name ∷ ls) = labels_in at ls
labels_in at (marks loop ∷ ls) = (label_name loop, at) ∷ labels_in at ls
labels_in at (does b note ∷ ls) = labels_in (at + size_of b) ls

abbrev words_in : List Line → ℕ
words_in [] = 0
words_in (remark note ∷ ls) = words_in ls
words_in (begins name ∷ ls) = words_in ls
words_in (marks loop ∷ ls) = words_in ls
words_in (does b note ∷ ls) = size_of b + words_in ls

words_both : (ls ms : List Line) → words_in (ls ++ ms) ≡ words_in ls + words_in ms
words_both [] ms = omega arith
words_both (remark note ∷ ls) ms = words_both ls ms
words_both (begins name ∷ ls) ms = words_both ls ms
words_both (marks loop ∷ ls) ms = words_both ls ms
words_both (does b note ∷ ls) ms = omega (arith, words_both ls ms)

labels_both : (at : ℕ) (ls ms : List Line) → labels_in at (ls ++ ms) ≡ labels_in at ls
    ++ labels_in (at + words_in ls) ms
labels_both at [] ms = ap (λ n. labels_in n ms) (omega arith)
labels_both at (remark note ∷ ls) ms = labels_both at ls ms
labels_both at (begins name ∷ ls) ms = labels_both at ls ms
labels_both at (marks loop ∷ ls) ms = ap (λ ps. (label_name loop, at) ∷ ps) (labels_both at ls ms)
labels_both at (does b note ∷ ls) ms =
    labels_both (at + size_of b) ls ms ∙ ap (λ n. labels_in (at + size_of b) ls ++ labels_in n ms) (omega arith)

aimed_long : (names : List (List ℕ)) (aim : Aim) (o : Op) → is_long_draft (aimed names aim o) ≡ is_long o
aimed_long names (Loop loop) (op.Branch z) = refl
aimed_long names (Entry k) (op.Call n) = refl
aimed_long names aim o = refl

draft_size : (names : List (List ℕ)) (aim : Aim) (b : PlainBundle) → size_of (draft_of names aim b) ≡ bundle_words b
draft_size names aim b = ap (λ t. if t || is_some b.second then 2 else 1) (aimed_long names aim b.first.op)

module _ (names : List (List ℕ)) (words : List ℕ) where
  bundles_words_in : (aim : Aim) (at : ℕ) (bs : List PlainBundle) → words_in (bundle_lines names words aim at bs)
      ≡ bundles_words bs
  bundles_words_in aim at [] = refl
  bundles_words_in aim at (b ∷ bs) =
      omega (arith, draft_size names aim b, bundles_words_in aim (at + bundle_words b) bs)

  bundles_labels : (aim : Aim) (at off : ℕ) (bs : List PlainBundle) → labels_in off (bundle_lines names words aim at bs)
      ≡ []
  bundles_labels aim at off [] = refl
  bundles_labels aim at off (b ∷ bs) =
      bundles_labels aim (at + bundle_words b) (off + size_of (draft_of names aim b)) bs

  mutual
    part_words_in : (at loop : ℕ) (p : PlainPart) → words_in (part_lines names words at loop p) ≡ part_words p
    part_words_in at loop (straight bs) = bundles_words_in Onward at bs
    part_words_in at loop (repeats count body tail) =
        let inner = parts_lines names words at (loop + 1) body in
        let way = bundle_lines names words (Loop loop) (at + parts_words body) tail in
        let one = words_both inner (way ++ loop_end loop ∷ []) in
        let two = words_both way (loop_end loop ∷ []) in
        omega (
          arith,
          one,
          two,
          parts_words_in at (loop + 1) body,
          bundles_words_in (Loop loop)
              (at + parts_words body) tail,
        )
    part_words_in at loop (calls_to k tail) = bundles_words_in (Entry k) at tail
    part_words_in at loop (leaves tail) = bundles_words_in Onward at tail

    parts_words_in : (at loop : ℕ) (ps : PlainParts) → words_in (parts_lines names words at loop ps) ≡ parts_words ps
    parts_words_in at loop no_part = refl
    parts_words_in at loop (part p rest) =
        let both = words_both (part_lines names words at loop p) (parts_lines names words (at + part_words p)
        (loop + part_loops p) rest) in
        omega (arith, both, part_words_in at loop p, parts_words_in (at + part_words p) (loop + part_loops p) rest)

  mutual
    part_labels : (at loop : ℕ) (p : PlainPart) → labels_in at (part_lines names words at loop p) ≡ marks_in at loop p
    part_labels at loop (straight bs) = bundles_labels Onward at at bs
    part_labels at loop (repeats count body tail) =
        let inner = parts_lines names words at (loop + 1) body in
        let way = bundle_lines names words (Loop loop) (at + parts_words body) tail in
        let none : labels_in (at + words_in inner) (way ++ loop_end loop ∷ []) ≡ [] =
        labels_both (at + words_in inner) way (loop_end loop ∷ []) ∙ ap (λ ps. ps ++ []) (bundles_labels (Loop loop)
        (at + parts_words body) (at + words_in inner) tail) in
        ap (λ ps. (label_name loop, at) ∷ ps)
        (labels_both at inner (way ++ loop_end loop ∷ []) ∙ ap (λ ps. labels_in at inner ++ ps) none
        ∙ append-nil (labels_in at inner) ∙ parts_labels at (loop + 1) body)
    part_labels at loop (calls_to k tail) = bundles_labels (Entry k) at at tail
    part_labels at loop (leaves tail) = bundles_labels Onward at at tail

    pub parts_labels : (at loop : ℕ) (ps : PlainParts) → labels_in at (parts_lines names words at loop ps)
        ≡ all_marks at loop ps
    parts_labels at loop no_part = refl
    parts_labels at loop (part p rest) =
        labels_both at (part_lines names words at loop p) (parts_lines names words (at + part_words p)
        (loop + part_loops p) rest)
        ∙ ap (λ n. labels_in at (part_lines names words at loop p) ++ labels_in (at + n) (parts_lines names words
        (at + part_words p) (loop + part_loops p) rest)) (part_words_in at loop p)
        ∙ ap (λ ps. ps ++ labels_in (at + part_words p) (parts_lines names words (at + part_words p)
        (loop + part_loops p) rest)) (part_labels at loop p)
        ∙ ap (λ ps. marks_in at loop p ++ ps) (parts_labels (at + part_words p) (loop + part_loops p) rest)

-- the assembler finds them
pub stand_labels : (functions labels : Lookup) (rest : List Item) (line at off : ℕ) (ls : List Line)
    (bs : List PlainBundle)
    → Stand functions labels at ls bs
    → labels_from off (items_at line ls ++ rest) ≡ labels_in off ls ++ labels_from (off + bundles_words bs) rest
stand_labels functions labels rest line at off [] [] s = ap (λ n. labels_from n rest) (omega arith)
stand_labels functions labels rest line at off [] (x ∷ bs) s = absurd s
stand_labels functions labels rest line at off (remark note ∷ ls) bs s =
    stand_labels functions labels rest (line + 1) at off ls bs s
stand_labels functions labels rest line at off (begins name ∷ ls) bs s = absurd s
stand_labels functions labels rest line at off (marks loop ∷ ls) bs s =
    ap (λ ps. (label_name loop, off) ∷ ps) (stand_labels functions labels rest (line + 1) at off ls bs s)
stand_labels functions labels rest line at off (does b note ∷ ls) [] s = absurd s
stand_labels functions labels rest line at off (does b note ∷ ls) (x ∷ bs) s =
    let size = s.0.size in
    stand_labels functions labels rest (line + 1) (at + bundle_words x) (off + size_of b) ls bs s.1
    ∙ ap (λ n. labels_in (off + size_of b) ls ++ labels_from n rest) (omega (arith, size))

-- each loop has a word, so that labels are few
iteration_some : (tail : List PlainBundle) → is_iteration tail ≡ true → 1 ≤ bundles_words tail
iteration_some [] e = cc
iteration_some (b ∷ bs) e = grind arith

mutual
  few_part : (number : ℕ) (p : PlainPart) → part_formed number p ≡ true → part_loops p ≤ part_words p
  few_part number (repeats count body tail) e =
      let t = and_parts (nat_lt 0 count) (parts_formed number body && is_iteration tail) e in
      let u = and_parts (parts_formed number body) (is_iteration tail) t.1 in
      omega (arith, few_parts number body u.0, iteration_some tail u.1)
  few_part number _ e = omega arith

  few_parts : (number : ℕ) (ps : PlainParts) → parts_formed number ps ≡ true → parts_loops ps ≤ parts_words ps
  few_parts number no_part e = omega arith
  few_parts number (part p rest) e =
      let t = and_parts (part_formed number p) (parts_formed number rest) e in
      omega (arith, few_part number p t.0, few_parts number rest t.1)

few_more : (number : ℕ) (p : PlainPart) (rest : PlainParts) → (function_formed number rest ≡ true → parts_loops rest
    ≤ parts_words rest) → part_formed number p && function_formed number rest ≡ true
    → part_loops p + parts_loops rest ≤ part_words p + parts_words rest
few_more number p rest more e = let t = and_parts (part_formed number p) (function_formed number rest) e in
    omega (arith, few_part number p t.0, more t.1)

pub few_loops : (number : ℕ) (ps : PlainParts) → function_formed number ps ≡ true → parts_loops ps ≤ parts_words ps
few_loops number no_part e = cc
few_loops number (part (leaves tail) no_part) e = omega arith
few_loops number (part (leaves tail) (part p rest)) e = cc
few_loops number (part (straight bs) rest) e = few_more number (straight bs) rest (few_loops number rest) e
few_loops number (part (repeats count body tail) rest) e =
    few_more number (repeats count body tail) rest (few_loops number rest) e
few_loops number (part (calls_to k tail) rest) e = few_more number (calls_to k tail) rest (few_loops number rest) e

-- One more bundle is spaced, and one more part is placed.
use Rattle.std.proofs.Common.{◌≡◌, ℕ, ◌+◌, ◌<◌, ◌≤◌, List, [], ◌∷◌, ◌++◌, length, drop, get_or, refl, ap, sym, ◌∙◌, append_assoc, append-nil}
use Rattle.std.proofs.lemmas.List.{drop_all}
use Rattle.tc_word.proofs.Items.{drop_item}
use Rattle.patmos_instr.specs.Bundles.{PlainBundle}
use Rattle.sp_shape.proofs.Joins.{shown, joined-assoc, joined-nothing}
use Rattle.sp_shape.proofs.Plain.{repeat_said}
use Rattle.sp_shape.specs.Parts.{repeats, PlainParts, part, one, joined}
use Rattle.sp_shape.specs.Shown.{plain_part, parts_of}
use Rattle.sp_shape.specs.declared.parts.Part.{Part}
use Rattle.sp_shape.specs.declared.parts.Part.TheViews.{Repeat}
use Rattle.bundle_sched.specs.Placed.{one_spaced, spaced, part_placed, parts_placed}

-- ---- bundles

pub bundle_added : (bs : List PlainBundle) (i : ℕ) (b : PlainBundle) (done next whole : List PlainBundle)
    → i < length bs → b
    ≡ get_or bs i b
    → done ++ spaced (drop i bs) ≡ whole → next ≡ done ++ one_spaced b (drop (i + 1) bs) → next
    ++ spaced (drop (i + 1) bs) ≡ whole
bundle_added bs i b done next whole within is before added =
    ap (λ xs. xs ++ spaced (drop (i + 1) bs)) added ∙ append_assoc done (one_spaced b (drop (i + 1) bs)) (spaced
    (drop (i + 1) bs))
    ∙ ap (λ xs. done ++ spaced xs) (sym (drop_item bs i b within is)) ∙ before

pub bundles_done : (bs : List PlainBundle) (i : ℕ) (done whole : List PlainBundle) → length bs ≤ i → done
    ++ spaced (drop i bs)
    ≡ whole → done ≡ whole
bundles_done bs i done whole past before =
    sym (append-nil done) ∙ ap (λ xs. done ++ spaced xs) (sym (drop_all i bs past)) ∙ before

-- ---- parts

pub part_added : (ps : List Part) (i : ℕ) (p q : Part) (done next : List Part) (whole : PlainParts) → i < length ps → p
    ≡ get_or ps i p
    → joined (parts_of done) (parts_placed (parts_of (drop i ps))) ≡ whole → plain_part q ≡ part_placed (plain_part p)
    → next ≡ done ++ q ∷ []
    → joined (parts_of next) (parts_placed (parts_of (drop (i + 1) ps))) ≡ whole
part_added ps i p q done next whole within is before same added =
    let rest = parts_placed (parts_of (drop (i + 1) ps)) in
    ap (λ xs. joined (parts_of xs) rest) added ∙ ap (λ xs. joined xs rest) (shown done (q ∷ []))
    ∙ joined-assoc (parts_of done) (one (plain_part q)) rest
    ∙ ap (λ x. joined (parts_of done) (part x rest)) same
    ∙ ap (λ xs. joined (parts_of done) (parts_placed (parts_of xs))) (sym (drop_item ps i p within is)) ∙ before

pub parts_done : (ps : List Part) (i : ℕ) (done whole : PlainParts) → length ps ≤ i
    → joined done (parts_placed (parts_of (drop i ps))) ≡ whole → done ≡ whole
parts_done ps i done whole past before =
    sym (joined-nothing done) ∙ ap (λ xs. joined done (parts_placed (parts_of xs))) (sym (drop_all i ps past)) ∙ before

pub repeat_placed : (p : Part) (count : ℕ) (body done : List Part) (tail : List PlainBundle) → p
    ≡ Repeat count body tail
    → parts_of done ≡ parts_placed (parts_of body)
    → plain_part (Repeat count done (spaced tail)) ≡ part_placed (plain_part p)
repeat_placed p count body done tail is same =
    repeat_said (Repeat count done (spaced tail)) count done (spaced tail) refl
    ∙ ap (λ ps. repeats count ps (spaced tail)) same ∙ ap part_placed (sym (repeat_said p count body tail is))

-- What holds of each function's code holds of each function of the shape.
use Rattle.std.proofs.Common.{◌≡◌, ℕ, ◌+◌, ◌<◌, ◌≤◌, true, length, slice_index_or, ap, sym, ◌∙◌, subst, arith}
use Rattle.std.specs.Prelude.{is_none}
use Rattle.sp_tree.proofs.Forms.{earlier_one, earlier_ones}
use Rattle.sp_tree.specs.Cost.{cost}
use Rattle.sp_tree.specs.Formed as tree
use Rattle.sp_tree.specs.Statements.{PlainUnit, no_function}
use Rattle.sp_shape.specs.Bundles.{is_steady, parts_all, parts_idle}
use Rattle.sp_shape.specs.Parts.{no_part, PlainShape}
use Rattle.sp_shape.specs.Words.{parts_room}
use Rattle.sp_emit.specs.Chains.{takes_at_most}
use Rattle.sp_emit.specs.Functions.{function_code, places_of, emitted}
use Rattle.sp_emit.proofs.Codes.{codes_at}
use Rattle.sp_emit.specs.Places.{tops}
use Rattle.sp_emit.proofs.Windows.{InWindow, own_window, unit_parts}
use Rattle.sp_emit.proofs.Idle.{function_idle}
use Rattle.sp_emit.proofs.Room.{function_room}
use Rattle.sp_emit.proofs.EachBundle.{function_steady, function_alone, function_takes}

code_at : (s : PlainShape) (u : PlainUnit) → s ≡ emitted u → (k : ℕ) → k < length u.functions
    → slice_index_or s.functions k no_part ≡ function_code (places_of u.functions k) (slice_index_or
    u.functions k no_function)
code_at s u told k below = ap (λ x. slice_index_or x.functions k no_part) told ∙ codes_at u.functions k below

-- each function in its window
pub window : (u : PlainUnit) → tree.is_formed u ≡ true → (k : ℕ) → k < length u.functions
    → InWindow (places_of u.functions k) (tops u.functions k) u.functions k (slice_index_or u.functions k no_function)
window u h k below =
    let p = unit_parts u h in
    own_window u.functions k (earlier_ones u.functions k (length u.functions) (omega (arith, below)) p.functions)
    (earlier_one u.functions k (length u.functions) below p.functions)

pub idle_as : (s : PlainShape) (u : PlainUnit) → s ≡ emitted u → tree.is_formed u ≡ true → (k : ℕ)
    → k < length u.functions → parts_idle (slice_index_or s.functions k no_part) ≡ true
idle_as s u told h k below = ap parts_idle (code_at s u told k below) ∙ function_idle (window u h k below)

pub alone_as : (s : PlainShape) (u : PlainUnit) → s ≡ emitted u → tree.is_formed u ≡ true → (k : ℕ)
    → k < length u.functions → parts_all (λ b. is_none b.second) (slice_index_or s.functions k no_part) ≡ true
alone_as s u told h k below =
    ap (parts_all (λ b. is_none b.second)) (code_at s u told k below) ∙ function_alone (window u h k below)

pub steady_as : (s : PlainShape) (u : PlainUnit) → s ≡ emitted u → tree.is_formed u ≡ true → (k : ℕ)
    → k < length u.functions → parts_all is_steady (slice_index_or s.functions k no_part) ≡ true
steady_as s u told h k below =
    ap (parts_all is_steady) (code_at s u told k below) ∙ function_steady (window u h k below)

pub frames_as : (s : PlainShape) (u : PlainUnit) → s ≡ emitted u → tree.is_formed u ≡ true → (k : ℕ)
    → k < length u.functions
    → parts_all (takes_at_most (slice_index_or u.functions k no_function).frame) (slice_index_or s.functions k no_part)
    ≡ true
frames_as s u told h k below =
    ap (parts_all (takes_at_most (slice_index_or u.functions k no_function).frame)) (code_at s u told k below)
    ∙ function_takes (window u h k below)

pub room_as : (s : PlainShape) (u : PlainUnit) → s ≡ emitted u → tree.is_formed u ≡ true → (k : ℕ)
    → k < length u.functions
    → 1 + parts_room (slice_index_or s.functions k no_part) ≤ cost (slice_index_or u.functions k no_function)
room_as s u told h k below =
    let f = slice_index_or u.functions k no_function in
    let p = unit_parts u h in
    subst (λ ps. 1 + parts_room ps ≤ cost f) (sym (code_at s u told k below))
    (function_room (places_of u.functions k) u.functions k f (earlier_one u.functions k (length u.functions) below
    p.functions) (omega arith))

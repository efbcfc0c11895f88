-- Words that nothing was stored in.
use Rattle.std.proofs.Common.{◌≡◌, ℕ, ◌<◌, List, [], ◌∷◌, ◌++◌, slice_index, refl, sym, ap, ◌∙◌}
use Rattle.shared_order.specs.declared.operation.Operation.{Operation}
use Rattle.shared_order.specs.Words.{stored_last}
use Rattle.clock_board.specs.declared.known.Record.{Record}
use Rattle.clock_board.specs.Board.{BoardFace}
use Rattle.clock_board.specs.End.{IsEnd}

-- an empty list begins with nothing else
no_prefix : (prefix rest : List Operation) → [] ≡ prefix ++ rest → prefix ≡ []
no_prefix [] rest e = refl
no_prefix (o ∷ os) rest e = cc

-- where there were no operations all words are 0
pub all_zero : (b : BoardFace) (back : List Record) (answer : List ℕ) → b.course ≡ [] → IsEnd b back answer → (w : ℕ)
    → w < b.words → slice_index answer w ≡ 0
all_zero b back answer none end w below =
    end.words w below ∙ ap (λ l. stored_last w l 0) (no_prefix end.done end.rest (sym none ∙ end.order))

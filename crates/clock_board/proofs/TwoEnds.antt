-- The end of the small course of two cores.
use Rattle.std.proofs.Common.{◌≡◌, ℕ, zero, suc, ◌<◌, ◌≤◌, List, [], ◌∷◌, ◌++◌, Any, get_or, refl, sym, ap, ◌∙◌, subst, arith, lit<}
use Rattle.std.specs.List.{AllByRecursion as Each}
use Rattle.shared_order.specs.declared.operation.Operation.{Operation}
use Rattle.clock_board.specs.declared.known.Record.{Record}
use Rattle.clock_board.specs.Record.{clock_of}
use Rattle.shared_order.specs.Words.{stored_last}
use Rattle.clock_board.specs.declared.known.View.{View}
use Rattle.clock_board.specs.View.{own, back, maker, with_back}
use Rattle.clock_board.specs.Board.{BoardFace, PassFace}
use Rattle.clock_board.specs.End.{AllPast}
use Rattle.clock_board.specs.Two.{two, Stands, IsBoardOfTwo}

-- both cores have published past the course
two_past : (b : BoardFace) (p q : PassFace) (back : List Record) → b.cores ≡ 2 → b.course ≡ two → Stands p 0 [] 14
    → Stands q 1 [] 14 → back ≡ own p.view ∷ own q.view ∷ [] → AllPast b back 14
two_past b p q back cores course at_p at_q is = record {
  below = subst (Each (λ (o : Operation). o.stamp < 14)) (sym course) (lit< tt, (lit< tt, (lit< tt, tt)));
  past = λ core among. subst (Any (λ (r : Record). (r.core ≡ core) × (14 ≤ clock_of r.published))) (sym is)
      (by core (omega (arith, among, cores)));
}
  where
    by : (core : ℕ) → core < 2 → Any (λ (r : Record). (r.core ≡ core) × (14 ≤ clock_of r.published)) (own p.view
        ∷ own q.view ∷ [])
    by zero among = (0, own p.view, omega arith, refl, (at_p.own_core, omega (arith, at_p.clock)))
    by (suc zero) among = (1, own q.view, omega arith, refl, (at_q.own_core, omega (arith, at_q.clock)))
    by (suc (suc core)) among = absurd (omega arith)

-- the records that came back, one after the other
two_back : (n : ℕ) (all : List Operation) (v v' v'' : View) (r r' : Record) → v ≡ maker n all → v' ≡ with_back v r → v''
    ≡ with_back v' r' → back v'' ≡ r ∷ r' ∷ []
two_back n all v v' v'' r r' none first both =
    ap (λ u. back u) both ∙ ap (λ u. back u ++ r' ∷ []) first ∙ ap (λ u. (back u ++ r ∷ []) ++ r' ∷ []) none

-- so word 5 has what core 0 stored
pub two_ends : (b : BoardFace) (p q : PassFace) (v v' v'' : View) (answer : List ℕ) → IsBoardOfTwo b → Stands p 0 [] 14
    → Stands q 1 [] 14
    → v ≡ maker 2 two → v' ≡ with_back v (own p.view) → v'' ≡ with_back v' (own q.view)
    → ((limit w : ℕ) → AllPast b (back v'') limit → w < b.words → get_or answer w 0 ≡ stored_last w b.course 0)
    → get_or answer 5 0 ≡ 7
two_ends b p q v v' v'' answer is at_p at_q none first both whole =
    whole 14 5 (two_past b p q (back v'') is.cores is.course at_p at_q (two_back 2 two v v' v'' (own p.view)
    (own q.view) none first both)) (omega (arith, is.words)) ∙ ap (λ l. stored_last 5 l 0) is.course

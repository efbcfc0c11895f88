-- A task's code does what its tree means.
use Rattle.std.proofs.Common.{◌≡◌, ℕ, ◌==◌, true, List, [], length, refl, sym, subst, arith}
use Rattle.sp_tree.specs.Begun.{begun, straight}
use Rattle.sp_tree.specs.Formed.{is_formed}
use Rattle.sp_tree.specs.Statements.{PlainUnit}
use Rattle.sp_shape.specs.Run.{Back, at_begin, by_words, run}
use Rattle.sp_shape.specs.Trail.{trails}
use Rattle.sp_emit.specs.Functions.{codes}
use Rattle.sp_emit.proofs.Windows.{unit_parts}
use Rattle.sp_emit.proofs.Codes.{codes_length}
use Rattle.sp_emit.specs.Means.{HoldsWords, HasConstants}
use Rattle.sp_emit.specs.Ran.{begun_memory, ran}
use Rattle.sp_emit.specs.Serving.{Answers}
use Rattle.sp_emit.proofs.Serves.{AllServe, all_serve}

pub task_does : (u : PlainUnit) (input : List ℕ) (shared comm : ℕ → ℕ) (backs : List Back) → is_formed u ≡ true
    → HasConstants u.functions → HoldsWords (begun u input shared comm)
    → Answers (straight u input shared comm) (at_begin (begun_memory u input shared comm) [] backs)
    (ran u input shared comm backs)
unfolding AllServe Rattle.sp_emit.proofs.Calling.ServedBy
task_does u input shared comm backs formed constants words =
    let p = unit_parts u formed in
    let begin = at_begin (begun_memory u input shared comm) [] backs in
    subst (λ n. Answers (straight u input shared comm) begin (run by_words (trails (codes u.functions) n u.entry)
    begin)) (sym (codes_length u.functions))
    ((all_serve u.functions constants (length u.functions) (omega arith) p.functions u.entry p.entry 1 []
    (begun u input shared comm) begin (sym p.parameters) (omega (arith, p.entry, p.few)) (record {
      carries = record {
        whole = record {
          fits = record { count = refl; pred_count = refl; zero = refl; always = refl };
          pending = refl;
        };
        has = record {
          scratch = λ n. refl;
          comm = λ n. refl;
          private = λ n some. refl;
          shared = λ n. refl;
          starts = refl;
        };
        words = words;
        flag = refl;
      };
      masked = refl;
      mask_word = omega arith;
      given = λ i lt. absurd (omega (arith, lt));
      arg_words = λ i. omega arith;
    })).answers)

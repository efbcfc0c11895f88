use Rattle.std.proofs.Common.{ℕ, ◌+◌, ◌*◌, List, sym, ◌∙◌, arith}
use Rattle.sp_emit.specs.Flags.{flag_tops}
use Rattle.sp_emit.specs.Places.{tops}
use Rattle.sp_emit.proofs.WordPlaces.{word_kept}
use Rattle.sp_tree.specs.Statements.{PlainFunction, PlainStmts}
use Rattle.sp_tree.specs.Straight.{State, serves, stmts_done}
use Rattle.sp_shape.specs.Run.{Run, by_words, run}
use Rattle.sp_shape.specs.Trail.{parts_trail}
use Rattle.sp_emit.specs.Serving.{AreStatements}
use Rattle.sp_emit.specs.Statements.{stmts_code}
use Rattle.sp_emit.proofs.Calling.{ServedBy}
use Rattle.sp_emit.proofs.Masks.{Done}
use Rattle.sp_emit.proofs.Runs.{stmts_run}
use Rattle.sp_emit.proofs.Serves.{AllServe, all_serve, calls_run}
use Rattle.sp_emit.proofs.Codes.{code_of}
use Rattle.sp_emit.proofs.Sparing.{all_leave}
use Rattle.sp_emit.proofs.Standing.{world_stands}
use Rattle.sp_emit.specs.declared.stands.Homes.{Homes}
use Rattle.sp_emit.proofs.laws.functions_do_what_they_give.Goals as goal

pub returns-clause-function : goal.returns-clause-function
unfolding AllServe ServedBy
returns-clause-function c fs n k mask args w m are less count room called =
    (all_serve fs are.constants n are.within are.formed k less mask args w m count room called).answers

pub returns-clause-predicates : goal.returns-clause-predicates
returns-clause-predicates c fs n k m are less whole p past few =
    all_leave by_words fs n are.within are.formed k less p past few m whole

pub returns-clause-callers : goal.returns-clause-callers
unfolding AllServe ServedBy
returns-clause-callers c fs n k mask args w m are less count room called homes slot top =
    let r = all_serve fs are.constants n are.within are.formed k less mask args w m count room called in
    word_kept homes slot m (run by_words (code_of fs n k) m) (λ q from lt. r.high q (omega (arith, top, from)) lt)
    r.answers.stack r.answers.st

done : (fs : List PlainFunction) (n : ℕ) (homes : Homes) (frame slots counter : ℕ) (ts : PlainStmts) (s : State)
    (m : Run) → AreStatements fs n homes frame slots counter ts s m
    → Done homes slots (counter + 1) (stmts_done (serves fs n) ts s) m (run by_words
    (parts_trail (code_of fs n) (stmts_code homes frame counter ts)) m)
done fs n homes frame slots counter ts s m h =
    stmts_run homes (tops fs n) (flag_tops fs n) (code_of fs n) (serves fs n) fs n frame slots counter (n * 128)
    (calls_run homes fs n frame slots h.functions.formed h.named (λ k less p past few t whole. all_leave by_words fs n
    h.functions.within h.functions.formed k less p past few t whole)
    (all_serve fs h.functions.constants n h.functions.within h.functions.formed))
    h.named h.counted ts h.levels h.formed h.constants h.homed h.stand h.spared s m h.room h.follows

pub returns-clause-unchanged : goal.returns-clause-unchanged
unfolding AllServe ServedBy
returns-clause-unchanged c fs n are = record {
  functions = λ k mask args w m less count room called same.
      let r = all_serve fs are.constants n are.within are.formed k less mask args w m count room called in
      let t = run by_words (code_of fs n k) m in
      record {
        world = world_stands (serves fs n k mask args w).world w m t same called.carries.has r.answers.carries.has
            called.carries.flag r.answers.carries.flag;
        st = r.answers.st;
        stack = r.answers.stack;
        callers = λ homes slot top. word_kept homes slot m t (λ q from lt. r.high q (omega (arith, top, from)) lt)
            r.answers.stack r.answers.st;
        predicates =
            λ p past few. all_leave by_words fs n are.within are.formed k less p past few m called.carries.whole;
      };
  statements = λ homes frame slots counter ts s m h same.
      let d = done fs n homes frame slots counter ts s m h in
      let z = stmts_done (serves fs n) ts s in
      record {
        world = world_stands z.world s.world m
            (run by_words (parts_trail (code_of fs n) (stmts_code homes frame counter ts)) m) same h.follows.shows.world
            d.follows.shows.world h.follows.flag d.follows.flag;
        frame = λ slot lt is. d.follows.shows.frame slot lt ∙ is ∙ sym (h.follows.shows.frame slot lt);
        behind = d.keeps;
      };
}

pub returns-clause-statements : goal.returns-clause-statements
returns-clause-statements c fs n homes frame slots counter ts s m h =
    (done fs n homes frame slots counter ts s m h).follows

pub returns-clause-frame : goal.returns-clause-frame
returns-clause-frame c fs n homes frame slots counter ts s m h = (done fs n homes frame slots counter ts s m h).keeps

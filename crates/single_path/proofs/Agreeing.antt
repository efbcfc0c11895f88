-- Words of frames and of memories that are those of variables, and stay so where both are set.
use Rattle.std.proofs.Common.{◌≡◌, ℕ, suc, ◌<◌, ◌≤◌, ◌==◌, List, [], ◌∷◌, length, Option, Some, None, refl, ap, sym, ◌∙◌, arith, eq-eqb, ap₂, subst}
use Rattle.std.specs.Prelude.{cond}
use Rattle.c_world.specs.World.{World, with_word, with_element}
use Rattle.sp_tree.specs.Operators.{unary_value, binary_value}
use Rattle.sp_tree.specs.Plain.{PlainSp, constant, frame_word, cell_word, array_word, before_one, between_two}
use Rattle.sp_tree.specs.Straight.{State, Serves, with_sp_target, write_done, args_worth, worth, stmt_done, stmts_done}
use Rattle.sp_tree.specs.Values.{sp_value, array_value}
use Rattle.sp_tree.proofs.Runs.{on}
use Rattle.c_meaning.specs.Actions.{PlainTarget, to_level, PlainAssignment}
use Rattle.c_meaning.specs.Actions as actions
use Rattle.c_meaning.specs.Resolved as resolved
use Rattle.c_meaning.specs.Values as values
use Rattle.single_path.specs.Made.{made_target, made_assignment, made_step}
use Rattle.single_path.specs.Widths.{expr_words, args_words, target_words, assignment_words, step_words}
use Rattle.single_path.proofs.Frames.{put_there, Still}

-- ---- states of a tree and of actions

-- the words of the first so many variables, and of the memories
pub record Agrees (n : ℕ) (s : State) (l : values.State) : Type 0 where
  pub locals : (x : ℕ) → x < n → s.frame x ≡ l.locals x
  pub world : s.world ≡ l.world

value_same : (n : ℕ) (e : PlainSp) (f l : ℕ → ℕ) (w : World) → ((x : ℕ) → x < n → f x ≡ l x) → expr_words e ≤ n
    → sp_value f w e ≡ sp_value l w e
value_same n (constant k) f l w same within = refl
value_same n (frame_word at) f l w same within = same at (omega (arith, within))
value_same n (cell_word cell) f l w same within = refl
value_same n (array_word array index) f l w same within =
    ap (λ i. array_value array i w) (value_same n index f l w same within)
value_same n (before_one op of) f l w same within = ap (unary_value op) (value_same n of f l w same within)
value_same n (between_two op a b) f l w same within =
    ap₂ (binary_value op) (value_same n a f l w same (omega (arith, within)))
    (value_same n b f l w same (omega (arith, within)))

pub worth_same : (n : ℕ) (e : PlainSp) (s : State) (l : values.State) → Agrees n s l → expr_words e ≤ n → worth e s
    ≡ resolved.worth e l
worth_same n e s l h within =
    value_same n e s.frame l.locals s.world h.locals within ∙ ap (λ w. sp_value l.locals w e) h.world

pub args_same : (n : ℕ) (args : List PlainSp) (s : State) (l : values.State) → Agrees n s l → args_words args ≤ n
    → args_worth args s ≡ resolved.args_worth args l
args_same n [] s l h within = refl
args_same n (e ∷ args) s l h within = ap₂ (λ v vs. v ∷ vs) (worth_same n e s l h (omega (arith, within)))
    (args_same n args s l h (omega (arith, within)))

pub args_count : (args : List PlainSp) (l : values.State) → length (resolved.args_worth args l) ≡ length args
args_count [] l = refl
args_count (e ∷ args) l = ap suc (args_count args l)

pub still_agrees : (n k : ℕ) (s t : State) (l : values.State) → n ≤ k → Still k s t → Agrees n s l → Agrees n t l
still_agrees n k s t l within h a = record {
  locals = λ x below. h.frame x (omega (arith, below, within))
      ∙ a.locals x below;
  world = h.world ∙ a.world;
}

-- ---- what is set

-- a target has its word in both, and no word after the variables is another
pub record Sets (n : ℕ) (s t : State) (l : values.State) : Type 0 where
  pub agrees : Agrees n t l
  pub others : (x : ℕ) → n ≤ x → t.frame x ≡ s.frame x

pub target_set : (n : ℕ) (target : PlainTarget) (v : ℕ) (s : State) (l : values.State) → Agrees n s l
    → target_words target ≤ n
    → Sets n s (with_sp_target (made_target target) v s) (resolved.with_target target v l)
target_set n (to_level at) v s l h within = record {
  agrees = record { locals = λ x below. ap (λ y. cond (at == x) v y) (h.locals x below); world = h.world };
  others = λ x behind. put_there at v x s.frame (omega (arith, behind, within));
}
target_set n (actions.to_cell cell) v s l h within = record {
  agrees = record { locals = h.locals; world = ap (with_word cell.region cell.word v) h.world };
  others = λ x behind. refl;
}
target_set n (actions.to_array array index) v s l h within = record {
  agrees = record {
    locals = h.locals;
    world = ap₂ (λ i w. with_element array.region array.first array.length i v w)
        (worth_same n index s l h within) h.world;
  };
  others = λ x behind. refl;
}

pub assignment_set : (g : Serves) (n mask : ℕ) (a : PlainAssignment) (s : State) (l : values.State) → s.frame mask ≡ 1
    → Agrees n s l → assignment_words a ≤ n
    → Sets n s (stmt_done g (made_assignment mask a) s) (resolved.assignment_done a l)
assignment_set g n mask a s l is h within =
    let value = worth_same n a.value s l h (omega (arith, within)) in
    let here = target_set n a.target (worth a.value s) s l h (omega (arith, within)) in
    subst (λ v. Sets n s (stmt_done g (made_assignment mask a) s) (resolved.with_target a.target v l)) value
    (subst (λ t. Sets n s t (resolved.with_target a.target (worth a.value s) l))
    (sym (on mask (write_done (made_target a.target) a.value) s (eq-eqb (s.frame mask) 1 is))) here)

pub step_set : (g : Serves) (n mask : ℕ) (step : Option PlainAssignment) (s : State) (l : values.State) → s.frame mask
    ≡ 1 → Agrees n s l → step_words step ≤ n
    → Sets n s (stmts_done g (made_step mask step) s) (resolved.step_done step l)
step_set g n mask None s l is h within = record { agrees = h; others = λ x behind. refl }
step_set g n mask (Some a) s l is h within = assignment_set g n mask a s l is h within

-- Calls and sends that act.
use Rattle.std.proofs.Common.{◌≡◌, ℕ, ◌<◌, ◌≤◌, ◌==◌, List, length, Option, Some, None, refl, ap, sym, ◌∙◌, arith, eq-eqb, ap₂, subst, max}
use Rattle.std.specs.Prelude.{cond}
use Rattle.c_world.specs.World.{World, with_send}
use Rattle.sp_tree.specs.Plain.{PlainSp, frame_word}
use Rattle.sp_tree.specs.Statements.{writes, stmt, one}
use Rattle.sp_tree.specs.Statements as tree
use Rattle.sp_tree.specs.Straight.{State, Outcome, Serves, with_slot, in_world, with_sp_target, with_result, write_done, transfer_done, args_worth, worth, stmt_done, stmts_done}
use Rattle.sp_tree.proofs.Runs.{on}
use Rattle.c_meaning.specs.Actions.{PlainTarget, to_level}
use Rattle.c_meaning.specs.Meaning as meaning
use Rattle.c_meaning.specs.Resolved as resolved
use Rattle.c_meaning.specs.Values as values
use Rattle.single_path.specs.declared.part_words.PartWords.{PartWords}
use Rattle.single_path.specs.Made.{made_target}
use Rattle.single_path.specs.Widths.{expr_words, args_words, target_words}
use Rattle.single_path.proofs.Frames.{put_here, put_there, Order}
use Rattle.single_path.proofs.Idle.{Quiet}
use Rattle.single_path.proofs.Agreeing.{Agrees, Sets, args_count, args_same, target_set, worth_same}

-- functions that give what others give where what calls them fits, and no more than quiet under another mask
pub record Serving (Fit : ℕ → ℕ → Type 0) (gc : resolved.Serves) (g : Serves) : Type 0 where
  pub quiet : Quiet g
  pub value : (k : ℕ) (args : List ℕ) (w : World) → Fit k (length args) → (g k 1 args w).value ≡ (gc k args w).value
  pub world : (k : ℕ) (args : List ℕ) (w : World) → Fit k (length args) → (g k 1 args w).world ≡ (gc k args w).world

-- after a call: the world, and the word that was given
record Called (n : ℕ) (mask k : ℕ) (args : List PlainSp) (result : Option ℕ) (g : Serves) (gc : resolved.Serves)
    (s : State) (l : values.State) : Type 0 where
  done : stmt_done g (tree.calls mask k args result) s
      ≡ with_result result (gc k (resolved.args_worth args l) l.world).value (in_world s
      (gc k (resolved.args_worth args l) l.world).world)

called : (Fit : ℕ → ℕ → Type 0) (gc : resolved.Serves) (g : Serves) → Serving Fit gc g → (n mask k : ℕ)
    (args : List PlainSp) (result : Option ℕ) (s : State)
    (l : values.State) → s.frame mask ≡ 1 → Agrees n s l → args_words args ≤ n → Fit k (length args)
    → Called n mask k args result g gc s l
called Fit gc g serving n mask k args result s l is h within fits =
    let given = g k (s.frame mask) (args_worth args s) s.world in
    let wanted = gc k (resolved.args_worth args l) l.world in
    let fits_there : Fit k (length (resolved.args_worth args l)) = subst (Fit k) (sym (args_count args l)) fits in
    let same : given ≡ g k 1 (resolved.args_worth args l) l.world =
    ap (λ u. g k u (args_worth args s) s.world) is
    ∙ ap₂ (g k 1) (args_same n args s l h within) h.world in
    let value : given.value ≡ wanted.value =
    ap (λ (x : Outcome). x.value) same ∙ serving.value k (resolved.args_worth args l) l.world fits_there in
    let world : given.world ≡ wanted.world =
    ap (λ (x : Outcome). x.world) same ∙ serving.world k (resolved.args_worth args l) l.world fits_there in
    record {
      done = on mask (with_result result given.value) (in_world s given.world) (eq-eqb (s.frame mask) 1 is)
          ∙ ap₂ (λ v w. with_result result v (in_world s w)) value world;
    }

-- what a function gives to a target outside of the frame goes by a free word
pub given_set : (Fit : ℕ → ℕ → Type 0) (gc : resolved.Serves) (g : Serves) → Serving Fit gc g → (n : ℕ) (p : PartWords)
    (k : ℕ) (args : List PlainSp) (target : PlainTarget)
    (s : State) (l : values.State) → Order n p → s.frame p.own ≡ 1 → Agrees n s l → args_words args ≤ n
    → target_words target ≤ n → Fit k (length args)
    → let t = stmts_done g (stmt (tree.calls p.own k args (Some p.free))
    (one (writes p.own (made_target target) (frame_word p.free)))) s in
    Agrees n t (resolved.outcome_done (Some target) l (gc k (resolved.args_worth args l) l.world))
    × ((x : ℕ) → n ≤ x → x < p.free → t.frame x ≡ s.frame x)
given_set Fit gc g serving n p k args target s l o is h within target_within fits =
    let given = gc k (resolved.args_worth args l) l.world in
    let t = with_slot p.free given.value (in_world s given.world) in
    let c = called Fit gc g serving n p.own k args (Some p.free) s l is h within fits in
    let free_after : n ≤ p.free = omega (arith, o.result, o.function, o.loop, o.own, o.free) in
    let m = meaning.in_world l given.world in
    let agrees : Agrees n t m = record {
      locals = λ x below. put_there p.free given.value x s.frame (omega (arith, below, free_after)) ∙ h.locals x below;
      world = refl;
    } in
    let own_there : t.frame p.own ≡ 1 = put_there p.free given.value p.own s.frame (omega (arith, o.free)) ∙ is in
    let word : t.frame p.free ≡ given.value = put_here p.free given.value s.frame in
    let set_there = target_set n target (t.frame p.free) t m agrees target_within in
    let written : stmts_done g (stmt (tree.calls p.own k args (Some p.free))
    (one (writes p.own (made_target target) (frame_word p.free)))) s
    ≡ with_sp_target (made_target target) (t.frame p.free) t =
    ap (stmt_done g (writes p.own (made_target target) (frame_word p.free))) c.done
    ∙ on p.own (write_done (made_target target) (frame_word p.free)) t (eq-eqb (t.frame p.own) 1 own_there) in (
      subst (λ v. Agrees n (stmts_done g (stmt (tree.calls p.own k args (Some p.free))
          (one (writes p.own (made_target target) (frame_word p.free)))) s)
          (resolved.with_target target v m)) word
          (subst (λ u. Agrees n u (resolved.with_target target (t.frame p.free) m)) (sym written) set_there.agrees),
      λ x behind below. ap (λ (u : State). u.frame x) written ∙ set_there.others x behind
          ∙ put_there p.free given.value x s.frame (omega (arith, below)),
    )

-- what is given goes nowhere, or to a variable
pub level_set : (Fit : ℕ → ℕ → Type 0) (gc : resolved.Serves) (g : Serves) → Serving Fit gc g → (n mask k : ℕ)
    (args : List PlainSp) (at : ℕ)
    (s : State) (l : values.State) → s.frame mask ≡ 1 → Agrees n s l → args_words args ≤ n → at < n
    → Fit k (length args)
    → Sets n s (stmt_done g (tree.calls mask k args (Some at)) s) (resolved.outcome_done (Some (to_level at)) l
    (gc k (resolved.args_worth args l) l.world))
level_set Fit gc g serving n mask k args at s l is h within below fits =
    let given = gc k (resolved.args_worth args l) l.world in
    let c = called Fit gc g serving n mask k args (Some at) s l is h within fits in
    subst (λ t. Sets n s t (resolved.outcome_done (Some (to_level at)) l given)) (sym c.done) (record {
      agrees = record { locals = λ x small. ap (λ y. cond (at == x) given.value y) (h.locals x small); world = refl };
      others = λ x behind. put_there at given.value x s.frame (omega (arith, behind, below));
    })

pub nothing_set : (Fit : ℕ → ℕ → Type 0) (gc : resolved.Serves) (g : Serves) → Serving Fit gc g → (n mask k : ℕ)
    (args : List PlainSp)
    (s : State) (l : values.State) → s.frame mask ≡ 1 → Agrees n s l → args_words args ≤ n → Fit k (length args)
    → Sets n s (stmt_done g (tree.calls mask k args None) s) (resolved.outcome_done None l
    (gc k (resolved.args_worth args l) l.world))
nothing_set Fit gc g serving n mask k args s l is h within fits =
    let given = gc k (resolved.args_worth args l) l.world in
    let c = called Fit gc g serving n mask k args None s l is h within fits in
    subst (λ t. Sets n s t (resolved.outcome_done None l given)) (sym c.done) (record {
      agrees = record { locals = h.locals; world = refl };
      others = λ x behind. refl;
    })

pub sent : (g : Serves) (n mask core : ℕ) (source target count : PlainSp) (s : State) (l : values.State) → s.frame mask
    ≡ 1 → Agrees n s l
    → max (expr_words source) (max (expr_words target) (expr_words count)) ≤ n
    → Sets n s (stmt_done g (tree.transfers mask core source target count) s) (resolved.transfer_done core source
    target count l)
sent g n mask core source target count s l is h within =
    let a = worth_same n source s l h (omega (arith, within)) in
    let b = worth_same n target s l h (omega (arith, within)) in
    let c = worth_same n count s l h (omega (arith, within)) in
    subst (λ t. Sets n s t (resolved.transfer_done core source target count l))
    (sym (on mask (transfer_done core source target count) s (eq-eqb (s.frame mask) 1 is))) (record {
      agrees = record {
        locals = h.locals;
        world = ap₂ (λ x y. with_send core x y (worth count s) s.world) a b
            ∙ ap₂ (λ z w. with_send core (resolved.worth source l) (resolved.worth target l) z w) c h.world;
      };
      others = λ x behind. refl;
    })

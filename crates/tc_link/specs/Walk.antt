-- To be believed. A core over the words of an image, without time: it fetches the bundle where it is and does it, and a
-- flow that was asked for takes effect after its last delay slot (Patmos Reference Handbook, control-flow
-- instructions). Registers and words are those of a run that is read late.
use Rattle.std.specs.Prelude.{◌≡◌, ℕ, pos, zero, suc, ◌+◌, nat_lt, Bool, true, List, [], ◌∷◌, Option, None, Some}
use Rattle.patmos_code.specs.Images.{Parts}
use Rattle.patmos_instr.specs.Bundles.{PlainBundle}
use Rattle.patmos_instr.specs.declared.instructions.Op.{Op}
use Rattle.patmos_instr.specs.declared.instructions.Op.TheVariants.{Branch, Call}
use Rattle.patmos_model.specs.declared.fetched.Fetched.TheVariants.{Found}
use Rattle.patmos_model.specs.declared.flow.Flow.{Flow}
use Rattle.patmos_model.specs.declared.flow.Goal.{Goal}
use Rattle.patmos_model.specs.declared.flow.Goal.TheVariants as goal
use Rattle.patmos_model.specs.Bundle.{fetched_at, asked_flow}
use Rattle.patmos_model.specs.Flows.{counted}
use Rattle.patmos_model.specs.Site.{size_at, has_place}
use Rattle.patmos_model.specs.State.{Plain}
use Rattle.patmos_sem.specs.Bundles.{effect_of}
use Rattle.sp_shape.specs.Run.{Run, Sources, late, run_late, other_backs, begun}
use Rattle.sp_shape.specs.Trail.{Step, does, begins}
use Rattle.tc_link.specs.Flat.{with_op}

-- the registers and words, the function and the offset in it where the next bundle stands, and the flow that is pending
pub record Walk : Type 0 where
  pub run : Run
  pub base : ℕ
  pub offset : ℕ
  pub flow : Option Flow

-- ---- flows that take effect

-- the goal of a flow without a delay slot left
abbrev pub due_in : ℕ → Goal → Option Goal
due_in zero goal = Some goal
due_in (suc slots) goal = None

abbrev pub due : Option Flow → Option Goal
due None = None
due (Some f) = due_in f.slots f.goal

-- it is a place in the code, seen from the function where the flow is
abbrev pub is_place : Parts → ℕ → Goal → Bool
is_place image base (goal.Within offset) = nat_lt offset (size_at image base)
is_place image base (goal.Call target) = has_place image target 0
is_place image base (goal.Fill target) = has_place image target 0
is_place image base (goal.Return back offset) = has_place image back offset

-- a call sets the place to which its function returns, and takes the first one from those that are told
abbrev pub with_back : ℕ → ℕ → Run → Run
with_back base offset m = record m {
  regs = record m.regs { srb = base; sro = offset };
  backs = other_backs m.backs;
}

abbrev pub gone : Goal → Walk → Walk
gone (goal.Within offset) w = record w { offset = offset; flow = None }
gone (goal.Call target) w = record { run = with_back w.base w.offset w.run; base = target; offset = 0; flow = None }
gone (goal.Fill target) w = record w { base = target; offset = 0; flow = None }
gone (goal.Return base offset) w = record w { base = base; offset = offset; flow = None }

abbrev pub gone_if : Option Goal → Walk → Walk
gone_if None w = w
gone_if (Some goal) w = gone goal w

-- once what is due took effect
abbrev pub flowed : Walk → Walk
flowed w = gone_if (due w.flow) w

-- what is due is a place
abbrev pub HasPlace : Parts → ℕ → Option Goal → Type 0
HasPlace image base None = Unit {0}
HasPlace image base (Some goal) = is_place image base goal ≡ true

abbrev pub IsPlaced : Parts → Walk → Type 0
IsPlaced image w = HasPlace image w.base (due w.flow)

-- ---- bundles

-- a bundle of so many words is done
abbrev pub bundle_done : Sources → PlainBundle → ℕ → Walk → Walk
bundle_done from b words w = record {
  run = late from b w.run;
  base = w.base;
  offset = w.offset + words;
  flow = counted w.flow (asked_flow w.offset (effect_of b w.run.regs));
}

-- without the target of a branch or a call
abbrev pub aimless : Op → Op
aimless (Branch offset) = Branch (pos 0)
aimless (Call target) = Call 0
aimless op = op

abbrev pub erased : PlainBundle → PlainBundle
erased b = with_op (aimless b.first.op) b

-- what is asked for besides what is pending: nothing, in a delay slot
abbrev pub IsAlone : Option Flow → Option Flow → Type 0
IsAlone None asked = Unit {0}
IsAlone (Some f) asked = asked ≡ None

-- what is fetched is the bundle, but for a target, and it is no flow in a delay slot
pub record Fetches (image : Parts) (b : PlainBundle) (w : Walk) : Type 0 where
  pub bundle : PlainBundle
  pub words : ℕ
  pub same : erased bundle ≡ erased b
  pub found : fetched_at image w.base w.offset ≡ Found bundle words
  pub alone : IsAlone w.flow (asked_flow w.offset (effect_of bundle w.run.regs))

-- ---- a trail

-- a call is due
abbrev pub IsCall : Option Goal → Type 0
IsCall (Some (goal.Call target)) = Unit {0}
IsCall _ = ⊥

-- a bundle is fetched and done, the flow that was due before it being none of a call; after it this is due
pub record DoesOne (image : Parts) (from : Sources) (b : PlainBundle) (d : Option Goal) (Rest : Walk
    → Type 0) (w : Walk) : Type 0 where
  pub placed : IsPlaced image w
  pub run_is : (flowed w).run ≡ w.run
  pub fetches : Fetches image b (flowed w)
  pub due_is : due (bundle_done from fetches.bundle fetches.words (flowed w)).flow ≡ d
  pub rest : Rest (bundle_done from fetches.bundle fetches.words (flowed w))

-- a call takes effect, and sets the place that is told
pub record Enters (image : Parts) (Rest : Walk → Type 0) (w : Walk) : Type 0 where
  pub placed : IsPlaced image w
  pub calls : IsCall (due w.flow)
  pub run_is : (flowed w).run ≡ begun w.run
  pub rest : Rest (flowed w)

-- from the first walk on, the bundles of the image are those of the steps, one after another, each flow
-- that takes effect goes to a place, and a call does where a function begins; these goals are due
-- after the bundles; the last walk is where it then is
abbrev pub Does : Parts → Sources → List Step → List (Option Goal) → Walk → Walk → Type 0
Does image from [] ds w e = (ds ≡ []) × (w ≡ e)
Does image from (does b ∷ steps) [] w e = ⊥
Does image from (does b ∷ steps) (d ∷ ds) w e = DoesOne image from b d (λ x. Does image from steps ds x e) w
Does image from (begins ∷ steps) ds w e = Enters image (λ x. Does image from steps ds x e) w

-- a walk begins at the first word of the function that starts at a place
abbrev pub walk_from : ℕ → Run → Walk
walk_from base m = record { run = m; base = base; offset = 0; flow = None }

-- steps are done one after another from there on, and leave what they leave when they are read late; and a
-- return is due to the place that was set when they began
pub record Follows (image : Parts) (from : Sources) (steps : List Step) (ds : List (Option Goal))
    (w : Walk) : Type 0 where
  pub last : Walk
  pub does_so : Does image from steps ds w last
  pub run : last.run ≡ run_late from steps w.run
  pub returns : due last.flow ≡ Some (goal.Return w.run.regs.srb w.run.regs.sro)

-- ---- cores

-- a core is where a walk is
pub record IsAs (w : Walk) (x : Plain) : Type 0 where
  pub regs : w.run.regs ≡ x.regs
  pub base : w.base ≡ x.base
  pub offset : w.offset ≡ x.offset
  pub flow : w.flow ≡ x.flow

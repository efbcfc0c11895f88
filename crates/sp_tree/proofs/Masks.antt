-- Masks that are not 1.
use Rattle.std.proofs.Common.{◌≡◌, ◌≢◌, ℕ, List, ap, ne_eqb, if◌then◌else◌}
use Rattle.std.specs.Prelude.{Option}
use Rattle.sp_tree.specs.Plain.{PlainSp}
use Rattle.sp_tree.specs.Statements.{PlainSpTarget, writes, calls, transfers, overruns}
use Rattle.sp_tree.specs.Straight.{State, Serves, args_worth, in_world, where_on, with_result, write_done, transfer_done, overrun_done, stmt_done}

pub off : (mask : ℕ) (change : State → State) (s : State) → s.frame mask ≢ 1 → where_on mask change s ≡ s
off mask change s is = ap (λ b. if b then change s else s) (ne_eqb (s.frame mask) 1 is)

pub write_off : (g : Serves) (mask : ℕ) (target : PlainSpTarget) (e : PlainSp) (s : State) → s.frame mask ≢ 1
    → stmt_done g (writes mask target e) s ≡ s
write_off g mask target e s is = off mask (write_done target e) s is

pub send_off : (g : Serves) (mask core : ℕ) (source target count : PlainSp) (s : State) → s.frame mask ≢ 1
    → stmt_done g (transfers mask core source target count) s ≡ s
send_off g mask core source target count s is = off mask (transfer_done core source target count) s is

pub overrun_off : (g : Serves) (mask : ℕ) (e : PlainSp) (s : State) → s.frame mask ≢ 1 → stmt_done g (overruns mask e) s
    ≡ s
overrun_off g mask e s is = off mask (overrun_done e) s is

pub call_off : (g : Serves) (mask k : ℕ) (args : List PlainSp) (given : Option ℕ) (s : State) → s.frame mask ≢ 1
    → stmt_done g (calls mask k args given) s ≡ in_world s (g k (s.frame mask) (args_worth args s) s.world).world
call_off g mask k args given s is =
    let run = g k (s.frame mask) (args_worth args s) s.world in
    off mask (with_result given run.value) (in_world s run.world) is

-- The statements of a body that have code: all, or all but the first one. What holds of all holds of them.
use Rattle.std.proofs.Common.{◌≡◌, ℕ, ◌≤◌, Bool, true, false, if◌then◌else◌, List, refl, true≢false, arith}
use Rattle.std.specs.Prelude.{is_some, ◌||◌}
use Rattle.std.proofs.lemmas.Bool.{and_parts}
use Rattle.sp_tree.specs.Formed.{stmt_formed, stmts_formed, stmts_levels}
use Rattle.sp_tree.specs.Cost.{stmts_cost}
use Rattle.sp_tree.specs.Statements.{PlainStmts, no_stmt, stmt, PlainFunction}
use Rattle.sp_emit.specs.Chains.{stmt_calls, stmts_call, stmts_chain}
use Rattle.sp_emit.specs.Counts.{HasStmtsCounts}
use Rattle.sp_emit.specs.Flags.{behind_first, begun_body, stmts_spared}
use Rattle.sp_emit.specs.Means.{HasStmtsConstants}
use Rattle.sp_emit.specs.Places.{flag_of, stmts_least}
use Rattle.sp_emit.specs.declared.stands.Flags.{Flags}

pub begun_is : (P : PlainStmts → Type 0) (flags : Flags) (f : PlainFunction) → P f.body → P (behind_first f.body)
    → P (begun_body flags f)
begun_is P flags f all rest = by (is_some (flag_of flags f.mask))
  where
    by : (b : Bool) → P (if b then behind_first f.body else f.body)
    by true = rest
    by false = all

formed : (fs : List PlainFunction) (number slots : ℕ) (ts : PlainStmts) → stmts_formed fs number slots ts ≡ true
    → stmts_formed fs number slots (behind_first ts) ≡ true
formed fs number slots no_stmt h = h
formed fs number slots (stmt t rest) h =
    (and_parts (stmt_formed fs number slots t) (stmts_formed fs number slots rest) h).1

levels : (ts : PlainStmts) → stmts_levels (behind_first ts) ≤ stmts_levels ts
levels no_stmt = omega arith
levels (stmt t rest) = omega arith

least : (tops : List ℕ) (ts : PlainStmts) → stmts_least tops (behind_first ts) ≤ stmts_least tops ts
least tops no_stmt = omega arith
least tops (stmt t rest) = omega arith

spared : (tops : List ℕ) (ts : PlainStmts) → stmts_spared tops (behind_first ts) ≤ stmts_spared tops ts
spared tops no_stmt = omega arith
spared tops (stmt t rest) = omega arith

costs : (ts : PlainStmts) → stmts_cost (behind_first ts) ≤ stmts_cost ts
costs no_stmt = omega arith
costs (stmt t rest) = omega arith

pub neither : (a b : Bool) → (a || b) ≡ false → (a ≡ false) × (b ≡ false)
neither true b none = absurd (true≢false none)
neither false b none = (refl, none)

uncalled : (ts : PlainStmts) → stmts_call ts ≡ false → stmts_call (behind_first ts) ≡ false
uncalled no_stmt h = h
uncalled (stmt t rest) h = (neither (stmt_calls t) (stmts_call rest) h).1

constants : (ts : PlainStmts) → HasStmtsConstants ts → HasStmtsConstants (behind_first ts)
constants no_stmt h = h
constants (stmt t rest) h = h.1

counts : (ts : PlainStmts) → HasStmtsCounts ts → HasStmtsCounts (behind_first ts)
counts no_stmt h = h
counts (stmt t rest) h = h.1

chain : (g : ℕ → ℕ) (ts : PlainStmts) → stmts_chain g (behind_first ts) ≤ stmts_chain g ts
chain g no_stmt = omega arith
chain g (stmt t rest) = omega arith

pub begun_formed : (flags : Flags) (fs : List PlainFunction) (number slots : ℕ) (f : PlainFunction)
    → stmts_formed fs number slots f.body ≡ true → stmts_formed fs number slots (begun_body flags f) ≡ true
begun_formed flags fs number slots f h =
    begun_is (λ ts. stmts_formed fs number slots ts ≡ true) flags f h (formed fs number slots f.body h)

pub begun_levels : (flags : Flags) (f : PlainFunction) → stmts_levels (begun_body flags f) ≤ stmts_levels f.body
begun_levels flags f = begun_is (λ ts. stmts_levels ts ≤ stmts_levels f.body) flags f (omega arith) (levels f.body)

pub begun_least : (flags : Flags) (tops : List ℕ) (f : PlainFunction) → stmts_least tops (begun_body flags f)
    ≤ stmts_least tops f.body
begun_least flags tops f =
    begun_is (λ ts. stmts_least tops ts ≤ stmts_least tops f.body) flags f (omega arith) (least tops f.body)

pub begun_spared : (flags : Flags) (tops : List ℕ) (f : PlainFunction) → stmts_spared tops (begun_body flags f)
    ≤ stmts_spared tops f.body
begun_spared flags tops f =
    begun_is (λ ts. stmts_spared tops ts ≤ stmts_spared tops f.body) flags f (omega arith) (spared tops f.body)

pub begun_costs : (flags : Flags) (f : PlainFunction) → stmts_cost (begun_body flags f) ≤ stmts_cost f.body
begun_costs flags f = begun_is (λ ts. stmts_cost ts ≤ stmts_cost f.body) flags f (omega arith) (costs f.body)

pub begun_uncalled : (flags : Flags) (f : PlainFunction) → stmts_call f.body ≡ false → stmts_call (begun_body flags f)
    ≡ false
begun_uncalled flags f h = begun_is (λ ts. stmts_call ts ≡ false) flags f h (uncalled f.body h)

pub begun_constants : (flags : Flags) (f : PlainFunction) → HasStmtsConstants f.body
    → HasStmtsConstants (begun_body flags f)
begun_constants flags f h = begun_is HasStmtsConstants flags f h (constants f.body h)

pub begun_counts : (flags : Flags) (f : PlainFunction) → HasStmtsCounts f.body → HasStmtsCounts (begun_body flags f)
begun_counts flags f h = begun_is HasStmtsCounts flags f h (counts f.body h)

pub begun_chain : (flags : Flags) (g : ℕ → ℕ) (f : PlainFunction) → stmts_chain g (begun_body flags f)
    ≤ stmts_chain g f.body
begun_chain flags g f = begun_is (λ ts. stmts_chain g ts ≤ stmts_chain g f.body) flags f (omega arith) (chain g f.body)

-- The statements of a function stand in its frame, and its window begins after all registers that its code uses.
use Rattle.std.proofs.Common.{◌≡◌, ℕ, zero, suc, ◌+◌, ◌<◌, ◌≤◌, ◌==◌, ◌⊎◌, inl, inr, Bool, true, false, if◌then◌else◌, List, length, slice_index_or, sym, subst, refl, arith}
use Rattle.std.proofs.lemmas.Bool.{cases_lt, and_parts, leb-true, ltb-true, eqb-true, eqb-false}
use Rattle.std.specs.Prelude.{nat_le, nat_lt}
use Rattle.sp_tree.specs.Formed.{entry_formed, is_formed, stmts_formed, stmts_levels, functions_formed, function_formed, slots_of}
use Rattle.sp_tree.specs.Statements.{PlainStmts, PlainFunction, no_function, PlainUnit}
use Rattle.sp_tree.proofs.Forms.{FunctionParts, parts_of_function}
use Rattle.sp_emit.specs.Flags.{begun_body}
use Rattle.sp_shape.specs.Parts.{no_part}
use Rattle.sp_shape.specs.Trail.{Step, parts_trail}
use Rattle.sp_emit.specs.Functions.{first_counter, places_of, codes, function_code}
use Rattle.sp_emit.specs.Places.{stmts_least, tops}
use Rattle.sp_emit.specs.declared.registers.TheConstants.{FIRST}
use Rattle.sp_emit.specs.declared.stands.Homes.{Homes}
use Rattle.sp_emit.proofs.Codes.{codes_at, code_of}
use Rattle.sp_emit.proofs.BegunBody.{begun_formed, begun_levels, begun_least}

-- the functions that a function calls are earlier, and its window begins after the registers that values take
pub record IsHomed (homes : Homes) (fs : List PlainFunction) (number slots : ℕ) : Type 0 where
  pub earlier : functions_formed fs number ≡ true
  pub some : 1 ≤ slots
  pub most : slots ≤ 128
  pub own : FIRST ≤ homes.first

-- statements have words for their counters of iterations up to the next one, and registers before the window
pub record ArePlaced (tops : List ℕ) (homes : Homes) (fs : List PlainFunction) (number slots counter : ℕ)
    (ts : PlainStmts) : Type 0 where
  pub levels : slots + stmts_levels ts ≤ counter + 1
  pub formed : stmts_formed fs number slots ts ≡ true
  pub least : stmts_least tops ts ≤ homes.first

-- a function whose window begins after all that its code and what it calls use
pub record InWindow (homes : Homes) (tops : List ℕ) (fs : List PlainFunction) (number : ℕ)
    (f : PlainFunction) : Type 0 where
  pub parts : FunctionParts fs number f
  pub homed : IsHomed homes fs number (slots_of f)
  pub least : stmts_least tops f.body ≤ homes.first

-- what is known of a well-formed unit
pub record UnitParts (u : PlainUnit) : Type 0 where
  pub few : length u.functions ≤ 512
  pub functions : functions_formed u.functions (length u.functions) ≡ true
  pub entry : u.entry < length u.functions
  pub parameters : (slice_index_or u.functions u.entry no_function).parameters ≡ 0

pub unit_parts : (u : PlainUnit) → is_formed u ≡ true → UnitParts u
unit_parts u formed =
    let a = and_parts (nat_le (length u.functions) 512) _ formed in
    let b = and_parts (functions_formed u.functions (length u.functions)) _ a.1 in
    let c = and_parts (entry_formed u) _ b.1 in
    let d = and_parts (nat_lt u.entry (length u.functions)) ((slice_index_or u.functions u.entry no_function).parameters
    == 0) c.0 in
    record {
      few = leb-true (length u.functions) 512 a.0;
      functions = b.0;
      entry = ltb-true u.entry (length u.functions) d.0;
      parameters = eqb-true (slice_index_or u.functions u.entry no_function).parameters 0 d.1;
    }

-- each in its window, over the earlier ones
pub own_window : (fs : List PlainFunction) (n : ℕ) → functions_formed fs n ≡ true
    → function_formed fs n (slice_index_or fs n no_function) ≡ true → InWindow (places_of fs n) (tops fs n) fs n
    (slice_index_or fs n no_function)
own_window fs n earlier formed =
    let p = parts_of_function fs n (slice_index_or fs n no_function) formed in
    record {
      parts = p;
      homed = record {
        earlier = earlier;
        some = omega (arith, p.mask);
        most = omega (arith, p.room, p.frame);
        own = omega arith;
      };
      least = omega arith;
    }

-- so its body is placed, but for the test of its mask where that stands in a predicate
pub body_placed : {homes : Homes} {tops : List ℕ} {fs : List PlainFunction} {number : ℕ} {f : PlainFunction}
    → InWindow homes tops fs number f
    → ArePlaced tops homes fs number (slots_of f) (first_counter f) (begun_body homes.flags f)
body_placed {homes} {tops} {fs} {number} {f} w =
    let p = w.parts in
    let levels = begun_levels homes.flags f in
    let fewer = begun_least homes.flags tops f in
    record {
      levels = omega (arith, p.room, p.mask, levels);
      formed = begun_formed homes.flags fs number (slots_of f) f p.body;
      least = omega (arith, fewer, w.least);
    }

-- what the code of each function does where that of all earlier ones does, that of all does
pub each_function : (fs : List PlainFunction) (P : ℕ → List Step → Type 0) → ((n : ℕ) → InWindow (places_of fs n)
    (tops fs n) fs n (slice_index_or fs n no_function) → ((k : ℕ) → k < n → P k (code_of fs n k))
    → P n (parts_trail (code_of fs n) (function_code (places_of fs n) (slice_index_or fs n no_function))))
    → (n : ℕ) → n ≤ length fs → functions_formed fs n ≡ true → (k : ℕ) → k < n → P k (code_of fs n k)
each_function fs P own zero within formed k less = absurd (omega (arith, less))
each_function fs P own (suc n) within formed k less =
    let parts = and_parts (functions_formed fs n) (function_formed fs n (slice_index_or fs n no_function)) formed in
    by (own n (own_window fs n parts.0 parts.1)) (each_function fs P own n (omega (arith, within)) parts.0) (k == n) refl
  where
    by : (((j : ℕ) → j < n → P j (code_of fs n j)) → P n (parts_trail (code_of fs n) (function_code (places_of fs n)
        (slice_index_or fs n no_function)))) → ((j : ℕ) → j < n → P j (code_of fs n j)) → (b : Bool) → (k == n) ≡ b
        → P k (if b then parts_trail (code_of fs n) (slice_index_or (codes fs) n no_part) else code_of fs n k)
    by last before true is = subst (λ i. P i (parts_trail (code_of fs n) (slice_index_or (codes fs) n no_part)))
        (sym (eqb-true k n is)) (subst (λ c. P n (parts_trail (code_of fs n) c))
        (sym (codes_at fs n (omega (arith, within)))) (last before))
    by last before false other = before k (lower (cases_lt k n))
      where
        lower : (k < n) ⊎ (n ≤ k) → k < n
        lower (inl lt) = lt
        lower (inr ge) = absurd (eqb-false k n other (omega (arith, ge, less)))

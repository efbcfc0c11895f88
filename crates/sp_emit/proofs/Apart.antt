-- What is loaded by the data cache is stored by no access past it.
use Rattle.std.proofs.Common.{◌≡◌, ℕ, ◌+◌, ◌*◌, ◌<◌, ◌≤◌, inl, inr, Bool, true, not, ◌&&◌, List, nat_lt, refl, sym, ap, ◌∙◌, subst, arith, true≢false}
use Rattle.std.specs.Prelude.{nat_le}
use Rattle.std.specs.List.{Contains, list_all}
use Rattle.std.proofs.lemmas.Bool.{and_parts, and_from, leb-true, ltb-true, le-leb, lt-ltb}
use Rattle.std.proofs.lemmas.List.Sums.{AllPass-from_list_all}
use Rattle.patmos_instr.specs.declared.memories.Mem.TheVariants as mem
use Rattle.patmos_instr.specs.declared.memories.StoreWidth.{StoreWidth}
use Rattle.patmos_instr.specs.declared.memories.Width.{Width}
use Rattle.patmos_sem.specs.declared.effects.Effect.TheVariants as effect
use Rattle.c_world.specs.Shown.{room_in}
use Rattle.c_world.specs.declared.region.Region.{Region}
use Rattle.c_world.specs.declared.region.Region.TheVariants as region
use Rattle.sp_tree.specs.Formed.{all_rooms, first_of, cell_formed}
use Rattle.sp_tree.specs.Uses.{Use, reads_cell, writes_array, use_apart, cell_apart, is_private, stands_inside, are_apart}
use Rattle.sp_tree.specs.declared.expressions.SpArray.{SpArray}
use Rattle.sp_tree.specs.declared.expressions.SpCell.{SpCell}
use Rattle.sp_shape.specs.Bundles.{is_main}
use Rattle.sp_emit.specs.Accesses.{IsVariable, IsElement, IsReadPlace, IsStoredPlace, MayAsk}
use Rattle.sp_emit.specs.Expressions.{address_of, cell_space, array_space}

-- of all uses each passes the test
of_each : {X : Type 0} (p : X → Bool) (xs : List X) (x : X) → list_all p xs ≡ true → Contains xs x → p x ≡ true
of_each p xs x all at = ap p (sym at.2) ∙ AllPass-from_list_all p xs all at.0 x at.1

-- a variable that is read stands inside no array that is stored
cell_outside : (uses : List Use) (c : SpCell) (a : SpArray) → are_apart uses ≡ true → Contains uses (reads_cell c)
    → Contains uses (writes_array a) → not (stands_inside c a) ≡ true
cell_outside uses c a apart read stored =
    of_each (cell_apart c) uses (writes_array a) (of_each (use_apart uses) uses (reads_cell c) apart read) stored

-- a private variable is read by the data cache, at its word
cached_variable : (c : SpCell) (address : ℕ) → IsVariable c mem.C address → (c.region ≡ region.Private) × (4 ≤ c.word)
    × (address ≡ 4 * c.word) × (c.word < 49152)
cached_variable c address v = by c.region refl v.space_is v.address_is v.formed
  where
    by : (r : Region) → c.region ≡ r → mem.C ≡ cell_space c.region → address ≡ address_of c.region c.word
        → cell_formed c ≡ true → (c.region ≡ region.Private) × (4 ≤ c.word) × (address ≡ 4 * c.word) × (c.word < 49152)
    by region.Private is space at formed =
        let parts = and_parts (nat_le (first_of c.region) c.word) (nat_lt c.word (room_in c.region all_rooms)) formed in (
          is,
          subst (λ r. first_of r ≤ c.word) is (leb-true (first_of c.region) c.word parts.0),
          at ∙ ap (λ r. address_of r c.word) is ∙ omega arith,
          subst (λ r. c.word < room_in r all_rooms) is (ltb-true c.word (room_in c.region all_rooms) parts.1),
        )
    by _ is space at formed = absurd cc

-- no element is loaded by the data cache
no_cached_array : (a : SpArray) → mem.C ≡ array_space a.region → ⊥
no_cached_array a is = by a.region is
  where
    by : (r : Region) → mem.C ≡ array_space r → ⊥
    by region.Scratch is = cc
    by _ is = cc

-- a variable that is stored past the data cache is shared
stored_variable : (c : SpCell) (address : ℕ) → IsVariable c mem.M address → 0x1000000 ≤ address
stored_variable c address v = by c.region refl v.space_is v.address_is
  where
    by : (r : Region) → c.region ≡ r → mem.M ≡ cell_space r → address ≡ address_of c.region c.word → 0x1000000 ≤ address
    by region.Shared is space at = let e = at ∙ ap (λ r. address_of r c.word) is in omega (arith, e)
    by _ is space at = absurd cc

-- an element of a private array is not where a private variable is that stands outside it
element_elsewhere : (c : SpCell) (a : SpArray) (address : ℕ) → c.region ≡ region.Private → address ≡ 4 * c.word
    → c.word < 49152 → not (stands_inside c a) ≡ true → IsElement a mem.M address → ⊥
element_elsewhere c a address private at small outside e = by a.region refl e.space_is (sym e.address_is ∙ at)
  where
    by : (r : Region) → a.region ≡ r → mem.M ≡ array_space r → address_of a.region (a.first + e.index) ≡ 4 * c.word → ⊥
    by region.Private is space same =
        let word : 4 * (a.first + e.index) ≡ 4 * c.word =
        (let s = ap (λ r. address_of r (a.first + e.index)) (sym is) ∙ same in omega (arith, s)) in
        let inside : stands_inside c a ≡ true =
        ap (λ r. is_private r && (is_private a.region && (nat_le a.first c.word && nat_lt c.word (a.first + a.length))))
        private
        ∙ ap (λ r. is_private r && (nat_le a.first c.word && nat_lt c.word (a.first + a.length))) is
        ∙ and_from (nat_le a.first c.word) (nat_lt c.word (a.first + a.length)) (le-leb a.first c.word
        (omega (arith, word))) (lt-ltb c.word (a.first + a.length) (omega (arith, word, e.within))) in
        true≢false (sym outside ∙ ap not inside)
    by region.Shared is space same =
        let s = ap (λ r. address_of r (a.first + e.index)) (sym is) ∙ same in omega (arith, s, small)
    by region.Scratch is space same = cc
    by region.Comm is space same = cc

apart_places : (uses : List Use) (address : ℕ) → are_apart uses ≡ true → IsReadPlace (Contains uses) mem.C address
    → IsStoredPlace (Contains uses) mem.M address → ⊥
apart_places uses address apart (inr (inl (a, named, e))) stored = no_cached_array a e.space_is
apart_places uses address apart (inr (inr (a, named, e))) stored = no_cached_array a e.space_is
apart_places uses address apart (inl (c, named, v)) stored = by stored (cached_variable c address v)
  where
    by : IsStoredPlace (Contains uses) mem.M address → (c.region ≡ region.Private) × (4 ≤ c.word)
        × (address ≡ 4 * c.word) × (c.word < 49152) → ⊥
    by (inl (d, other, w)) (private, some, at, small) =
        let far = stored_variable d address w in omega (arith, far, at, small)
    by (inr (inl (a, other, e))) (private, some, at, small) =
        element_elsewhere c a address private at small (cell_outside uses c a apart named other) e
    by (inr (inr (inl spare))) (private, some, at, small) = omega (arith, at, some, spare.address_is)
    by (inr (inr (inr (core, other, port)))) (private, some, at, small) = absurd (true≢false (ap is_main port.space_is))

pub cached_apart : (uses : List Use) (width : Width) (rd : ℕ) (wide : StoreWidth) (value address : ℕ)
    → are_apart uses ≡ true
    → MayAsk (Contains uses) (effect.Load mem.C width rd address)
    → MayAsk (Contains uses) (effect.Store mem.M wide address value) → ⊥
cached_apart uses width rd wide value address apart load store = apart_places uses address apart load.1 store.1

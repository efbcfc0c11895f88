-- Which cells the code of a task may read and store: what is so of the cells of the variables, elements and registers
-- that its tree names is so of the cell of each of its places.
use Rattle.std.proofs.Common.{◌≡◌, true, ℕ, ◌+◌, ◌*◌, ◌%◌, ◌^◌, ◌<◌, ◌⊎◌, inl, inr, Option, Some, ap, sym, subst, ◌∙◌, arith}
use Rattle.std.specs.Prelude.{nat_le, nat_lt}
use Rattle.std.proofs.lemmas.Bool.{and_parts, leb-true, ltb-true}
use Rattle.c_world.specs.Shown.{room_in}
use Rattle.c_world.specs.declared.region.Region.{Region}
use Rattle.c_world.specs.declared.region.Region.TheVariants as region
use Rattle.local_store.specs.declared.map.Cell.{Cell}
use Rattle.local_store.specs.declared.map.Cell.TheVariants as cell
use Rattle.patmos_instr.specs.declared.memories.Mem.{Mem}
use Rattle.patmos_instr.specs.declared.memories.Mem.TheVariants as mem
use Rattle.sp_tree.specs.Formed.{all_rooms, first_of, cell_formed, array_formed}
use Rattle.sp_tree.specs.Uses.{Use, reads_cell, reads_array, writes_cell, writes_array, sends_to}
use Rattle.sp_tree.specs.declared.expressions.SpArray.{SpArray}
use Rattle.sp_tree.specs.declared.expressions.SpCell.{SpCell}
use Rattle.sp_shape.specs.Memory.{cell_of}
use Rattle.sp_emit.specs.Accesses.{IsVariable, IsElement, IsPort, IsReadPlace, IsStoredPlace}
use Rattle.sp_emit.specs.Expressions.{address_of, cell_space, array_space}
use Rattle.sp_emit.proofs.Cells.{cell_in, cell_found, element_found}
use Rattle.sp_emit.proofs.Sends.{port_found}

-- ---- variables, elements and registers

cell_within : (c : SpCell) → cell_formed c ≡ true → c.word < room_in c.region all_rooms
cell_within c formed =
    let parts = and_parts (nat_le (first_of c.region) c.word) (nat_lt c.word (room_in c.region all_rooms)) formed in
    ltb-true c.word (room_in c.region all_rooms) parts.1

array_within : (a : SpArray) → array_formed a ≡ true → (index : ℕ) → index < a.length
    → a.first + index < room_in a.region all_rooms
array_within a formed index within =
    let parts = and_parts (nat_le (first_of a.region) a.first) (nat_le (a.first + a.length)
    (room_in a.region all_rooms)) formed in
    omega (arith, within, leb-true (a.first + a.length) (room_in a.region all_rooms) parts.1)

-- no array is reached by the data cache
pub no_cached_element : (r : Region) → mem.C ≡ array_space r → ⊥
no_cached_element region.Scratch is = let e : mem.C ≡ mem.L = is in cc
no_cached_element region.Comm is = let e : mem.C ≡ mem.L = is in cc
no_cached_element region.Private is = let e : mem.C ≡ mem.M = is in cc
no_cached_element region.Shared is = let e : mem.C ≡ mem.M = is in cc

-- what passes the data cache is not local
pub no_local : (mem.L ≡ mem.C) ⊎ (mem.L ≡ mem.M) → ⊥
no_local (inl is) = cc
no_local (inr is) = cc

-- a property of cells, of those that variables and elements in one space may have
module _ (P : Option Cell → Type 0) (space : Mem) (address : ℕ) where
  abbrev pub OfVariable : SpCell → Type 0
  OfVariable c =
      space ≡ cell_space c.region → c.word < room_in c.region all_rooms → address ≡ address_of c.region c.word
      → P (Some (cell_in c.region c.word))

  abbrev pub OfElement : SpArray → Type 0
  OfElement a =
      (index : ℕ) → space ≡ array_space a.region → a.first + index < room_in a.region all_rooms
      → address ≡ address_of a.region (a.first + index) → P (Some (cell_in a.region (a.first + index)))

  pub at_variable : (c : SpCell) → OfVariable c → IsVariable c space address → P (cell_of space address)
  at_variable c so v =
      let within = cell_within c v.formed in
      subst P (sym ((λ i. cell_of (v.space_is i) (v.address_is i)) ∙ cell_found c.region c.word within))
      (so v.space_is within v.address_is)

  pub at_element : (a : SpArray) → OfElement a → IsElement a space address → P (cell_of space address)
  at_element a so v =
      let within = array_within a v.formed v.index v.within in
      subst P (sym ((λ i. cell_of (v.space_is i) (v.address_is i)) ∙ element_found a.region (a.first + v.index) within))
      (so v.index v.space_is within v.address_is)

  at_port : (core : ℕ) → core < 16 → (v : IsPort core space address)
      → P (Some (cell.Port core (4 * v.register))) → P (cell_of space address)
  at_port core low v so =
      let at : (0x20000 + 16 * core + v.register * 4) % 2 ^ 32 ≡ address =
      omega (arith, v.address_is, low, v.within) in
      subst P (sym (ap (λ s. cell_of s address) v.space_is ∙ sym (ap (cell_of mem.L) at)
      ∙ port_found core v.register low v.within)) so

-- ---- places

module _ (Named : Use → Type 0) (P : Option Cell → Type 0) (space : Mem) (address : ℕ) where
  pub at_read : ((c : SpCell) → Named (reads_cell c) → OfVariable P space address c)
      → ((a : SpArray) → Named (reads_array a) → OfElement P space address a)
      → ((r : Region) → space ≡ array_space r → P (cell_of space 0))
      → IsReadPlace Named space address → P (cell_of space address)
  at_read variable element none (inl v) = at_variable P space address v.0 (variable v.0 v.1) v.2
  at_read variable element none (inr (inl v)) = at_element P space address v.0 (element v.0 v.1) v.2
  at_read variable element none (inr (inr v)) =
      subst (λ a. P (cell_of space a)) (sym v.2.address_is) (none v.0.region v.2.space_is)

  pub at_stored : ((core : ℕ) → Named (sends_to core) → core < 16)
      → ((c : SpCell) → Named (writes_cell c) → OfVariable P space address c)
      → ((a : SpArray) → Named (writes_array a) → OfElement P space address a)
      → ((space ≡ mem.C) ⊎ (space ≡ mem.M) → P (cell_of space 0))
      → ((core register : ℕ) → Named (sends_to core) → register < 3 → space ≡ mem.L
      → P (Some (cell.Port core (4 * register))))
      → IsStoredPlace Named space address → P (cell_of space address)
  at_stored few variable element spare port (inl v) = at_variable P space address v.0 (variable v.0 v.1) v.2
  at_stored few variable element spare port (inr (inl v)) = at_element P space address v.0 (element v.0 v.1) v.2
  at_stored few variable element spare port (inr (inr (inl v))) =
      subst (λ a. P (cell_of space a)) (sym v.address_is) (spare v.space_is)
  at_stored few variable element spare port (inr (inr (inr v))) =
      at_port P space address v.0 (few v.0 v.1) v.2 (port v.0 v.2.register v.1 v.2.within v.2.space_is)

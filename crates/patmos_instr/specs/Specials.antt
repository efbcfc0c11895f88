-- To be believed. The numbers that special registers have in an instruction's word, and each list in the order of its
-- numbers. TP1, our profile of Patmos, numbers them from 0 without gaps.
use Rattle.std.specs.Prelude.{ℕ, List, [], ◌∷◌}
use Rattle.patmos_instr.specs.declared.specials.Special.{Special}
use Rattle.patmos_instr.specs.declared.specials.Special.TheVariants as special
use Rattle.patmos_instr.specs.declared.specials.WritableSpecial.{WritableSpecial}
use Rattle.patmos_instr.specs.declared.specials.WritableSpecial.TheVariants as writable

-- a special register that is read
abbrev pub special_number : Special → ℕ
special_number special.S0 = 0
special_number special.Sl = 1
special_number special.Sh = 2
special_number special.Srb = 3
special_number special.Sro = 4
special_number special.St = 5
special_number special.Ss = 6

abbrev pub specials : List Special
specials = special.S0 ∷ special.Sl ∷ special.Sh ∷ special.Srb ∷ special.Sro ∷ special.St ∷ special.Ss ∷ []

-- a special register that is written: the first five of them, under the same numbers
abbrev pub writable_special_number : WritableSpecial → ℕ
writable_special_number writable.S0 = 0
writable_special_number writable.Sl = 1
writable_special_number writable.Sh = 2
writable_special_number writable.Srb = 3
writable_special_number writable.Sro = 4

abbrev pub writable_specials : List WritableSpecial
writable_specials = writable.S0 ∷ writable.Sl ∷ writable.Sh ∷ writable.Srb ∷ writable.Sro ∷ []

-- To be believed. The ranges of an instruction's fields (Patmos Reference Handbook, instruction formats). A field holds
-- a plain number, and these say which numbers.
use Rattle.std.specs.Prelude.{ℕ, ℤ, pos, negsuc, ◌-◌, ◌^◌, ◌<◌, nat_lt, if◌then◌else◌}

-- a general register: r0 to r31
abbrev pub FitsReg : ℕ → Type 0
FitsReg n = n < 32

-- a predicate register: p0 to p7
abbrev pub FitsPred : ℕ → Type 0
FitsPred n = n < 8

-- the unsigned immediates of 5, 7 and 12 bits
abbrev pub FitsImm5 : ℕ → Type 0
FitsImm5 n = n < 32

abbrev pub FitsImm7 : ℕ → Type 0
FitsImm7 n = n < 128

abbrev pub FitsImm12 : ℕ → Type 0
FitsImm12 n = n < 4096

-- the place of a word of the code, of 22 bits
abbrev pub FitsAddr22 : ℕ → Type 0
FitsAddr22 n = n < 2 ^ 22

-- a signed offset of 22 bits: from -2^21 to 2^21 - 1 (`negsuc n` is -1 - n)
abbrev pub FitsOff22 : ℤ → Type 0
FitsOff22 (pos n) = n < 2 ^ 21
FitsOff22 (negsuc n) = n < 2 ^ 21

-- the 22 bits of an offset in two's complement
abbrev pub offset_bits : ℤ → ℕ
offset_bits (pos n) = n
offset_bits (negsuc n) = 2 ^ 22 - 1 - n

-- the offset that 22 bits name in two's complement
abbrev pub offset_of : ℕ → ℤ
offset_of bits = if nat_lt bits (2 ^ 21) then pos bits else negsuc (2 ^ 22 - 1 - bits)

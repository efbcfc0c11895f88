-- To be believed. What the refusals of `read_all` say.
use Rattle.std.specs.Prelude.{ℕ, ◌<◌, ◌≤◌, List, length}
use Rattle.tc_io.specs.declared.read_all_bytes.ReadError.{ReadError}
use Rattle.tc_io.specs.declared.read_all_bytes.ReadError.TheVariants.{ReadFault, TooLong, Memory}

-- a refusal against the bytes that came in the call: too long exactly where more than `limit` came
abbrev pub Explains : ℕ → List ℕ → ReadError → Type 0
Explains limit came ReadFault = length came ≤ limit
Explains limit came TooLong = limit < length came
Explains limit came Memory = length came ≤ limit

-- a refusal where no fault came and the source had `bytes` left: too many bytes, or want of memory
abbrev pub RefusesHonestly : ℕ → List ℕ → ReadError → Type 0
RefusesHonestly limit bytes ReadFault = ⊥
RefusesHonestly limit bytes TooLong = limit < length bytes
RefusesHonestly limit bytes Memory = Unit {0}

-- Words in a `Vec`, as a function of their numbers.
use Rattle.std.proofs.Common.{◌≡◌, ℕ, List, slice_index, replicate, false, refl}
use Rattle.tc_word.proofs.Items.{zero_at}
use Rattle.c_world.specs.World.{Sending, fresh}
use Rattle.c_world.specs.Shown.{shown}
use Rattle.c_world.specs.declared.memory.Memory.{Memory}

zeros : (n : ℕ) → slice_index (replicate n 0) ≡ (λ _. 0)
zeros n = λ i word. zero_at n word i

-- memories whose words are all 0 show a fresh world
pub fresh_shown : (m : Memory) (n : ℕ) (sends : List Sending) → m.scratch.items ≡ replicate 2048 0 → m.comm.items
    ≡ replicate 512 0
    → m.private.items ≡ replicate n 0 → m.shared.items ≡ replicate 4096 0 → m.overrun ≡ false
    → shown m sends ≡ fresh sends
fresh_shown m n sends a b c d e = rw (a, b, c, d, e, zeros 2048, zeros 512, zeros n, zeros 4096) refl

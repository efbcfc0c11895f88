-- To be believed. What is reported of a program: three flags, and a word with a bit for each core that words are sent to.
use Rattle.std.specs.Prelude.{◌≡◌, ℕ, ◌<◌, ◌^◌, List}
use Rattle.c_tree.specs.Plain.{PlainItem}
use Rattle.c_mentions.specs.declared.mentioned.Mentions.{Mentions}
use Rattle.c_mentions.specs.Bits.{has_bit}
use Rattle.c_mentions.specs.Mentions.{comm_array, shared_array, mentions, assigns, sends_to}

pub record Tells (m : Mentions) (items : List PlainItem) : Type 0 where
  pub comm : m.comm ≡ mentions comm_array items
  pub shared : m.shared ≡ mentions shared_array items
  pub assigns_shared : m.assigns_shared ≡ assigns shared_array items
  pub sends : (core : ℕ) → core < 16 → has_bit core m.sends ≡ sends_to core items
  pub small : m.sends < 2 ^ 16

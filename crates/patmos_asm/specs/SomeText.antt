-- To be believed. What is the code of some text.
use Rattle.std.specs.Prelude.{◌≡◌, ℕ, List, Ok}
use Rattle.patmos_asm.specs.Assembly.{CodeParts, code_of}

pub record IsCode (parts : CodeParts) : Type 0 where
  pub text : List ℕ
  pub is : code_of text ≡ Ok parts

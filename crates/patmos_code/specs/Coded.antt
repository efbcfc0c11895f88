-- To be believed. The words of a code.
use Rattle.std.specs.Prelude.{ℕ, List, [], ◌∷◌, if◌then◌else◌}
use Rattle.patmos_code.specs.declared.coding.Coded.{Coded}

-- one word, or two
abbrev pub coded_words : Coded → List ℕ
coded_words c = if c.two then c.first ∷ c.second ∷ [] else c.first ∷ []

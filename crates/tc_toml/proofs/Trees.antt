-- The tree of bytes, by what `toml` says of them.
use Rattle.std.proofs.Common.{◌≡◌, Bool, true, false, List, ℕ, refl, Some, None, cond}
use Rattle.std.specs.Str.{IsUtf8, is_utf8}
use Rattle.std.proofs.lemmas.Str.{IsUtf8-from_is_utf8, is_utf8-from_IsUtf8}
use Rattle.toml.specs.Data.{Members}
use Rattle.toml.specs.Parse.{parse_document}
use Rattle.tc_toml.specs.Tree.{tree_of}

pub tree_of_text : (bytes : List ℕ) (ms : Members) → IsUtf8 bytes → parse_document bytes ≡ Some ms
    → tree_of bytes ≡ Some ms
unfolding tree_of
tree_of_text bytes ms text is = rw (is_utf8-from_IsUtf8 bytes text) is

none_by_cases : (bytes : List ℕ) (text : Bool) → is_utf8 bytes ≡ text → (IsUtf8 bytes → parse_document bytes ≡ None)
    → cond text (parse_document bytes) None ≡ None
none_by_cases bytes true is none = none (IsUtf8-from_is_utf8 bytes is)
none_by_cases bytes false is none = refl

pub tree_of_no_text : (bytes : List ℕ) → (IsUtf8 bytes → parse_document bytes ≡ None) → tree_of bytes ≡ None
unfolding tree_of
tree_of_no_text bytes none = none_by_cases bytes (is_utf8 bytes) refl none

-- To be believed. Names and keywords (C99 6.4.1 and 6.4.2).
use Rattle.std.specs.Prelude.{ℕ, Bool, true, false, if◌then◌else◌, List, [], ◌∷◌, bytes_eq, codes, Option, None, Some}
use Rattle.c_tree.specs.declared.tokens.Token.{Token}
use Rattle.c_tree.specs.declared.tokens.Token.TheVariants as token
use Rattle.c_tree.specs.declared.tokens.Keyword.{Keyword}
use Rattle.c_tree.specs.declared.tokens.Keyword.TheVariants as keyword

-- the keywords that programs use: those of C99, and `_SPM` and `send` of our subset
abbrev pub keywords : List (List ℕ × Keyword)
keywords =
    (codes "int", keyword.Int) ∷ (codes "unsigned", keyword.Unsigned) ∷ (codes "void", keyword.Void)
    ∷ (codes "_SPM", keyword.Scratchpad)
    ∷ (codes "send", keyword.Send) ∷ (codes "if", keyword.If) ∷ (codes "else", keyword.Else)
    ∷ (codes "while", keyword.While) ∷ (codes "for", keyword.For)
    ∷ (codes "break", keyword.Break) ∷ (codes "continue", keyword.Continue) ∷ (codes "return", keyword.Return) ∷ []

-- the other keywords of C99, which are tokens that no program uses
abbrev pub unused : List (List ℕ)
unused =
    codes "auto" ∷ codes "case" ∷ codes "char" ∷ codes "const" ∷ codes "default" ∷ codes "do" ∷ codes "double"
    ∷ codes "enum" ∷ codes "extern"
    ∷ codes "float" ∷ codes "goto" ∷ codes "inline" ∷ codes "long" ∷ codes "register" ∷ codes "restrict"
    ∷ codes "short" ∷ codes "signed"
    ∷ codes "sizeof" ∷ codes "static" ∷ codes "struct" ∷ codes "switch" ∷ codes "typedef" ∷ codes "union"
    ∷ codes "volatile" ∷ codes "_Bool"
    ∷ codes "_Complex" ∷ codes "_Imaginary" ∷ []

abbrev pub is_among : List ℕ → List (List ℕ) → Bool
is_among name [] = false
is_among name (w ∷ ws) = if bytes_eq name w then true else is_among name ws

-- the keyword that a name is among these
abbrev pub keyword_among : List ℕ → List (List ℕ × Keyword) → Option Keyword
keyword_among name [] = None
keyword_among name (k ∷ ks) = if bytes_eq name k.0 then Some k.1 else keyword_among name ks

-- what is written as a name is a keyword, or else that name
abbrev pub word_of : List ℕ → Token
word_of name = elim (keyword_among name keywords) [
  | Some k ↦ token.Keyword k
  | None ↦ if is_among name unused then token.Keyword keyword.Other else token.Word name
]

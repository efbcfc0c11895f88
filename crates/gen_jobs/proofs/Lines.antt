-- Lines of a generated job, read.
use Rattle.std.proofs.Common.{◌≡◌, ℕ, zero, suc, ◌-◌, ◌<◌, ◌^◌, true, false, ◌==◌, List, [], ◌∷◌, ◌++◌, length, length-append, codes, subst, refl, arith, pos, Option, Some, None, option_and_then, option_map, ap, sym, ◌∙◌}
use Rattle.std.specs.Fmt.{decimal}
use Rattle.std.specs.List.{list_all}
use Rattle.std.proofs.lemmas.Bool.Decides.{nat_tests}
use Rattle.toml_parser.specs.Lexical.{first}
use Rattle.toml_parser.specs.Strings.{body, is_plain, quoted, special}
use Rattle.toml_writer.specs.Text.{key_text}
use Rattle.toml.specs.Data.{integer, string}
use Rattle.toml.specs.Parse.{val, atom, line, lines, expression, ends_line, parse_document, skip_bom}
use Rattle.toml_parser.specs.Lexical.{skip_ws, skip_blank}
use Rattle.toml_parser.proofs.LexicalLemmas.{skip_ws_none, skip_from-nil}
use Rattle.toml.proofs.Turns.{keyval_ok, lines_end, lines_more, lines_refused}
use Rattle.toml.proofs.Blanks.{skip_none, skip_newline, skip_within}
use Rattle.toml.proofs.ReadValues.{key_equals-pair}
use Rattle.toml.specs.Tables.{Document, Expression, define, key_value, no_nodes, close}
use Rattle.toml.proofs.ReadLines.{Turn, line_turn, run}

-- three apostrophes and a newline before a text: they open a literal string of lines, or close it
abbrev pub delimited : List ℕ → List ℕ
delimited text = 39 ∷ 39 ∷ 39 ∷ 10 ∷ text

-- the lines that set a source
abbrev pub source_text : List ℕ → List ℕ → List ℕ
source_text content rest = codes "source" ++ (codes " = " ++ delimited (content ++ delimited rest))

-- a literal string reads as itself
literal_body : (content rest : List ℕ) (n : ℕ) → list_all (is_plain 39 true) content ≡ true → length content < n
    → (first rest == 39) ≡ false
    → body 39 true n (content ++ 39 ∷ 39 ∷ 39 ∷ rest) ≡ Some (content, rest)
unfolding body special
literal_body [] [] (suc n) plain more other = refl
literal_body [] (r ∷ rest) (suc n) plain more other = rw other refl
literal_body (c ∷ cs) rest (suc n) plain more other =
    let here : is_plain 39 true c ≡ true = grind (arith, nat_tests) in
    let there : list_all (is_plain 39 true) cs ≡ true = grind (arith, nat_tests) in
    rw (here, literal_body cs rest n there (omega arith) other) refl
literal_body content rest zero plain more other = absurd (omega arith)

-- a key with a number
pub number_turn : (k : List ℕ) (n : ℕ) (rest : List ℕ) → key_text k ≡ k → n < 2 ^ 63
    → Turn ([], k) (key_value (integer (pos n))) ((k ++ (codes " = " ++ (decimal n ++ 10 ∷ []))) ++ rest) rest
number_turn k n rest bare few = line_turn false false ([], k) (key_value (integer (pos n))) _ rest
    (decimal n, ap (λ key. key ++ (codes " = " ++ (decimal n ++ 10 ∷ []))) (sym bare), (refl, omega (arith, few)))
    (refl, omega arith, refl)

-- the value of a source
source_value : (content rest : List ℕ) → list_all (is_plain 39 true) content ≡ true
    → val 80 (delimited (content ++ delimited rest)) ≡ Some (string content, 10 ∷ rest)
unfolding val atom quoted
source_value content rest plain =
    let size = length-append content (delimited rest) in
    rw (literal_body content (10 ∷ rest) (length (delimited (content ++ delimited rest))) plain
    (omega (arith, size)) refl) refl

ends_at_newline : (rest : List ℕ) → ends_line (skip_ws (10 ∷ rest)) ≡ true
ends_at_newline rest = rw (skip_ws_none (10 ∷ rest) refl) (grind (arith, nat_tests))

source_line : (content rest : List ℕ) → list_all (is_plain 39 true) content ≡ true
    → line (source_text content rest) ≡ Some ((([], codes "source"), key_value (string content)), 10 ∷ rest)
unfolding line expression key_text
source_line content rest plain =
    let v = delimited (content ++ delimited rest) in
    let pair = keyval_ok (val 80) (source_text content rest) v (10 ∷ rest) ([], codes "source") (string content)
    (key_equals-pair (codes "source") v refl) (source_value content rest plain) in
    rw (pair, ends_at_newline rest) refl

pub source_turn : (content rest : List ℕ) → list_all (is_plain 39 true) content ≡ true
    → Turn ([], codes "source") (key_value (string content)) (source_text content rest) rest
source_turn content rest plain =
    let size = length-append content (delimited rest) in (
      source_text content rest,
      skip_none (source_text content rest) 115 refl refl,
      source_line content rest plain,
      omega (arith, size),
      omega (arith, size),
      refl,
    )

-- lines that are read one after another, each with its expression
abbrev pub ReadsTo : List Expression → List ℕ → List ℕ → Type 0
ReadsTo [] text end = text ≡ end
ReadsTo (e ∷ es) text end = (rest : List ℕ) × Turn e.0 e.1 text rest × ReadsTo es rest end

pub reads_on : (es fs : List Expression) (text middle end : List ℕ) → ReadsTo es text middle → ReadsTo fs middle end
    → ReadsTo (es ++ fs) text end
reads_on [] fs text middle end read more = subst (λ t. ReadsTo fs t end) (sym read) more
reads_on (e ∷ es) fs text middle end (rest, turn, read) more = (rest, turn, reads_on es fs rest middle end read more)

-- one expression more, where it is defined
step : (m : ℕ) (doc : Document) (x : List ℕ) (e : Expression) (after : List ℕ) (es : List Expression)
    (defined : Option Document) → defined ≡ define doc e → 0 < m → (length (skip_blank x) == 0) ≡ false
    → line (skip_blank x) ≡ Some (e, after) → ((next : Document) → lines (m - 1) next after ≡ run next es)
    → lines m doc x ≡ option_and_then (λ n. run n es) defined
step m doc x e after es None same some other read more = lines_refused m doc x e after some other read (sym same)
step m doc x e after es (Some next) same some other read more =
    lines_more m doc next x e after some other read (sym same) ∙ more next

read_from : (es : List Expression) (text x : List ℕ) (doc : Document) (m : ℕ) → ReadsTo es text [] → skip_blank x
    ≡ skip_blank text → length x < m → lines m doc x ≡ run doc es
read_from [] text x doc m reads skip room =
    lines_end m doc x (omega arith) (rw (skip, reads, skip_from-nil true false) refl)
read_from (e ∷ es) text x doc m reads skip room =
    let (rest, turn, more) = reads in
    let (s, at_start, read, some, shorter, not_bom) = turn in
    let same : skip_blank x ≡ s = skip ∙ at_start in
    let other : (length (skip_blank x) == 0) ≡ false = rw same (grind (arith, nat_tests)) in
    let within = skip_within x in
    step m doc x e (10 ∷ rest) es (define doc e) refl (omega arith) other (rw same read)
    (λ next. read_from es rest (10 ∷ rest) next (m - 1) more (skip_newline rest) (omega (arith, ap length same)))

-- a text without a byte order mark that is read so is the table of its expressions
pub document_of : (e : Expression) (es : List Expression) (text : List ℕ) → ReadsTo (e ∷ es) text []
    → parse_document text ≡ option_map (λ doc. close doc.0) (run (no_nodes, []) (e ∷ es))
unfolding parse_document skip_bom
document_of e es text reads =
    let (rest, turn, more) = reads in
    let (s, at_start, read, some, shorter, not_bom) = turn in
    rw (not_bom, read_from (e ∷ es) text text (no_nodes, []) (suc (length text)) reads refl (omega arith)) refl

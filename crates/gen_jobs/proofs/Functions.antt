-- The functions of a generated C text, read.
use Rattle.std.proofs.Common.{◌≡◌, ℕ, ◌<◌, refl, sym, subst, List, ◌++◌, arith, append_assoc, codes}
use Rattle.std.specs.Fmt.{decimal}
use denote.Hole.Carrier.{hidden}
use Rattle.job_gen.specs.Generator.{test_text, then_text, else_text, return_text, function_text}
use Rattle.c_tree.specs.declared.tokens.Token.{Token}
use Rattle.c_tree.specs.declared.expressions.Expr.TheBlock.{hidden-the_row-Step-0}
use Rattle.c_tree.specs.declared.statements.Stmt.TheBlock.{hidden-the_row-Stmt-0, hidden-the_row-Arm-1}
use Rattle.c_tree.specs.Tokens.{expr_tokens, steps_tokens, stmt_tokens, block_tokens, arms_tokens, further_tokens, otherwise_tokens, function_tokens}
use Rattle.c_lex.specs.Texts.{piece_after}
use Rattle.gen_jobs.proofs.Cut.{Reads, cut, then_reads, tokens_in}
use Rattle.gen_jobs.proofs.Numbers.{reads_name, reads_number}
use Rattle.gen_jobs.proofs.Trees.{function_of}

-- the tokens of words, which are so many pieces
abbrev pub words : ℕ → List ℕ → List Token
words pieces text = tokens_in (cut pieces text)

-- what stands before each number of a function, by the name of that number
abbrev before_index : List ℕ
before_index = codes "int "

abbrev before_mask : List ℕ
before_mask = codes "(int x) { int y = x; if ((x & "

abbrev before_factor : List ℕ
before_factor = codes ") == 0) { y = x * "

abbrev before_term : List ℕ
before_term = codes " + "

abbrev before_mixed : List ℕ
before_mixed = codes "; } else { y = (x ^ "

abbrev before_last : List ℕ
before_last = codes ") - "

-- these words, read
record ReadsWords (rest : List ℕ) : Type 0 where
  index : Reads (before_index ++ rest) (words 2 before_index) rest
  mask : Reads (before_mask ++ rest) (words 25 before_mask) rest
  factor : Reads (before_factor ++ rest) (words 17 before_factor) rest
  term : Reads (before_term ++ rest) (words 3 before_term) rest
  mixed : Reads (before_mixed ++ rest) (words 17 before_mixed) rest
  last : Reads (before_last ++ rest) (words 4 before_last) rest
  end : Reads (return_text ++ rest) (words 11 return_text) rest

reads_words : (rest : List ℕ) → ReadsWords rest
unfolding piece_after return_text
reads_words rest = record {
  index = record { pieces = 2; cuts = refl };
  mask = record { pieces = 25; cuts = refl };
  factor = record { pieces = 17; cuts = refl };
  term = record { pieces = 3; cuts = refl };
  mixed = record { pieces = 17; cuts = refl };
  last = record { pieces = 4; cuts = refl };
  end = record { pieces = 11; cuts = refl };
}

-- a function's text, part by part
abbrev parts : ℕ → ℕ → ℕ → ℕ → List ℕ → List ℕ
parts index mask factor term rest =
    before_index
    ++ (codes "f"
    ++ (decimal index
    ++ (before_mask ++ (decimal mask ++ (before_factor ++ (decimal factor ++ (before_term ++ (decimal term
    ++ (before_mixed ++ (decimal term ++ (before_last ++ (decimal factor ++ (return_text ++ rest)))))))))))))

regrouped : (f i x m y k p t e d s r : List ℕ) → (f ++ i ++ x ++ m) ++ (y ++ k ++ p ++ t)
    ++ (e ++ t ++ d ++ k) ++ r ++ s
    ≡ f ++ (i ++ (x ++ (m ++ (y ++ (k ++ (p ++ (t ++ (e ++ (t ++ (d ++ (k ++ (r ++ s))))))))))))
regrouped f i x m y k p t e d s r = simp append_assoc refl

in_parts : (index mask factor term : ℕ) (rest : List ℕ) → function_text index mask factor term ++ rest
    ≡ parts index mask factor term rest
unfolding function_text test_text then_text else_text
in_parts index mask factor term rest =
    regrouped (codes "int f") (decimal index) before_mask (decimal mask) before_factor (decimal factor) before_term
    (decimal term) before_mixed before_last rest return_text

pub reads_function : (index mask factor term : ℕ) (rest : List ℕ) → index < 1000 → mask < 1000
    → factor < 1000 → term < 1000
    → Reads (function_text index mask factor term ++ rest) (function_tokens (function_of index mask factor term)) rest
unfolding piece_after return_text expr_tokens steps_tokens stmt_tokens block_tokens arms_tokens further_tokens
    otherwise_tokens hidden-the_row-Step-0 hidden-the_row-Stmt-0 hidden-the_row-Arm-1 hidden
reads_function index mask factor term rest i m f t =
    subst (λ text. Reads text (function_tokens (function_of index mask factor term)) rest)
    (sym (in_parts index mask factor term rest))
    (then_reads (reads_words _).index (then_reads (reads_name index before_mask _ (omega (arith, i)) refl)
    (then_reads (reads_words _).mask (then_reads (reads_number mask before_factor _ (omega (arith, m)) refl)
    (then_reads (reads_words _).factor (then_reads (reads_number factor before_term _ (omega (arith, f)) refl)
    (then_reads (reads_words _).term (then_reads (reads_number term before_mixed _ (omega (arith, t)) refl)
    (then_reads (reads_words _).mixed (then_reads (reads_number term before_last _ (omega (arith, t)) refl)
    (then_reads (reads_words _).last (then_reads (reads_number factor return_text rest (omega (arith, f)) refl)
    (reads_words rest).end))))))))))))

-- The C text of a generated task, read.
use Rattle.std.proofs.Common.{◌≡◌, ℕ, zero, suc, ◌+◌, ◌-◌, ◌%◌, ◌<◌, refl, sym, ap, subst, List, [], ◌∷◌, ◌++◌, length, length-append, arith, append_assoc, codes}
use Rattle.std.specs.Fmt.{decimal}
use denote.Hole.Carrier.{hidden}
use Rattle.job_gen.specs.Generator.{after, array_lines, calls, draw, function_line, functions, line, main_lines, next, source}
use Rattle.job_gen.specs.declared.task.TheConstants.{FUNCTIONS, MASKS, VALUES}
use Rattle.c_tree.specs.declared.tokens.Token.TheVariants as token
use Rattle.c_tree.specs.declared.expressions.Expr.TheBlock.{hidden-the_row-Step-0}
use Rattle.c_tree.specs.declared.statements.Stmt.TheBlock.{hidden-the_row-Stmt-0}
use Rattle.c_tree.specs.Tokens.{expr_tokens, steps_tokens, stmt_tokens, block_tokens, body_tokens, function_tokens, items_tokens, tokens_of}
use Rattle.c_lex.specs.declared.pieces.Piece.TheVariants.{Is}
use Rattle.c_lex.specs.Texts.{piece_after, lexed, tokens}
use Rattle.gen_jobs.proofs.Cut.{Reads, lexed_of, reads_none, then_reads}
use Rattle.gen_jobs.proofs.Numbers.{one_piece, reads_name}
use Rattle.gen_jobs.proofs.Functions.{reads_function, words}
use Rattle.gen_jobs.proofs.Trees.{functions_from, main, tree_of, turn_from}

-- the parts of `main` and of its loop
abbrev before_bound : List ℕ
before_bound = codes "int main() { int s = 0; int i = 0; "

abbrev bound : List ℕ
bound = codes "_Pragma(\"loopbound min 16 max 16\")"

abbrev before_calls : List ℕ
before_calls = line (codes " while (i < 16) { s = s + in[i];")

abbrev before_call : List ℕ
before_call = codes "s = "

abbrev after_call : List ℕ
after_call = line (codes "(s);")

abbrev after_calls : List ℕ
after_calls = codes "i = i + 1; "

abbrev after_loop : List ℕ
after_loop = line (codes "} out[0] = s; return s; }")

bound_is : (rest : List ℕ) → piece_after [] (bound ++ rest) ≡ Is (token.Bound 16 16) 34
unfolding piece_after
bound_is rest = let size : length (bound ++ rest) - length rest ≡ 34 = omega (arith, length-append bound rest) in
    ap (λ count. Is (token.Bound 16 16) count) size

reads_bound : (rest : List ℕ) → Reads (bound ++ rest) (token.Bound 16 16 ∷ []) rest
reads_bound rest =
    record { pieces = 1; cuts = one_piece bound rest (token.Bound 16 16) (omega arith) refl (bound_is rest) }

-- the words among them, and the arrays, read
record ReadsWords (rest : List ℕ) : Type 0 where
  arrays : Reads (array_lines ++ rest) (words 16 array_lines) rest
  begin : Reads (before_bound ++ rest) (words 26 before_bound) rest
  head : Reads (before_calls ++ rest) (words 27 before_calls) rest
  call : Reads (before_call ++ rest) (words 4 before_call) rest
  argument : Reads (after_call ++ rest) (words 5 after_call) rest
  next : Reads (after_calls ++ rest) (words 11 after_calls) rest

reads_words : (rest : List ℕ) → ReadsWords rest
unfolding piece_after array_lines
reads_words rest = record {
  arrays = record { pieces = 16; cuts = refl };
  begin = record { pieces = 26; cuts = refl };
  head = record { pieces = 27; cuts = refl };
  call = record { pieces = 4; cuts = refl };
  argument = record { pieces = 5; cuts = refl };
  next = record { pieces = 11; cuts = refl };
}

reads_end : Reads after_loop (words 19 after_loop) []
unfolding piece_after
reads_end = record { pieces = 19; cuts = refl }

call_regrouped : (s i c n more rest : List ℕ) → (s ++ i ++ c ++ n ++ more) ++ rest ≡ s
    ++ (i ++ ((c ++ n) ++ (more ++ rest)))
call_regrouped s i c n more rest = simp append_assoc refl

-- the calls from an index on, and the end of the iteration
reads_turn : (left index : ℕ) (rest : List ℕ) → index + left < 1000 → Reads (calls left index ++ (after_calls ++ rest))
    (body_tokens (turn_from left index)) rest
unfolding piece_after calls expr_tokens steps_tokens stmt_tokens hidden-the_row-Step-0 hidden
reads_turn zero index rest few = (reads_words rest).next
reads_turn (suc left) index rest few =
    let more = calls left (index + 1) in
    subst (λ text. Reads text (body_tokens (turn_from (suc left) index)) rest)
    (sym (call_regrouped (codes "s = f") (decimal index) (codes "(s);") (10 ∷ []) more (after_calls ++ rest)))
    (then_reads (reads_words _).call (then_reads (reads_name index after_call _ (omega (arith, few)) refl)
    (then_reads (reads_words _).argument
    (reads_turn left (index + 1) rest (omega (arith, few))))))

reads_main : Reads main_lines (function_tokens main) []
unfolding piece_after main_lines expr_tokens steps_tokens stmt_tokens block_tokens hidden-the_row-Step-0
    hidden-the_row-Stmt-0 hidden
reads_main =
    subst (λ text. Reads text (function_tokens main) []) (sym (append_assoc (before_bound ++ bound ++ before_calls)
    (calls FUNCTIONS 0) (after_calls ++ after_loop)))
    (then_reads (reads_words _).begin (then_reads (reads_bound _) (then_reads (reads_words _).head
    (then_reads (reads_turn FUNCTIONS 0 after_loop (omega arith)) reads_end))))

-- the functions from an index on, and `main`
reads_functions : (left index x : ℕ) → index + left < 1000 → Reads (functions left index x ++ main_lines) (items_tokens
    (functions_from left index x)) []
unfolding functions function_line
reads_functions zero index x few = then_reads reads_main (reads_none [])
reads_functions (suc left) index x few =
    let more = functions left (index + 1) (after 3 x) in
    subst (λ text. Reads text (items_tokens (functions_from (suc left) index x)) [])
    (sym (append_assoc (function_line index x) more main_lines))
    (then_reads (reads_function index (draw x % MASKS) (draw (next x) % VALUES) (draw (next (next x)) % VALUES)
    (more ++ main_lines) (omega (arith, few)) (omega arith) (omega arith) (omega arith))
    (reads_functions left (index + 1) (after 3 x) (omega (arith, few))))

reads_source : (x : ℕ) → Reads (source x) (tokens_of (tree_of x)) []
unfolding source piece_after array_lines
reads_source x =
    subst (λ text. Reads text (tokens_of (tree_of x)) [])
    (sym (append_assoc array_lines (functions FUNCTIONS 0 x) main_lines))
    (then_reads (reads_words _).arrays (reads_functions FUNCTIONS 0 x (omega arith)))

pub source_lexed : (x : ℕ) → lexed (source x) ≡ tokens (tokens_of (tree_of x))
source_lexed x = lexed_of (source x) (tokens_of (tree_of x)) (reads_source x)

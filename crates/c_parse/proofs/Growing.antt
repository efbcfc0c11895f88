-- What is written so far, with one part more.
use Rattle.std.proofs.Common.{◌≡◌, ◌≢◌, ℕ, ◌+◌, ◌≤◌, List, [], ◌∷◌, ◌++◌, map, refl, ap, subst, sym, ◌∙◌, append_assoc}
use Rattle.std.specs.List.{AllByRecursion as Each}
use Rattle.std.specs.declared.boxed.Box.{Box}
use Rattle.std.specs.Global.{Global}
use Rattle.c_tree.specs.declared.tokens.Token.{Token}
use Rattle.c_tree.specs.declared.expressions.UnaryOp.{UnaryOp}
use Rattle.c_tree.specs.declared.expressions.Expr.{Expr}
use Rattle.c_tree.specs.declared.expressions.Expr.TheViews.{Chain}
use Rattle.c_tree.specs.declared.expressions.Step.{Step}
use Rattle.c_tree.specs.declared.tokens.Sign.TheVariants as sign
use Rattle.c_tree.specs.declared.tokens.Keyword.TheVariants as keyword
use Rattle.c_tree.specs.declared.statements.Head.TheVariants as head
use Rattle.std.proofs.Common.{append-nil, Option, Some, Bool, Result, Ok, Err, IfErr}
use Rattle.c_tree.specs.declared.tokens.Token.TheVariants as token
use Rattle.c_tree.specs.declared.statements.Stmt.{Stmt, Send}
use Rattle.c_tree.specs.declared.statements.Stmt.TheViews.{If, Loop, Inner}
use Rattle.c_tree.specs.declared.statements.Arm.{Arm}
use Rattle.c_tree.specs.declared.statements.Head.{Head}
use Rattle.c_tree.specs.declared.statements.Bound.{Bound}
use Rattle.c_tree.proofs.Blocks.{loop_tokens, inner_tokens, tokens_of_further, tokens_of_arms, tokens_otherwise, if_tokens, if_fits, ArmFits, OtherwiseFitting}
use Rattle.c_parse.specs.declared.faults.Stop.{Stop}
use Rattle.c_parse.specs.declared.faults.Stop.TheVariants.{Syntax, Memory}
use Rattle.c_parse.specs.Expected.{Expected, Condition, Block, Else, Branch, drive}
use Rattle.c_parse.specs.Readers.{three_tokens, PassesTo, Refuses}
use Rattle.c_tree.specs.Tokens.{bound_tokens, braced, body_tokens, arm_tokens, stmt_tokens, word, assigned_tokens, head_tokens, expr_tokens, args_tokens, one, binary_sign, unary_sign}
use Rattle.c_tree.specs.Fits.{ExprFits, StmtFits, rank, level_of}
use Rattle.c_parse.proofs.Starts.{else_more, branch_if}
use Rattle.c_tree.proofs.Chains.{tokens_of_steps, tokens_of_steps_push, AllStepsFit, steps_fit_push, chain_tokens, chain_fits}

-- what is written of a list so far, with one thing more
pub grown : {A : Type 0} (tokens : List A → List Token) (xs more : List A) (x : A) (new ts rest after : List Token)
    → tokens (xs ++ x ∷ []) ≡ tokens xs ++ new
    → ts ≡ tokens xs ++ rest → more ≡ xs ++ x ∷ [] → rest ≡ new ++ after → ts ≡ tokens more ++ after
grown tokens xs more x new ts rest after push so_far pushed next =
    so_far ∙ ap (λ l. tokens xs ++ l) next ∙ sym (ap (λ l. tokens l ++ after) pushed ∙ ap (λ l. l ++ after) push
    ∙ append_assoc (tokens xs) new after)

pub chain_grown : (ts rest behind after : List Token) (first : Expr) (steps more : List Step) (s : Step)
    → ts ≡ expr_tokens first ++ (tokens_of_steps steps ++ rest) → more ≡ steps ++ s ∷ [] → rest
    ≡ one (binary_sign s.op) ∷ behind
    → behind ≡ expr_tokens s.operand ++ after → ts ≡ expr_tokens first ++ (tokens_of_steps more ++ after)
chain_grown ts rest behind after first steps more s so_far pushed op operand =
    so_far ∙ ap (λ l. expr_tokens first ++ l) (ap (λ l. tokens_of_steps steps ++ l)
    (op ∙ ap (λ l. one (binary_sign s.op) ∷ l) operand)
    ∙ sym (ap (λ l. tokens_of_steps l ++ after) pushed ∙ ap (λ l. l ++ after) (tokens_of_steps_push steps s)
    ∙ simp append_assoc))

pub steps_grown : (level : ℕ) (steps more : List Step) (s : Step) → AllStepsFit level steps → more ≡ steps ++ s ∷ []
    → level_of s.op ≡ level → level + 1 ≤ rank s.operand → ExprFits s.operand → AllStepsFit level more
steps_grown level steps more s fit pushed same above operand =
    let P : List Step → Type 0 =
    λ l. AllStepsFit level l in subst P (sym pushed) (steps_fit_push level steps s fit same above operand)

pub chain_written : (ts rest : List Token) (level : ℕ) (first : Expr) (b : Box Expr Global) (steps list : List Step)
    → ts ≡ expr_tokens first ++ (tokens_of_steps steps ++ rest) → b.value ≡ first → list ≡ steps → ts
    ≡ expr_tokens (Chain level b list) ++ rest
chain_written ts rest level first b steps list so_far boxed listed =
    so_far ∙ sym (ap (λ l. l ++ rest) (chain_tokens level b list ∙ ap (λ e. expr_tokens e ++ tokens_of_steps list) boxed
    ∙ ap (λ l. expr_tokens first ++ tokens_of_steps l) listed)
    ∙ append_assoc (expr_tokens first) (tokens_of_steps steps) rest)

pub chain_fitting : (level : ℕ) (first : Expr) (b : Box Expr Global) (steps list : List Step) → 1 ≤ level → level ≤ 10
    → level + 1 ≤ rank first → ExprFits first
    → AllStepsFit level steps → steps ≢ [] → b.value ≡ first → list ≡ steps → ExprFits (Chain level b list)
chain_fitting level first b steps list low high above fits all some boxed listed =
    let P : List Step → Type 0 = λ l. AllStepsFit level l in
    let Q : List Step → Type 0 = λ l. l ≢ [] in
    let A : Expr → Type 0 = λ e. level + 1 ≤ rank e in
    chain_whole level b list low high (subst A (sym boxed) above) (subst ExprFits (sym boxed) fits)
    (subst P (sym listed) all) (subst Q (sym listed) some)
  where
    chain_whole : (level : ℕ) (b : Box Expr Global) (list : List Step) → 1 ≤ level → level ≤ 10
        → level + 1 ≤ rank b.value → ExprFits b.value
        → AllStepsFit level list → list ≢ [] → ExprFits (Chain level b list)
    chain_whole level b [] low high above fits all some = absurd (some refl)
    chain_whole level b (s ∷ steps) low high above fits all some = chain_fits level b s steps low high above fits all

pub prefixes_grown : (ts rest behind : List Token) (ops more : List UnaryOp) (op : UnaryOp)
    → ts ≡ map (λ o. one (unary_sign o)) ops ++ rest → more ≡ ops ++ op ∷ [] → rest ≡ one (unary_sign op) ∷ behind
    → ts ≡ map (λ o. one (unary_sign o)) more ++ behind
prefixes_grown ts rest behind ops more op so_far pushed next =
    grown (map (λ o. one (unary_sign o))) ops more op (one (unary_sign op) ∷ []) ts rest behind
    (signs ops) so_far pushed next
  where
    signs : (ops : List UnaryOp) → map (λ o. one (unary_sign o)) (ops ++ op ∷ []) ≡ map (λ o. one (unary_sign o)) ops
        ++ one (unary_sign op) ∷ []
    signs [] = refl
    signs (o ∷ ops) = ap (λ l. one (unary_sign o) ∷ l) (signs ops)

pub each_push : {A : Type 0} (P : A → Type 0) (xs : List A) (x : A) → Each P xs → P x → Each P (xs ++ x ∷ [])
each_push P [] x h p = (p, tt)
each_push P (y ∷ xs) x h p = (h.0, each_push P xs x h.1 p)

pub each_grown : {A : Type 0} (P : A → Type 0) (xs more : List A) (x : A) → Each P xs → more ≡ xs ++ x ∷ []
    → P x → Each P more
each_grown P xs more x h pushed p =
    let Q : List _ → Type 0 = λ l. Each P l in subst Q (sym pushed) (each_push P xs x h p)

args_push : (args : List Expr) (e : Expr) → args ≢ [] → args_tokens (args ++ e ∷ []) ≡ args_tokens args
    ++ one sign.Comma ∷ expr_tokens e
args_push [] e some = absurd (some refl)
args_push (a ∷ []) e some = refl
args_push (a ∷ b ∷ args) e some =
    ap (λ ts. expr_tokens a ++ one sign.Comma ∷ ts) (args_push (b ∷ args) e (λ h. cc)) ∙ simp append_assoc

pub args_grown : (ts rest behind after : List Token) (args more : List Expr) (e : Expr) → ts ≡ args_tokens args ++ rest
    → args ≢ [] → more ≡ args ++ e ∷ []
    → rest ≡ one sign.Comma ∷ behind → behind ≡ expr_tokens e ++ after → ts ≡ args_tokens more ++ after
args_grown ts rest behind after args more e so_far some pushed comma arg =
    grown args_tokens args more e (one sign.Comma ∷ expr_tokens e) ts rest after (args_push args e some) so_far pushed
    (comma ∙ ap (λ l. one sign.Comma ∷ l) arg)

pub not_empty : {A : Type 0} (more xs : List A) (x : A) → more ≡ xs ++ x ∷ [] → more ≢ []
not_empty more xs x pushed none = ended xs (sym none ∙ pushed)
  where
    ended : (ys : List _) → [] ≡ ys ++ x ∷ [] → ⊥
    ended [] e = cc
    ended (y ∷ ys) e = cc

pub for_written : (ts t1 t2 t3 t4 rest : List Token) (first step : List ℕ) (from condition to : Expr)
    → ts ≡ one sign.OpenParenthesis ∷ t1 → t1 ≡ assigned_tokens first (expr_tokens from) ++ t2 → t2 ≡ one sign.Semicolon
    ∷ (expr_tokens condition ++ one sign.Semicolon ∷ t3)
    → t3 ≡ assigned_tokens step (expr_tokens to) ++ t4 → t4 ≡ one sign.CloseParenthesis ∷ rest
    → word keyword.For ∷ ts ≡ head_tokens (head.For first from condition step to) ++ rest
for_written ts t1 t2 t3 t4 rest first step from condition to a b c d e = simp (a, b, c, d, e, append_assoc)

pub three_written : (ts t1 t2 rest : List Token) (source target count : Expr)
    → ts ≡ one sign.Comma ∷ (expr_tokens source ++ t1) → t1 ≡ one sign.Comma ∷ (expr_tokens target ++ t2) → t2
    ≡ one sign.Comma ∷ (expr_tokens count ++ rest)
    → ts ≡ three_tokens source target count ++ rest
three_written ts t1 t2 rest source target count a b c = simp (a, b, c, append_assoc)

pub sent_written : (ts t1 t2 t3 t4 rest : List Token) (core : ℕ) (u : Bool) (source target count : Expr)
    → ts ≡ one sign.OpenParenthesis ∷ t1 → t1 ≡ token.Number core u ∷ t2 → t2 ≡ three_tokens source target count ++ t3
    → t3 ≡ one sign.CloseParenthesis ∷ t4 → t4 ≡ one sign.Semicolon ∷ rest
    → word keyword.Send ∷ ts ≡ stmt_tokens (Send core u source target count) ++ rest
unfolding stmt_tokens
sent_written ts t1 t2 t3 t4 rest core u source target count a b c d e = simp (a, b, c, d, e, append_assoc)

-- what is refused after a step is refused before it
pub refused_before : {A : Type 0} (n m : ℕ) (xs ys : List Expected) (ts us : List Token) (r : Result A Stop)
    → PassesTo n xs ts m ys us → IfErr r (Refuses m ys us) → IfErr r (Refuses n xs ts)
refused_before n m xs ys ts us (Ok x) p h = h
refused_before n m xs ys ts us (Err (Syntax left)) p h = λ b. p b ∙ h b
refused_before n m xs ys ts us (Err Memory) p h = h

body_push : (body : List Stmt) (s : Stmt) → body_tokens (body ++ s ∷ []) ≡ body_tokens body ++ stmt_tokens s
body_push [] s = append-nil (stmt_tokens s)
body_push (b ∷ body) s = ap (λ ts. stmt_tokens b ++ ts) (body_push body s)
    ∙ sym (append_assoc (stmt_tokens b) (body_tokens body) (stmt_tokens s))

pub body_grown : (ts rest after : List Token) (body more : List Stmt) (s : Stmt) → ts ≡ body_tokens body ++ rest → more
    ≡ body ++ s ∷ []
    → rest ≡ stmt_tokens s ++ after → ts ≡ body_tokens more ++ after
body_grown ts rest after body more s so_far pushed next =
    grown body_tokens body more s (stmt_tokens s) ts rest after (body_push body s) so_far pushed next

further_push : (arms : List Arm) (a : Arm) → tokens_of_further (arms ++ a ∷ []) ≡ tokens_of_further arms
    ++ word keyword.Else ∷ arm_tokens a.condition (body_tokens a.body)
further_push [] a = ap (λ ts. word keyword.Else ∷ ts) (append-nil (arm_tokens a.condition (body_tokens a.body)))
further_push (b ∷ arms) a =
    ap (λ ts. word keyword.Else ∷ (arm_tokens b.condition (body_tokens b.body) ++ ts)) (further_push arms a)
    ∙ ap (λ ts. word keyword.Else ∷ ts) (sym (append_assoc (arm_tokens b.condition (body_tokens b.body))
    (tokens_of_further arms) (word keyword.Else ∷ arm_tokens a.condition (body_tokens a.body))))

arms_push : (arms : List Arm) (a : Arm) → arms ≢ [] → tokens_of_arms (arms ++ a ∷ []) ≡ tokens_of_arms arms
    ++ word keyword.Else ∷ arm_tokens a.condition (body_tokens a.body)
arms_push [] a some = absurd (some refl)
arms_push (b ∷ arms) a some = ap (λ ts. arm_tokens b.condition (body_tokens b.body) ++ ts) (further_push arms a)
    ∙ sym (append_assoc (arm_tokens b.condition (body_tokens b.body)) (tokens_of_further arms)
    (word keyword.Else ∷ arm_tokens a.condition (body_tokens a.body)))

pub arms_grown : (ts rest behind behind' after : List Token) (arms more : List Arm) (a : Arm) → ts ≡ tokens_of_arms arms
    ++ rest → arms ≢ [] → more ≡ arms ++ a ∷ []
    → rest ≡ word keyword.Else ∷ behind → behind ≡ word keyword.If ∷ behind' → word keyword.If ∷ behind'
    ≡ arm_tokens a.condition (body_tokens a.body) ++ after
    → ts ≡ tokens_of_arms more ++ after
arms_grown ts rest behind behind' after arms more a so_far some pushed otherwise next arm =
    grown tokens_of_arms arms more a (word keyword.Else ∷ arm_tokens a.condition (body_tokens a.body)) ts rest after
    (arms_push arms a some) so_far pushed
    (otherwise ∙ ap (λ l. word keyword.Else ∷ l) (next ∙ arm))

pub arms_fitting : (list arms : List Arm) (otherwise : Option (List Stmt)) → list ≡ arms → arms ≢ [] → Each ArmFits arms
    → OtherwiseFitting otherwise → StmtFits (If list otherwise)
arms_fitting list [] otherwise e some all o = absurd (some refl)
arms_fitting list (a ∷ arms) otherwise e some all o =
    let P : List Arm → Type 0 = λ l. StmtFits (If l otherwise) in subst P (sym e) (if_fits a arms otherwise all o)

pub if_written : (ts rest : List Token) (list arms : List Arm) (otherwise : Option (List Stmt)) → list ≡ arms → ts
    ≡ tokens_of_arms arms ++ (tokens_otherwise otherwise ++ rest)
    → ts ≡ stmt_tokens (If list otherwise) ++ rest
if_written ts rest list arms otherwise e so_far =
    so_far ∙ sym (append_assoc (tokens_of_arms arms) (tokens_otherwise otherwise) rest)
    ∙ sym (ap (λ l. l ++ rest) (if_tokens list otherwise ∙ ap (λ l. tokens_of_arms l ++ tokens_otherwise otherwise) e))

pub loop_written : (ts t1 t2 rest : List Token) (bound : Option Bound) (h : Head) (body : List Stmt) → ts
    ≡ bound_tokens bound ++ t1 → t1 ≡ head_tokens h ++ t2
    → t2 ≡ braced (body_tokens body) ++ rest → ts ≡ stmt_tokens (Loop bound h body) ++ rest
loop_written ts t1 t2 rest bound h body a b c = simp (loop_tokens, a, b, c, append_assoc)

pub inner_written : (ts t1 rest : List Token) (body : List Stmt) → ts ≡ one sign.OpenBrace ∷ t1 → t1 ≡ body_tokens body
    ++ one sign.CloseBrace ∷ rest
    → ts ≡ stmt_tokens (Inner body) ++ rest
inner_written ts t1 rest body a b = simp (inner_tokens, a, b, append_assoc)

pub otherwise_written : (ts t1 t2 rest : List Token) (list arms : List Arm) (body : List Stmt) → ts
    ≡ tokens_of_arms arms ++ t1 → t1 ≡ word keyword.Else ∷ t2
    → t2 ≡ braced (body_tokens body) ++ rest → list ≡ arms → ts ≡ stmt_tokens (If list (Some body)) ++ rest
otherwise_written ts t1 t2 rest list arms body a b c e =
    if_written ts rest list arms (Some body) e (a ∙ ap (λ l. tokens_of_arms arms ++ l) (b
    ∙ ap (λ l. word keyword.Else ∷ l) c))

-- one arm more is read
pub arms_passed : (n : ℕ) (ts rest behind behind' after : List Token) (xs : List Expected)
    → drive n (Condition ∷ Block ∷ Else ∷ xs) ts ≡ drive n (Else ∷ xs) rest → rest ≡ word keyword.Else ∷ behind → behind
    ≡ word keyword.If ∷ behind'
    → drive n (Condition ∷ Block ∷ Else ∷ xs) behind' ≡ drive n (Else ∷ xs) after
    → drive n (Condition ∷ Block ∷ Else ∷ xs) ts ≡ drive n (Else ∷ xs) after
arms_passed n ts rest behind behind' after xs so_far otherwise next arm =
    so_far ∙ ap (drive n (Else ∷ xs)) otherwise ∙ else_more 64 n behind xs ∙ ap (drive n (Branch ∷ xs)) next
    ∙ branch_if 64 n behind' xs ∙ arm

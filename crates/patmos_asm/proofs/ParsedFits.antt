-- What is read fits its fields.
use Rattle.std.proofs.Common.{arith, ◌≡◌, ℕ, ◌^◌, ◌<◌, ◌==◌, Bool, true, false, cond, List, [], ◌∷◌, refl, ap, subst, Result, Ok, Err, nat_lt, slice_get}
use Rattle.std.specs.Option.{ok_or}
use Rattle.std.proofs.lemmas.Bool.Decides.{nat_tests}
use Rattle.patmos_instr.specs.Specials.{specials, writable_specials}
use Rattle.patmos_instr.specs.Instructions.{FitsOp}
use Rattle.patmos_instr.specs.declared.functions.ImmFunc.TheVariants as imm
use Rattle.patmos_instr.specs.declared.guards.Guard.{Guard}
use Rattle.patmos_instr.specs.declared.instructions.Op.{Op}
use Rattle.patmos_instr.specs.declared.instructions.Op.TheVariants as op
use Rattle.patmos_forms.specs.declared.faults.AsmKind.{AsmKind}
use Rattle.patmos_forms.specs.declared.faults.AsmKind.TheVariants.{Range}
use Rattle.patmos_forms.specs.declared.forms.Form.{Form}
use Rattle.patmos_forms.specs.declared.forms.Form.TheVariants.{AluReg, AluImm, AluLong, Mul, Cmp, CmpImm, Comb, ToSpecial, FromSpecial, Stack, Load, Store, Return, Nop}
use Rattle.patmos_forms.specs.Faults.{◌>>=◌}
use Rattle.patmos_forms.specs.Forms.{below, guard_of, op_of}
use Rattle.patmos_asm.proofs.ReadForms.{is_flow}

-- a chain that ends well went well
pub bind_ok : {A B : Type 0} (r : Result A AsmKind) (f : A → Result B AsmKind) (y : B) → (r >>= f) ≡ Ok y → (x : A)
    × (r ≡ Ok x) × (f x ≡ Ok y)
bind_ok (Ok x) f y e = (x, refl, e)
bind_ok (Err k) f y e = cc

below_ok : (limit n x : ℕ) → below limit n ≡ Ok x → x < limit
below_ok limit n x e = by_test (nat_lt n limit) refl e
  where
    by_test : (t : Bool) → nat_lt n limit ≡ t → cond t (Ok n) (Err Range) ≡ Ok x → x < limit
    by_test true h e = let k : n ≡ x = cc in let l : n < limit = grind (arith, nat_tests) in rw (← k) l
    by_test false h e = cc

pub guard_ok : (n p : ℕ) (g : Guard) → guard_of n p ≡ Ok g → g.pred < 8
guard_ok n p g e =
    let t = bind_ok (below 8 p) (λ q. Ok (record { negated = n == 1; pred = q })) g e in
    let k : t.0 ≡ g.pred = ap (λ (r : Result Guard AsmKind). pred_or r 0) t.2 in
    rw (← k) (below_ok 8 p t.0 t.1)
  where
    pred_or : Result Guard AsmKind → ℕ → ℕ
    pred_or (Ok g) d = g.pred
    pred_or (Err k) d = d

three_ok : (l m n a b c : ℕ) (f : ℕ → ℕ → ℕ → Op) (P : Op → Type 0) (o : Op) → ((x y z : ℕ) → x < l → y < m → z < n
    → P (f x y z)) →
    (below l a >>= λ x. below m b >>= λ y. below n c >>= λ z. Ok (f x y z)) ≡ Ok o → P o
three_ok l m n a b c f P o fits e =
    let t = bind_ok (below l a) (λ x. below m b >>= λ y. below n c >>= λ z. Ok (f x y z)) o e in
    let u = bind_ok (below m b) (λ y. below n c >>= λ z. Ok (f t.0 y z)) o t.2 in
    let v = bind_ok (below n c) (λ z. Ok (f t.0 u.0 z)) o u.2 in
    let k : f t.0 u.0 v.0 ≡ o = cc in
    subst P k (fits t.0 u.0 v.0 (below_ok l a t.0 t.1) (below_ok m b u.0 u.1) (below_ok n c v.0 v.1))

two_ok : (l m a b : ℕ) (f : ℕ → ℕ → Op) (P : Op → Type 0) (o : Op) → ((x y : ℕ) → x < l → y < m → P (f x y)) →
    (below l a >>= λ x. below m b >>= λ y. Ok (f x y)) ≡ Ok o → P o
two_ok l m a b f P o fits e =
    let t = bind_ok (below l a) (λ x. below m b >>= λ y. Ok (f x y)) o e in
    let u = bind_ok (below m b) (λ y. Ok (f t.0 y)) o t.2 in
    let k : f t.0 u.0 ≡ o = cc in
    subst P k (fits t.0 u.0 (below_ok l a t.0 t.1) (below_ok m b u.0 u.1))

abbrev IsPlain : Op → Type 0
IsPlain o = FitsOp o × (is_flow o ≡ false)

pub op_fits : (form : Form) (vs : List ℕ) (o : Op) → op_of form vs ≡ Ok o → IsPlain o
op_fits (AluReg f) (d ∷ a ∷ b ∷ []) o e =
    three_ok 32 32 32 d a b (op.AluReg f) IsPlain o (λ x y z p q r. ((p, q, r), refl)) e
op_fits (AluImm f) (d ∷ a ∷ n ∷ []) o e =
    three_ok 32 32 4096 d a n (op.AluImm f) IsPlain o (λ x y z p q r. ((p, q, r), refl)) e
op_fits (AluLong f) (d ∷ a ∷ n ∷ []) o e =
    three_ok 32 32 (2 ^ 32) d a n (op.AluLong f) IsPlain o (λ x y z p q r. ((p, q, r), refl)) e
op_fits (Mul u) (a ∷ b ∷ []) o e = two_ok 32 32 a b (op.Mul u) IsPlain o (λ x y p q. ((p, q), refl)) e
op_fits (Cmp f) (d ∷ a ∷ b ∷ []) o e = three_ok 8 32 32 d a b (op.Cmp f) IsPlain o (λ x y z p q r. ((p, q, r), refl)) e
op_fits (CmpImm f) (d ∷ a ∷ n ∷ []) o e =
    three_ok 8 32 32 d a n (op.CmpImm f) IsPlain o (λ x y z p q r. ((p, q, r), refl)) e
op_fits (Stack f) (n ∷ []) o e =
    let t = bind_ok (below 4096 n) (λ x. Ok (op.Stack f x)) o e in
    let k : op.Stack f t.0 ≡ o = cc in
    subst IsPlain k (below_ok 4096 n t.0 t.1, refl)
op_fits (Load w m) (d ∷ a ∷ n ∷ []) o e =
    three_ok 32 32 128 d a n (λ x y z. op.Load m w x y z) IsPlain o (λ x y z p q r. ((p, q, r), refl)) e
op_fits (Store w m) (a ∷ n ∷ s ∷ []) o e =
    three_ok 32 128 32 a n s (λ x y z. op.Store m w x z y) IsPlain o (λ x y z p q r. ((p, r, q), refl)) e
op_fits (Comb f) (d ∷ m ∷ a ∷ n ∷ b ∷ []) o e =
    let t = bind_ok (below 8 d) (λ x. guard_of m a >>= λ ga. guard_of n b >>= λ gb. Ok (op.Comb f x ga gb)) o e in
    let u = bind_ok (guard_of m a) (λ ga. guard_of n b >>= λ gb. Ok (op.Comb f t.0 ga gb)) o t.2 in
    let v = bind_ok (guard_of n b) (λ gb. Ok (op.Comb f t.0 u.0 gb)) o u.2 in
    let k : op.Comb f t.0 u.0 v.0 ≡ o = cc in
    subst IsPlain k ((below_ok 8 d t.0 t.1, guard_ok m a u.0 u.1, guard_ok n b v.0 v.1), refl)
op_fits ToSpecial (s ∷ a ∷ []) o e =
    let t = bind_ok (ok_or (slice_get writable_specials s) Range) (λ x. below 32 a >>= λ ra. Ok (op.ToSpecial x ra)) o
    e in
    let u = bind_ok (below 32 a) (λ ra. Ok (op.ToSpecial t.0 ra)) o t.2 in
    let k : op.ToSpecial t.0 u.0 ≡ o = cc in
    subst IsPlain k (below_ok 32 a u.0 u.1, refl)
op_fits FromSpecial (d ∷ s ∷ []) o e =
    let t = bind_ok (below 32 d) (λ rd. ok_or (slice_get specials s) Range >>= λ x. Ok (op.FromSpecial rd x)) o e in
    let u = bind_ok (ok_or (slice_get specials s) Range) (λ x. Ok (op.FromSpecial t.0 x)) o t.2 in
    let k : op.FromSpecial t.0 u.0 ≡ o = cc in
    subst IsPlain k (below_ok 32 d t.0 t.1, refl)
op_fits Return [] o e = let k : op.Return ≡ o = cc in subst IsPlain k (tt, refl)
op_fits Nop [] o e =
    let k : op.AluImm imm.Add 0 0 0 ≡ o = cc in subst IsPlain k ((omega arith, omega arith, omega arith), refl)
op_fits _ _ o e = cc

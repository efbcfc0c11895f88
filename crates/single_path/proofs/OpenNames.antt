-- The names that the checks know, beside what the same names stand for: what is found as a variable may be read and
-- set as one, and arrays as arrays. Each declaration keeps this.
use Rattle.std.proofs.Common.{◌≡◌, ◌≢◌, ℕ, ◌+◌, Bool, true, false, if◌then◌else◌, List, [], ◌∷◌, ◌++◌, length, Option, Some, None, is_some, bytes_eq, refl, ap, sym, ◌∙◌, subst, append_assoc, append-nil}
use Rattle.c_tree.specs.declared.checks.Meaning.{Meaning}
use Rattle.c_tree.specs.declared.checks.Meaning.TheVariants as means
use Rattle.c_tree.specs.declared.layout.Slot.{Slot}
use Rattle.c_tree.specs.declared.statements.Kind.{Kind}
use Rattle.c_tree.specs.declared.units.Parameter.{Parameter}
use Rattle.c_tree.specs.Layout.{is_unsigned}
use Rattle.c_tree.specs.Names.{Found, Named, found, declared}
use Rattle.c_tree.proofs.LastNamed.{last_pushed}
use Rattle.c_tree.specs.Valid.{with_parameters}
use Rattle.sp_tree.specs.Uses.{Use, sends_to}
use Rattle.c_meaning.specs.Meaning.{with_variable, parameter_variables}
use Rattle.c_meaning.specs.Scope.{Variable, Stands, level, among_variables, among_slots}
use Rattle.c_meaning.specs.Values.{Names, named}
use Rattle.single_path.proofs.Resolving.{Outside, CellRead, ArrayRead, CellWritten, ArrayWritten}
use Rattle.single_path.proofs.FunctionNames.{found_last}

-- ---- what is kept

-- reads and writes of whatever is found as a variable have a property, and so have those of arrays, and all sends
pub record Keeps (P : Use → Type 0) (names : List Named) (of : Names) : Type 0 where
  pub scalars : (text : List ℕ) → found text names ≡ Some means.Scalar
      → Outside (CellRead P) (named of text) × Outside (CellWritten P) (named of text)
  pub arrays : (text : List ℕ) → found text names ≡ Some means.Array
      → Outside (ArrayRead P) (named of text) × Outside (ArrayWritten P) (named of text)
  pub sends : (core : ℕ) → P (sends_to core)

-- ---- names after a declaration

-- the name that is declared is found, and another is found where it was before
pub found_same : (names : List Named) (name text : List ℕ) (m : Meaning) → bytes_eq name text ≡ true
    → found text (declared names name m) ≡ Some m
found_same names name text m same =
    found_last text names (record { name = name; means = m }) ∙ ap (λ b. if b then Some m else found text names) same

pub found_before : (names : List Named) (name text : List ℕ) (m : Meaning) (f : Option Meaning)
    → found text (declared names name m) ≡ f
    → bytes_eq name text ≡ false → found text names ≡ f
found_before names name text m f is other =
    ap (λ b. if b then Some m else found text names) (sym other)
    ∙ sym (found_last text names (record { name = name; means = m })) ∙ is

-- a name that is known is known after each declaration
pub still_found : (names : List Named) (name text : List ℕ) (m : Meaning) → is_some (found text names) ≡ true
    → is_some (found text (declared names name m)) ≡ true
still_found names name text m known =
    ap is_some (found_last text names (record { name = name; means = m })) ∙ by (bytes_eq name text)
  where
    by : (same : Bool) → is_some (if same then Some m else found text names) ≡ true
    by true = refl
    by false = known

-- ---- names after a variable

-- one variable more hides what is so called, and nothing else
after_variable : (Q : Slot → Type 0) (of : Names) (kind : Kind) (name text : List ℕ) → (bytes_eq name text ≡ false
    → Outside Q (named of text))
    → Outside Q (named (with_variable of kind name) text)
after_variable Q of kind name text may =
    subst (λ l. Outside Q (or_outside l)) (sym (last_pushed (λ x. x.name) 0 text of.variables v))
    (by (bytes_eq name text) refl)
  where
    v : Variable
    v = record { name = name; unsigned = is_unsigned kind }

    or_outside : Option (Found Variable) → Stands
    or_outside l = elim l as (λ _. Stands) [ Some f ↦ level f.at f.is.unsigned | None ↦ among_slots text of.slots ]

    by : (same : Bool) → bytes_eq name text ≡ same
        → Outside Q (or_outside (if same then Some (record { at = 0 + length of.variables; is = v }) else
        among_variables text of.variables))
    by true same = tt
    by false other = may other

pub keeps_variable : (P : Use → Type 0) (names : List Named) (of : Names) (kind : Kind) (name : List ℕ)
    → Keeps P names of
    → Keeps P (declared names name means.Scalar) (with_variable of kind name)
keeps_variable P names of kind name k = record {
  scalars = λ text is. (
    after_variable (CellRead P) of kind name text (λ other. (k.scalars text (before text means.Scalar is other)).0),
    after_variable (CellWritten P) of kind name text (λ other. (k.scalars text (before text means.Scalar is other)).1),
  );
  arrays = λ text is. (
    after_variable (ArrayRead P) of kind name text (λ other. (k.arrays text (before text means.Array is other)).0),
    after_variable (ArrayWritten P) of kind name text (λ other. (k.arrays text (before text means.Array is other)).1),
  );
  sends = k.sends;
}
  where
    before : (text : List ℕ) (m : Meaning) → found text (declared names name means.Scalar) ≡ Some m
        → bytes_eq name text ≡ false
        → found text names ≡ Some m
    before text m is other = found_before names name text means.Scalar (Some m) is other

-- ---- names after a function's name, and after its parameters

-- the name of a function is no variable's and no array's
pub keeps_function : (P : Use → Type 0) (names : List Named) (of : Names) (name : List ℕ) (c : ℕ) (gives inside : Bool)
    → Keeps P names of
    → Keeps P (declared names name (means.Function c gives inside)) of
keeps_function P names of name c gives inside k = record {
  scalars = λ text is. k.scalars text (before text means.Scalar (λ e. absurd (cc)) is (bytes_eq name text) refl);
  arrays = λ text is. k.arrays text (before text means.Array (λ e. absurd (cc)) is (bytes_eq name text) refl);
  sends = k.sends;
}
  where
    f : Meaning
    f = means.Function c gives inside

    before : (text : List ℕ) (m : Meaning) → f ≢ m → found text (declared names name f) ≡ Some m → (b : Bool)
        → bytes_eq name text ≡ b
        → found text names ≡ Some m
    before text m apart is true same =
        let some : Some f ≡ Some m = sym (found_same names name text f same) ∙ is in absurd (apart (cc))
    before text m apart is false other = found_before names name text f (Some m) is other

-- parameters are variables after those that stand before them
pub keeps_parameters : (P : Use → Type 0) (names : List Named) (slots : List Slot) (vs : List Variable)
    (ps : List Parameter)
    → Keeps P names (record { slots = slots; variables = vs })
    → Keeps P (with_parameters names ps) (record { slots = slots; variables = vs ++ parameter_variables ps })
keeps_parameters P names slots vs [] k =
    subst (λ (us : List Variable). Keeps P names (record { slots = slots; variables = us })) (sym (append-nil vs)) k
keeps_parameters P names slots vs (p ∷ ps) k =
    let v : Variable = record { name = p.name; unsigned = is_unsigned p.kind } in
    subst (λ (us : List Variable). Keeps P (with_parameters names (p ∷ ps)) (record { slots = slots; variables = us }))
    (append_assoc vs (v ∷ []) (parameter_variables ps))
    (keeps_parameters P (declared names p.name means.Scalar) slots (vs ++ v ∷ []) ps
    (keeps_variable P names (record { slots = slots; variables = vs }) p.kind p.name k))

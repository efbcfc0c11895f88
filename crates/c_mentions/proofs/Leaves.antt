-- What one name adds to what is noted, and what it hides after its declaration.
use Rattle.std.proofs.Common.{◌≡◌, ℕ, ◌+◌, Bool, true, false, not, ◌&&◌, ◌||◌, List, [], ◌∷◌, ◌++◌, length, Option, None, Some, refl, ap, ap₂, sym, subst, ◌∙◌}
use Rattle.std.specs.Prelude.{if◌then◌else◌, bytes_eq, codes}
use Rattle.std.proofs.lemmas.Slice.Eq.{bytes_eq-Decides}
use Rattle.c_tree.specs.Names.{Found}
use Rattle.c_tree.proofs.LastNamed.{last_pushed}
use Rattle.c_meaning.specs.Scope.{Variable, Stands, level, among_variables, among_slots}
use Rattle.c_meaning.specs.Values.{Names, named}
use Rattle.c_mentions.specs.declared.arrays.Arrays.{Arrays}
use Rattle.c_mentions.specs.declared.noted.Flags.{Flags}
use Rattle.c_mentions.specs.Hidden.{HidesIf, Hides}
use Rattle.c_mentions.specs.Mentions.{Array, comm_array, shared_array, name_of, stands_for}
use Rattle.c_mentions.specs.Noted.{Notes}
use Rattle.c_mentions.specs.Uses.{reads, sets}

-- ---- a name

pub read_noted : (before after : Flags) (hidden means : Arrays) (text : List ℕ)
    → means.comm ≡ (bytes_eq text (codes "comm") && not hidden.comm) → means.shared
    ≡ (bytes_eq text (codes "shared") && not hidden.shared)
    → after ≡ record before { comm = before.comm || means.comm; shared = before.shared || means.shared }
    → Notes hidden before after (λ names. reads (named names text) ∷ [])
read_noted before after hidden means text comm shared is = record {
  noted = λ names hides.
      is ∙ ap₂ (λ x y. let m : Flags = record before { comm = before.comm || x; shared = before.shared || y } in m)
      (comm ∙ sym (hides.of_comm text)) (shared ∙ sym (hides.of_shared text));
}

pub set_noted : (before after : Flags) (hidden means : Arrays) (text : List ℕ)
    → means.comm ≡ (bytes_eq text (codes "comm") && not hidden.comm) → means.shared
    ≡ (bytes_eq text (codes "shared") && not hidden.shared)
    → after ≡ record before {
      comm = before.comm || means.comm;
      shared = before.shared || means.shared;
      assigns_shared = before.assigns_shared || means.shared;
    }
    → Notes hidden before after (λ names. sets (named names text) ∷ [])
set_noted before after hidden means text comm shared is = record {
  noted = λ names hides.
      is ∙ ap₂ (λ x y. let m : Flags = record before {
        comm = before.comm || x;
        shared = before.shared || y;
        assigns_shared = before.assigns_shared || y;
      } in m)
      (comm ∙ sym (hides.of_comm text)) (shared ∙ sym (hides.of_shared text));
}

-- ---- one variable more

-- the name of what hides is not the array's, or it is
pub hidden_more : (b c d hidden was now : Bool) → (b ≡ true → c ≡ d) → (b ≡ false → c ≡ true → d ≡ false) → was
    ≡ (c && not hidden)
    → now ≡ (if b then false else was) → now ≡ (c && not (hidden || d))
hidden_more true true true true was now same other is here = here
hidden_more true true true false was now same other is here = here
hidden_more true true false hidden was now same other is here = cc (same refl)
hidden_more true false d hidden was now same other is here = here
hidden_more false true true hidden was now same other is here = cc (other refl refl)
hidden_more false true false true was now same other is here = here ∙ is
hidden_more false true false false was now same other is here = here ∙ is
hidden_more false false d hidden was now same other is here = here ∙ is

pub same_name : (t text array : List ℕ) → bytes_eq t text ≡ true → bytes_eq text array ≡ bytes_eq t array
same_name t text array is = ap (λ x. bytes_eq x array) (sym ((bytes_eq-Decides t text).0 is))

pub other_name : (t text array : List ℕ) → bytes_eq t text ≡ false → bytes_eq text array ≡ true
    → bytes_eq t array ≡ false
other_name t text array apart is = ap (bytes_eq t) (sym ((bytes_eq-Decides text array).0 is)) ∙ apart

-- the names where one variable more is open
abbrev pub and_variable : Names → Variable → Names
and_variable names v = record { slots = names.slots; variables = names.variables ++ v ∷ [] }

hides_one : (a : Array) (hidden : Bool) (names : Names) (v : Variable) → HidesIf a hidden names
    → HidesIf a (hidden || bytes_eq v.name (name_of a)) (and_variable names v)
hides_one a hidden names v hides = λ text.
    hidden_more (bytes_eq v.name text) (bytes_eq text (name_of a)) (bytes_eq v.name (name_of a)) hidden
    (stands_for a (named names text))
    (stands_for a (named (and_variable names v) text)) (same_name v.name text (name_of a))
    (other_name v.name text (name_of a)) (hides text) (here text)
  where
    or_outside : List ℕ → Option (Found Variable) → Stands
    or_outside text l =
        elim l as (λ _. Stands) [ Some f ↦ level f.at f.is.unsigned | None ↦ among_slots text names.slots ]

    either : (b : Bool) (f : Found Variable) (l : Option (Found Variable)) (text : List ℕ)
        → stands_for a (or_outside text (if b then Some f else l))
        ≡ (if b then false else stands_for a (or_outside text l))
    either true f l text = refl
    either false f l text = refl

    here : (text : List ℕ) → stands_for a (named (and_variable names v) text)
        ≡ (if bytes_eq v.name text then false else stands_for a (named names text))
    here text =
        ap (λ l. stands_for a (or_outside text l)) (last_pushed (λ x. x.name) 0 text names.variables v)
        ∙ either (bytes_eq v.name text) (record { at = 0 + length names.variables; is = v }) (among_variables text
        names.variables) text

pub hides_variable : (hidden behind : Arrays) (names : Names) (v : Variable) → behind.comm
    ≡ (hidden.comm || bytes_eq v.name (codes "comm"))
    → behind.shared ≡ (hidden.shared || bytes_eq v.name (codes "shared")) → Hides hidden names
    → Hides behind (and_variable names v)
hides_variable hidden behind names v comm shared hides = record {
  of_comm = subst (λ b. HidesIf comm_array b (and_variable names v)) (sym comm)
      (hides_one comm_array hidden.comm names v hides.of_comm);
  of_shared = subst (λ b. HidesIf shared_array b (and_variable names v)) (sym shared)
      (hides_one shared_array hidden.shared names v hides.of_shared);
}

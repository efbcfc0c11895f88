-- What hides the arrays in a function: the variables outside functions, and the parameters.
use Rattle.std.proofs.Common.{◌≡◌, ℕ, ◌+◌, ◌<◌, Bool, true, false, not, ◌&&◌, ◌||◌, List, [], ◌∷◌, ◌++◌, length, get_or, take, refl, ap, sym, subst, ◌∙◌}
use Rattle.std.specs.Prelude.{if◌then◌else◌, bytes_eq, codes}
use Rattle.std.proofs.lemmas.Slice.Eq.{bytes_eq-Decides}
use Rattle.std.proofs.lemmas.List.{take_more}
use Rattle.tc_word.proofs.Items.{bytes_eq_sym}
use Rattle.local_store.specs.declared.map.Cell.TheVariants as cell
use Rattle.c_tree.specs.declared.layout.Slot.{Slot}
use Rattle.c_tree.specs.declared.units.Global.{Global}
use Rattle.c_tree.specs.declared.units.Parameter.{Parameter}
use Rattle.c_tree.specs.Layout.{slot_of, slots_from, given_slots, layout_of, is_unsigned}
use Rattle.c_tree.specs.Plain.{PlainItem, global, function}
use Rattle.c_tree.specs.Valid.{item_words}
use Rattle.c_meaning.specs.Meaning.{parameter_variables}
use Rattle.c_meaning.specs.Scope.{Variable, Stands, outside, nothing, among_slots}
use Rattle.c_meaning.specs.Values.{Names}
use Rattle.c_mentions.specs.declared.arrays.Arrays.{Arrays}
use Rattle.c_mentions.specs.Hidden.{Hides, any_declares}
use Rattle.c_mentions.specs.Mentions.{Array, comm_array, shared_array, name_of, is_at, stands_for}
use Rattle.c_mentions.proofs.Leaves.{same_name, other_name, hides_variable}

-- ---- the arrays that are given

abbrev shared_slot : Slot
shared_slot = record { name = codes "shared"; cell = cell.Shared 0; length = 4096; unsigned = false }

abbrev comm_slot : Slot
comm_slot = record { name = codes "comm"; cell = cell.Comm 0; length = 512; unsigned = false }

given_named : (a : Array) (text : List ℕ) → stands_for a (among_slots text given_slots)
    ≡ (bytes_eq text (name_of a) && true)
given_named a text = first a (bytes_eq (codes "shared") text) refl
  where
    second : (a : Array) (b : Bool) → bytes_eq (codes "comm") text ≡ b → bytes_eq (codes "shared") text ≡ false
        → stands_for a (if b then outside comm_slot else nothing) ≡ (bytes_eq text (name_of a) && true)
    second comm_array true is other = ap (λ t. t && true) (sym (bytes_eq_sym text (codes "comm") ∙ is))
    second comm_array false is other = ap (λ t. t && true) (sym (bytes_eq_sym text (codes "comm") ∙ is))
    second shared_array true is other = ap (λ t. t && true) (sym (bytes_eq_sym text (codes "shared") ∙ other))
    second shared_array false is other = ap (λ t. t && true) (sym (bytes_eq_sym text (codes "shared") ∙ other))

    first : (a : Array) (b : Bool) → bytes_eq (codes "shared") text ≡ b
        → stands_for a (if b then outside shared_slot else (if bytes_eq (codes "comm") text then outside
        comm_slot else nothing))
        ≡ (bytes_eq text (name_of a) && true)
    first comm_array true is =
        ap (λ t. bytes_eq t (codes "comm") && true) ((bytes_eq-Decides (codes "shared") text).0 is)
    first shared_array true is =
        ap (λ t. bytes_eq t (codes "shared") && true) ((bytes_eq-Decides (codes "shared") text).0 is)
    first comm_array false is = second comm_array (bytes_eq (codes "comm") text) refl is
    first shared_array false is = second shared_array (bytes_eq (codes "comm") text) refl is

-- ---- variables outside functions

hidden_first : (b c d hidden was now : Bool) → (b ≡ true → c ≡ d) → (b ≡ false → c ≡ true → d ≡ false) → was
    ≡ (c && not hidden)
    → now ≡ (if b then false else was) → now ≡ (c && not (d || hidden))
hidden_first true true true hidden was now same other is here = here
hidden_first true true false hidden was now same other is here = cc (same refl)
hidden_first true false d hidden was now same other is here = here
hidden_first false true true hidden was now same other is here = cc (other refl refl)
hidden_first false true false hidden was now same other is here = here ∙ is
hidden_first false false d hidden was now same other is here = here ∙ is

slot_no_array : (a : Array) (private scratch : ℕ) (g : Global) → stands_for a (outside (slot_of private scratch g))
    ≡ false
slot_no_array a private scratch g = by a g.scratch
  where
    by : (a : Array) (b : Bool) → is_at a (if b then cell.Scratch scratch else cell.Private private) ≡ false
    by comm_array true = refl
    by comm_array false = refl
    by shared_array true = refl
    by shared_array false = refl

outside_named : (a : Array) (private scratch : ℕ) (items : List PlainItem) (text : List ℕ)
    → stands_for a (among_slots text (slots_from private scratch items))
    ≡ (bytes_eq text (name_of a) && not (any_declares (name_of a) items))
outside_named a private scratch [] text = given_named a text
outside_named a private scratch (global of ∷ items) text =
    hidden_first (bytes_eq of.name text) (bytes_eq text (name_of a)) (bytes_eq of.name (name_of a))
    (any_declares (name_of a) items)
    (stands_for a (among_slots text (slots_from (private + item_words false (global of))
    (scratch + item_words true (global of)) items)))
    (stands_for a (among_slots text (slots_from private scratch (global of ∷ items))))
    (same_name of.name text (name_of a)) (other_name of.name text (name_of a))
    (outside_named a (private + item_words false (global of)) (scratch + item_words true (global of)) items text)
    (either (bytes_eq of.name text) (among_slots text (slots_from (private + item_words false (global of))
    (scratch + item_words true (global of)) items)))
  where
    either : (b : Bool) (rest : Stands) → stands_for a (if b then outside (slot_of private scratch of) else rest)
        ≡ (if b then false else stands_for a rest)
    either true rest = slot_no_array a private scratch of
    either false rest = refl
outside_named a private scratch (function its_kind its_name void_word parameters body ∷ items) text =
    outside_named a (private + 0) (scratch + 0) items text

pub hides_outside : (hidden : Arrays) (items : List PlainItem) → hidden.comm ≡ any_declares (codes "comm") items
    → hidden.shared ≡ any_declares (codes "shared") items
    → Hides hidden (record { slots = layout_of items; variables = [] })
hides_outside hidden items comm shared = record {
  of_comm = λ text. outside_named comm_array 4 0 items text
      ∙ ap (λ b. bytes_eq text (codes "comm") && not b) (sym comm);
  of_shared = λ text. outside_named shared_array 4 0 items text
      ∙ ap (λ b. bytes_eq text (codes "shared") && not b) (sym shared);
}

-- ---- parameters

pub parameters_more : (ps : List Parameter) (p : Parameter)
    → parameter_variables (ps ++ p ∷ []) ≡ parameter_variables ps
    ++ record { name = p.name; unsigned = is_unsigned p.kind } ∷ []
parameters_more [] p = refl
parameters_more (q ∷ ps) p =
    ap (λ (vs : List Variable). record { name = q.name; unsigned = is_unsigned q.kind } ∷ vs) (parameters_more ps p)

pub within_next : (hidden behind : Arrays) (slots : List Slot) (ps : List Parameter) (i : ℕ) (p : Parameter)
    → i < length ps → p ≡ get_or ps i p
    → behind.comm ≡ (hidden.comm || bytes_eq p.name (codes "comm")) → behind.shared
    ≡ (hidden.shared || bytes_eq p.name (codes "shared"))
    → Hides hidden (record { slots = slots; variables = parameter_variables (take i ps) })
    → Hides behind (record { slots = slots; variables = parameter_variables (take (i + 1) ps) })
within_next hidden behind slots ps i p within is comm shared hides =
    let names : Names = record { slots = slots; variables = parameter_variables (take i ps) } in
    let v : Variable = record { name = p.name; unsigned = is_unsigned p.kind } in
    let more = ap parameter_variables (take_more ps i p within ∙ ap (λ q. take i ps ++ q ∷ []) (sym is))
    ∙ parameters_more (take i ps) p in
    subst (λ (vs : List Variable). Hides behind (record { slots = slots; variables = vs })) (sym more)
    (hides_variable hidden behind names v comm shared hides)

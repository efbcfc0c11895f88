-- Statements on other lines have the same code.
use Rattle.std.proofs.Common.{◌≡◌, ◌∙◌, ℕ, ◌+◌, List, [], ◌∷◌, ◌++◌, map, refl, ap, None}
use Rattle.patmos_code.specs.Codes.{code}
use Rattle.patmos_syntax.specs.Items.{Item, function, label, bundle, faulty}
use Rattle.patmos_asm.specs.Assembly.{Lookup, Places, Before, size_from, place_of, labels_from, functions_from, names_from, placed, words_from, fault_of, after, first_fault, parts_in, CodeParts}
use Rattle.patmos_syntax.specs.Drafts.{size_of}
use Rattle.patmos_asm.proofs.ReadLines.{numbered}
use Rattle.patmos_asm.proofs.Faultless.{no_fault_first}
use Rattle.patmos_asm.proofs.Unfaulted.{none_first}

size_anywhere : (l : ℕ) (is : List Item) → size_from (numbered l is) ≡ size_from is
size_anywhere l [] = refl
size_anywhere l (function m n ∷ is) = refl
size_anywhere l (label m n ∷ is) = size_anywhere (l + 1) is
size_anywhere l (bundle m b ∷ is) = ap (λ s. size_of b + s) (size_anywhere (l + 1) is)
size_anywhere l (faulty m k ∷ is) = size_anywhere (l + 1) is

labels_anywhere : (l at : ℕ) (is : List Item) → labels_from at (numbered l is) ≡ labels_from at is
labels_anywhere l at [] = refl
labels_anywhere l at (function m n ∷ is) = refl
labels_anywhere l at (label m n ∷ is) = ap (λ ps. (n, at) ∷ ps) (labels_anywhere (l + 1) at is)
labels_anywhere l at (bundle m b ∷ is) = labels_anywhere (l + 1) (at + size_of b) is
labels_anywhere l at (faulty m k ∷ is) = labels_anywhere (l + 1) at is

pub functions_anywhere : (l at : ℕ) (is : List Item) → functions_from at (numbered l is) ≡ functions_from at is
functions_anywhere l at [] = refl
functions_anywhere l at (function m n ∷ is) = ap (λ ps. (n, at + 1) ∷ ps) (functions_anywhere (l + 1) (at + 1) is)
functions_anywhere l at (label m n ∷ is) = functions_anywhere (l + 1) at is
functions_anywhere l at (bundle m b ∷ is) = functions_anywhere (l + 1) (at + size_of b) is
functions_anywhere l at (faulty m k ∷ is) = functions_anywhere (l + 1) at is

names_anywhere : (l : ℕ) (is : List Item) → names_from (numbered l is) ≡ names_from is
names_anywhere l [] = refl
names_anywhere l (function m n ∷ is) = ap (λ ns. n ∷ ns) (names_anywhere (l + 1) is)
names_anywhere l (label m n ∷ is) = names_anywhere (l + 1) is
names_anywhere l (bundle m b ∷ is) = names_anywhere (l + 1) is
names_anywhere l (faulty m k ∷ is) = names_anywhere (l + 1) is

words_anywhere : (functions labels : Lookup) (at l : ℕ) (is : List Item)
    → words_from functions labels at (numbered l is) ≡ words_from functions labels at is
words_anywhere functions labels at l [] = refl
words_anywhere functions labels at l (function m n ∷ is) =
    ap (λ s. s ∷ words_from functions (place_of (labels_from 0 (numbered (l + 1) is))) 0 (numbered (l + 1) is))
    (size_anywhere (l + 1) is)
    ∙ ap (λ ps. size_from is ∷ words_from functions (place_of ps) 0 (numbered (l + 1) is))
    (labels_anywhere (l + 1) 0 is)
    ∙ ap (λ ws. size_from is ∷ ws) (words_anywhere functions (place_of (labels_from 0 is)) 0 (l + 1) is)
words_anywhere functions labels at l (label m n ∷ is) = words_anywhere functions labels at (l + 1) is
words_anywhere functions labels at l (bundle m b ∷ is) =
    ap (λ ws. code (placed functions labels at b) ++ ws) (words_anywhere functions labels (at + size_of b) (l + 1) is)
words_anywhere functions labels at l (faulty m k ∷ is) = words_anywhere functions labels at (l + 1) is

pub none_anywhere : (functions labels : Lookup) (before : Before) (l : ℕ) (is : List Item)
    → first_fault functions labels before is ≡ None → first_fault functions labels before (numbered l is) ≡ None
none_anywhere functions labels before l [] e = refl
none_anywhere functions labels before l (function m n ∷ is) e =
    let t = no_fault_first (function m n) (fault_of functions labels before (function m n)) _ e in
    none_first (function l n) (fault_of functions labels before (function m n)) _ t.0
    (ap (λ ps. first_fault functions (place_of ps) (after before (function m n)) (numbered (l + 1) is))
    (labels_anywhere (l + 1) 0 is)
    ∙ none_anywhere functions (place_of (labels_from 0 is)) (after before (function m n)) (l + 1) is t.1)
none_anywhere functions labels before l (label m n ∷ is) e =
    let t = no_fault_first (label m n) (fault_of functions labels before (label m n)) _ e in
    none_first (label l n) (fault_of functions labels before (label m n)) _ t.0 (none_anywhere functions labels
    (after before (label m n)) (l + 1) is t.1)
none_anywhere functions labels before l (bundle m b ∷ is) e =
    let t = no_fault_first (bundle m b) (fault_of functions labels before (bundle m b)) _ e in
    none_first (bundle l b) (fault_of functions labels before (bundle m b)) _ t.0 (none_anywhere functions labels
    (after before (bundle m b)) (l + 1) is t.1)
none_anywhere functions labels before l (faulty m k ∷ is) e = cc

-- the parts of statements with these functions
abbrev pub parts_with : Places → List Item → CodeParts
parts_with functions is = record {
  names = names_from is;
  starts = map (λ f. f.1) functions;
  words = words_from
      (place_of functions) (place_of []) 0 is;
}

pub parts_anywhere : (l : ℕ) (is : List Item) → parts_in (numbered l is) ≡ parts_in is
parts_anywhere l is =
    ap (λ fs. parts_with fs (numbered l is)) (functions_anywhere l 0 is)
    ∙ ap (λ ns. record {
      names = ns;
      starts = map (λ f. f.1) (functions_from 0 is);
      words = words_from
          (place_of (functions_from 0 is)) (place_of []) 0 (numbered l is);
    }) (names_anywhere l is)
    ∙ ap (λ ws. record { names = names_from is; starts = map (λ f. f.1) (functions_from 0 is); words = ws })
    (words_anywhere (place_of (functions_from 0 is)) (place_of []) 0 l is)

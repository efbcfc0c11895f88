-- The tree of a valid program is well formed.
use Rattle.std.proofs.Common.{◌≡◌, ℕ, ◌^◌, ◌<◌, ◌≤◌, true, List, [], length, Option, ap, ◌∙◌, arith, le-leb}
use Rattle.std.specs.Prelude.{codes}
use Rattle.std.proofs.lemmas.Bool.{and_from}
use Rattle.c_tree.specs.Layout.{input_of, layout_of}
use Rattle.c_tree.specs.Plain.{PlainItem}
use Rattle.c_tree.specs.Valid.{IsValid}
use Rattle.c_tree.specs.Names.{number_of}
use Rattle.c_meaning.specs.Resolve.{names_in, resolved_items, parameters_in}
use Rattle.c_tree.proofs.Typing.{typed_of}
use Rattle.c_meaning.proofs.Fits.{input_within}
use Rattle.sp_tree.specs.Formed.{is_formed}
use Rattle.single_path.specs.Single.{entry_of, with_calls}
use Rattle.single_path.proofs.Apart.{valid_apart}
use Rattle.single_path.proofs.Data.{data_is_formed, functions_are_few}
use Rattle.single_path.proofs.Formed.{as_many, functions_are_formed, made_length}
use Rattle.single_path.proofs.Main.{entry_is_formed, main_there}

pub single_is_formed : (cores own : ℕ) (items : List PlainItem) → cores ≤ 16 → IsValid items cores own
    → is_formed (with_calls items) ≡ true
single_is_formed cores own items few valid =
    and_from _ _ (le-leb (length (with_calls items).functions) 512 (functions_are_few cores own items valid))
    (and_from _ _ (functions_are_formed cores own items few valid)
    (and_from _ _ (entry_is_formed cores own items valid)
    (and_from _ _ (data_is_formed cores own items valid) (valid_apart items cores own valid))))

-- ---- numbers of a valid program that are told in words

pub entry_small : (cores own : ℕ) (items : List PlainItem) → IsValid items cores own → (main : Option ℕ)
    → main ≡ number_of (codes "main") (names_in items) → entry_of main < 2 ^ 32
entry_small cores own items valid main is =
    let there = main_there cores own items valid in
    let same = ap entry_of (is ∙ there.is) in
    let many = made_length (parameters_in items) (resolved_items (layout_of items) [] items)
    (as_many (layout_of items) [] items) in
    omega (arith, same, there.within, functions_are_few cores own items valid, many)

pub input_small : (cores own : ℕ) (items : List PlainItem) → IsValid items cores own → ((input_of items).at < 2 ^ 32)
    × ((input_of items).room < 2 ^ 32)
input_small cores own items valid =
    let input = input_within 4 items (omega arith) in
    let private = (typed_of cores own items valid).private in
    (omega (arith, input.1, private), omega (arith, input.1, private))

-- To be believed. What a contract sees of statements as they are read: names as their bytes.
use Rattle.std.specs.Prelude.{List, map}
use Rattle.patmos_instr.specs.Bundles.{PlainBundle}
use Rattle.patmos_syntax.specs.declared.draft_types.Draft as code
use Rattle.patmos_syntax.specs.declared.draft_types.Draft.TheVariants as drafts
use Rattle.patmos_syntax.specs.declared.draft_types.DraftInstr as instrs
use Rattle.patmos_syntax.specs.declared.draft_types.DraftBundle as bundles
use Rattle.patmos_syntax.specs.declared.draft_types.DraftBundle.TheVariants as bundle_kinds
use Rattle.patmos_syntax.specs.declared.draft_types.Jump as jumps
use Rattle.patmos_syntax.specs.declared.items.Item as items
use Rattle.patmos_syntax.specs.declared.items.Item.TheVariants as kinds
use Rattle.patmos_syntax.specs.Drafts.{Draft, ready, to, DraftInstr, DraftBundle}
use Rattle.patmos_syntax.specs.Items.{Item, function, label, bundle, faulty}

abbrev pub shown_draft : code.Draft → Draft
shown_draft (drafts.Ready op) = ready op
shown_draft (drafts.To flow name) = to flow name.items

abbrev pub shown_instr : instrs.DraftInstr → DraftInstr
shown_instr i = record { guard = i.guard; draft = shown_draft i.draft }

-- a bundle that is ready, and one that waits for a name
abbrev pub shown_ready : PlainBundle → DraftBundle
shown_ready b = record { first = record { guard = b.first.guard; draft = ready b.first.op }; second = b.second }

abbrev pub shown_jump : jumps.Jump → DraftBundle
shown_jump j = record { first = record { guard = j.guard; draft = to j.flow j.name.items }; second = j.beside }

abbrev pub shown_bundle : bundles.DraftBundle → DraftBundle
shown_bundle (bundle_kinds.Ready b) = shown_ready b
shown_bundle (bundle_kinds.Waiting j) = shown_jump j

abbrev pub shown_item : items.Item → Item
shown_item (kinds.Function line name) = function line name
shown_item (kinds.Label line name) = label line name.items
shown_item (kinds.Bundle line b) = bundle line (shown_bundle b)
shown_item (kinds.Faulty line fault) = faulty line fault

abbrev pub shown_items : List items.Item → List Item
shown_items list = map shown_item list

use Rattle.std.proofs.Common.{◌∙◌, ◌<◌, ◌≤◌, ◌++◌, ap, sym, length, rules, subst}
use Rattle.patmos_asm.specs.Assembly.{labels_after, size_from, item_words}
use Rattle.patmos_asm.specs.Names.{place_in}
use Rattle.patmos_syntax.specs.Shown.{shown_item, shown_items}
use Rattle.patmos_asm.proofs.WordSteps.{begins, words_begin, Next, words_step, faultless_step, size_step, words_end, words_same}
use Rattle.patmos_asm.proofs.words.words_of.Goals as goal

pub loop-i-init : goal.loop-i-init
loop-i-init c = (
  words_begin (place_in c.args.functions.now) (place_in c.in_ok-labels.labels) (shown_items c.args.items.now)
      c.new-words.result.items c.new-words.ensures.items c.in_ok-labels.ensures,
  begins (place_in c.args.functions.now) (place_in c.in_ok-labels.labels) (shown_items c.args.items.now)
      c.requires.places c.in_ok-labels.ensures c.requires.faultless,
)

pub push_item-requires-clause-size : goal.push_item-requires-clause-size
push_item-requires-clause-size c =
    let within : c.loop-i.i < length c.args.items.now = search rules in
    subst (λ rest. size_from (shown_items rest) ≤ 4096) (sym c.split_at.ensures.back)
    (size_step (place_in c.args.functions.now) (place_in c.loop-i.labels) c.loop-i.at c.args.items.now
    c.index-items-i.result c.loop-i.i within c.index-items-i.is c.loop-i.invariant.1)

pub loop-i-preserved : goal.loop-i-preserved
loop-i-preserved c =
    let within : c.loop-i.i < length c.args.items.now = search rules in
    let next : Next (place_in c.args.functions.now) (place_in c.loop-i.labels) (place_in c.in_ok-labels-2.labels)
    c.loop-i.at c.offset_after-at.result c.args.items.now c.index-items-i.result c.loop-i.i =
    record {
      within = within;
      is = c.index-items-i.is;
      same = λ q. c.in_ok-labels-2.ensures q
          ∙ ap (λ rest. labels_after (place_in c.loop-i.labels) (shown_item c.index-items-i.result)
          (shown_items rest) q)
          c.split_at.ensures.back;
      offset = c.offset_after-at.ensures;
    } in (
      words_step (place_in c.args.functions.now) (place_in c.loop-i.labels) (place_in c.in_ok-labels-2.labels)
          c.loop-i.at c.offset_after-at.result c.args.items.now c.index-items-i.result c.loop-i.i
          c.loop-i.words.items c.push_item.new.words.items _ next
          (c.in_ok-push_item.ensures ∙ ap (λ rest. c.loop-i.words.items ++ item_words (place_in c.args.functions.now)
          (place_in c.loop-i.labels) c.loop-i.at (shown_item c.index-items-i.result) (shown_items rest))
          c.split_at.ensures.back)
          c.loop-i.invariant.0,
      faultless_step (place_in c.args.functions.now) (place_in c.loop-i.labels) (place_in c.in_ok-labels-2.labels)
          c.loop-i.at c.offset_after-at.result c.args.items.now c.index-items-i.result c.loop-i.i next
          c.loop-i.invariant.1,
    )

pub returns : goal.returns
returns c =
    let past : length c.args.items.now ≤ c.loop-i.i = search rules in
    words_end (place_in c.args.functions.now) (place_in c.loop-i.labels) c.loop-i.at c.args.items.now c.loop-i.i
    c.loop-i.words.items _ past c.loop-i.invariant.0
    ∙ words_same (place_in c.args.functions.now) _ (shown_items c.args.items.now) c.requires.places

use Rattle.std.proofs.Common.{◌≡◌, ◌+◌, length, slice_index, sym, ap, ◌∙◌, arith}
use Rattle.std.proofs.lemmas.List.{length_push}
use Rattle.tc_link.specs.Placed.{place}
use Rattle.tc_link.proofs.Order.{entry_counted, other_counted, entry_placed, other_placed, all_counted, fewer_words, place_more}
use Rattle.tc_link.proofs.places.places_of.Goals as goal
use Rattle.tc_link.proofs.places.places_of.Goals.{then-k-entry+in_ok-push, else-k-entry+in_ok-push-2}

pub overflow_add-next : goal.overflow_add-next
overflow_add-next c =
    let all = all_counted (slice_index c.args.sizes.now) c.args.entry (length c.args.sizes.now) c.requires.entry in
    omega (arith, all)

pub overflow_add-next-else-k-entry : goal.overflow_add-next-else-k-entry
overflow_add-next-else-k-entry c =
    let size = slice_index c.args.sizes.now in
    let all = all_counted size c.args.entry (length c.args.sizes.now) c.requires.entry in
    let one = other_counted size c.args.entry c.loop-k.k c.if-k-entry.false in
    let fewer = fewer_words size c.args.entry (c.loop-k.k + 1) (length c.args.sizes.now) (omega arith) in
    omega (arith, all, one, fewer)

pub overflow_add-next-else-k-entry-2 : goal.overflow_add-next-else-k-entry-2
overflow_add-next-else-k-entry-2 c =
    let size = slice_index c.args.sizes.now in
    let all = all_counted size c.args.entry (length c.args.sizes.now) c.requires.entry in
    let one = other_counted size c.args.entry c.loop-k.k c.if-k-entry.false in
    let fewer = fewer_words size c.args.entry (c.loop-k.k + 1) (length c.args.sizes.now) (omega arith) in
    omega (arith, all, one, fewer, c.loop-k.invariant.next)

pub loop-k-preserved : goal.loop-k-preserved
loop-k-preserved c =
    let size = slice_index c.args.sizes.now in
    elim c.if-k-entry.branch [
      | then-k-entry+in_ok-push w ↦
          let items = ap (λ v. v.items) w.places-is ∙ w.in_ok-push.ensures.items in
          let is : w.low.result ≡ place size c.args.entry c.loop-k.k =
          w.low.ensures ∙ sym (entry_placed size c.args.entry c.loop-k.k w.if-k-entry.true) in
          record {
            count = omega (
              arith,
              ap length items,
              length_push c.loop-k.places.items w.low.result,
              c.loop-k.invariant.count,
            );
            next = omega (
              arith,
              w.next-is,
              c.loop-k.invariant.next,
              entry_counted size c.args.entry c.loop-k.k
                  w.if-k-entry.true,
            );
            places = place_more size c.args.entry c.loop-k.k w.low.result c.loop-k.places.items
                c.if-k-entry.places.items c.loop-k.invariant.count is items c.loop-k.invariant.places;
          }
      | else-k-entry+in_ok-push-2 w ↦
          let items = ap (λ v. v.items) w.places-is ∙ w.in_ok-push-2.ensures.items in
          let one = other_counted size c.args.entry c.loop-k.k w.if-k-entry.false in
          let within = all_counted size c.args.entry (length c.args.sizes.now) c.requires.entry in
          let fewer = fewer_words size c.args.entry (c.loop-k.k + 1) (length c.args.sizes.now) (omega arith) in
          let is : w.low-else-k-entry.result ≡ place size c.args.entry c.loop-k.k =
          omega (
            arith,
            w.low-else-k-entry.ensures,
            c.loop-k.invariant.next,
            within,
            fewer,
            one,
            other_placed size c.args.entry c.loop-k.k w.if-k-entry.false,
          ) in
          record {
            count = omega (
              arith,
              ap length items,
              length_push c.loop-k.places.items w.low-else-k-entry.result,
              c.loop-k.invariant.count,
            );
            next = omega (arith, w.next-is, c.loop-k.invariant.next, one);
            places = place_more size c.args.entry c.loop-k.k w.low-else-k-entry.result c.loop-k.places.items
                c.if-k-entry.places.items c.loop-k.invariant.count is items c.loop-k.invariant.places;
          }
    ]

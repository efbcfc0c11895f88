use Rattle.std.proofs.Common.{◌++◌, [], ◌∷◌, map, slice_index, ap, ◌∙◌, arith}
use Rattle.std.proofs.lemmas.List.{map-append, get_or_read}
use Rattle.tc_link.proofs.Order.{order_more, order_same}
use Rattle.tc_link.proofs.places.in_order.Goals as goal
use Rattle.tc_link.proofs.places.in_order.Goals.{then-k-entry+in_ok-push-2, else-k-entry}

pub loop-k-preserved : goal.loop-k-preserved
loop-k-preserved c =
    let starts = map (slice_index c.args.places.now) in
    elim c.if-k-entry.branch [
      | then-k-entry+in_ok-push-2 w ↦
          let read = w.number-then-k-entry.ensures.value
          ∙ get_or_read c.args.places.now c.loop-k.k c.index-places-k.result (omega arith) c.index-places-k.is 0 in
          order_more starts (map-append (slice_index c.args.places.now)) c.args.entry c.loop-k.k c.loop-k.starts.items
          c.if-k-entry.starts.items w.if-k-entry.true c.loop-k.invariant
          (ap (λ v. v.items) w.starts-is ∙ w.in_ok-push-2.ensures.items ∙ ap (λ x. c.loop-k.starts.items
          ++ x ∷ []) read)
      | else-k-entry w ↦
          order_same starts c.args.entry c.loop-k.k c.loop-k.starts.items c.if-k-entry.starts.items w.if-k-entry.false
          c.loop-k.invariant (ap (λ v. v.items) w.starts-is)
    ]

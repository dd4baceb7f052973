use Rattle.std.proofs.Common.{◌∙◌, ap, map}
use Rattle.planar_predicates.proofs.Arranged.{permuted}
use Rattle.guarded_reduction.proofs.Orders.{places_ordered}
use Rattle.guarded_reduction.specs.Orders.{place_of}
use Rattle.guarded_reduction.proofs.index.ordering.places_in_order.Goals as goal

pub returns : goal.returns
returns c =
    let keys = c.in_ok-keys.keys in
    places_ordered _ keys.items _ c.in_ok-places.places.items c.in_ok-keys.ensures (permuted keys.len keys.items c.deref_mut.result.now c.put_in_order.new.keys keys.ok.0 c.deref_mut.ensures.value c.in_ok-put_in_order.ensures)
    (c.in_ok-places.ensures ∙ ap (λ xs. map place_of xs) c.deref.ensures.value)

use Rattle.std.proofs.Common.{arith, ℤ, ◌-◌, List, ◌∷◌, ◌++◌, true, not, length, get_or, take, drop, map, Some, None, if◌then◌else◌, ap, ◌∙◌}
use Rattle.std.proofs.lemmas.List.{take_all}
use Rattle.geometry.specs.declared.address.Dropped.{Dropped}
use Rattle.geometry.specs.DropCauses.{here, inner_cause}
use Rattle.geometry.specs.Lists.{map_some, some_of}
use Rattle.geometry.specs.Paths.{of_parts}
use Rattle.topo_model.specs.Places.{dropped_at}
use Rattle.topo_model.proofs.Drops.{with_outer, without_outer}
use Rattle.topo_model.proofs.Pruned.{none_is, outer_replaced, rings_left, some_there, where_some}
use Rattle.topo_model.proofs.pruning.prune_rings.Goals as goal

pub returns-then-is_none-clause-left : goal.returns-then-is_none-clause-left
returns-then-is_none-clause-left g c =
    let k = g.K.Keeps.keeps c.args.keeps.now in
    let lent = c.as_mut_slice.result.now in
    let p = c.prune_outer-cause.new.refs in
    let parts = outer_replaced lent c.args.rings.now c.index-as_mut_slice-0.result p c.as_mut_slice.ensures.value (some_there (length c.args.rings.now) c.is_empty.result c.is_empty.ensures c.if-is_empty.false) in
    rings_left k (map_some (λ w. w.now) c.args.way) (get_or lent 0 c.index-as_mut_slice-0.result) p (drop 1 lent) c.args.rings.now c.prune_lines.new.lines c.prune_outer-cause.result c.is_none.result parts.0 c.prune_outer-cause.ensures.left
    c.is_none.ensures (c.in_ok-prune_lines.ensures.left ∙ ap (λ rs. take 1 rs ++ some_of (k true) (drop 1 rs)) parts.1) ∙ ap (λ b. if b then Some c.prune_lines.new.lines else None) c.if-is_none.true

pub returns-then-is_none-clause-dropped : goal.returns-then-is_none-clause-dropped
returns-then-is_none-clause-dropped g c =
    let goes = g.K.Keeps.goes c.args.keeps.now in
    let lent = c.as_mut_slice.result.now in
    let parts = outer_replaced lent c.args.rings.now c.index-as_mut_slice-0.result c.prune_outer-cause.new.refs c.as_mut_slice.ensures.value (some_there (length c.args.rings.now) c.is_empty.result c.is_empty.ensures c.if-is_empty.false) in
    with_outer goes (map_some (λ w. w.now) c.args.way) c.args.place.now (get_or lent 0 c.index-as_mut_slice-0.result) (drop 1 lent) c.args.rings.now c.prune_outer-cause.result c.args.dropped.now.items
    c.add_part.new.dropped.items c.prune_lines.new.dropped.items parts.0 c.prune_outer-cause.ensures.cause c.in_ok-add_part.ensures (none_is c.prune_outer-cause.result c.is_none.result c.is_none.ensures c.if-is_none.true)
    (c.in_ok-prune_lines.ensures.dropped ∙ ap (λ rs. c.add_part.new.dropped.items ++ dropped_at c.args.place.now (of_parts 1 (map (λ h. here (goes true (None, h))) (drop 1 rs)))) parts.1)

pub returns-clause-dropped : goal.returns-clause-dropped
returns-clause-dropped g c =
    let goes = g.K.Keeps.goes c.args.keeps.now in
    let lent = c.as_mut_slice.result.now in
    let o = get_or lent 0 c.index-as_mut_slice-0.result in
    let cause = c.prune_outer-cause.result in
    let parts = outer_replaced lent c.args.rings.now c.index-as_mut_slice-0.result c.prune_outer-cause.new.refs c.as_mut_slice.ensures.value (some_there (length c.args.rings.now) c.is_empty.result c.is_empty.ensures c.if-is_empty.false) in
    let some = c.is_none.ensures ∙ ap not c.if-is_none.false in
    let now = c.as_slice-parts.ensures ∙ parts.1 in
    let same = c.as_slice.ensures ∙ c.index-parts-0.is ∙ ap (λ rs. get_or rs 0 c.index-parts-0.result) now ∙ where_some cause c.prune_outer-cause.ensures.alone some in
    let listed : List ℤ → List (List ℤ) → List Dropped = λ o hs. c.add_part.new.dropped.items ++ dropped_at c.args.place.now (of_parts 1 (map (λ h. here (inner_cause cause (goes true (Some o, h)))) hs)) in
    without_outer goes (map_some (λ w. w.now) c.args.way) c.args.place.now o (drop 1 lent) c.args.rings.now cause c.args.dropped.now.items
    c.add_part.new.dropped.items c.drop_holes.new.dropped.items parts.0 c.prune_outer-cause.ensures.cause c.in_ok-add_part.ensures some
    (c.in_ok-drop_holes.ensures ∙ ap (λ o. listed o (take (length c.as_slice-parts.result.now - 1) (drop 1 c.as_slice-parts.result.now))) same
    ∙ ap (λ rs. listed o (take (length rs - 1) (drop 1 rs))) now ∙ ap (listed o) (take_all (length (o ∷ drop 1 lent) - 1) (drop 1 lent) (omega arith)))

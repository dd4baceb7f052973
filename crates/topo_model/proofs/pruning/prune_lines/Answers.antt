use Rattle.std.proofs.Common.{ℕ, ℤ, ◌++◌, List, map, take, drop, Option, None, refl, ap, ◌∙◌}
use Rattle.geometry.specs.declared.address.Cause.{Cause}
use Rattle.geometry.specs.DropCauses.{here}
use Rattle.geometry.specs.Lists.{some_of}
use Rattle.geometry.specs.Paths.{Placed, of_parts}
use Rattle.geometry.specs.Addresses.{part_address}
use Rattle.topo_model.specs.Places.{dropped_at}
use Rattle.topo_model.proofs.Prefix.{along_alone, if_none, turns, ends}
use Rattle.topo_model.proofs.pruning.prune_lines.Goals.{then-is_none, else-is_none}
use Rattle.topo_model.proofs.pruning.prune_lines.Goals as goal

pub loop-i-preserved : goal.loop-i-preserved
loop-i-preserved g c =
    let alone = λ (x : List ℤ) (w : Option (List ℕ)). x in
    let keeps = g.K.Keeps.keeps c.args.keeps.now c.args.closed in
    let why : List ℤ → List (Placed Cause) = λ x. here (g.K.Keeps.goes c.args.keeps.now c.args.closed (None, x)) in
    let left = c.keep-cause.ensures.left ∙ if_none c.keep-cause.result c.keep-cause.new.refs c.is_none.result c.is_none.ensures in
    let is = c.in_ok-add_part.ensures ∙ ap (λ o. c.loop-i.dropped.items ++ dropped_at (part_address c.args.place.now c.loop-i.i) (here o)) c.keep-cause.ensures.cause in
    let turn = turns alone keeps why None c.args.place.now c.args.first c.as_mut_slice-parts.result.now c.args.dropped.now.items
    c.loop-i.i c.loop-i.kept c.loop-i.parts c.loop-i.dropped.items c.add_part.new.dropped.items c.index-parts-i.result c.keep-cause.new.refs None c.loop-i-test.true c.loop-i.invariant refl is c.is_none.result left in
    elim c.if-is_none.branch [ then-is_none w ↦ rw (w.parts-is, w.kept-is, w.swap.ensures.after) (turn.0 w.if-is_none.true) | else-is_none w ↦ rw (w.parts-is, w.kept-is) (turn.1 w.if-is_none.false) ]

pub returns : goal.returns
returns g c =
    let keeps = g.K.Keeps.keeps c.args.keeps.now c.args.closed in
    let why : List ℤ → List (Placed Cause) = λ x. here (g.K.Keeps.goes c.args.keeps.now c.args.closed (None, x)) in
    let alone = along_alone c.args.first (drop c.args.first c.args.lines.now) None in
    let k = ends (λ (x : List ℤ) (w : Option (List ℕ)). x) keeps why None c.args.place.now c.args.first c.as_mut_slice-parts.result.now c.args.lines.now c.args.dropped.now.items c.loop-i.i c.loop-i.kept c.loop-i.parts c.loop-i.dropped.items
    c.as_mut_slice-parts.ensures.value c.loop-i-test.false c.loop-i.invariant in
    record {
      left = c.truncate.ensures ∙ k.0 ∙ ap (λ ls. take c.args.first c.args.lines.now ++ some_of keeps ls) alone;
      dropped = k.1 ∙ ap (λ ls. c.args.dropped.now.items ++ dropped_at c.args.place.now (of_parts c.args.first (map why ls))) alone;
    }

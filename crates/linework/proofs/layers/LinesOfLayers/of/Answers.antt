use Rattle.std.proofs.Common.{ap, ◌∙◌}
use Rattle.linework.specs.Linework.{lines_and_rings_of_layer}
use Rattle.junctions.specs.Gathering.{nothing_gathered, with_lines_and_rings}
use Rattle.linework.proofs.Gathered.{layers_turn}
use Rattle.linework.proofs.layers.LinesOfLayers.of.Goals as goal

pub loop-number-preserved : goal.loop-number-preserved
loop-number-preserved c =
    layers_turn nothing_gathered c.loop-number.lines c.add_layer.new.lines c.args.layers.now c.loop-number.number c.index-layers-number.result
    c.loop-number-test.true c.index-layers-number.is c.loop-number.invariant
    (c.in_ok-add_layer.ensures ∙ ap (λ fs. with_lines_and_rings c.loop-number.lines (lines_and_rings_of_layer c.loop-number.number 0 fs)) c.as_slice.ensures)

use Rattle.std.proofs.Common.{◌≡◌, map, Some, None, ap, sym, ◌∙◌, rules}
use Rattle.geometry.specs.Paths.{placed_lines_and_rings}
use Rattle.geometry.specs.Addresses.{feature_address}
use Rattle.linework.specs.Linework.{option_placed, line_or_ring_at, feature_lines_and_rings}
use Rattle.junctions.specs.Gathering.{with_lines_and_rings}
use Rattle.linework.proofs.Gathered.{with_none, features_turn}
use Rattle.linework.proofs.gathering.add_layer.Goals as goal
use Rattle.linework.proofs.gathering.add_layer.Goals.{in-Some+in_ok-add_shape, in_default}

pub loop-number-preserved : goal.loop-number-preserved
loop-number-preserved c =
    features_turn c.args.layer c.args.lines.now c.loop-number.lines c.match-shape.lines c.args.features.now c.loop-number.number c.index-features-number.result
    c.loop-number-test.true c.index-features-number.is c.loop-number.invariant
    (let k : c.match-shape.lines ≡ with_lines_and_rings c.loop-number.lines (feature_lines_and_rings c.args.layer c.loop-number.number c.index-features-number.result) =
    elim c.match-shape.branch [
      | in-Some+in_ok-add_shape w ↦
          let e : Some w.in-Some.shape.now ≡ c.index-features-number.result.shape = w.in-Some.ensures.value in
          w.lines-is ∙ w.in_ok-add_shape.ensures
          ∙ ap (λ a. with_lines_and_rings c.loop-number.lines (map (line_or_ring_at a) (placed_lines_and_rings w.in-Some.shape.now))) w.of_feature-address.ensures
          ∙ ap (λ o. with_lines_and_rings c.loop-number.lines (map (line_or_ring_at (feature_address c.args.layer c.loop-number.number)) (option_placed o))) e
      | in_default w ↦
          let e : None ≡ c.index-features-number.result.shape = search rules in
          w.lines-is ∙ sym (with_none c.loop-number.lines)
          ∙ ap (λ o. with_lines_and_rings c.loop-number.lines (map (line_or_ring_at (feature_address c.args.layer c.loop-number.number)) (option_placed o))) e
    ] in k)

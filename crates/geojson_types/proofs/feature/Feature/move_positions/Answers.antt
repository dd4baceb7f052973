use Rattle.std.proofs.Common.{ap, ◌∙◌}
use Rattle.geojson_types.specs.Features.{is_proper, is_proper_option}
use Rattle.geometry.proofs.MovedShapes.{proper_moved}
use Rattle.geojson_types.proofs.feature.Feature.move_positions.Goals as goal
use Rattle.geojson_types.proofs.feature.Feature.move_positions.Goals.{in-Some, in_default}

pub invariant_of-self : goal.invariant_of-self
invariant_of-self g c =
    elim c.match-as_mut.branch [
      | in-Some w ↦
          rw w.self-inside-is
          (ap is_proper w.move_shape.ensures ∙ proper_moved (g.M.Moves.goes_to c.args.moves.now) w.in-Some.shape.now
          ∙ ap is_proper_option (rw w.in-Some.is at c.as_mut.ensures.value) ∙ c.self.invariant)
      | in_default w ↦ rw w.self-inside-is c.self.invariant
    ]

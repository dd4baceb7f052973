use Rattle.std.proofs.Common.{◌≡◌, arith, sym, ◌∙◌}
use Rattle.std.proofs.lemmas.Int.{ints}
use mir.Syntax.{w64, w128}
use mir.Val.{to_z, of_z}
use Rattle.geojson_meaning.specs.Coordinates.{coordinate}
use Rattle.json_cursor.specs.Arrays.{prefix_value}
use Rattle.json_cursor.proofs.Steps.{found_stops}
use Rattle.geojson_model.proofs.PositionParts.{no_number, of_other_kind, past_range, rounded_refused, in_range}
use Rattle.geojson_model.proofs.coordinates.value_coordinate_at.Goals as goal

pub returns-in_default-clause-answers : goal.returns-in_default-clause-answers
returns-in_default-clause-answers c = λ v rest found. of_other_kind c.args.exact v c.args.counts.now (λ h. c.in_default.not-Number (c.kind_at.ensures c.args.depth_left v rest found ∙ h))

pub returns-in_default-as_number-clause-answers : goal.returns-in_default-as_number-clause-answers
returns-in_default-as_number-clause-answers c =
    found_stops (coordinate c.args.exact) (prefix_value c.args.depth_left c.args.bytes.now) c.args.counts.now _ _ _ c.in_ok-value.ensures (no_number c.args.exact _ c.args.counts.now c.in_default-as_number.ensures)

pub returns-in_default-scaled-clause-answers : goal.returns-in_default-scaled-clause-answers
returns-in_default-scaled-clause-answers c =
    found_stops (coordinate c.args.exact) (prefix_value c.args.depth_left c.args.bytes.now) c.args.counts.now _ _ _ c.in_ok-value.ensures
    (past_range c.args.exact _ c.args.counts.now _ c.in-Some.ensures c.in_default-scaled.field-0 (sym c.scaled.ensures.value ∙ c.in_default-scaled.is))

pub returns-then-is_refused-clause-answers : goal.returns-then-is_refused-clause-answers
returns-then-is_refused-clause-answers c =
    found_stops (coordinate c.args.exact) (prefix_value c.args.depth_left c.args.bytes.now) c.args.counts.now _ _ _ c.in_ok-value.ensures
    (rounded_refused c.args.exact _ c.args.counts.now _ c.in-Some.ensures _ (sym c.scaled.ensures.value ∙ c.in-Ok.is) (sym c.if-is_refused.ensures))

pub returns-clause-answers : goal.returns-clause-answers
returns-clause-answers c =
    let x : to_z w64 (of_z w64 (to_z w128 (of_z w128 c.in-Ok.scaled.value))) ≡ c.in-Ok.scaled.value = omega (arith, ints, c.in-Ok.ensures.within) in
    rw (x, c.count_rounded.ensures) record {
      value = c.in_ok-value.value;
      prefix_is = c.in_ok-value.ensures;
      means = in_range c.args.exact _ c.args.counts.now _ c.in-Some.ensures _ (sym c.scaled.ensures.value ∙ c.in-Ok.is) (sym c.if-is_refused.ensures);
    }

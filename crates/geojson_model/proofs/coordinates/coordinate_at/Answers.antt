use Rattle.std.proofs.Common.{◌≡◌, arith, sym}
use Rattle.std.proofs.lemmas.Int.{ints}
use mir.Syntax.{w64}
use mir.Val.{to_z, of_z}
use Rattle.std.specs.Str.{is_utf8}
use Rattle.json_value.specs.declared.json.Json.TheVariants as j
use Rattle.json_value.proofs.KindsOf.{number_of-number}
use Rattle.geojson_meaning.specs.Coordinates.{coordinate}
use Rattle.json_cursor.specs.Arrays.{prefix_value}
use Rattle.json_cursor.proofs.Steps.{found_stops}
use Rattle.geojson_model.proofs.PositionParts.{rounded_refused, in_range}
use Rattle.geojson_model.proofs.coordinates.coordinate_at.Goals as goal

pub returns-then-is_refused-clause-answers : goal.returns-then-is_refused-clause-answers
returns-then-is_refused-clause-answers c =
    let u = c.in-Some.ensures.units in
    found_stops (coordinate c.args.exact) (prefix_value c.args.depth_left c.args.bytes.now) c.args.counts.now (j.Number u.text) _ _ (u.prefix is_utf8 c.args.depth_left)
    (rounded_refused c.args.exact (j.Number u.text) c.args.counts.now u.text (number_of-number u.text) _ u.scaled (sym c.if-is_refused.ensures))

pub returns-clause-answers : goal.returns-clause-answers
returns-clause-answers c =
    let u = c.in-Some.ensures.units in
    let x : to_z w64 (of_z w64 c.in-Some.units.value) ≡ c.in-Some.units.value = omega (arith, ints, c.in-Some.ensures.within) in
    rw (x, c.count_rounded.ensures) record {
      value = j.Number u.text;
      prefix_is = u.prefix is_utf8 c.args.depth_left;
      means = in_range c.args.exact (j.Number u.text) c.args.counts.now u.text (number_of-number u.text) _ u.scaled (sym c.if-is_refused.ensures);
    }

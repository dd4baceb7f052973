use Rattle.std.proofs.Common.{sym, ◌∙◌}
use Rattle.json_cursor.specs.Arrays.{prefix_value}
use Rattle.json_cursor.proofs.Steps.{found_stops}
use Rattle.topojson_decoder.specs.Transforms.{take}
use Rattle.topojson_decoder.proofs.NumberParts.{other_kind}
use Rattle.topojson_decoder.proofs.TransformParts as by
use Rattle.topojson_decoder.proofs.transforms.NumberTextsElements.element.Goals as goal

pub returns-then-is_some : goal.returns-then-is_some
returns-then-is_some c =
    let found = c.in_ok-rest.ensures in
    record { value = found.0; prefix_is = found.1; means = by.passes_some c.args.self.now found.0 c.args._counts.now (sym c.is_some.ensures ∙ c.if-is_some.true) }

pub returns-in_default : goal.returns-in_default
returns-in_default c = λ v rest found.
    by.no_number c.args.self.now v c.args._counts.now (sym c.is_some.ensures ∙ c.if-is_some.false) (other_kind v (λ same. c.in_default.not-Number (c.kind_at.ensures c.args.depth_left v rest found ∙ same)))

pub returns-in_default-into_number : goal.returns-in_default-into_number
returns-in_default-into_number c =
    found_stops (take c.args.self.now) (prefix_value c.args.depth_left c.args.bytes.now) c.args._counts.now _ _ _ c.in_ok-value.ensures (by.no_number c.args.self.now _ c.args._counts.now (sym c.is_some.ensures ∙ c.if-is_some.false) c.in_default-into_number.ensures)

pub returns : goal.returns
returns c =
    rw c.put.ensures record { value = c.in_ok-value.value; prefix_is = c.in_ok-value.ensures; means = by.takes_text c.args.self.now _ c.args._counts.now (sym c.is_some.ensures ∙ c.if-is_some.false) _ c.in-Some.ensures }

use Rattle.std.proofs.Common.{refl, sym}
use Rattle.json_cursor.specs.Arrays.{prefix_value}
use Rattle.topojson_decoder.specs.Geometries.{part}
use Rattle.topojson_decoder.proofs.MemberOccurrences.{judged}
use Rattle.topojson_decoder.proofs.geometry_parts.shape_by.Goals as goal

pub returns-in-Err : goal.returns-in-Err
returns-in-Err c = λ v rest found is. rw (sym c.in-Err.ensures.value) at (is (c.if-is_by.ensures refl))

pub returns-in-Err-typed_at : goal.returns-in-Err-typed_at
returns-in-Err-typed_at c = λ v rest found is.
    judged (part c.args.start c.args.kind) (prefix_value c.args.depth_left c.args.prefix.now) v rest c.args.start.counts c.typed_at.new.counts found c.in-Err-typed_at.stop c.in-Err-typed_at.ensures

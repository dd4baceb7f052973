use Rattle.std.proofs.Common.{sym}
use Rattle.std.specs.Prelude.{codes}
use Rattle.topojson_decoder.specs.Geometries.{IsParts}
use Rattle.topojson_decoder.proofs.MemberOccurrences.{by_word}
use Rattle.topojson_decoder.proofs.PartsSeen as occurrence
use Rattle.topojson_decoder.proofs.geometry_parts.GeometryParts.value.Goals as goal

pub returns-then-is_name : goal.returns-then-is_name
returns-then-is_name c = by_word (IsParts c.args.start c.args.depth_left) c.args.depth_left c.args.name.now (codes "type") (sym c.if-is_name.ensures) c.args.self.now _ c.args.bytes.now c.type_value.result (c.type_value.ensures c.args.start)

pub returns-then-is_name-2 : goal.returns-then-is_name-2
returns-then-is_name-2 c = by_word (IsParts c.args.start c.args.depth_left) c.args.depth_left c.args.name.now (codes "coordinates") (sym c.if-is_name-2.ensures) c.args.self.now _ c.args.bytes.now c.coordinates_value.result c.coordinates_value.ensures

pub returns-then-is_name-3 : goal.returns-then-is_name-3
returns-then-is_name-3 c = by_word (IsParts c.args.start c.args.depth_left) c.args.depth_left c.args.name.now (codes "arcs") (sym c.if-is_name-3.ensures) c.args.self.now _ c.args.bytes.now c.arcs_value.result c.arcs_value.ensures

pub returns : goal.returns
returns c =
    occurrence.other_goes_on c.args.start c.args.depth_left c.args.self.now c.args.name.now c.args.bytes.now (sym c.if-is_name.ensures) (sym c.if-is_name-2.ensures) (sym c.if-is_name-3.ensures) c.requires c.after_value.result c.after_value.ensures

use Rattle.std.proofs.Common.{◌<◌, subst, sym, ◌∙◌, ap, arith}
use Rattle.std.specs.List.{AllByRecursion}
use Rattle.owned_values.proofs.Elements.{all_at}
use Rattle.geometry.specs.declared.shape.Geometry.TheVariants as g
use Rattle.geojson_types.specs.Nesting.{nesting}
use Rattle.topojson_types.proofs.Parts.{member_nests}
use Rattle.topojson_types.specs.LinesAndRings.{IsShape}
use Rattle.topojson_types.proofs.Decoded.{point_decodes, points_decode, line_decodes, lines_decode, area_decodes, areas_decode, group_decodes}
use Rattle.topojson_types.proofs.Standing.{point_stands, points_stand, line_stands, lines_stand, area_stands, areas_stand, group_stands}
use Rattle.topojson_types.proofs.shapes.+decoded.Goals as goal

pub position_at-requires : goal.position_at-requires
position_at-requires t c = grind (arith, point_stands)

pub returns-in-Point-clause-decoded : goal.returns-in-Point-clause-decoded
returns-in-Point-clause-decoded t c =
    (point_decodes c.args.topology.now c.args.shape.now c.requires c.in-Point.cell c.position_at.result c.in-Point.is (rw c.transform.ensures.transform at c.position_at.ensures)).0

pub returns-in-Point-clause-proper : goal.returns-in-Point-clause-proper
returns-in-Point-clause-proper t c =
    (point_decodes c.args.topology.now c.args.shape.now c.requires c.in-Point.cell c.position_at.result c.in-Point.is (rw c.transform.ensures.transform at c.position_at.ensures)).1

pub positions-requires : goal.positions-requires
positions-requires t c = grind (arith, points_stand)

pub returns-in_ok-positions-in-MultiPoint-clause-decoded : goal.returns-in_ok-positions-in-MultiPoint-clause-decoded
returns-in_ok-positions-in-MultiPoint-clause-decoded t c =
    (points_decode c.args.topology.now c.args.shape.now c.requires c.in-MultiPoint.cells c.in_ok-positions-in-MultiPoint.field-0 c.in-MultiPoint.is
    (rw (c.transform-in-MultiPoint.ensures.transform, c.as_slice.ensures) at c.in_ok-positions-in-MultiPoint.ensures)).0

pub returns-in_ok-positions-in-MultiPoint-clause-proper : goal.returns-in_ok-positions-in-MultiPoint-clause-proper
returns-in_ok-positions-in-MultiPoint-clause-proper t c =
    (points_decode c.args.topology.now c.args.shape.now c.requires c.in-MultiPoint.cells c.in_ok-positions-in-MultiPoint.field-0 c.in-MultiPoint.is
    (rw (c.transform-in-MultiPoint.ensures.transform, c.as_slice.ensures) at c.in_ok-positions-in-MultiPoint.ensures)).1

pub line-requires : goal.line-requires
line-requires t c = grind (arith, line_stands c.args.topology.now c.args.shape.now c.in-Line.refs c.in-Line.is c.requires)

pub returns-in_ok-line-in-Line-clause-decoded : goal.returns-in_ok-line-in-Line-clause-decoded
returns-in_ok-line-in-Line-clause-decoded t c =
    (line_decodes c.args.topology.now c.args.shape.now c.requires c.in-Line.refs c.in_ok-line-in-Line.field-0 c.in-Line.is (rw c.as_slice-in-Line.ensures at c.in_ok-line-in-Line.ensures)).0

pub returns-in_ok-line-in-Line-clause-proper : goal.returns-in_ok-line-in-Line-clause-proper
returns-in_ok-line-in-Line-clause-proper t c =
    (line_decodes c.args.topology.now c.args.shape.now c.requires c.in-Line.refs c.in_ok-line-in-Line.field-0 c.in-Line.is (rw c.as_slice-in-Line.ensures at c.in_ok-line-in-Line.ensures)).1

pub lines-requires : goal.lines-requires
lines-requires t c = grind (arith, lines_stand)

pub returns-in_ok-lines-in-Lines-clause-decoded : goal.returns-in_ok-lines-in-Lines-clause-decoded
returns-in_ok-lines-in-Lines-clause-decoded t c =
    (lines_decode c.args.topology.now c.args.shape.now c.requires c.in-Lines.refs c.in_ok-lines-in-Lines.field-0 c.in-Lines.is (rw c.as_slice-in-Lines.ensures at c.in_ok-lines-in-Lines.ensures)).0

pub returns-in_ok-lines-in-Lines-clause-proper : goal.returns-in_ok-lines-in-Lines-clause-proper
returns-in_ok-lines-in-Lines-clause-proper t c =
    (lines_decode c.args.topology.now c.args.shape.now c.requires c.in-Lines.refs c.in_ok-lines-in-Lines.field-0 c.in-Lines.is (rw c.as_slice-in-Lines.ensures at c.in_ok-lines-in-Lines.ensures)).1

pub rings-requires : goal.rings-requires
rings-requires t c = grind (arith, area_stands)

pub returns-in_ok-rings-in-Area-clause-decoded : goal.returns-in_ok-rings-in-Area-clause-decoded
returns-in_ok-rings-in-Area-clause-decoded t c =
    (area_decodes c.args.topology.now c.args.shape.now c.requires c.in-Area.refs c.in_ok-rings-in-Area.field-0 c.in-Area.is (rw c.as_slice-in-Area.ensures at c.in_ok-rings-in-Area.ensures)).0

pub returns-in_ok-rings-in-Area-clause-proper : goal.returns-in_ok-rings-in-Area-clause-proper
returns-in_ok-rings-in-Area-clause-proper t c =
    (area_decodes c.args.topology.now c.args.shape.now c.requires c.in-Area.refs c.in_ok-rings-in-Area.field-0 c.in-Area.is (rw c.as_slice-in-Area.ensures at c.in_ok-rings-in-Area.ensures)).1

pub areas-requires : goal.areas-requires
areas-requires t c =
    rw c.as_slice-in-Areas.ensures (areas_stand c.args.topology.now c.args.shape.now c.in-Areas.refs c.in-Areas.is c.requires)

pub returns-in_ok-areas-in-Areas-clause-decoded : goal.returns-in_ok-areas-in-Areas-clause-decoded
returns-in_ok-areas-in-Areas-clause-decoded t c =
    (areas_decode c.args.topology.now c.args.shape.now c.requires c.in-Areas.refs c.in_ok-areas-in-Areas.field-0 c.in-Areas.is (rw c.as_slice-in-Areas.ensures at c.in_ok-areas-in-Areas.ensures)).0

pub returns-in_ok-areas-in-Areas-clause-proper : goal.returns-in_ok-areas-in-Areas-clause-proper
returns-in_ok-areas-in-Areas-clause-proper t c =
    (areas_decode c.args.topology.now c.args.shape.now c.requires c.in-Areas.refs c.in_ok-areas-in-Areas.field-0 c.in-Areas.is (rw c.as_slice-in-Areas.ensures at c.in_ok-areas-in-Areas.ensures)).1

pub decoded-requires : goal.decoded-requires
decoded-requires t c =
    let all = subst (AllByRecursion (IsShape c.args.topology.now)) (sym c.as_slice-member-items.ensures) (group_stands c.args.topology.now c.args.shape.now c.in-Group.members c.in-Group.is c.requires) in
    let is = c.in-Group.is ∙ ap (λ ss. g.Group ss) (sym c.as_slice-member-items.ensures) in
    let lower : nesting c.member-item.result < nesting c.args.shape.now =
    member_nests c.args.shape.now c.as_slice-member-items.result.now c.members.member-index c.member-item.result is c.members-test.true c.member-item.is in
    (omega arith, all_at (IsShape c.args.topology.now) c.as_slice-member-items.result.now c.members.member-index c.member-item.result c.members-test.true c.member-item.is all)

pub returns-after-members-clause-decoded : goal.returns-after-members-clause-decoded
returns-after-members-clause-decoded t c = grind (arith, group_decodes)

pub returns-after-members-clause-proper : goal.returns-after-members-clause-proper
returns-after-members-clause-proper t c =
    let is = c.in-Group.is ∙ ap (λ ss. g.Group ss) (sym c.as_slice-member-items.ensures) in
    (group_decodes c.args.topology.now c.args.shape.now c.as_slice-member-items.result.now c.members.member-index c.members.shapes.items c.of.result is c.members-test.false c.members.invariant c.of.ensures).1

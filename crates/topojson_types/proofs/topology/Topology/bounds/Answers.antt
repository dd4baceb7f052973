use Rattle.std.proofs.Common.{sym}
use Rattle.topojson_types.specs.Topologies.{Contents}
use Rattle.topojson_types.proofs.GridOrder.{bounds_by, corners_there, no_bounds}
use Rattle.topojson_types.proofs.topology.Topology.bounds.Goals as goal

pub returns-in_err-least : goal.returns-in_err-least
returns-in_err-least c =
    let t : Contents = record { objects = c.self.inside.shown; arcs = c.self.inside.lines; transform = c.self.inside.grid } in
    let arcs = rw c.as_slice.ensures at c.with_arcs-of_arcs.ensures in
    let all = rw c.as_slice-2.ensures at c.with_objects.ensures in
    rw (← c.self.view_is, c.from_residual.ensures) (no_bounds t c.self.invariant c.with_arcs-of_arcs.result c.with_objects.result arcs all c.in_err-least.was)

pub position_at-requires : goal.position_at-requires
position_at-requires c =
    let t : Contents = record { objects = c.self.inside.shown; arcs = c.self.inside.lines; transform = c.self.inside.grid } in
    let arcs = rw c.as_slice.ensures at c.with_arcs-of_arcs.ensures in
    let all = rw c.as_slice-2.ensures at c.with_objects.ensures in
    rw c.as_ref-transform.ensures.value (corners_there t c.self.invariant c.with_arcs-of_arcs.result c.with_objects.result arcs all (c.in_ok-least.least, c.in_ok-least.greatest) c.in_ok-least.was).0

pub position_at-requires-2 : goal.position_at-requires-2
position_at-requires-2 c =
    let t : Contents = record { objects = c.self.inside.shown; arcs = c.self.inside.lines; transform = c.self.inside.grid } in
    let arcs = rw c.as_slice.ensures at c.with_arcs-of_arcs.ensures in
    let all = rw c.as_slice-2.ensures at c.with_objects.ensures in
    rw c.as_ref-transform.ensures.value (corners_there t c.self.invariant c.with_arcs-of_arcs.result c.with_objects.result arcs all (c.in_ok-least.least, c.in_ok-least.greatest) c.in_ok-least.was).1

pub returns : goal.returns
returns c =
    let t : Contents = record { objects = c.self.inside.shown; arcs = c.self.inside.lines; transform = c.self.inside.grid } in
    let arcs = rw c.as_slice.ensures at c.with_arcs-of_arcs.ensures in
    let all = rw c.as_slice-2.ensures at c.with_objects.ensures in
    let is = bounds_by t c.self.invariant c.with_arcs-of_arcs.result c.with_objects.result arcs all (c.in_ok-least.least, c.in_ok-least.greatest) c.in_ok-least.was in
    rw (← c.self.view_is, c.ordered.ensures, c.position_at.ensures, c.position_at-2.ensures, c.as_ref-transform.ensures.value) (sym is)

use Rattle.std.proofs.Common.{inl, inr}
use Rattle.json_cursor.specs.Arrays.{prefix_value}
use Rattle.topojson_decoder.specs.Kept.{kept_value_contents}
use Rattle.topojson_decoder.proofs.LostParts.{no_stop}
use Rattle.topojson_decoder.proofs.TopologyParts as part
use Rattle.topojson_decoder.proofs.topologies.kept_topology_at.Goals as goal

pub returns-in_default : goal.returns-in_default
returns-in_default c = part.not_an_object c.args.keeping c.args.counts.now (prefix_value c.args.depth_left c.args.bytes.now) (rw c.in_default.is at c.in_ok-index.ensures)

pub returns-in-Err : goal.returns-in-Err
returns-in-Err c =
    let found = rw c.in-Some.is at c.in_ok-index.ensures in
    elim found.1 [
      | inl object ↦ part.object_stops c.args.keeping c.args.counts.now (prefix_value c.args.depth_left c.args.bytes.now) object.members _ object.prefix (λ p. p) c.parts_of.new.counts c.in-Err.stop
          (c.in-Err.ensures.gives c.args.texts object.members object.index)
      | inr lost ↦ no_stop (kept_value_contents c.args.keeping) (prefix_value c.args.depth_left c.args.bytes.now) c.args.counts.now c.in-Err.stop lost.0
    ]

pub returns-in-Ok : goal.returns-in-Ok
returns-in-Ok c =
    let found = rw c.in-Some.is at c.in_ok-index.ensures in
    elim found.1 [
      | inl object ↦ part.object_reads c.args.keeping c.args.counts.now (prefix_value c.args.depth_left c.args.bytes.now) object.members _ object.prefix _ c.parts_of.new.counts (c.in-Ok.ensures.gives c.args.texts object.members object.index)
      | inr lost ↦ absurd (c.in-Ok.ensures.there lost.1)
    ]

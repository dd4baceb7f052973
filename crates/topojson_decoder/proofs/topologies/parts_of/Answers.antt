use Rattle.std.proofs.Common.{◌≡◌, ◌∙◌, ℕ, List, Ok, Option, ap, sym}
use Rattle.std.specs.Prelude.{codes, map}
use Rattle.std.specs.Option.{option_copied}
use Rattle.json_value.specs.Members.{Members}
use Rattle.geojson_types.specs.declared.counts.Counts.{Counts}
use Rattle.geometry.specs.Points.{Point}
use Rattle.topojson_types.specs.Topologies.{Contents}
use Rattle.topojson_types.specs.declared.object.TopoObject.{TopoObject}
use Rattle.topojson_meaning.specs.Arcs.{arc_list}
use Rattle.topojson_meaning.specs.Objects.{objects}
use Rattle.topojson_meaning.specs.Topologies.{contents}
use Rattle.topojson_decoder.specs.Kept.{features_of, held_arcs, held_objects, kept_contents, of_arcs, of_contents, of_named, parts_contents, positions_of}
use Rattle.topojson_decoder.specs.declared.keeping.Keeping.{Keeping}
use Rattle.topojson_decoder.proofs.ByEnds.{over_kept}
use Rattle.topojson_decoder.proofs.KeptParts.{made, made_fault}
use Rattle.topojson_decoder.proofs.TopologyParts as part
use Rattle.topojson_decoder.proofs.topologies.parts_of.Goals as goal

-- parts that are what is kept of those that were read
parts_made : (k : Keeping) (ms : Members) (old new : Counts) (t : Contents) (os : List (List ℕ × TopoObject)) (arcs : List (List Point)) (positions : Option ℕ) (features : Option (List ℕ))
    → os ≡ map (of_named k) t.objects → arcs ≡ of_arcs k t.arcs → positions ≡ positions_of k t.arcs → features ≡ features_of k t.objects → contents ms old ≡ Ok (t, new)
    → kept_contents k ms old ≡ Ok (record { objects = os; arcs = arcs; transform = t.transform; positions = positions; features = features }, new)
parts_made k ms old new t os arcs positions features by_object by_arc counted of_each read = rw (by_object, by_arc, counted, of_each) (made (of_contents k) (contents ms) old t new read)

pub returns-in-Err-clause-gives : goal.returns-in-Err-clause-gives
returns-in-Err-clause-gives c = λ texts ms h.
    part.made_gives parts_contents (λ p. p) (of_contents c.args.keeping) (contents ms) c.args.counts.now c.args.counts.now c.in-Err.stop
    (part.type_stop_gives parts_contents ms c.args.counts.now c.args.counts.now c.in-Err.stop (c.in-Err.ensures ms c.args.counts.now h.kind))

pub returns-in-Err-transform_of-clause-gives : goal.returns-in-Err-transform_of-clause-gives
returns-in-Err-transform_of-clause-gives c = λ texts ms h.
    let typed = c.in_default.ensures ms c.args.counts.now h.kind in
    made_fault (of_contents c.args.keeping) (contents ms) c.args.counts.now c.in-Err-transform_of.fault
    (part.transform_stops ms c.args.counts.now typed c.in-Err-transform_of.fault (c.in-Err-transform_of.ensures.gives ms c.args.counts.now h.transform))

pub returns-in-Err-arcs_of-clause-gives : goal.returns-in-Err-arcs_of-clause-gives
returns-in-Err-arcs_of-clause-gives c = λ texts ms h.
    let typed = c.in_default.ensures ms c.args.counts.now h.kind in
    let found = c.in-Ok.ensures.gives ms c.args.counts.now h.transform in
    part.made_gives parts_contents (λ p. p) (of_contents c.args.keeping) (contents ms) c.args.counts.now c.arcs_of.new.counts c.in-Err-arcs_of.stop
    (part.arcs_stop_gives parts_contents ms c.args.counts.now typed c.in-Ok.transform found c.arcs_of.new.counts c.arcs_of.new.counts c.in-Err-arcs_of.stop _ c.as_ref.ensures.value
    (part.unmade_part_gives (held_arcs c.args.keeping) (codes "arcs") (arc_list (option_copied c.as_ref.result)) ms c.args.counts.now c.arcs_of.new.counts c.in-Err-arcs_of.stop (c.in-Err-arcs_of.ensures.gives texts ms (rw (c.in-Ok.ensures.by, sym c.as_ref.ensures.value) at h.arcs))))

pub returns-in-Err-objects_of-clause-gives : goal.returns-in-Err-objects_of-clause-gives
returns-in-Err-objects_of-clause-gives c = λ texts ms h.
    let typed = c.in_default.ensures ms c.args.counts.now h.kind in
    let found = c.in-Ok.ensures.gives ms c.args.counts.now h.transform in
    let arcs = part.unmade_part (held_arcs c.args.keeping) (codes "arcs") (arc_list c.in-Ok.transform) ms c.args.counts.now c.in-Ok-arcs_of.arcs c.arcs_of.new.counts
    (rw c.as_ref.ensures.value at (c.in-Ok-arcs_of.ensures.gives texts ms (rw (c.in-Ok.ensures.by, sym c.as_ref.ensures.value) at h.arcs))) in
    part.made_gives parts_contents (λ p. p) (of_contents c.args.keeping) (contents ms) c.args.counts.now c.objects_of.new.counts c.in-Err-objects_of.stop
    (part.objects_stop_gives parts_contents ms c.args.counts.now typed c.in-Ok.transform found arcs.whole c.arcs_of.new.counts arcs.reads c.objects_of.new.counts c.in-Err-objects_of.stop _ c.as_ref-2.ensures.value c.as_slice.result.now
    (ap (objects (option_copied c.as_ref-2.result)) (c.as_slice.ensures ∙ ap (λ k. k.list) arcs.is) ∙ over_kept c.args.keeping (option_copied c.as_ref-2.result) arcs.whole)
    (part.unmade_part_gives (held_objects c.args.keeping) (codes "objects") (objects (option_copied c.as_ref-2.result) c.as_slice.result.now) ms c.arcs_of.new.counts c.objects_of.new.counts c.in-Err-objects_of.stop (c.in-Err-objects_of.ensures.gives ms h.objects)))

pub returns-in-Ok-objects_of-clause-gives : goal.returns-in-Ok-objects_of-clause-gives
returns-in-Ok-objects_of-clause-gives c = λ texts ms h.
    let typed = c.in_default.ensures ms c.args.counts.now h.kind in
    let found = c.in-Ok.ensures.gives ms c.args.counts.now h.transform in
    let t = c.in-Ok.transform in
    let arcs = part.unmade_part (held_arcs c.args.keeping) (codes "arcs") (arc_list t) ms c.args.counts.now c.in-Ok-arcs_of.arcs c.arcs_of.new.counts
    (rw c.as_ref.ensures.value at (c.in-Ok-arcs_of.ensures.gives texts ms (rw (c.in-Ok.ensures.by, sym c.as_ref.ensures.value) at h.arcs))) in
    let list = ap (λ k. k.list) arcs.is in
    let read = part.unmade_part (held_objects c.args.keeping) (codes "objects") (objects t (of_arcs c.args.keeping arcs.whole)) ms c.arcs_of.new.counts c.in-Ok-objects_of.objects c.objects_of.new.counts
    (rw (c.as_ref-2.ensures.value, c.as_slice.ensures, list) at (c.in-Ok-objects_of.ensures.gives ms h.objects)) in
    let reads = part.read_by (codes "objects") _ _ (over_kept c.args.keeping t arcs.whole) ms c.arcs_of.new.counts ∙ read.reads in
    parts_made c.args.keeping ms c.args.counts.now c.objects_of.new.counts (record { objects = read.whole; arcs = arcs.whole; transform = t }) c.in-Ok-objects_of.objects.list c.into_parts-arcs.result.0 c.in-Ok-arcs_of.arcs.positions c.in-Ok-objects_of.objects.features (ap (λ k. k.list) read.is) (c.into_parts-arcs.ensures.arcs ∙ list) (ap (λ k. k.positions) arcs.is) (ap (λ k. k.features) read.is)
    (part.all_read ms c.args.counts.now typed t found arcs.whole c.arcs_of.new.counts arcs.reads read.whole c.objects_of.new.counts reads)

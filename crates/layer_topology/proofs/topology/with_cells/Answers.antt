use Rattle.std.proofs.Common.{ℕ, List, map, Some, refl, sym, ap, ◌∙◌, subst}
use Rattle.geometry.proofs.Moved.{refilled}
use Rattle.topojson_types.specs.declared.object.TopoObject.{TopoObject}
use Rattle.topojson_types.specs.Validity.{IsTopology}
use Rattle.grid_snap.specs.Axes.{cell}
use Rattle.layer_topology.proofs.Agreeing.{finished, named_placed}
use Rattle.layer_topology.proofs.topology.with_cells.Goals as goal

pub of-requires : goal.of-requires
of-requires c =
    let f = cell c.args.grid.now in
    let placed : List ℕ × TopoObject → List ℕ × TopoObject = named_placed c.on.result in
    record {
      valid = subst IsTopology
          (sym (finished c.args.grid.now c.args.topology _ _ c.args.transform c.requires.on c.requires.transform
          (refilled placed _ _ _ refl (c.in_ok-prune_objects.ensures ∙ ap (map placed) c.as_mut_slice.ensures.value) ∙ ap (map placed) c.into_parts-objects.ensures.objects
          ∙ ap (λ axes. map (named_placed axes) c.args.topology.objects) c.on.ensures)
          (refilled (map f) _ _ _ refl (c.arcs_on.ensures ∙ ap (map (map f)) c.as_mut_slice-2.ensures.value) ∙ ap (map (map f)) c.into_parts-objects.ensures.arcs)))
          (c.quantized_is_valid.ensures (Some c.args.grid.now) c.args.topology c.law.ensures c.requires.plain c.requires.on c.into_parts-objects.ensures.valid);
    }

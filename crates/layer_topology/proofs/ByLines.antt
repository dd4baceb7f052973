-- Where guards are asked for, what is left of layers is left by their own lines and rings.
use Rattle.std.proofs.Common.{arith, ◌≡◌, ℕ, ℤ, Bool, true, false, cond, List, [], map, Option, None, Some, refl, sym, ap, ◌∙◌}
use Rattle.std.proofs.Math.Path.{fun_ext}
use Rattle.build_meaning.proofs.Spared.{spared_shape}
use Rattle.build_meaning.proofs.ValidUntrimmed.{untrimmed_is_valid}
use Rattle.build_meaning.proofs.Whole.{each_stays}
use Rattle.build_meaning.specs.Assembled.{arcs_of_layers, own_refs}
use Rattle.build_meaning.specs.Built.{untrimmed, built}
use Rattle.build_meaning.specs.BuiltLaws.{AreSound}
use Rattle.build_meaning.specs.Expected.{unless}
use Rattle.build_meaning.specs.InTurn.{built_left, cause_in_turn, first_whole, indexes_from_first, layers_arcs_left, layers_dropped_in_turn, left_at_first, left_in_turn}
use Rattle.build_meaning.specs.InTurnLaws.{FirstIsLeftAtZero, FirstOfBuilt, InTurnIsAtOnce, WithoutSmallIsValid, refs_in_turn}
use Rattle.build_meaning.specs.Layers.{Named, layers_of, names_of}
use Rattle.build_meaning.specs.LayersMarked.{layer_protection, layer_shape_marked}
use Rattle.build_meaning.specs.Left.{Left, left_of, protection_of}
use Rattle.build_meaning.specs.LeftLaws.{LeftIndexesReach, UnguardedIsBuilt, UnprotectedIsSimplified}
use Rattle.build_meaning.specs.OuterRings.{marked}
use Rattle.build_meaning.specs.Protected.{feature_spared, object_spared, objects_spared, protection, spared_by, sparing}
use Rattle.build_meaning.specs.Simplified.{large_refs, retained_arcs, small_cause}
use Rattle.build_meaning.specs.Trimming.{trimmed}
use Rattle.build_meaning.specs.declared.guards.Guards.{Guards}
use Rattle.elimination_meaning.specs.Laws.{EndsStay, NoneIsNew, ZeroLaw}
use Rattle.geojson_types.specs.Features.{Featured, Shape}
use Rattle.geometry.specs.declared.address.Cause.TheVariants.{Collapsed}
use Rattle.geometry.specs.Lists.{map_some, then_some}
use Rattle.geometry.specs.Points.{Point}
use Rattle.geometry.specs.Pruning.{prune}
use Rattle.guarded_meaning.specs.Laws.{KeptByWeight}
use Rattle.junctions.specs.Cleaning.{clean, is_short}
use Rattle.layer_topology.proofs.Guarded.{in_turn_is}
use Rattle.layer_topology.proofs.TurnsLeft.{full_is}
use Rattle.layer_topology.specs.GuardLaws.{LeftByLines, feature_left, refs_left}
use Rattle.linework.specs.Linework.{linework}
use Rattle.topo_model.proofs.Assembled.{indexed_are, layers_made, way_is}
use Rattle.topo_model.proofs.Drafted.{left_drafted}
use Rattle.topo_model.proofs.RelinedMarks.{pruned_once}
use Rattle.topo_model.specs.Drafts.{RefsOf, draft_refs, objects_drafted, relined}
use Rattle.topojson_types.specs.declared.feature.TopoFeature.{TopoFeature}
use Rattle.topojson_types.specs.declared.object.TopoObject.{TopoObject}
use Rattle.topojson_types.specs.declared.object.TopoObject.TheVariants.{Many}
use Rattle.topojson_types.specs.Topologies.{Contents, TopoShape}
use Rattle.topojson_types.specs.Validity.{AreDistinct}

module _ (guards : Guards) (t limit : ℕ) (ls : Named) where
  abbrev arcs : List (List Point)
  arcs = arcs_of_layers ls

  abbrev later : List (List Point)
  later = layers_arcs_left guards t limit ls

  abbrev own : RefsOf
  own = own_refs (linework (layers_of ls))

  abbrev refs : RefsOf
  refs = draft_refs (own_refs (linework (layers_of ls)))

  -- what stays of a line or ring, marked or not
  line_left : (closed : Bool) (l : Bool × List Point) → sparing (refs_in_turn limit arcs later) closed (l.0, refs closed l.1) ≡ refs_left guards t limit ls closed l
  line_left closed (true, ps) = refl
  line_left closed (false, ps) = on closed (own closed ps) (is_short closed (clean ps))
    where
      on : (closed : Bool) (own : List ℤ) (s : Bool) → unless (cause_in_turn None (small_cause limit arcs closed (cond s [] own)) (small_cause limit later closed (cond s [] own))) (cond s [] own)
          ≡ unless (cause_in_turn None (cond s (Some Collapsed) (small_cause limit arcs closed own)) (cond s (Some Collapsed) (small_cause limit later closed own))) (cond s [] own)
      on true own true = grind arith
      on false own true = grind arith
      on closed own false = refl

  shape_left : (s : Option Shape) → spared_shape (protection guards.keep_shapes arcs) (sparing (refs_in_turn limit arcs later)) (map_some (relined refs) s)
      ≡ then_some (λ s. prune (λ (p : Point). p) (refs_left guards t limit ls) (layer_shape_marked guards.keep_shapes ls s)) s
  shape_left None = refl
  shape_left (Some s) =
      ap (λ w. prune (λ (p : Point). p) (sparing (refs_in_turn limit arcs later)) (marked (relined refs s) w)) (way_is ls guards.keep_shapes s)
      ∙ pruned_once refs (sparing (refs_in_turn limit arcs later)) s (map_some (λ x. x.path) (layer_protection guards.keep_shapes ls s))
      ∙ ap (λ (k : Bool → Bool × List Point → Option (List ℤ)). prune (λ (p : Point). p) k (layer_shape_marked guards.keep_shapes ls s)) (fun_ext (λ closed. fun_ext (line_left closed)))

  abbrev with_shape : Featured → Option TopoShape → TopoFeature
  with_shape f s = record { id = f.id; properties = f.properties; shape = s }

  abbrev lines_left : List (List ℕ × TopoObject)
  lines_left = map (λ l. (l.0, Many (map (feature_left guards t limit ls) l.1.features))) ls

  drafted_left : objects_spared (protection guards.keep_shapes arcs) (sparing (refs_in_turn limit arcs later)) (objects_drafted own ls) ≡ lines_left
  drafted_left =
      layers_made own (λ o. (o.0, object_spared (protection guards.keep_shapes arcs) (sparing (refs_in_turn limit arcs later)) o.1)) (feature_spared (protection guards.keep_shapes arcs) (sparing (refs_in_turn limit arcs later)))
      (feature_left guards t limit ls) (λ name fs. refl) (λ f. ap (with_shape f) (shape_left f.shape)) ls

  none_left : (closed : Bool) → refs_in_turn limit arcs later closed [] ≡ None
  none_left true = refl
  none_left false = refl

  abbrev y : Contents
  y = untrimmed 0 0 ls

  abbrev whole : Contents
  whole = first_whole guards limit y

  module _ (stays : ZeroLaw) (ends : EndsStay) (new : NoneIsNew) (once_law : InTurnIsAtOnce) (sound : AreSound ls) (names : AreDistinct (names_of ls)) where
    objects_left : objects_spared (protection_of guards whole) (sparing (large_refs limit later)) whole.objects ≡ lines_left
    objects_left =
        sym ((once_law guards t limit y).objects later)
        ∙ ap (λ xs. objects_spared (protection guards.keep_shapes xs) (sparing (refs_in_turn limit xs later)) y.objects) (each_stays stays arcs)
        ∙ ap (objects_spared (protection guards.keep_shapes arcs) (sparing (refs_in_turn limit arcs later))) (sym (indexed_are stays ends new ls (objects_drafted own ls) (record { drafted = refl; sound = sound; names = names })))
        ∙ left_drafted guards.keep_shapes arcs (refs_in_turn limit arcs later) none_left (objects_drafted own ls) ∙ drafted_left

    trimmed_left : spared_by (protection_of guards whole) (indexes_from_first guards t limit y) limit whole ≡ trimmed (record { objects = lines_left; arcs = later; transform = None })
    unfolding spared_by
    trimmed_left =
        ap (λ xs. trimmed (record { objects = objects_spared (protection_of guards whole) (sparing (large_refs limit (retained_arcs (indexes_from_first guards t limit y) xs))) whole.objects; arcs = retained_arcs (indexes_from_first guards t limit y) xs; transform = None }))
        (once_law guards t limit y).arcs
        ∙ ap (λ os. trimmed (record { objects = os; arcs = later; transform = None })) objects_left

pub left_by_lines : ZeroLaw → EndsStay → NoneIsNew → KeptByWeight → UnprotectedIsSimplified → UnguardedIsBuilt → FirstIsLeftAtZero → FirstOfBuilt → InTurnIsAtOnce → LeftIndexesReach → WithoutSmallIsValid → LeftByLines
left_by_lines stays ends new by_weight plain unguarded at_zero of_built once_law reach valid guards t limit ls once sound names =
    let y : Contents = untrimmed 0 0 ls in
    let turn : Left = record { contents = (left_in_turn guards t limit (built 0 0 ls)).contents; dropped = layers_dropped_in_turn guards t limit ls; removed_count = (left_in_turn guards t limit (built 0 0 ls)).removed_count } in
    ap (λ b. (cond b turn (built_left t limit ls)).contents) once ∙ sym (in_turn_is guards t limit (built 0 0 ls))
    ∙ ap (λ z. (left_of guards t limit z).contents) (sym (full_is stays by_weight plain unguarded at_zero of_built guards limit once ls sound))
    ∙ (once_law guards t limit y).contents (reach guards t (left_at_first guards limit y) (valid guards limit y (untrimmed_is_valid ends new 0 0 ls sound names)).at_first)
    ∙ trimmed_left guards t limit ls stays ends new once_law sound names

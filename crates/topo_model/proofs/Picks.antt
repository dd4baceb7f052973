-- Cells that are retained, and where they lie.
use Rattle.std.proofs.Common.{◌≡◌, ℕ, ◌+◌, ◌<◌, List, [], ◌∷◌, ◌++◌, map, length, take, get_or, slice_get, Option, None, Some, refl, sym, ap, ◌∙◌}
use Rattle.std.proofs.lemmas.List.{take_more, map-id}
use Rattle.std.specs.List.{AllByRecursion}
use Rattle.topo_model.proofs.Passed.{at_got}
use Rattle.geometry.specs.Joins.{at}
use Rattle.geometry.specs.Lists.{some_of}
use Rattle.geometry.specs.Points.{Point}
use Rattle.build_meaning.specs.Simplified.{retained_arcs}
use Rattle.build_meaning.specs.Thresholds.{placed_cells}
use Rattle.build_meaning.proofs.ValidRetained.{all_retained}
use Rattle.owned_values.proofs.Elements.{all_weaker}
use Rattle.topojson_types.specs.declared.transform.Transform.{Transform}
use Rattle.topojson_types.specs.Decoding.{placed_arcs}
use Rattle.topojson_types.specs.Topologies.{Contents}
use Rattle.topojson_types.specs.Transforms.{place}
use Rattle.topojson_types.specs.Validity.{IsArc, IsPlace, IsTopology}
use Rattle.topo_model.proofs.KeptParts.{none_more, one_more}

-- ---- the cells of one arc

pub retained_none : (cells now : List Point) (ns : List ℕ) (i d : ℕ) → i < length ns → slice_get cells (get_or ns i d) ≡ None → now ≡ some_of (at cells) (take i ns) → now ≡ some_of (at cells) (take (i + 1) ns)
retained_none cells now ns i d lt none so =
    none_more (at cells) [] now (take i ns) (get_or ns i d) (at cells (get_or ns i d)) so refl (at_got cells (get_or ns i d) ∙ none) ∙ sym (ap (some_of (at cells)) (take_more ns i d lt))

pub retained_one : (cells now new : List Point) (ns : List ℕ) (i d : ℕ) (cell : Point) → i < length ns → slice_get cells (get_or ns i d) ≡ Some cell → now ≡ some_of (at cells) (take i ns) → new ≡ now ++ cell ∷ []
    → new ≡ some_of (at cells) (take (i + 1) ns)
retained_one cells now new ns i d cell lt got so e =
    one_more (at cells) [] now new (take i ns) (get_or ns i d) (at cells (get_or ns i d)) cell so refl (at_got cells (get_or ns i d) ∙ got) e ∙ sym (ap (some_of (at cells)) (take_more ns i d lt))

-- ---- those of all arcs

-- cells that may stand in a topology still may
pub places_retained : (transform : Option Transform) (kept : List (List ℕ)) (arcs : List (List Point)) → AllByRecursion (λ a. AllByRecursion (IsPlace transform) a) arcs
    → AllByRecursion (λ a. AllByRecursion (IsPlace transform) a) (retained_arcs kept arcs)
places_retained transform [] arcs h = tt
places_retained transform (is ∷ kept) [] h = tt
places_retained transform (is ∷ kept) (a ∷ arcs) h = (all_retained (IsPlace transform) is a h.0, places_retained transform kept arcs h.1)

-- ---- where they lie

pub places_are : (transform : Option Transform) (cells : List Point) → map (place transform) cells ≡ placed_cells transform cells
places_are None cells = map-id cells
places_are (Some t) cells = refl

pub arcs_are : (transform : Option Transform) (arcs : List (List Point)) → map (placed_cells transform) arcs ≡ placed_arcs transform arcs
arcs_are None arcs = map-id arcs
arcs_are (Some t) arcs = refl

pub topology_places : (y : Contents) → IsTopology y → AllByRecursion (λ a. AllByRecursion (IsPlace y.transform) a) y.arcs
topology_places y h = all_weaker (IsArc y.transform) (λ a. AllByRecursion (IsPlace y.transform) a) (λ a k. k.1) y.arcs h.arcs

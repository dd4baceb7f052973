-- Which ring of a feature of layers is protected, and why a line or ring of layers is dropped, in the words of their lines.
use Rattle.std.specs.Prelude.{ℕ, ℤ, Bool, true, List, [], Option, None, if◌then◌else◌}
use Rattle.std.specs.List.{filter}
use Rattle.geojson_types.specs.Features.{Shape}
use Rattle.geometry.specs.declared.address.Cause.{Cause}
use Rattle.geometry.specs.declared.shape.Geometry.{Geometry}
use Rattle.geometry.specs.Lists.{map_some}
use Rattle.geometry.specs.Paths.{Placed}
use Rattle.geometry.specs.Points.{Point}
use Rattle.guarded_meaning.specs.Guards.{is_long}
use Rattle.junctions.specs.Cleaning.{clean, is_short}
use Rattle.junctions.specs.declared.stroke.Stroke.{Stroke}
use Rattle.linework.specs.Linework.{linework}
use Rattle.build_meaning.specs.Assembled.{arcs_of_layers, own_refs, assembled_cause}
use Rattle.build_meaning.specs.Layers.{Named, layers_of}
use Rattle.build_meaning.specs.OuterRings.{outer_rings, marked}
use Rattle.build_meaning.specs.Protected.{enclosed, greatest}

-- ---- the protected ring of a feature

-- the arc indexes of a line or ring of layers: those of its own pieces, and none where it has too few positions from the first
abbrev pub drafted_refs : List Stroke → Bool → List Point → List ℤ
drafted_refs lines closed ps = if is_short closed (clean ps) then [] else own_refs lines closed ps

-- Of the outer rings that have four positions or more, with equal neighbours as one, the one that encloses most, the first of equals. No arc
-- is reduced here.
unfoldable pub greatest_of_layers : Named → Shape → Option (Placed (List Point))
greatest_of_layers ls s =
    greatest (λ x. enclosed (arcs_of_layers ls) (drafted_refs (linework (layers_of ls)) true x.part))
    (filter (λ x. is_long (arcs_of_layers ls) (drafted_refs (linework (layers_of ls)) true x.part)) (outer_rings s))

-- the one that is protected, where shapes stay (true)
abbrev pub layer_protection : Bool → Named → Shape → Option (Placed (List Point))
layer_protection keep_shapes ls s = if keep_shapes then greatest_of_layers ls s else None

-- the shape with its protected ring marked
abbrev pub layer_shape_marked : Bool → Named → Shape → Geometry Point (Bool × List Point) (Bool × List Point)
layer_shape_marked keep_shapes ls s = marked s (map_some (λ x. x.path) (layer_protection keep_shapes ls s))

-- ---- lines and rings

-- why a line or ring, with a mark or without, is dropped for its own sake: with a mark it isn't, and without one it is where it has too few
-- positions from the first, or else is small when it is rebuilt of these arcs
abbrev pub unprotected_cause : List Stroke → List (List Point) → ℕ → Bool → Bool × List Point → Option Cause
unprotected_cause lines arcs limit closed l = if l.0 then None else assembled_cause lines arcs limit closed l.1

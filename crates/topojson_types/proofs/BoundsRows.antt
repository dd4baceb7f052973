-- Worked rows of the definition of bounds: the boxes of small topologies, in units, computed.
use Rattle.std.proofs.Common.{◌≡◌, ◌-◌, ◌*◌, ℤ, pos, negsuc, [], ◌∷◌, refl, Some, None}
use Rattle.std.specs.Prelude.{codes}
use Rattle.decimal_text.specs.Scaling.{scaled_of}
use Rattle.geometry.specs.declared.shape.Geometry.TheVariants as g
use Rattle.geometry.specs.Points.{Point}
use Rattle.geometry.specs.Units.{units_in_one}
use Rattle.topojson_types.specs.declared.feature.TopoFeature.{TopoFeature}
use Rattle.topojson_types.specs.declared.object.TopoObject.TheVariants.{One, Many}
use Rattle.topojson_types.specs.Bounds.{bounds}
use Rattle.topojson_types.specs.Topologies.{TopoShape, Contents}
use Rattle.topojson_types.specs.TransformNumbers.{transform_value, to_units, stands_for}
use Rattle.topojson_types.specs.Transforms.{place_on}
use Rattle.topojson_types.proofs.ByKind.{places_at}

abbrev at : ℤ → ℤ → Point
at x y = record { x = x; y = y }

-- without identifier and properties
abbrev bare : TopoShape → TopoFeature
bare s = record { id = None; properties = None; shape = Some s }

-- no position, and no box
row_none : bounds (record { objects = (codes "a", Many (record { id = None; properties = None; shape = None } ∷ [])) ∷ []; arcs = []; transform = None }) ≡ None
unfolding bounds
row_none = refl

-- one level line
row_line : bounds (record { objects = []; arcs = (at (pos 0) (pos 5) ∷ (at (pos 10) (pos 5) ∷ [])) ∷ []; transform = None })
    ≡ Some (at (pos 0) (pos 5), at (pos 10) (pos 5))
unfolding bounds
row_line = refl

-- an arc with numbers below zero, and a Point in a GeometryCollection that lies farther to the left and above
abbrev scattered : Contents
scattered = record {
  objects = (codes "a", One (bare (g.Line (pos 0 ∷ [])))) ∷ ((codes "b", Many (bare (g.Group (g.Point (at (negsuc 8) (pos 4)) ∷ [])) ∷ [])) ∷ []);
  arcs = (at (negsuc 2) (negsuc 6) ∷ (at (pos 2) (pos 1) ∷ [])) ∷ [];
  transform = None;
}

row_scattered : bounds scattered ≡ Some (at (negsuc 8) (negsuc 6), at (pos 2) (pos 4))
unfolding bounds
row_scattered = simp (places_at.line, places_at.group, places_at.point) refl

-- a grid whose second numbers go down: the least y is that of the greatest number, and the box is none of the numbers of the grid
abbrev downwards : Contents
downwards = record {
  objects = (codes "a", One (bare (g.MultiPoint (at (pos 2) (pos 1) ∷ [])))) ∷ [];
  arcs = (at (pos 0) (pos 0) ∷ (at (pos 1) (pos 3) ∷ [])) ∷ [];
  transform = Some (record { scale = (codes "0.5", codes "-2"); translate = (codes "10", codes "1") });
}

row_downwards : bounds downwards ≡ Some (at (pos (10 * units_in_one)) (negsuc (5 * units_in_one - 1)), at (pos (11 * units_in_one)) (pos units_in_one))
unfolding bounds place_on stands_for to_units transform_value scaled_of
row_downwards = simp places_at.points refl

-- Arcs of which only some positions are left.
use Rattle.std.specs.Prelude.{◌≡◌, ℕ, List, Option, length, map}
use Rattle.build_meaning.specs.BuiltLaws.{AreSound}
use Rattle.build_meaning.specs.Layers.{Named, layers_of, names_of}
use Rattle.geometry.specs.Points.{Point}
use Rattle.linework.specs.Linework.{linework}
use Rattle.build_meaning.specs.Assembled.{arcs_of_layers, own_refs}
use Rattle.build_meaning.specs.Protected.{Protection, objects_spared, sparing}
use Rattle.build_meaning.specs.Simplified.{EachFromFirstToLast, large_refs, retained_arcs}
use Rattle.topojson_types.specs.declared.object.TopoObject.{TopoObject}
use Rattle.topojson_types.specs.declared.transform.Transform.{Transform}
use Rattle.topojson_types.specs.Decoding.{placed_arcs}
use Rattle.topojson_types.specs.Validity.{AreDistinct, IsTopology}
use Rattle.topo_model.specs.Along.{Ways, objects_along}
use Rattle.topo_model.specs.Drafts.{objects_drafted}
use Rattle.topo_model.specs.Drops.{judged_refs}
use Rattle.topo_model.specs.Parts.{contents}
use Rattle.topo_model.specs.Rebuilding.{Rebuilding}

-- of each of the arcs the positions of some numbers, which begin with its first and end with its last
pub record AreRetained (arcs retained : List (List Point)) : Type 0 where
  pub kept : List (List ℕ)
  pub through : EachFromFirstToLast kept arcs
  pub picks : retained ≡ retained_arcs kept arcs

-- they are retained of the arcs of a valid topology with these objects and this transform, each of which had so many cells
pub record AreRetainedOf (objects : List (List ℕ × TopoObject)) (transform : Option Transform) (retained : List (List Point)) (counts : List ℕ) : Type 0 where
  pub arcs : List (List Point)
  pub valid : IsTopology (contents objects arcs transform)
  pub retained_are : AreRetained arcs retained
  pub counts_are : counts ≡ map length arcs

-- the objects are the draft of these sound layers, which have distinct names
pub record IsDraftOf (ls : Named) (objects : List (List ℕ × TopoObject)) : Type 0 where
  pub drafted : objects ≡ objects_drafted (own_refs (linework (layers_of ls))) ls
  pub sound : AreSound ls
  pub names : AreDistinct (names_of ls)

-- they are the draft of some layers, of whose arcs these are retained, each of which had so many positions
pub record IsDraft (objects : List (List ℕ × TopoObject)) (retained : List (List Point)) (counts : List ℕ) : Type 0 where
  pub layers : Named
  pub of_layers : IsDraftOf layers objects
  pub retained_are : AreRetained (arcs_of_layers layers) retained
  pub counts_are : counts ≡ map length (arcs_of_layers layers)

-- objects over retained cells, whose features have these ways, stand for other objects and arcs in which rings are protected: the same is
-- left of both without what is small, where theirs may go at first, too
pub record StandsFor (protects : Protection) (kept : List (List ℕ)) (of objects : List (List ℕ × TopoObject)) (arcs retained : List (List Point)) (transform : Option Transform) (first : Option Rebuilding) (limit : ℕ) (ways : Ways) : Type 0 where
  pub picks : retained ≡ retained_arcs kept arcs
  pub large : objects_along (sparing (judged_refs first (record { arcs = placed_arcs transform retained; limit = limit }))) ways objects ≡ objects_spared protects (sparing (large_refs limit (placed_arcs transform retained))) of

-- they stand for those of some valid topology, each of whose arcs had so many cells
pub record StandsForTopology (objects : List (List ℕ × TopoObject)) (retained : List (List Point)) (counts : List ℕ) (transform : Option Transform) (first : Option Rebuilding) (limit : ℕ) (ways : Ways) : Type 0 where
  pub protects : Protection
  pub kept : List (List ℕ)
  pub of : List (List ℕ × TopoObject)
  pub arcs : List (List Point)
  pub stands : StandsFor protects kept of objects arcs retained transform first limit ways
  pub through : EachFromFirstToLast kept arcs
  pub counts_are : counts ≡ map length arcs
  pub valid : IsTopology (contents of arcs transform)

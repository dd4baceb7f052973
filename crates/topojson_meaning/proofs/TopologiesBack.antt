-- The topology that is written is read back, and nothing is counted.
use Rattle.std.proofs.Common.{◌≡◌, ℕ, ℤ, Bool, List, [], ◌∷◌, ◌++◌, length, Option, None, Some, Ok, refl, arith}
use Rattle.std.specs.Prelude.{codes}
use Rattle.topojson_meaning.proofs.Names.{AllByRecursion, all_two, all_weaker, all_parts, map_some, Point, option_lines_and_rings, object_of-object, text_of-text, Json, no_counts, Corners, bounds, Contents, object_features, features_lines_and_rings, objects_lines_and_rings, IsFeature, IsObject, AreInRange, IsJoined, IsClosed, IsTopology, TopoFeature, TopoObject, One, Many, Transform, IsStored, ReadsBack, named, find, need, contents, value_contents, topology}
use Rattle.json_value.specs.declared.json.Json.TheVariants as j
use Rattle.geometry.proofs.Agreement.{all_left, all_right}
use Rattle.topojson_types.specs.Values.{Members, cell_value, transform_object, members_of_transform, members_of_bounds, objects_value, arcs_value, topology_value}
use Rattle.topojson_meaning.specs.Bounds.{objects_features}
use Rattle.topojson_meaning.proofs.ArcsBack.{arcs_back}
use Rattle.topojson_meaning.proofs.FeaturesBack.{FineFeature}
use Rattle.topojson_meaning.proofs.ObjectsBack.{FineObject, objects_back}
use Rattle.topojson_meaning.proofs.ShapeKinds.{written_members}
use Rattle.topojson_meaning.proofs.Steps.{Gives}
use Rattle.topojson_meaning.proofs.TransformsBack.{transform_back}
use Rattle.topojson_meaning.proofs.ValidKept.{IsLineOrRing}

-- ---- what a valid topology says of each part

module _ (transform : Option Transform) (arcs : List (List Point)) where
  abbrev lines_and_rings_of : TopoFeature → List (Bool × List ℤ)
  lines_and_rings_of f = option_lines_and_rings f.shape

  fine_features : (fs : List TopoFeature) → AllByRecursion (IsFeature transform) fs → AllByRecursion (IsLineOrRing arcs) (features_lines_and_rings fs) → AllByRecursion (FineFeature transform arcs) fs
  fine_features [] h k = tt
  fine_features (f ∷ fs) h k = ((h.0, all_left (IsLineOrRing arcs) (lines_and_rings_of f) (features_lines_and_rings fs) k), fine_features fs h.1 (all_right (IsLineOrRing arcs) (lines_and_rings_of f) (features_lines_and_rings fs) k))

  fine_objects : (os : List (List ℕ × TopoObject)) → AllByRecursion (λ o. IsObject transform o.1) os → AllByRecursion (IsLineOrRing arcs) (objects_lines_and_rings os) → AllByRecursion (λ o. FineObject transform arcs o.1) os
  fine_objects [] h k = tt
  fine_objects (o ∷ os) h k = grind (arith, all_left, fine_features, all_right, fine_objects os h.1)

-- ---- its members

-- with or without a transform and a bounding box
found_among : (transform : Option Transform) (box : Option Corners) (os arcs : Json) (ms : Members)
    → ms ≡ (codes "type", j.Text (codes "Topology")) ∷ (members_of_transform transform ++ (members_of_bounds box ++ ((codes "objects", os) ∷ ((codes "arcs", arcs) ∷ []))))
    → (need (codes "type") ms ≡ Ok (j.Text (codes "Topology"))) × (find (codes "transform") ms ≡ Ok (map_some transform_object transform)) × (need (codes "arcs") ms ≡ Ok arcs) × (need (codes "objects") ms ≡ Ok os)
unfolding need named
found_among None None os arcs ms e = rw e (refl, refl, refl, refl)
found_among None (Some b) os arcs ms e = rw e (refl, refl, refl, refl)
found_among (Some t) None os arcs ms e = rw e (refl, refl, refl, refl)
found_among (Some t) (Some b) os arcs ms e = rw e (refl, refl, refl, refl)

found : (t : Contents) → (need (codes "type") (written_members t) ≡ Ok (j.Text (codes "Topology"))) × (find (codes "transform") (written_members t) ≡ Ok (map_some transform_object t.transform))
    × (need (codes "arcs") (written_members t) ≡ Ok (arcs_value t.transform t.arcs)) × (need (codes "objects") (written_members t) ≡ Ok (objects_value (cell_value t.transform) t.objects))
found t = found_among t.transform (bounds t) (objects_value (cell_value t.transform) t.objects) (arcs_value t.transform t.arcs) (written_members t) refl

-- ---- the topology

-- what a valid topology says of each of its objects, and of each of their features
objects_fine : (t : Contents) → IsTopology t → AllByRecursion (λ o. FineObject t.transform t.arcs o.1) t.objects
objects_fine t valid =
    let closed = all_two (IsJoined t.arcs) (IsClosed t.arcs) (λ b. IsJoined t.arcs b × IsClosed t.arcs b) (λ b j k. (j, k)) (objects_lines_and_rings t.objects) valid.joined valid.closed in
    fine_objects t.transform t.arcs t.objects valid.objects (all_two (λ b. AreInRange (length t.arcs) b.1) (λ b. IsJoined t.arcs b × IsClosed t.arcs b) (IsLineOrRing t.arcs)
    (λ b r k. (r, k.0, k.1)) (objects_lines_and_rings t.objects) valid.ranged closed)

object_fine : (transform : Option Transform) (arcs : List (List Point)) (o : TopoObject) → FineObject transform arcs o → AllByRecursion (FineFeature transform arcs) (object_features o)
object_fine transform arcs (One f) h = (h.0, tt)
object_fine transform arcs (Many fs) h = h

pub features_fine : (t : Contents) → IsTopology t → AllByRecursion (FineFeature t.transform t.arcs) (objects_features t.objects)
features_fine t h = all_parts (FineFeature t.transform t.arcs) (λ o. object_features o.1) t.objects
    (all_weaker (λ o. FineObject t.transform t.arcs o.1) (λ o. AllByRecursion (FineFeature t.transform t.arcs) (object_features o.1)) (λ o k. object_fine t.transform t.arcs o.1 k) t.objects (objects_fine t h))

contents_back : (t : Contents) → IsStored t → Gives (contents (written_members t)) t
unfolding contents
contents_back t h c =
    let valid = h.0 in
    rw ((found t).0, text_of-text (codes "Topology"), (found t).1, transform_back t.transform valid.transform c, (found t).2, arcs_back t.transform t.arcs valid.arcs c)
    (rw ((found t).3, objects_back t.transform t.arcs valid.arcs h.1 t.objects valid.names (objects_fine t valid) c) refl)

pub topology_back : ReadsBack
unfolding topology value_contents topology_value
topology_back t h = rw (object_of-object (written_members t)) (contents_back t h no_counts)

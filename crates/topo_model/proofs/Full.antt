-- A valid topology stands for itself as a draft: each of its lines and rings has an arc index.
use Rattle.std.proofs.Common.{◌≡◌, ℕ, ℤ, Bool, true, false, ◌&&◌, List, [], ◌∷◌, map, Option, None, Some, refl, sym, ap, ◌∙◌}
use Rattle.std.specs.List.{AllByRecursion, list_all}
use Rattle.std.proofs.lemmas.Bool.{and_parts}
use Rattle.build_meaning.proofs.Names.{by_kinds, prune_at, prune-group}
use Rattle.build_meaning.specs.Simplified.{feature_pruned, object_pruned, objects_pruned}
use Rattle.geojson_types.specs.Features.{is_some_list}
use Rattle.geometry.specs.declared.shape.Geometry.TheVariants as g
use Rattle.geometry.specs.Lists.{map_some, some_of, then_some, unless_empty, with_some}
use Rattle.geometry.specs.Points.{Point}
use Rattle.geometry.specs.Pruning.{area_by, prune}
use Rattle.topo_model.specs.DraftUses.{draft_contents, with_refs}
use Rattle.topo_model.specs.Parts.{contents}
use Rattle.topojson_types.proofs.ByKind.{full_at, full-group}
use Rattle.topojson_types.specs.declared.feature.TopoFeature.{TopoFeature}
use Rattle.topojson_types.specs.declared.object.TopoObject.{TopoObject}
use Rattle.topojson_types.specs.declared.object.TopoObject.TheVariants.{One, Many}
use Rattle.topojson_types.specs.declared.transform.Transform.{Transform}
use Rattle.topojson_types.specs.Topologies.{TopoShape, Contents}
use Rattle.topojson_types.specs.Validity.{is_full, is_full_option, IsFeature, IsObject, IsTopology}

abbrev place : Point → Point
place p = p

line_stays : (closed : Bool) (l : List ℤ) → is_some_list l ≡ true → with_refs closed l ≡ Some l
line_stays closed [] h = cc
line_stays closed (r ∷ rs) h = refl

lines_stay : (closed : Bool) (ls : List (List ℤ)) → list_all is_some_list ls ≡ true → some_of (with_refs closed) ls ≡ ls
lines_stay closed [] h = refl
lines_stay closed (l ∷ ls) h =
    let both = and_parts (is_some_list l) (list_all is_some_list ls) h in
    ap (λ o. with_some o (some_of (with_refs closed) ls)) (line_stays closed l both.0) ∙ ap (λ xs. l ∷ xs) (lines_stay closed ls both.1)

rings_stay : (rs : List (List ℤ)) → (is_some_list rs && list_all is_some_list rs) ≡ true → area_by (with_refs true) rs ≡ Some rs
rings_stay [] h = cc
rings_stay (o ∷ holes) h =
    let both = and_parts (is_some_list o) (list_all is_some_list holes) h in
    ap (map_some (λ r. r ∷ some_of (with_refs true) holes)) (line_stays true o both.0) ∙ ap (λ xs. Some (o ∷ xs)) (lines_stay true holes both.1)

areas_stay : (areas : List (List (List ℤ))) → list_all (λ rs. is_some_list rs && list_all is_some_list rs) areas ≡ true → some_of (area_by (with_refs true)) areas ≡ areas
areas_stay [] h = refl
areas_stay (rs ∷ areas) h =
    let both = and_parts (is_some_list rs && list_all is_some_list rs) (list_all (λ rs. is_some_list rs && list_all is_some_list rs) areas) h in
    ap (λ o. with_some o (some_of (area_by (with_refs true)) areas)) (rings_stay rs both.0) ∙ ap (λ xs. rs ∷ xs) (areas_stay areas both.1)

listed : {X : Type 0} (make : List X → TopoShape) (xs : List X) → is_some_list xs ≡ true → unless_empty make xs ≡ Some (make xs)
listed make [] h = cc
listed make (x ∷ xs) h = refl

abbrev Stays : TopoShape → Type 0
Stays s = is_full s ≡ true → prune place with_refs s ≡ Some s

members_stay : (ss : List TopoShape) → AllByRecursion Stays ss → list_all is_full ss ≡ true → some_of (prune place with_refs) ss ≡ ss
members_stay [] all h = refl
members_stay (s ∷ ss) all h =
    let both = and_parts (is_full s) (list_all is_full ss) h in
    ap (λ o. with_some o (some_of (prune place with_refs) ss)) (all.0 both.0) ∙ ap (λ xs. s ∷ xs) (members_stay ss all.1 both.1)

shape_stays : (s : TopoShape) → is_full s ≡ true → prune place with_refs s ≡ Some s
shape_stays = by_kinds Stays (record {
  point = λ p h. (prune_at place with_refs).point p;
  points = λ ps h. (prune_at place with_refs).points ps ∙ ap (λ qs. Some (g.MultiPoint qs)) (same ps);
  line = λ l h. (prune_at place with_refs).line l ∙ ap (map_some g.Line) (line_stays false l (sym (full_at.line l) ∙ h));
  lines = λ ls h.
      let both = and_parts (is_some_list ls) (list_all is_some_list ls) (sym (full_at.lines ls) ∙ h) in
      (prune_at place with_refs).lines ls ∙ ap (unless_empty g.Lines) (lines_stay false ls both.1) ∙ listed g.Lines ls both.0;
  area = λ rs h. (prune_at place with_refs).area rs ∙ ap (map_some g.Area) (rings_stay rs (sym (full_at.area rs) ∙ h));
  areas = λ areas h.
      let both = and_parts (is_some_list areas) (list_all (λ rs. is_some_list rs && list_all is_some_list rs) areas) (sym (full_at.areas areas) ∙ h) in
      (prune_at place with_refs).areas areas ∙ ap (unless_empty g.Areas) (areas_stay areas both.1) ∙ listed g.Areas areas both.0;
  group = λ ss all h. prune-group place with_refs ss ∙ ap (λ xs. Some (g.Group xs)) (members_stay ss all (sym (full-group ss) ∙ h));
})
  where
    same : (ps : List Point) → map place ps ≡ ps
    same [] = refl
    same (p ∷ ps) = ap (λ qs. p ∷ qs) (same ps)

option_stays : (s : Option TopoShape) → is_full_option s ≡ true → then_some (prune place with_refs) s ≡ s
option_stays None h = refl
option_stays (Some s) h = shape_stays s h

abbrev with_shape : TopoFeature → Option TopoShape → TopoFeature
with_shape f s = record { id = f.id; properties = f.properties; shape = s }

features_stay : (transform : Option Transform) (fs : List TopoFeature) → AllByRecursion (IsFeature transform) fs → map (feature_pruned with_refs) fs ≡ fs
features_stay transform [] h = refl
features_stay transform (f ∷ fs) h = ap (λ s. with_shape f s ∷ map (feature_pruned with_refs) fs) (option_stays f.shape h.0.0) ∙ ap (λ xs. f ∷ xs) (features_stay transform fs h.1)

object_stays : (transform : Option Transform) (o : TopoObject) → IsObject transform o → object_pruned with_refs o ≡ o
object_stays transform (One f) h = ap (λ s. One (with_shape f s)) (option_stays f.shape h.0.0)
object_stays transform (Many fs) h = ap Many (features_stay transform fs h)

pub objects_stay : (transform : Option Transform) (os : List (List ℕ × TopoObject)) → AllByRecursion (λ o. IsObject transform o.1) os → objects_pruned with_refs os ≡ os
objects_stay transform [] h = refl
objects_stay transform (o ∷ os) h = ap (λ p. (o.0, p) ∷ objects_pruned with_refs os) (object_stays transform o.1 h.0) ∙ ap (λ ps. o ∷ ps) (objects_stay transform os h.1)

-- parts of a valid topology stand for it
pub stands_for : (os : List (List ℕ × TopoObject)) (arcs : List (List Point)) (transform : Option Transform) (y : Contents) → os ≡ y.objects → arcs ≡ y.arcs → transform ≡ y.transform → IsTopology y
    → draft_contents os arcs transform ≡ y
stands_for os arcs transform y o a t valid =
    ap (λ (xs : List (List ℕ × TopoObject)). draft_contents xs arcs transform) o ∙ ap (λ (xs : List (List Point)). draft_contents y.objects xs transform) a
    ∙ ap (draft_contents y.objects y.arcs) t ∙ ap (λ (xs : List (List ℕ × TopoObject)). contents xs y.arcs y.transform) (objects_stay y.transform y.objects valid.objects)

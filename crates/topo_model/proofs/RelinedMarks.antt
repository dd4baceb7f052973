-- Shapes with their lines and rings replaced, and a mark on the outer ring at the end of a way: what is then pruned of them, and their outer
-- rings.
use Rattle.std.proofs.Common.{◌≡◌, ℕ, suc, ℤ, Bool, true, false, List, [], ◌∷◌, ◌++◌, map, Option, Some, refl, sym, ap, ◌∙◌}
use Rattle.std.proofs.lemmas.List.{map-append}
use Rattle.std.specs.List.{AllByRecursion}
use Rattle.geojson_types.specs.Features.{Shape}
use Rattle.geometry.specs.declared.shape.Geometry.TheVariants as g
use Rattle.geometry.specs.Lists.{map_some, with_some, some_of, unless_empty}
use Rattle.geometry.specs.Paths.{Placed, inside_part, of_parts}
use Rattle.geometry.specs.Points.{Point}
use Rattle.geometry.specs.Pruning.{area_by, prune}
use Rattle.geometry.proofs.Induction.{by_kinds}
use Rattle.build_meaning.specs.OuterRings.{outer_ring, outer_rings, into_part, ends_here, along, unmarked, rings_marked, marked}
use Rattle.build_meaning.proofs.GreatestLeft.{put}
use Rattle.build_meaning.proofs.Marks.{outer_rings_at, some_made, left-point, left-points, left-line, left-lines, left-area, left-areas, left-group}
use Rattle.topojson_types.specs.Topologies.{TopoShape}
use Rattle.topo_model.specs.Drafts.{RefsOf, relined}
pub use Rattle.extraction.proofs.Relined.{relined_at}

abbrev Way : Type 0
Way = Option (List ℕ)

-- ---- what is pruned

module _ (f : RefsOf) (k : Bool → Bool × List ℤ → Option (List ℤ)) where
  abbrev both : Bool → Bool × List Point → Option (List ℤ)
  both closed l = k closed (l.0, f closed l.1)

  holes_once : (hs : List (List Point)) → some_of (k true) (map unmarked (map (f true) hs)) ≡ some_of (both true) (map unmarked hs)
  holes_once [] = refl
  holes_once (h ∷ hs) = ap (with_some (k true (unmarked (f true h)))) (holes_once hs)

  area_once : (rs : List (List Point)) (way : Way) → area_by (k true) (rings_marked (map (f true) rs) way) ≡ area_by (both true) (rings_marked rs way)
  area_once [] way = refl
  area_once (o ∷ hs) way = ap (λ ms. map_some (λ m. m ∷ ms) (k true (ends_here way, f true o))) (holes_once hs)

  areas_once : (i : ℕ) (areas : List (List (List Point))) (way : Way) → some_of (area_by (k true)) (along rings_marked i (map (map (f true)) areas) way) ≡ some_of (area_by (both true)) (along rings_marked i areas way)
  areas_once i [] way = refl
  areas_once i (rs ∷ areas) way =
      ap (λ o. with_some o (some_of (area_by (k true)) (along rings_marked (suc i) (map (map (f true)) areas) way))) (area_once rs (into_part i way))
      ∙ ap (with_some (area_by (both true) (rings_marked rs (into_part i way)))) (areas_once (suc i) areas way)

  abbrev left : Way → TopoShape → Option TopoShape
  left way s = prune (λ (p : Point). p) k (marked s way)

  abbrev Once : Shape → Type 0
  Once s = (way : Way) → left way (relined f s) ≡ prune (λ (p : Point). p) both (marked s way)

  members_once : (i : ℕ) (ss : List Shape) (way : Way) → AllByRecursion Once ss → some_of (prune (λ (p : Point). p) k) (along marked i (map (relined f) ss) way) ≡ some_of (prune (λ (p : Point). p) both) (along marked i ss way)
  members_once i [] way h = refl
  members_once i (s ∷ ss) way h =
      ap (λ o. with_some o (some_of (prune (λ (p : Point). p) k) (along marked (suc i) (map (relined f) ss) way))) (h.0 (into_part i way))
      ∙ ap (with_some (prune (λ (p : Point). p) both (marked s (into_part i way)))) (members_once (suc i) ss way h.1)

  pub pruned_once : (s : Shape) (way : Option (List ℕ)) → prune (λ (p : Point). p) k (marked (relined f s) way) ≡ prune (λ (p : Point). p) (λ closed l. k closed (l.0, f closed l.1)) (marked s way)
  pruned_once = by_kinds Once (record {
    point = λ p way. ap (left way) ((relined_at f).point p) ∙ left-point (λ p. p) k p way ∙ sym (left-point (λ p. p) both p way);
    points = λ ps way. ap (left way) ((relined_at f).points ps) ∙ left-points (λ p. p) k ps way ∙ sym (left-points (λ p. p) both ps way);
    line = λ l way. ap (left way) ((relined_at f).line l) ∙ left-line (λ p. p) k (f false l) way ∙ sym (left-line (λ p. p) both l way);
    lines = λ ls way. ap (left way) ((relined_at f).lines ls) ∙ left-lines (λ p. p) k (map (f false) ls) way ∙ ap (unless_empty g.Lines) (some_made (f false) (λ l. k false (unmarked l)) ls)
        ∙ sym (left-lines (λ p. p) both ls way);
    area = λ rs way. ap (left way) ((relined_at f).area rs) ∙ left-area (λ p. p) k (map (f true) rs) way ∙ ap (map_some g.Area) (area_once rs way) ∙ sym (left-area (λ p. p) both rs way);
    areas = λ areas way. ap (left way) ((relined_at f).areas areas) ∙ left-areas (λ p. p) k (map (map (f true)) areas) way ∙ ap (unless_empty g.Areas) (areas_once 0 areas way)
        ∙ sym (left-areas (λ p. p) both areas way);
    group = λ ss all way. ap (left way) ((relined_at f).group ss) ∙ left-group (λ p. p) k (map (relined f) ss) way ∙ ap (λ ts. Some (g.Group ts)) (members_once 0 ss way all)
        ∙ sym (left-group (λ p. p) both ss way);
  })

-- ---- outer rings

module _ (f : RefsOf) where
  abbrev made : Placed (List Point) → Placed (List ℤ)
  made = put (f true)

  polygon_made : (rs : List (List Point)) → outer_ring (map (f true) rs) ≡ map made (outer_ring rs)
  polygon_made [] = refl
  polygon_made (o ∷ hs) = refl

  inside_made : (i : ℕ) (xs : List (Placed (List Point))) → inside_part i (map made xs) ≡ map made (inside_part i xs)
  inside_made i [] = refl
  inside_made i (x ∷ xs) = ap (λ ys. record { path = i ∷ x.path; part = f true x.part } ∷ ys) (inside_made i xs)

  parts_made : (i : ℕ) (xss : List (List (Placed (List Point)))) → of_parts i (map (map made) xss) ≡ map made (of_parts i xss)
  parts_made i [] = refl
  parts_made i (xs ∷ xss) =
      ap (λ ys. ys ++ of_parts (suc i) (map (map made) xss)) (inside_made i xs) ∙ ap (λ ys. map made (inside_part i xs) ++ ys) (parts_made (suc i) xss)
      ∙ sym (map-append made (inside_part i xs) (of_parts (suc i) xss))

  polygons_made : (areas : List (List (List Point))) → map outer_ring (map (map (f true)) areas) ≡ map (map made) (map outer_ring areas)
  polygons_made [] = refl
  polygons_made (rs ∷ areas) = ap (λ xs. xs ∷ map outer_ring (map (map (f true)) areas)) (polygon_made rs) ∙ ap (λ xss. map made (outer_ring rs) ∷ xss) (polygons_made areas)

  abbrev Made : Shape → Type 0
  Made s = outer_rings (relined f s) ≡ map made (outer_rings s)

  members_made : (ss : List Shape) → AllByRecursion Made ss → map outer_rings (map (relined f) ss) ≡ map (map made) (map outer_rings ss)
  members_made [] h = refl
  members_made (s ∷ ss) h = ap (λ xs. xs ∷ map outer_rings (map (relined f) ss)) h.0 ∙ ap (λ xss. map made (outer_rings s) ∷ xss) (members_made ss h.1)

  pub rings_relined : (s : Shape) → outer_rings (relined f s) ≡ map (put (f true)) (outer_rings s)
  rings_relined = by_kinds Made (record {
    point = λ p. ap outer_rings ((relined_at f).point p) ∙ (outer_rings_at Point (List ℤ)).point p ∙ sym (ap (map made) ((outer_rings_at Point (List Point)).point p));
    points = λ ps. ap outer_rings ((relined_at f).points ps) ∙ (outer_rings_at Point (List ℤ)).points ps ∙ sym (ap (map made) ((outer_rings_at Point (List Point)).points ps));
    line = λ l. ap outer_rings ((relined_at f).line l) ∙ (outer_rings_at Point (List ℤ)).line (f false l) ∙ sym (ap (map made) ((outer_rings_at Point (List Point)).line l));
    lines = λ ls. ap outer_rings ((relined_at f).lines ls) ∙ (outer_rings_at Point (List ℤ)).lines (map (f false) ls) ∙ sym (ap (map made) ((outer_rings_at Point (List Point)).lines ls));
    area = λ rs. ap outer_rings ((relined_at f).area rs) ∙ (outer_rings_at Point (List ℤ)).area (map (f true) rs) ∙ polygon_made rs ∙ sym (ap (map made) ((outer_rings_at Point (List Point)).area rs));
    areas = λ areas. ap outer_rings ((relined_at f).areas areas) ∙ (outer_rings_at Point (List ℤ)).areas (map (map (f true)) areas) ∙ ap (of_parts 0) (polygons_made areas) ∙ parts_made 0 (map outer_ring areas)
        ∙ sym (ap (map made) ((outer_rings_at Point (List Point)).areas areas));
    group = λ ss all. ap outer_rings ((relined_at f).group ss) ∙ (outer_rings_at Point (List ℤ)).group (map (relined f) ss) ∙ ap (of_parts 0) (members_made ss all) ∙ parts_made 0 (map outer_rings ss)
        ∙ sym (ap (map made) ((outer_rings_at Point (List Point)).group ss));
  })

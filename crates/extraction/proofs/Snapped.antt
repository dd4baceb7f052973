-- Layers that are snapped after their lines and rings were taken out: what is left of a snapped feature, and its lines and rings.
use Rattle.std.proofs.Common.{◌≡◌, Bool, true, false, List, [], ◌∷◌, ◌++◌, map, Option, None, Some, refl, sym, ap, ◌∙◌, arith}
use Rattle.std.specs.Prelude.{if◌then◌else◌}
use Rattle.std.proofs.lemmas.List.{map-append}
use Rattle.std.specs.List.{AllByRecursion}
use Rattle.geojson_types.specs.Features.{Featured, Shape}
use Rattle.geojson_types.specs.Moving.{moved, moved_feature}
use Rattle.geometry.specs.declared.shape.Geometry.TheVariants as g
use Rattle.geometry.specs.Lists.{map_some}
use Rattle.geometry.specs.Points.{Point, IsPosition, IsWithin}
use Rattle.geometry.specs.Pruning.{option_lines_and_rings}
use Rattle.geometry.proofs.ByKind.{AtKinds, at_kinds}
use Rattle.geometry.proofs.Induction.{by_kinds}
use Rattle.geometry.proofs.MovedShapes.{line_or_ring_moved, moved_at, option_lines_and_rings_moved}
use Rattle.grid_snap.specs.Axes.{Axes, IsGrid, covers, reach, snapped}
use Rattle.grid_snap.specs.Snapping.{snapped_if_covered}
use Rattle.grid_snap.proofs.Settled.{covered_within}
use Rattle.topojson_types.specs.Topologies.{TopoShape}
use Rattle.extraction.specs.Extracts.{feature_relined, no_refs, relined}
use Rattle.linework.specs.Outlines.{features_lines_and_rings}
use Rattle.extraction.specs.Snapped.{feature_repointed, repointed, repointed_step}
use Rattle.extraction.proofs.Relined.{relined_at}

pub repointed_at : (f : Point → Point) → AtKinds (repointed f) (repointed_step f)
repointed_at f = unfold repointed in at_kinds (repointed_step f)

-- lines and rings stay
pub stays_lined : (f : Point → Point) (s t : TopoShape) → s ≡ t → repointed f t ≡ t → s ≡ repointed f s
stays_lined f s t is same = is ∙ sym same ∙ ap (repointed f) (sym is)

-- ---- what is no position is not covered

within_more : (p : Point) → IsWithin reach p → IsPosition p
within_more p h = (omega (arith, h.0), omega (arith, h.1))

stays : (covered : Bool) (p q : Point) → (covered ≡ true → ⊥) → (if covered then q else p) ≡ p
stays true p q h = absurd (h refl)
stays false p q h = refl

pub too_far : (g : Axes) (p : Point) → IsGrid g → (IsPosition p → ⊥) → snapped_if_covered g p ≡ p
too_far g p grid h = stays (covers g p) p (snapped g p) (λ e. h (within_more p (covered_within g p grid e)))

-- ---- shapes and features

module _ (f : Point → Point) where
  no_lines : (closed : Bool) (ls : List (List Point)) → map (no_refs closed) (map (map f) ls) ≡ map (no_refs closed) ls
  no_lines closed [] = refl
  no_lines closed (l ∷ ls) = ap (λ ms. [] ∷ ms) (no_lines closed ls)

  no_areas : (areas : List (List (List Point))) → map (map (no_refs true)) (map (map (map f)) areas) ≡ map (map (no_refs true)) areas
  no_areas [] = refl
  no_areas (rs ∷ areas) = rw (no_lines true rs, no_areas areas) refl

  abbrev LeftAlike : Shape → Type 0
  LeftAlike s = repointed f (relined no_refs s) ≡ relined no_refs (moved f s)

  members_alike : (ss : List Shape) → AllByRecursion LeftAlike ss → map (repointed f) (map (relined no_refs) ss) ≡ map (relined no_refs) (map (moved f) ss)
  members_alike [] all = refl
  members_alike (s ∷ ss) all = rw (all.0, members_alike ss all.1) refl

  both : (s moved_s : Shape) (t u : TopoShape) → relined no_refs s ≡ t → repointed f t ≡ u → moved f s ≡ moved_s → u ≡ relined no_refs moved_s → LeftAlike s
  both s m t u e k h is = ap (repointed f) e ∙ k ∙ is ∙ sym (ap (relined no_refs) h)

  left_alike : (s : Shape) → LeftAlike s
  left_alike =
      let left = relined_at no_refs in
      let put = repointed_at f in
      let move = moved_at f in
      by_kinds LeftAlike (record {
        point = λ p. both (g.Point p) _ _ _ (left.point p) (put.point p) (move.point p) (sym (left.point (f p)));
        points = λ ps. both (g.MultiPoint ps) _ _ _ (left.points ps) (put.points ps) (move.points ps) (sym (left.points (map f ps)));
        line = λ l. both (g.Line l) _ _ _ (left.line l) (put.line []) (move.line l) (sym (left.line (map f l)));
        lines = λ ls. both (g.Lines ls) _ _ _ (left.lines ls) (put.lines (map (no_refs false) ls)) (move.lines ls) (ap g.Lines (sym (no_lines false ls)) ∙ sym (left.lines (map (map f) ls)));
        area = λ rs. both (g.Area rs) _ _ _ (left.area rs) (put.area (map (no_refs true) rs)) (move.area rs) (ap g.Area (sym (no_lines true rs)) ∙ sym (left.area (map (map f) rs)));
        areas = λ areas. both (g.Areas areas) _ _ _ (left.areas areas) (put.areas (map (map (no_refs true)) areas)) (move.areas areas) (ap g.Areas (sym (no_areas areas)) ∙ sym (left.areas (map (map (map f)) areas)));
        group = λ ss all. both (g.Group ss) _ _ _ (left.group ss) (put.group (map (relined no_refs) ss)) (move.group ss) (ap g.Group (members_alike ss all) ∙ sym (left.group (map (moved f) ss)));
      })

  option_alike : (o : Option Shape) → map_some (repointed f) (map_some (relined no_refs) o) ≡ map_some (relined no_refs) (map_some (moved f) o)
  option_alike None = refl
  option_alike (Some s) = ap Some (left_alike s)

  pub features_alike : (fs : List Featured) → map (feature_repointed f) (map (feature_relined no_refs) fs) ≡ map (feature_relined no_refs) (map (moved_feature f) fs)
  features_alike [] = refl
  features_alike (x ∷ fs) = rw (option_alike x.shape, features_alike fs) refl

  pub lines_alike : (fs : List Featured) → map (line_or_ring_moved f) (features_lines_and_rings fs) ≡ features_lines_and_rings (map (moved_feature f) fs)
  lines_alike [] = refl
  lines_alike (x ∷ fs) =
      map-append (line_or_ring_moved f) (option_lines_and_rings x.shape) (features_lines_and_rings fs)
      ∙ ap (λ bs. bs ++ map (line_or_ring_moved f) (features_lines_and_rings fs)) (sym (option_lines_and_rings_moved f x.shape))
      ∙ ap (λ bs. option_lines_and_rings (map_some (moved f) x.shape) ++ bs) (lines_alike fs)

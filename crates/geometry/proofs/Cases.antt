-- The traversals, at each kind of shape.
use Rattle.std.proofs.Common.{◌≡◌, Bool, true, false, List, [], ◌∷◌, map, Option, Some, refl, ap, ◌∙◌}
use Rattle.geometry.specs.declared.shape.Geometry.{Geometry}
use Rattle.geometry.specs.declared.shape.Geometry.TheVariants as g
use Rattle.geometry.specs.declared.address.Cause.{Cause}
use Rattle.geometry.specs.Lists.{map_some, some_of, unless_empty, joined}
use Rattle.geometry.specs.Pruning.{area_by, prune_step, prune, lines_and_rings_step, lines_and_rings}
use Rattle.geometry.specs.Paths.{of_parts}
use Rattle.geometry.specs.DropCauses.{here, area_drop_causes, drop_causes_step, drop_causes}
use Rattle.geometry.proofs.ByKind.{AtKinds, at_kinds}

some-fused : {A B : Type 0} (f : A → Option B) (xs : List A) → some_of (λ o. o) (map f xs) ≡ some_of f xs
some-fused f [] = refl
some-fused f (x ∷ xs) = rw (some-fused f xs) refl

module _ {P Q L M : Type 0} (place : P → Q) (kept : Bool → L → Option M) where
  pub prune_at : AtKinds (prune place kept) (prune_step place kept)
  prune_at = unfold prune in at_kinds (prune_step place kept)

  pub prune-point : (p : P) → prune place kept (g.Point p) ≡ Some (g.Point (place p))
  prune-point = prune_at.point

  pub prune-points : (ps : List P) → prune place kept (g.MultiPoint ps) ≡ Some (g.MultiPoint (map place ps))
  prune-points = prune_at.points

  pub prune-line : (l : L) → prune place kept (g.Line l) ≡ map_some g.Line (kept false l)
  prune-line = prune_at.line

  pub prune-lines : (ls : List L) → prune place kept (g.Lines ls) ≡ unless_empty g.Lines (some_of (kept false) ls)
  prune-lines = prune_at.lines

  pub prune-area : (rs : List L) → prune place kept (g.Area rs) ≡ map_some g.Area (area_by (kept true) rs)
  prune-area = prune_at.area

  pub prune-areas : (rss : List (List L)) → prune place kept (g.Areas rss) ≡ unless_empty g.Areas (some_of (area_by (kept true)) rss)
  prune-areas = prune_at.areas

  pub prune-group : (ss : List (Geometry P L L)) → prune place kept (g.Group ss) ≡ Some (g.Group (some_of (prune place kept) ss))
  prune-group ss = prune_at.group ss ∙ ap (λ ts. Some (g.Group ts)) (some-fused (prune place kept) ss)

module _ (P L : Type 0) where
  pub lines_and_rings_at : AtKinds (lines_and_rings {P = P} {L = L}) lines_and_rings_step
  lines_and_rings_at = unfold lines_and_rings in at_kinds lines_and_rings_step

  pub lines_and_rings-point : (p : P) → lines_and_rings {P = P} {L = L} (g.Point p) ≡ []
  lines_and_rings-point = lines_and_rings_at.point

  pub lines_and_rings-points : (ps : List P) → lines_and_rings {P = P} {L = L} (g.MultiPoint ps) ≡ []
  lines_and_rings-points = lines_and_rings_at.points

  pub lines_and_rings-line : (l : L) → lines_and_rings {P = P} {L = L} (g.Line l) ≡ (false, l) ∷ []
  lines_and_rings-line = lines_and_rings_at.line

  pub lines_and_rings-lines : (ls : List L) → lines_and_rings {P = P} {L = L} (g.Lines ls) ≡ map (λ l. (false, l)) ls
  lines_and_rings-lines = lines_and_rings_at.lines

  pub lines_and_rings-area : (rs : List L) → lines_and_rings {P = P} {L = L} (g.Area rs) ≡ map (λ l. (true, l)) rs
  lines_and_rings-area = lines_and_rings_at.area

  pub lines_and_rings-areas : (rss : List (List L)) → lines_and_rings {P = P} {L = L} (g.Areas rss) ≡ joined (map (map (λ l. (true, l))) rss)
  lines_and_rings-areas = lines_and_rings_at.areas

  pub lines_and_rings-group : (ss : List (Geometry P L L)) → lines_and_rings {P = P} {L = L} (g.Group ss) ≡ joined (map lines_and_rings ss)
  lines_and_rings-group = lines_and_rings_at.group

module _ (P L : Type 0) (why : Bool → L → Option Cause) where
  pub drop_causes_at : AtKinds (drop_causes {P = P} {L = L} why) (drop_causes_step why)
  drop_causes_at = unfold drop_causes in at_kinds (drop_causes_step why)

  pub drop_causes-line : (l : L) → drop_causes {P = P} {L = L} why (g.Line l) ≡ here (why false l)
  drop_causes-line = drop_causes_at.line

  pub drop_causes-lines : (ls : List L) → drop_causes {P = P} {L = L} why (g.Lines ls) ≡ of_parts 0 (map (λ l. here (why false l)) ls)
  drop_causes-lines = drop_causes_at.lines

  pub drop_causes-area : (rs : List L) → drop_causes {P = P} {L = L} why (g.Area rs) ≡ area_drop_causes (why true) rs
  drop_causes-area = drop_causes_at.area

  pub drop_causes-areas : (rss : List (List L)) → drop_causes {P = P} {L = L} why (g.Areas rss) ≡ of_parts 0 (map (area_drop_causes (why true)) rss)
  drop_causes-areas = drop_causes_at.areas

  pub drop_causes-group : (ss : List (Geometry P L L)) → drop_causes {P = P} {L = L} why (g.Group ss) ≡ of_parts 0 (map (drop_causes why) ss)
  drop_causes-group = drop_causes_at.group

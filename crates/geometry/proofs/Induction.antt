-- Induction over shapes, by kinds.
use Rattle.std.proofs.Common.{◌≡◌, List, [], ◌∷◌, map, sym, subst}
use Rattle.std.specs.List.{AllByRecursion}
use Rattle.geometry.specs.declared.shape.Geometry.{Geometry, ind-Geometry, roll-Geometry, map-Geometry}
use Rattle.geometry.specs.declared.shape.Geometry.TheOpen.{Geometry-F}
use Rattle.geometry.specs.declared.shape.Geometry.TheVariants as g

pub record Kinds (P L : Type 0) (X : Geometry P L L → Type 0) : Type 0 where
  pub point : (p : P) → X (g.Point p)
  pub points : (ps : List P) → X (g.MultiPoint ps)
  pub line : (l : L) → X (g.Line l)
  pub lines : (ls : List L) → X (g.Lines ls)
  pub area : (rs : List L) → X (g.Area rs)
  pub areas : (areas : List (List L)) → X (g.Areas areas)
  pub group : (ss : List (Geometry P L L)) → AllByRecursion X ss → X (g.Group ss)

module _ {P L : Type 0} (X : Geometry P L L → Type 0) (k : Kinds P L X) where
  abbrev Such : Type 0
  Such = (s : Geometry P L L) × X s

  every : (ys : List Such) → AllByRecursion X (map (λ e. e.0) ys)
  every [] = tt
  every (y ∷ ys) = (y.1, every ys)

  abbrev At : Geometry-F P L L (Geometry P L L) → Type 0
  At z = X (roll-Geometry P L L z)

  step : (x : Geometry-F P L L (Geometry P L L)) (y : Geometry-F P L L Such) → map-Geometry P L L Such (Geometry P L L) (λ e. e.0) y ≡ x → X (roll-Geometry P L L x)
  step x (Geometry-F.Point p) e = subst At e (subst X (sym (g.rolls-Point p)) (k.point p))
  step x (Geometry-F.MultiPoint ps) e = subst At e (subst X (sym (g.rolls-MultiPoint ps)) (k.points ps))
  step x (Geometry-F.Line l) e = subst At e (subst X (sym (g.rolls-Line l)) (k.line l))
  step x (Geometry-F.Lines ls) e = subst At e (subst X (sym (g.rolls-Lines ls)) (k.lines ls))
  step x (Geometry-F.Area rs) e = subst At e (subst X (sym (g.rolls-Area rs)) (k.area rs))
  step x (Geometry-F.Areas areas) e = subst At e (subst X (sym (g.rolls-Areas areas)) (k.areas areas))
  step x (Geometry-F.Group ys) e = subst At e (subst X (sym (g.rolls-Group (map (λ e. e.0) ys))) (k.group (map (λ e. e.0) ys) (every ys)))

  pub by_kinds : (s : Geometry P L L) → X s
  by_kinds = ind-Geometry P L L X step

-- The equations of a definition over the kinds of a geometry.
use Rattle.std.proofs.Common.{◌≡◌, List, map, sym, ap, ◌∙◌}
use Rattle.std.proofs.lemmas.List.Folds.{list_all-map}
use Rattle.std.specs.List.{list_all}
use Rattle.geometry.specs.declared.shape.Geometry.{Geometry, fold-Geometry, fold-roll-Geometry}
use Rattle.geometry.specs.declared.shape.Geometry.TheOpen.{Geometry-F}
use Rattle.geometry.specs.declared.shape.Geometry.TheVariants as g
use Rattle.geometry.specs.Shapes.{Shape, proper_step, is_proper}
use Rattle.geometry.specs.Places.{points_step, shape_points}

-- at each kind it is the step, with what is given for the shapes of a group in their place
pub record AtKinds {P L R A : Type 0} (f : Geometry P L R → A) (step : Geometry-F P L R A → A) : Type 0 where
  pub point : (p : P) → f (g.Point p) ≡ step (Geometry-F.Point p)
  pub points : (ps : List P) → f (g.MultiPoint ps) ≡ step (Geometry-F.MultiPoint ps)
  pub line : (l : L) → f (g.Line l) ≡ step (Geometry-F.Line l)
  pub lines : (ls : List L) → f (g.Lines ls) ≡ step (Geometry-F.Lines ls)
  pub area : (rs : List R) → f (g.Area rs) ≡ step (Geometry-F.Area rs)
  pub areas : (rss : List (List R)) → f (g.Areas rss) ≡ step (Geometry-F.Areas rss)
  pub group : (ss : List (Geometry P L R)) → f (g.Group ss) ≡ step (Geometry-F.Group (map f ss))

module _ {P L R A : Type 0} (step : Geometry-F P L R A → A) where
  abbrev run : Geometry P L R → A
  run = fold-Geometry P L R A step

  pub at_kinds : AtKinds run step
  at_kinds = record {
    point = λ p. ap run (sym (g.rolls-Point p)) ∙ fold-roll-Geometry P L R A step (Geometry-F.Point p);
    points = λ ps. ap run (sym (g.rolls-MultiPoint ps)) ∙ fold-roll-Geometry P L R A step (Geometry-F.MultiPoint ps);
    line = λ l. ap run (sym (g.rolls-Line l)) ∙ fold-roll-Geometry P L R A step (Geometry-F.Line l);
    lines = λ ls. ap run (sym (g.rolls-Lines ls)) ∙ fold-roll-Geometry P L R A step (Geometry-F.Lines ls);
    area = λ rs. ap run (sym (g.rolls-Area rs)) ∙ fold-roll-Geometry P L R A step (Geometry-F.Area rs);
    areas = λ rss. ap run (sym (g.rolls-Areas rss)) ∙ fold-roll-Geometry P L R A step (Geometry-F.Areas rss);
    group = λ ss. ap run (sym (g.rolls-Group ss)) ∙ fold-roll-Geometry P L R A step (Geometry-F.Group ss);
  }

-- the positions of a shape
pub points_at : AtKinds shape_points points_step
points_at = unfold shape_points in at_kinds points_step

-- whether a shape is proper
pub proper_at : AtKinds is_proper proper_step
proper_at = unfold is_proper in at_kinds proper_step

pub proper-group : (ss : List Shape) → is_proper (g.Group ss) ≡ list_all is_proper ss
proper-group ss = proper_at.group ss ∙ list_all-map (λ b. b) is_proper ss

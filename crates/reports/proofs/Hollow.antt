-- The equations of `is_hollow` over the kinds of a topology's geometry.
use Rattle.std.proofs.Common.{◌≡◌, ◌<◌, ◌≤◌, ℕ, ℤ, Bool, List, true, false, ap, get_or, length, sym, take, ◌∙◌}
use Rattle.std.proofs.lemmas.List.{take_all}
use Rattle.std.proofs.lemmas.List.Folds.{list_all-map, list_all_at}
use Rattle.std.specs.List.{list_all}
use Rattle.geometry.specs.declared.shape.Geometry.TheVariants as g
use Rattle.geometry.specs.Points.{Point}
use Rattle.geometry.proofs.ByKind.{AtKinds, at_kinds}
use Rattle.topojson_types.specs.Topologies.{TopoShape}
use Rattle.reports.specs.Losses.{hollow_step, is_hollow}

hollow_at : AtKinds is_hollow hollow_step
unfolding is_hollow
hollow_at = at_kinds hollow_step

pub of_point : (p : Point) → is_hollow (g.Point p) ≡ false
of_point = hollow_at.point

pub of_points : (ps : List Point) → is_hollow (g.MultiPoint ps) ≡ false
of_points = hollow_at.points

pub of_line : (l : List ℤ) → is_hollow (g.Line l) ≡ false
of_line = hollow_at.line

pub of_lines : (ls : List (List ℤ)) → is_hollow (g.Lines ls) ≡ false
of_lines = hollow_at.lines

pub of_area : (rs : List (List ℤ)) → is_hollow (g.Area rs) ≡ false
of_area = hollow_at.area

pub of_areas : (areas : List (List (List ℤ))) → is_hollow (g.Areas areas) ≡ false
of_areas = hollow_at.areas

pub of_group : (ss : List TopoShape) → is_hollow (g.Group ss) ≡ list_all is_hollow ss
of_group ss = hollow_at.group ss ∙ list_all-map (λ b. b) is_hollow ss

-- a shape of a group has something in it, and so the group has
pub not_hollow : (s : TopoShape) (ss : List TopoShape) (i : ℕ) (m : TopoShape) (b : Bool) → s ≡ g.Group ss → i < length ss → m ≡ get_or ss i m → b ≡ is_hollow m → b ≡ false
    → false ≡ is_hollow s
not_hollow s ss i m b is l at h e =
    sym (ap is_hollow is ∙ of_group ss ∙ list_all_at is_hollow ss i m l (ap is_hollow (sym at) ∙ (sym h ∙ e)))

-- no shape of a group has
pub all_hollow : (s : TopoShape) (ss : List TopoShape) (i : ℕ) → s ≡ g.Group ss → length ss ≤ i → list_all is_hollow (take i ss) ≡ true → true ≡ is_hollow s
all_hollow s ss i is l h = sym (ap is_hollow is ∙ of_group ss ∙ ap (list_all is_hollow) (sym (take_all i ss l)) ∙ h)

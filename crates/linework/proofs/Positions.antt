-- The positions of lines are those of their shapes, and so the positions of the linework are those of the layers.
use Rattle.owned_values.proofs.Lists.{joined_append}
use Rattle.std.proofs.Common.{◌≡◌, Bool, true, false, not, List, [], ◌∷◌, ◌++◌, map, Option, None, Some, inl, inr, refl, sym, subst, arith}
use Rattle.std.specs.List.{AllByRecursion}
use Rattle.geometry.specs.declared.shape.Geometry.TheVariants as g
use Rattle.geojson_types.specs.declared.layer.Layer.{Layer}
use Rattle.geojson_types.specs.Features.{Shape, Featured}
use Rattle.geometry.specs.Lists.{joined}
use Rattle.geojson_types.specs.Places.{shape_points, option_points, features_points}
use Rattle.geometry.specs.Points.{Point}
use Rattle.geometry.specs.Pruning.{lines_and_rings, option_lines_and_rings}
use Rattle.geometry.proofs.Cases.{lines_and_rings-point, lines_and_rings-points, lines_and_rings-line, lines_and_rings-lines, lines_and_rings-area, lines_and_rings-areas, lines_and_rings-group}
use Rattle.geometry.proofs.Induction.{by_kinds}
use Rattle.geometry.proofs.ByKind.{points_at}
use Rattle.junctions.specs.declared.stroke.Stroke.{Stroke}
use Rattle.junctions.specs.Among.{In}
use Rattle.junctions.specs.Cleaning.{clean, clean_from}
use Rattle.linework.specs.Laws.{layers_points}
use Rattle.linework.specs.Linework.{linework}
use Rattle.linework.specs.Outlines.{cleaned, features_lines_and_rings, is_short_outline, long_outlines}
use Rattle.junctions.proofs.Members.{from_map, from_filter}
use Rattle.owned_values.proofs.Elements.{all_of}
use Rattle.owned_values.proofs.Members.{in_left, in_right, in_append}

-- elements of lists that are joined
joined_left : {X : Type 0} (x : X) (xss yss : List (List X)) → In x (joined xss) → In x (joined (xss ++ yss))
joined_left x xss yss k = subst (λ l. In x l) (sym (joined_append xss yss)) (in_left x (joined xss) (joined yss) k)

joined_right : {X : Type 0} (x : X) (xss yss : List (List X)) → In x (joined yss) → In x (joined (xss ++ yss))
joined_right x xss yss k = subst (λ l. In x l) (sym (joined_append xss yss)) (in_right x (joined xss) (joined yss) k)

-- a cleaned list has no other positions
clean_in : (p q : Point) (qs : List Point) → In p (clean_from q qs) → In p (q ∷ qs)
clean_in p q [] k = k
clean_in p q (r ∷ qs) k = grind (arith, clean_in p r qs)

-- the positions of the lines of a shape are its own
abbrev Line : Type 0
Line = Bool × List Point

abbrev AreIn : List Line → List Point → Type 0
AreIn ls ps = (b : Line) (p : Point) → In b ls → In p b.1 → In p ps

abbrev Holds : Shape → Type 0
Holds s = AreIn (lines_and_rings s) (shape_points s)

none_in : (ps : List Point) → AreIn [] ps
none_in ps b p k m = elim k [ ]

lines_in : (closed : Bool) (ls : List (List Point)) → AreIn (map (λ l. (closed, l)) ls) (joined ls)
lines_in closed [] b p k m = elim k [ ]
lines_in closed (l ∷ ls) b p (inl e) m = in_left p l (joined ls) (subst (λ (z : Line). In p z.1) e m)
lines_in closed (l ∷ ls) b p (inr k) m = in_right p l (joined ls) (lines_in closed ls b p k m)

areas_in : (rss : List (List (List Point))) → AreIn (joined (map (map (λ r. (true, r))) rss)) (joined (joined rss))
areas_in [] b p k m = elim k [ ]
areas_in (rs ∷ rss) b p k m = grind (arith, areas_in rss b p, in_append b, joined_left p rs (joined rss), lines_in true rs b p, joined_right p rs (joined rss))

each_in : {X : Type 0} (f : X → List Line) (g : X → List Point) (xs : List X) → AllByRecursion (λ x. AreIn (f x) (g x)) xs → AreIn (joined (map f xs)) (joined (map g xs))
each_in f g [] all b p k m = elim k [ ]
each_in f g (x ∷ xs) all b p k m = elim (in_append b (f x) (joined (map f xs)) k) [
  | inl n ↦ in_left p (g x) (joined (map g xs)) (all.0 b p n m)
  | inr n ↦ in_right p (g x) (joined (map g xs)) (each_in f g xs all.1 b p n m)
]

by_both : (s : Shape) (ls : List Line) (ps : List Point) → lines_and_rings s ≡ ls → shape_points s ≡ ps → AreIn ls ps → Holds s
by_both s ls ps e f h b p k m = subst (In p) (sym f) (h b p (subst (In b) e k) m)

lines_are_in : (s : Shape) → Holds s
lines_are_in = by_kinds Holds (record {
  point = λ p. by_both (g.Point p) [] (shape_points (g.Point p)) (lines_and_rings-point Point (List Point) p) refl (none_in (shape_points (g.Point p)));
  points = λ ps. by_both (g.MultiPoint ps) [] (shape_points (g.MultiPoint ps)) (lines_and_rings-points Point (List Point) ps) refl (none_in (shape_points (g.MultiPoint ps)));
  line = λ l. by_both (g.Line l) ((false, l) ∷ []) l (lines_and_rings-line Point (List Point) l) (points_at.line l) (λ b p k m. elim k [ inl e ↦ subst (λ (z : Line). In p z.1) e m | inr k ↦ absurd k ]);
  lines = λ ls. by_both (g.Lines ls) (map (λ l. (false, l)) ls) (joined ls) (lines_and_rings-lines Point (List Point) ls) (points_at.lines ls) (lines_in false ls);
  area = λ rs. by_both (g.Area rs) (map (λ r. (true, r)) rs) (joined rs) (lines_and_rings-area Point (List Point) rs) (points_at.area rs) (lines_in true rs);
  areas = λ rss. by_both (g.Areas rss) (joined (map (map (λ r. (true, r))) rss)) (joined (joined rss)) (lines_and_rings-areas Point (List Point) rss) (points_at.areas rss) (areas_in rss);
  group = λ ss all. by_both (g.Group ss) (joined (map lines_and_rings ss)) (joined (map shape_points ss)) (lines_and_rings-group Point (List Point) ss) (points_at.group ss) (each_in lines_and_rings shape_points ss all);
})

-- those of features and of layers
option_in : (o : Option Shape) → AreIn (option_lines_and_rings o) (option_points o)
option_in None b p k m = elim k [ ]
option_in (Some s) b p k m = lines_are_in s b p k m

features_in : (fs : List Featured) → AreIn (features_lines_and_rings fs) (features_points fs)
features_in fs = each_in (λ (f : Featured). option_lines_and_rings f.shape) (λ f. option_points f.shape) fs (all_of _ fs (λ f k. option_in f.shape))

layers_in : (ls : List Layer) → AreIn (joined (map (λ l. features_lines_and_rings l.features) ls)) (layers_points ls)
layers_in ls = each_in (λ (l : Layer). features_lines_and_rings l.features) (λ l. features_points l.features) ls (all_of _ ls (λ l k. features_in l.features))

clean_list_in : (p : Point) (ps : List Point) → In p (clean ps) → In p ps
clean_list_in p ps h = grind (arith, clean_in)

pub none_is_new : (layers : List Layer) (s : Stroke) (p : Point) → In s (linework layers) → In p s.positions → In p (layers_points layers)
unfolding linework
none_is_new layers s p k m =
    let all : List Line = joined (map (λ l. features_lines_and_rings l.features) layers) in
    let x = from_map (λ (b : Line). cleaned b.0 b.1) s (long_outlines all) k in
    layers_in layers x.0 p (from_filter (λ b. not (is_short_outline b)) x.0 all x.1).0 (clean_list_in p x.0.1 (subst (λ (z : Stroke). In p z.positions) x.2 m))

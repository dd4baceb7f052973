-- Arc indexes that are put in their places one after another.
use Rattle.std.proofs.Common.{◌≡◌, ℕ, ◌+◌, ◌<◌, ◌≤◌, ℤ, Bool, true, false, List, [], ◌∷◌, ◌++◌, map, length, take, drop, get_or, set, Option, None, Some, refl, sym, ap, ◌∙◌, arith, append_assoc}
use Rattle.std.specs.List.{AllByRecursion}
use Rattle.std.proofs.lemmas.List.{map-append}
use Rattle.std.proofs.Math.Seq.{take-append_seam}
use Rattle.build_meaning.proofs.Again.{all_hold}
use Rattle.build_meaning.specs.Layers.{Named, features_lines_and_rings, named_lines_and_rings}
use Rattle.geojson_types.specs.declared.layer.Layer.{Layer}
use Rattle.geojson_types.specs.Features.{Featured, Shape}
use Rattle.geometry.specs.declared.shape.Geometry.TheVariants as g
use Rattle.geometry.specs.Lists.{joined, map_some}
use Rattle.geometry.specs.Points.{Point}
use Rattle.geometry.specs.Pruning.{lines_and_rings, option_lines_and_rings}
use Rattle.geometry.proofs.ByKind.{AtKinds, at_kinds}
use Rattle.geometry.proofs.Cases.{lines_and_rings_at}
use Rattle.geometry.proofs.Induction.{by_kinds}
use Rattle.linework.specs.Outlines.{is_short_outline}
use Rattle.topojson_types.specs.declared.feature.TopoFeature.{TopoFeature}
use Rattle.topojson_types.specs.declared.object.TopoObject.{TopoObject}
use Rattle.topojson_types.specs.declared.object.TopoObject.TheVariants.{Many}
use Rattle.topojson_types.specs.Topologies.{TopoShape}
use Rattle.topo_model.specs.Drafts.{Fill, RefsOf, as_made, draft_refs, feature_filled, feature_relined, filled_step, in_turn, line_filled, lines_filled, long_refs, named_filled, no_refs, option_filled, refs_of, relined, shape_filled, spread}
use Rattle.topo_model.proofs.RelinedMarks.{relined_at}
use Rattle.topo_model.proofs.Stepped as stepped

pub filled_at : AtKinds shape_filled filled_step
filled_at = unfold shape_filled in at_kinds filled_step

-- ---- loops

module _ {X : Type 0} (fill : X → Fill X) where
  abbrev made : List (List ℤ) → X → X
  made w x = (fill x w).0

  abbrev left : List (List ℤ) → X → List (List ℤ)
  left w x = (fill x w).1

  -- the places in the elements before the index are filled
  abbrev pub Filling : List (List ℤ) → List X → List (List ℤ) → ℕ → List X → Type 0
  Filling = stepped.Stepped (λ w x. (fill x w).0) (λ w x. (fill x w).1)

  pub begun : (w : List (List ℤ)) (xs : List X) → Filling w xs w 0 xs
  begun = stepped.starts made left

  pub next : (first : List (List ℤ)) (xs : List X) (w rest : List (List ℤ)) (i : ℕ) (ys : List X) (d y : X) → i < length xs → Filling first xs w i ys → fill (get_or ys i d) w ≡ (y, rest) → Filling first xs rest (i + 1) (set ys i y)
  next first xs w rest i ys d y lt so e = stepped.turns made left first xs w rest i ys d y lt so (sym (ap (λ p. p.0) e)) (sym (ap (λ p. p.1) e))

  turns_are : (w : List (List ℤ)) (xs : List X) → in_turn (map fill xs) w ≡ (stepped.all made left w xs, stepped.after made left w xs)
  turns_are w [] = refl
  turns_are w (x ∷ xs) = ap (as_made (λ ys. (fill x w).0 ∷ ys)) (turns_are (fill x w).1 xs)

  pub done : (first : List (List ℤ)) (xs : List X) (w : List (List ℤ)) (i : ℕ) (ys : List X) → length xs ≤ i → Filling first xs w i ys → in_turn (map fill xs) first ≡ (ys, w)
  done first xs w i ys le so =
      let k = stepped.ends made left first xs w i ys le so in
      turns_are first xs ∙ ap (λ zs. (zs, stepped.after made left first xs)) (sym k.0) ∙ ap (λ v. (ys, v)) (sym k.1)

  turns_long : (w : List (List ℤ)) (xs : List X) → length (in_turn (map fill xs) w).0 ≡ length xs
  turns_long w [] = refl
  turns_long w (x ∷ xs) = let rest = turns_long (fill x w).1 xs in omega (arith, rest)

  -- a list that was lent whole is written back
  pub put_back : (n : ℕ) (old lent new : List X) (w rest : List (List ℤ)) → n ≡ length old → lent ≡ old → in_turn (map fill lent) w ≡ (new, rest) → in_turn (map fill old) w ≡ (take n (new ++ drop (length new) old), rest)
  put_back n old lent new w rest many same e =
      let filled = ap (λ xs. in_turn (map fill xs) w) (sym same) ∙ e in
      let long : n ≡ length new = many ∙ sym (turns_long w old) ∙ ap (λ p. length p.0) filled in
      filled ∙ ap (λ ys. (ys, rest)) (sym (ap (λ m. take m (new ++ drop (length new) old)) long ∙ take-append_seam new (drop (length new) old)))

  -- and is that of a kind of shapes
  pub level : (make : List X → TopoShape) (n : ℕ) (old lent new : List X) (w rest : List (List ℤ)) → shape_filled (make old) ≡ (λ v. as_made make (in_turn (map fill old) v)) → n ≡ length old → lent ≡ old
      → in_turn (map fill lent) w ≡ (new, rest) → shape_filled (make old) w ≡ (make (take n (new ++ drop (length new) old)), rest)
  level make n old lent new w rest at many same e = ap (λ h. h w) at ∙ ap (as_made make) (put_back n old lent new w rest many same e)

-- ---- what was taken apart

-- where nothing stands for the lines and rings of something, and what remains is what stands for them, and more after, it is filled with these
abbrev IsFilled : {X Y : Type 0} → (X → List (Bool × List Point)) → (RefsOf → X → Y) → (Y → Fill Y) → X → Type 0
IsFilled lines make fill x = (f : RefsOf) (tail : List (List ℤ)) → fill (make no_refs x) (refs_of f (lines x) ++ tail) ≡ (make f x, tail)

refs_append : (f : RefsOf) (bs cs : List (Bool × List Point)) (tail : List (List ℤ)) → refs_of f (bs ++ cs) ++ tail ≡ refs_of f bs ++ (refs_of f cs ++ tail)
refs_append f bs cs tail = ap (λ zs. zs ++ tail) (map-append (λ b. f b.0 b.1) bs cs) ∙ append_assoc (refs_of f bs) (refs_of f cs) tail

module _ {X Y : Type 0} (lines : X → List (Bool × List Point)) (make : RefsOf → X → Y) (fill : Y → Fill Y) (all : List X → List (Bool × List Point)) (none : all [] ≡ []) (some : (x : X) (xs : List X) → all (x ∷ xs) ≡ lines x ++ all xs) where
  each_filled : (xs : List X) → AllByRecursion (IsFilled lines make fill) xs → IsFilled all (λ f. map (make f)) (λ ys. in_turn (map fill ys)) xs
  each_filled [] h f tail = ap (λ bs. ([], refs_of f bs ++ tail)) none
  each_filled (x ∷ xs) h f tail =
      let rest = refs_of f (all xs) ++ tail in
      let one = ap (λ bs. fill (make no_refs x) (refs_of f bs ++ tail)) (some x xs) ∙ ap (fill (make no_refs x)) (refs_append f (lines x) (all xs) tail) ∙ h.0 f rest in
      ap (λ p. as_made (λ ys. p.0 ∷ ys) (in_turn (map fill (map (make no_refs) xs)) p.1)) one ∙ ap (as_made (λ ys. make f x ∷ ys)) (each_filled xs h.1 f tail)

  all_filled : ((x : X) → IsFilled lines make fill x) → (xs : List X) → IsFilled all (λ f. map (make f)) (λ ys. in_turn (map fill ys)) xs
  all_filled each xs = each_filled xs (all_hold (IsFilled lines make fill) each xs)

lines_are : (closed : Bool) (ls : List (List Point)) → IsFilled (map (λ l. (closed, l))) (λ f. map (f closed)) lines_filled ls
lines_are closed = all_filled {X = List Point} {Y = List ℤ} (λ l. (closed, l) ∷ []) (λ f. f closed) line_filled (map (λ l. (closed, l))) refl (λ l ls. refl) (λ l f tail. refl)

areas_are : (areas : List (List (List Point))) → IsFilled (λ areas. joined (map (map (λ l. (true, l))) areas)) (λ f. map (map (f true))) (λ ys. in_turn (map lines_filled ys)) areas
areas_are = all_filled {X = List (List Point)} {Y = List (List ℤ)} (map (λ l. (true, l))) (λ f. map (f true)) lines_filled (λ areas. joined (map (map (λ l. (true, l))) areas)) refl (λ rs areas. refl) (lines_are true)

at_kind : (s : Shape) (f : RefsOf) (tail : List (List ℤ)) (bs : List (Bool × List Point)) (hollow made : TopoShape) (fill : Fill TopoShape) → lines_and_rings s ≡ bs → relined no_refs s ≡ hollow → relined f s ≡ made → shape_filled hollow ≡ fill
    → fill (refs_of f bs ++ tail) ≡ (made, tail) → shape_filled (relined no_refs s) (refs_of f (lines_and_rings s) ++ tail) ≡ (relined f s, tail)
at_kind s f tail bs hollow made fill l h m by is =
    ap (λ t. shape_filled t (refs_of f (lines_and_rings s) ++ tail)) h ∙ ap (λ bs. shape_filled hollow (refs_of f bs ++ tail)) l ∙ ap (λ fill. fill (refs_of f bs ++ tail)) by ∙ is ∙ ap (λ t. (t, tail)) (sym m)

shape_is : (s : Shape) → IsFilled lines_and_rings relined shape_filled s
shape_is s =
    let lines = lines_and_rings_at Point (List Point) in
    let none = relined_at no_refs in
    by_kinds (IsFilled lines_and_rings relined shape_filled) (record {
      point = λ p f tail. at_kind (g.Point p) f tail [] (g.Point p) (g.Point p) _ (lines.point p) (none.point p) ((relined_at f).point p) (filled_at.point p) refl;
      points = λ ps f tail. at_kind (g.MultiPoint ps) f tail [] (g.MultiPoint ps) (g.MultiPoint ps) _ (lines.points ps) (none.points ps) ((relined_at f).points ps) (filled_at.points ps) refl;
      line = λ l f tail. at_kind (g.Line l) f tail _ (g.Line []) (g.Line (f false l)) _ (lines.line l) (none.line l) ((relined_at f).line l) (filled_at.line []) refl;
      lines = λ ls f tail. at_kind (g.Lines ls) f tail _ (g.Lines (map (no_refs false) ls)) (g.Lines (map (f false) ls)) _ (lines.lines ls) (none.lines ls) ((relined_at f).lines ls) (filled_at.lines (map (no_refs false) ls)) (ap (as_made g.Lines) (lines_are false ls f tail));
      area = λ rs f tail. at_kind (g.Area rs) f tail _ (g.Area (map (no_refs true) rs)) (g.Area (map (f true) rs)) _ (lines.area rs) (none.area rs) ((relined_at f).area rs) (filled_at.area (map (no_refs true) rs)) (ap (as_made g.Area) (lines_are true rs f tail));
      areas = λ areas f tail. at_kind (g.Areas areas) f tail _ (g.Areas (map (map (no_refs true)) areas)) (g.Areas (map (map (f true)) areas)) _ (lines.areas areas) (none.areas areas) ((relined_at f).areas areas) (filled_at.areas (map (map (no_refs true)) areas))
          (ap (as_made g.Areas) (areas_are areas f tail));
      group = λ ss all f tail. at_kind (g.Group ss) f tail _ (g.Group (map (relined no_refs) ss)) (g.Group (map (relined f) ss)) _ (lines.group ss) (none.group ss) ((relined_at f).group ss) (filled_at.group (map (relined no_refs) ss))
          (ap (as_made g.Group) (each_filled lines_and_rings relined shape_filled (λ ss. joined (map lines_and_rings ss)) refl (λ s ss. refl) ss all f tail));
    }) s

option_is : (s : Option Shape) → IsFilled option_lines_and_rings (λ f. map_some (relined f)) option_filled s
option_is None f tail = refl
option_is (Some s) f tail = ap (as_made (λ t. Some t)) (shape_is s f tail)

abbrev with_shape : Featured → Option TopoShape → TopoFeature
with_shape x s = record { id = x.id; properties = x.properties; shape = s }

feature_is : (x : Featured) → IsFilled (λ x. option_lines_and_rings x.shape) feature_relined feature_filled x
feature_is x f tail = ap (as_made (with_shape x)) (option_is x.shape f tail)

features_are : (xs : List Featured) → IsFilled features_lines_and_rings (λ f. map (feature_relined f)) (λ ys. in_turn (map feature_filled ys)) xs
features_are = all_filled {X = Featured} {Y = TopoFeature} (λ x. option_lines_and_rings x.shape) feature_relined feature_filled features_lines_and_rings refl (λ x xs. refl) feature_is

pub objects_are : (ls : Named) (f : RefsOf) (tail : List (List ℤ)) → in_turn (map named_filled (map (λ l. (l.0, Many (map (feature_relined no_refs) l.1.features))) ls)) (refs_of f (named_lines_and_rings ls) ++ tail) ≡ (map (λ l. (l.0, Many (map (feature_relined f) l.1.features))) ls, tail)
objects_are = all_filled {X = List ℕ × Layer} {Y = List ℕ × TopoObject} (λ l. features_lines_and_rings l.1.features) (λ f l. (l.0, Many (map (feature_relined f) l.1.features))) named_filled named_lines_and_rings refl (λ l ls. refl)
    (λ l f tail. ap (as_made {Y = List ℕ × TopoObject} (λ fs. (l.0, Many fs))) (features_are l.1.features f tail))

-- ---- the arc indexes

pub spread_long : (of : RefsOf) (bs : List (Bool × List Point)) → spread (map is_short_outline bs) (long_refs of bs) ≡ refs_of (draft_refs of) bs
spread_long of [] = refl
spread_long of (b ∷ bs) = grind (arith, spread_long of bs)

-- The value that is written for a topology: how deep it nests, that its numbers are numbers, and that it is UTF-8, by one walk
-- over its definition.
use Rattle.std.proofs.Common.{◌≡◌, ℕ, zero, suc, ◌<◌, ◌≤◌, ℤ, ◌-ℤ◌, Bool, true, false, List, [], ◌∷◌, ◌++◌, length, map, Option, Some, None, refl, subst, arith}
use Rattle.std.specs.Prelude.{codes, ◌^◌, unsigned_abs}
use Rattle.topojson_meaning.proofs.Names.{ints, AllByRecursion, all_append, all_left, all_right, all_of, all_of_map, all_weaker, all_two, lines_and_rings-line, lines_and_rings-lines, lines_and_rings-area, lines_and_rings-areas, lines_and_rings-group, by_kinds, joined, Point, IsWithin, lines_and_rings, option_lines_and_rings, unit_places, units_text-number, units_text, scaled_of, Json, IdHasNumbers, PropertiesHaveNumbers, IdHasTexts, PropertiesHaveTexts, Id, geometrical_at, places_at, Corners, bounds, deltas_from, TopoShape, Contents, object_features, transform_value, IsTransformNumber, grid_limit, origin, places, option_places, IsPlace, IsTransformed, IsArc, AreInRange, TopoFeature, TopoObject, One, Many, Transform, FeaturesHaveNumbers, ValueHasNumbers, ValueNests, FeatureHasTexts, ContentsHaveTexts}
use Rattle.decimal_text.specs.Grammar.{IsNumber}
use Rattle.decimal_text.specs.Parts.{parts_of}
use Rattle.decimal_text.proofs.NumberBytes.{number_utf8, units_utf8}
use Rattle.decimal_text.proofs.SpellsParts.{parts-number}
use Rattle.json_value.specs.declared.json.Json.TheVariants as j
use Rattle.json_value.specs.Depth.{greatest}
use Rattle.json_value.proofs.Inherits.{Inherits, items_inherit, none_deeper, depth_inherits, numbers_inherit, utf8_inherits}
use Rattle.json_value.proofs.Utf8Parts.{is_ascii, AreUtf8, parts_utf8}
use Rattle.geometry.specs.declared.shape.Geometry.TheVariants as g
use Rattle.geometry.specs.Joins.{number_of}
use Rattle.geometry.proofs.ByKind.{AtKinds}
use Rattle.geojson_types.specs.declared.id.Id.TheVariants as id
use Rattle.geojson_types.specs.Nesting.{nesting_step, nesting, option_nesting, properties_nesting}
use Rattle.geojson_types.proofs.Nestings.{nesting_at}
use Rattle.topojson_types.specs.Values.{Members, Geometrical, number_value, whole_value, position_value, cell_places, written_cells, arc_value, line_value, lines_value, typed, inner_value, geometrical, geometrical_option, id_members, properties_members, feature_value, object_value, pair_value, members_of_transform, members_of_bounds, topology_value}
use Rattle.topojson_types.proofs.Parts.{parts_all}
use Rattle.topojson_types.proofs.Boxes.{AreCorners, corners_are}
use Rattle.topojson_meaning.specs.Bounds.{objects_features, feature_nesting, FeatureHasNumbers}
use Rattle.topojson_meaning.proofs.ShapeKinds.{geometrical-group, written_members}
use Rattle.topojson_meaning.proofs.FeaturesBack.{FineFeature}
use Rattle.topojson_meaning.proofs.LinesBack.{magnitude}
use Rattle.topojson_meaning.proofs.TopologiesBack.{features_fine}
use Rattle.topojson_meaning.proofs.ValidKept.{IsLineOrRing}

nest_at : AtKinds (nesting {P = Point} {L = List ℤ}) nesting_step
nest_at = nesting_at Point (List ℤ)

module _ {Number Text : List ℕ → Type 0} {X : ℕ → Json → Type 0} (is : Inherits Number Text X) where
  -- its text is what the text of a number has to be, whatever its decimals
  abbrev pub Spelled : ℤ → Type 0
  Spelled u = (decimals : ℕ) → Number (units_text u decimals)

  abbrev pub SpelledCell : Point → Type 0
  SpelledCell p = Spelled p.x × Spelled p.y

  abbrev pub SpelledLine : Bool × List ℤ → Type 0
  SpelledLine b = AllByRecursion Spelled b.1

  abbrev pub SpelledCorners : Option Corners → Type 0
  SpelledCorners None = Unit {0}
  SpelledCorners (Some b) = SpelledCell b.0 × SpelledCell b.1

  abbrev pub AreNumbers : Option Transform → Type 0
  AreNumbers None = Unit {0}
  AreNumbers (Some t) = (Number t.scale.0 × Number t.scale.1) × (Number t.translate.0 × Number t.translate.1)

  -- what holds of a member of an object
  abbrev pub Has : ℕ → List ℕ × Json → Type 0
  Has n m = Text m.0 × X n m.1

  -- ---- positions and indexes

  number : (decimals : ℕ) (u : ℤ) → Spelled u → X 0 (number_value decimals u)
  number decimals u h = is.number 0 (units_text u decimals) (h decimals)

  position : (decimals : ℕ) (p : Point) → SpelledCell p → X 1 (position_value decimals p)
  position decimals p h = is.array 0 (number_value decimals p.x ∷ (number_value decimals p.y ∷ [])) (number decimals p.x h.0, (number decimals p.y h.1, tt))

  positions : (decimals : ℕ) (ps : List Point) → AllByRecursion SpelledCell ps → X 2 (j.Array (map (position_value decimals) ps))
  positions decimals = items_inherit is 1 SpelledCell (position_value decimals) (position decimals)

  line : (refs : List ℤ) → AllByRecursion Spelled refs → X 1 (line_value refs)
  line = items_inherit is 0 Spelled whole_value (number 0)

  lines : (ls : List (List ℤ)) → AllByRecursion (AllByRecursion Spelled) ls → X 2 (lines_value ls)
  lines = items_inherit is 1 (AllByRecursion Spelled) line_value line

  -- ---- shapes

  module _ (decimals : ℕ) where
    abbrev cell : Point → Json
    cell p = position_value decimals p

    -- what is written of a shape, in an object of values this deep
    abbrev Written : ℕ → Geometrical → Type 0
    Written n o = X n o.type × AllByRecursion (Has n) o.parts

    abbrev Fits : TopoShape → Type 0
    Fits s = (0 < nesting s) × ((n : ℕ) → nesting s ≤ suc n → Written n (geometrical cell s))

    abbrev Such : TopoShape → Type 0
    Such s = AllByRecursion SpelledCell (places s) → AllByRecursion SpelledLine (lines_and_rings s) → Fits s

    typed_fits : (s : TopoShape) (m : ℕ) (type key : List ℕ) (v : Json) → suc m ≤ nesting s → geometrical cell s ≡ typed type key v → is_ascii type ≡ true → is_ascii key ≡ true → X m v → Fits s
    typed_fits s m type key v e w t k h = (omega arith, λ n le. rw w (is.text n type (is.word type t), ((is.word key k, is.deeper m n v (omega arith) h), tt)))

    inner : (s : TopoShape) (n : ℕ) → Fits s → nesting s ≤ n → X n (inner_value (geometrical cell s))
    inner s zero h le = absurd (omega (arith, h.0))
    inner s (suc n) h le = let w = h.1 n le in is.object n ((codes "type", (geometrical cell s).type) ∷ (geometrical cell s).parts) ((is.word (codes "type") refl, w.0), w.1)

    members : (ss : List TopoShape) (n : ℕ) → AllByRecursion Such ss → greatest (map nesting ss) ≤ n → AllByRecursion SpelledCell (joined (map places ss)) → AllByRecursion SpelledLine (joined (map lines_and_rings ss))
        → AllByRecursion (λ s. X n (inner_value (geometrical cell s))) ss
    members [] n all le h k = tt
    members (s ∷ ss) n all le h k = (
      inner s n (all.0 (all_left SpelledCell (places s) _ h) (all_left SpelledLine (lines_and_rings s) _ k)) (omega arith),
      members ss n all.1 (omega arith) (all_right SpelledCell (places s) _ h) (all_right SpelledLine (lines_and_rings s) _ k),
    )

    group : (ss : List TopoShape) → AllByRecursion Such ss → Such (g.Group ss)
    group ss all h k =
        let n = greatest (map nesting ss) in
        let each = members ss n all (omega arith) (subst (AllByRecursion SpelledCell) (places_at.group ss) h) (subst (AllByRecursion SpelledLine) (lines_and_rings-group Point (List ℤ) ss) k) in
        typed_fits (g.Group ss) (suc n) (codes "GeometryCollection") (codes "geometries") _ (omega (arith, nest_at.group ss)) (geometrical-group cell ss) refl refl
        (items_inherit is n (λ s. X n (inner_value (geometrical cell s))) (λ s. inner_value (geometrical cell s)) (λ s w. w) ss each)

    shape_fits : (s : TopoShape) → Such s
    shape_fits = by_kinds Such (record {
      point = λ p h k. typed_fits (g.Point p) 1 _ _ _ (omega (arith, nest_at.point p)) ((geometrical_at cell).point p) refl refl (position decimals p (subst (AllByRecursion SpelledCell) (places_at.point p) h).0);
      points = λ ps h k. typed_fits (g.MultiPoint ps) 2 _ _ _ (omega (arith, nest_at.points ps)) ((geometrical_at cell).points ps) refl refl (positions decimals ps (subst (AllByRecursion SpelledCell) (places_at.points ps) h));
      line = λ refs h k. typed_fits (g.Line refs) 1 _ _ _ (omega (arith, nest_at.line refs)) ((geometrical_at cell).line refs) refl refl (line refs (subst (AllByRecursion SpelledLine) (lines_and_rings-line Point (List ℤ) refs) k).0);
      lines = λ ls h k. typed_fits (g.Lines ls) 2 _ _ _ (omega (arith, nest_at.lines ls)) ((geometrical_at cell).lines ls) refl refl
          (lines ls (all_of_map SpelledLine (λ l. (false, l)) ls (subst (AllByRecursion SpelledLine) (lines_and_rings-lines Point (List ℤ) ls) k)));
      area = λ rs h k. typed_fits (g.Area rs) 2 _ _ _ (omega (arith, nest_at.area rs)) ((geometrical_at cell).area rs) refl refl
          (lines rs (all_of_map SpelledLine (λ l. (true, l)) rs (subst (AllByRecursion SpelledLine) (lines_and_rings-area Point (List ℤ) rs) k)));
      areas = λ areas h k. typed_fits (g.Areas areas) 3 _ _ _ (omega (arith, nest_at.areas areas)) ((geometrical_at cell).areas areas) refl refl
          (items_inherit is 2 (λ rs. AllByRecursion SpelledLine (map (λ l. (true, l)) rs)) lines_value (λ rs h. lines rs (all_of_map SpelledLine (λ l. (true, l)) rs h)) areas
          (parts_all SpelledLine (map (λ l. (true, l))) areas (subst (AllByRecursion SpelledLine) (lines_and_rings-areas Point (List ℤ) areas) k)));
      group = group;
    })

    shape_written : (s : Option TopoShape) (n : ℕ) → option_nesting s ≤ suc n → AllByRecursion SpelledCell (option_places s) → AllByRecursion SpelledLine (option_lines_and_rings s) → Written n (geometrical_option cell s)
    shape_written None n le h k = (is.null n, tt)
    shape_written (Some s) n le h k = (shape_fits s h k).1 n le

  -- ---- features and objects

  -- what is asked of the parts of a feature that nests so deep
  pub record FeatureHas (n : ℕ) (f : TopoFeature) : Type 0 where
    pub some : 0 < n
    pub nests : option_nesting f.shape ≤ n
    pub id : (k : ℕ) → AllByRecursion (Has k) (id_members f.id)
    pub properties : (k : ℕ) → n ≡ suc k → AllByRecursion (Has k) (properties_members f.properties)
    pub cells : AllByRecursion SpelledCell (option_places f.shape)
    pub lines : AllByRecursion SpelledLine (option_lines_and_rings f.shape)

  module _ (decimals n : ℕ) where
    feature : (m : ℕ) → m ≡ n → (f : TopoFeature) → FeatureHas n f → X m (feature_value (cell decimals) f)
    feature zero e f h = absurd (omega (arith, h.some))
    feature (suc k) e f h =
        let o = geometrical_option (cell decimals) f.shape in
        let w = shape_written decimals f.shape k (omega (arith, h.nests)) h.cells h.lines in
        is.object k ((codes "type", o.type) ∷ (id_members f.id ++ (properties_members f.properties ++ o.parts)))
        ((is.word (codes "type") refl, w.0), all_append (Has k) (id_members f.id) _ (h.id k) (all_append (Has k) (properties_members f.properties) o.parts (h.properties k (omega arith)) w.1))

    object : (o : TopoObject) → AllByRecursion (FeatureHas n) (object_features o) → X (suc (suc n)) (object_value (cell decimals) o)
    object (One f) h = is.deeper n (suc (suc n)) _ (omega arith) (feature n refl f h.0)
    object (Many fs) h =
        is.object (suc n) ((codes "type", j.Text (codes "GeometryCollection")) ∷ ((codes "geometries", j.Array (map (feature_value (cell decimals)) fs)) ∷ [])) (
          (is.word (codes "type") refl, is.text (suc n) (codes "GeometryCollection") (is.word (codes "GeometryCollection") refl)),
          ((is.word (codes "geometries") refl, items_inherit is n (FeatureHas n) (feature_value (cell decimals)) (feature n refl) fs h), tt),
        )

    objects : (os : List (List ℕ × TopoObject)) → AllByRecursion (λ (o : List ℕ × TopoObject). Text o.0) os → AllByRecursion (FeatureHas n) (objects_features os)
        → AllByRecursion (Has (suc (suc n))) (map (λ o. (o.0, object_value (cell decimals) o.1)) os)
    objects [] t h = tt
    objects (o ∷ os) t h = ((t.0, object o.1 (all_left (FeatureHas n) (object_features o.1) _ h)), objects os t.1 (all_right (FeatureHas n) (object_features o.1) _ h))

  -- ---- the topology

  transform_has : (transform : Option Transform) (n : ℕ) → 2 ≤ n → AreNumbers transform → AllByRecursion (Has n) (members_of_transform transform)
  transform_has None n le h = tt
  transform_has (Some t) n le h =
      let whole = is.object 1 ((codes "scale", pair_value t.scale) ∷ ((codes "translate", pair_value t.translate) ∷ []))
      ((is.word (codes "scale") refl, pair t.scale h.0), ((is.word (codes "translate") refl, pair t.translate h.1), tt)) in
      ((is.word (codes "transform") refl, is.deeper 2 n _ le whole), tt)
    where
      pair : (p : List ℕ × List ℕ) → Number p.0 × Number p.1 → X 1 (pair_value p)
      pair p k = is.array 0 (j.Number p.0 ∷ (j.Number p.1 ∷ [])) (is.number 0 p.0 k.0, (is.number 0 p.1 k.1, tt))

  bounds_have : (b : Option Corners) (n : ℕ) → 1 ≤ n → SpelledCorners b → AllByRecursion (Has n) (members_of_bounds b)
  bounds_have None n le h = tt
  bounds_have (Some b) n le h =
      let whole = items_inherit is 0 Spelled (number_value unit_places) (number unit_places) (b.0.x ∷ (b.0.y ∷ (b.1.x ∷ (b.1.y ∷ [])))) (h.0.0, (h.0.1, (h.1.0, (h.1.1, tt)))) in
      ((is.word (codes "bbox") refl, is.deeper 1 n _ le whole), tt)

  -- what is asked of the parts of a topology whose features nest so deep
  pub record PartsHave (n : ℕ) (t : Contents) : Type 0 where
    pub names : AllByRecursion (λ (o : List ℕ × TopoObject). Text o.0) t.objects
    pub features : AllByRecursion (FeatureHas n) (objects_features t.objects)
    pub transform : AreNumbers t.transform
    pub corners : SpelledCorners (bounds t)
    pub arcs : AllByRecursion (λ cs. AllByRecursion SpelledCell (written_cells t.transform cs)) t.arcs

  pub topology_has : (n : ℕ) (t : Contents) → PartsHave n t → X (suc (suc (suc (suc n)))) (topology_value t)
  unfolding topology_value
  topology_has n t h =
      let decimals = cell_places t.transform in
      let d : ℕ = suc (suc (suc n)) in
      let os = is.object (suc (suc n)) (map (λ o. (o.0, object_value (cell decimals) o.1)) t.objects) (objects decimals n t.objects h.names h.features) in
      let arcs = items_inherit is 2 (λ cs. AllByRecursion SpelledCell (written_cells t.transform cs)) (arc_value t.transform) (λ cs. positions decimals (written_cells t.transform cs)) t.arcs h.arcs in
      is.object d (written_members t) (
        (is.word (codes "type") refl, is.text d (codes "Topology") (is.word (codes "Topology") refl)),
        all_append (Has d) (members_of_transform t.transform) _ (transform_has t.transform d (omega arith) h.transform)
            (all_append (Has d) (members_of_bounds (bounds t)) _ (bounds_have (bounds t) d (omega arith) h.corners)
            ((is.word (codes "objects") refl, os), ((is.word (codes "arcs") refl, is.deeper 3 d _ (omega arith) arcs), tt))),
      )

  -- ---- the parts, by what is known of them

  pub transform_numbers : ((t : List ℕ) → IsTransformNumber t → Number t) → (transform : Option Transform) → IsTransformed transform → AreNumbers transform
  transform_numbers number_is None h = tt
  transform_numbers number_is (Some t) h =
      ((number_is t.scale.0 h.0.0, number_is t.scale.1 h.0.1), (number_is t.translate.0 h.1.0, number_is t.translate.1 h.1.1))

  pub id_has : (i : Option Id) → ((t : List ℕ) → i ≡ Some (id.Text t) → Text t) → ((t : List ℕ) → i ≡ Some (id.Number t) → Number t) → (k : ℕ) → AllByRecursion (Has k) (id_members i)
  id_has None text_is number_is k = tt
  id_has (Some (id.Text t)) text_is number_is k = ((is.word (codes "id") refl, is.text k t (text_is t refl)), tt)
  id_has (Some (id.Number t)) text_is number_is k = ((is.word (codes "id") refl, is.number k t (number_is t refl)), tt)

  pub properties_have : (ps : Option Members) (k : ℕ) → ((ms : Members) → ps ≡ Some ms → X k (j.Object ms)) → AllByRecursion (Has k) (properties_members ps)
  properties_have None k object_is = tt
  properties_have (Some ms) k object_is = ((is.word (codes "properties") refl, object_is ms refl), tt)

  -- ---- where each text of a number is what it has to be

  module _ (every : (u : ℤ) → Spelled u) where
    pub each_cell : (ps : List Point) → AllByRecursion SpelledCell ps
    each_cell ps = all_of SpelledCell ps (λ p k. (every p.x, every p.y))

    pub each_line : (bs : List (Bool × List ℤ)) → AllByRecursion SpelledLine bs
    each_line bs = all_of SpelledLine bs (λ b k. all_of Spelled b.1 (λ u l. every u))

    pub each_corner : (b : Option Corners) → SpelledCorners b
    each_corner None = tt
    each_corner (Some b) = ((every b.0.x, every b.0.y), (every b.1.x, every b.1.y))

-- ---- how deep it nests

anything : (u : ℤ) → Spelled depth_inherits u
anything u decimals = tt

feature_nests : (n : ℕ) (f : TopoFeature) → feature_nesting f ≤ n → FeatureHas depth_inherits n f
feature_nests n f h = record {
  some = omega arith;
  nests = omega arith;
  id = id_has depth_inherits f.id (λ t e. tt) (λ t e. tt);
  properties = λ k m. properties_have depth_inherits f.properties k (λ ms e. subst (λ ps. properties_nesting ps ≤ k) e (omega arith));
  cells = each_cell depth_inherits anything (option_places f.shape);
  lines = each_line depth_inherits anything (option_lines_and_rings f.shape);
}

any_transform : (transform : Option Transform) → AreNumbers depth_inherits transform
any_transform None = tt
any_transform (Some t) = ((tt, tt), (tt, tt))

pub topology_depth : ValueNests
topology_depth t n h =
    let deep = topology_has depth_inherits n t (record {
      names = all_of (λ (o : List ℕ × TopoObject). Unit {0}) t.objects (λ o k. tt);
      features = all_weaker (λ f. feature_nesting f ≤ n) (FeatureHas depth_inherits n) (feature_nests n) (objects_features t.objects) h;
      transform = any_transform t.transform;
      corners = each_corner depth_inherits anything (bounds t);
      arcs = all_of (λ cs. AllByRecursion (SpelledCell depth_inherits) (written_cells t.transform cs)) t.arcs (λ cs k. each_cell depth_inherits anything (written_cells t.transform cs));
    }) in
    omega arith

-- how deep its features nest as shapes, at most
deepest : Contents → ℕ
deepest t = suc (greatest (map (λ f. option_nesting f.shape) (objects_features t.objects)))

nest : (t : Contents) → AllByRecursion (λ f. option_nesting f.shape ≤ deepest t) (objects_features t.objects)
unfolding deepest
nest t = none_deeper (λ (f : TopoFeature). option_nesting f.shape) (deepest t) (objects_features t.objects) (omega arith)

-- ---- the texts of a transform

transform_text : (t : List ℕ) → IsTransformNumber t → IsNumber t
unfolding transform_value scaled_of
transform_text t h = parts-number t (grind (arith, parts_of t))

-- ---- its numbers

spelled : (u : ℤ) → unsigned_abs u < 10 ^ 64 → Spelled numbers_inherit u
spelled u h decimals = units_text-number u decimals h

place_spelled : (transform : Option Transform) (p : Point) → IsPlace transform p → SpelledCell numbers_inherit p
place_spelled None p h = (spelled p.x (omega (arith, h.0)), spelled p.y (omega (arith, h.1)))
place_spelled (Some t) p h = (spelled p.x (omega (arith, h.0.0)), spelled p.y (omega (arith, h.0.1)))

places_spelled : (transform : Option Transform) (ps : List Point) → AllByRecursion (IsPlace transform) ps → AllByRecursion (SpelledCell numbers_inherit) ps
places_spelled transform ps h = all_weaker (IsPlace transform) (SpelledCell numbers_inherit) (place_spelled transform) ps h

deltas_spelled : (t : Transform) (before : Point) (cs : List Point) → IsWithin grid_limit before → AllByRecursion (IsPlace (Some t)) cs → AllByRecursion (SpelledCell numbers_inherit) (deltas_from before cs)
unfolding deltas_from
deltas_spelled t before [] h all = tt
deltas_spelled t before (c ∷ cs) h all = ((apart before.x c.x h.0 all.0.0.0, apart before.y c.y h.1 all.0.0.1), deltas_spelled t c cs all.0.0 all.1)
  where
    apart : (a b : ℤ) → unsigned_abs a ≤ grid_limit → unsigned_abs b ≤ grid_limit → Spelled numbers_inherit (b -ℤ a)
    apart a b h k = spelled (b -ℤ a) (omega (arith, ints))

arc_spelled : (transform : Option Transform) (cs : List Point) → IsArc transform cs → AllByRecursion (SpelledCell numbers_inherit) (written_cells transform cs)
arc_spelled None cs h = places_spelled None cs h.1
arc_spelled (Some t) cs h = deltas_spelled t origin cs (omega arith, omega arith) h.1

refs_spelled : (n : ℕ) → n < 2 ^ 63 → (b : Bool × List ℤ) → AreInRange n b.1 → SpelledLine numbers_inherit b
refs_spelled n few b h = all_weaker (λ r. number_of r < n) (Spelled numbers_inherit) (λ r k. spelled r (omega (arith, magnitude r n k few))) b.1 h

corners_spelled : (b : Option Corners) → AreCorners b → SpelledCorners numbers_inherit b
corners_spelled None h = tt
corners_spelled (Some b) h = (place_spelled None b.0 h.0, place_spelled None b.1 h.1)

feature_numbers : (t : Contents) (n : ℕ) → 0 < n → length t.arcs < 2 ^ 63 → (f : TopoFeature) → FineFeature t.transform t.arcs f × FeatureHasNumbers f → option_nesting f.shape ≤ n → FeatureHas numbers_inherit n f
feature_numbers t n some few f h le = record {
  some = some;
  nests = le;
  id = id_has numbers_inherit f.id (λ t e. tt) (λ t e. subst IdHasNumbers e h.1.0);
  properties = λ k m. properties_have numbers_inherit f.properties k (λ ms e. subst PropertiesHaveNumbers e h.1.1);
  cells = places_spelled t.transform (option_places f.shape) h.0.0.1;
  lines = all_weaker (IsLineOrRing t.arcs) (SpelledLine numbers_inherit) (λ b k. refs_spelled (length t.arcs) few b k.0) (option_lines_and_rings f.shape) h.0.1;
}

pub topology_numbers : ValueHasNumbers
unfolding deepest
topology_numbers t h m =
    let known = all_two (FineFeature t.transform t.arcs) FeatureHasNumbers (λ f. FineFeature t.transform t.arcs f × FeatureHasNumbers f) (λ f a b. (a, b)) (objects_features t.objects) (features_fine t h.0) m in
    topology_has numbers_inherit (deepest t) t (record {
      names = all_of (λ (o : List ℕ × TopoObject). Unit {0}) t.objects (λ o k. tt);
      features = all_two (λ f. FineFeature t.transform t.arcs f × FeatureHasNumbers f) (λ f. option_nesting f.shape ≤ deepest t) (FeatureHas numbers_inherit (deepest t)) (feature_numbers t (deepest t) (omega arith) h.1) (objects_features t.objects) known (nest t);
      transform = transform_numbers numbers_inherit transform_text t.transform h.0.transform;
      corners = corners_spelled (bounds t) (corners_are t h.0);
      arcs = all_weaker (IsArc t.transform) (λ cs. AllByRecursion (SpelledCell numbers_inherit) (written_cells t.transform cs)) (arc_spelled t.transform) t.arcs h.0.arcs;
    })

-- ---- that it is UTF-8

ascii_spelled : (u : ℤ) → Spelled utf8_inherits u
ascii_spelled u decimals = units_utf8 u decimals

feature_utf8 : (n : ℕ) → 0 < n → (f : TopoFeature) → FeatureHasNumbers f × FeatureHasTexts f → option_nesting f.shape ≤ n → FeatureHas utf8_inherits n f
feature_utf8 n some f h le = record {
  some = some;
  nests = le;
  id = id_has utf8_inherits f.id (λ t e. subst IdHasTexts e h.1.0) (λ t e. number_utf8 (subst IdHasNumbers e h.0.0));
  properties = λ k m. properties_have utf8_inherits f.properties k (λ ms e. parts_utf8 (j.Object ms) (subst PropertiesHaveNumbers e h.0.1) (subst PropertiesHaveTexts e h.1.1));
  cells = each_cell utf8_inherits ascii_spelled (option_places f.shape);
  lines = each_line utf8_inherits ascii_spelled (option_lines_and_rings f.shape);
}

pub topology_utf8 : (t : Contents) → IsTransformed t.transform → FeaturesHaveNumbers t → ContentsHaveTexts t → AreUtf8 (topology_value t)
unfolding deepest
topology_utf8 t transform numbers texts =
    let known = all_two FeatureHasNumbers FeatureHasTexts (λ f. FeatureHasNumbers f × FeatureHasTexts f) (λ f n h. (n, h)) (objects_features t.objects) numbers texts.features in
    topology_has utf8_inherits (deepest t) t (record {
      names = texts.names;
      features = all_two (λ f. FeatureHasNumbers f × FeatureHasTexts f) (λ f. option_nesting f.shape ≤ deepest t) (FeatureHas utf8_inherits (deepest t)) (feature_utf8 (deepest t) (omega arith)) (objects_features t.objects) known (nest t);
      transform = transform_numbers utf8_inherits (λ p k. number_utf8 (transform_text p k)) t.transform transform;
      corners = each_corner utf8_inherits ascii_spelled (bounds t);
      arcs = all_of (λ cs. AllByRecursion (SpelledCell utf8_inherits) (written_cells t.transform cs)) t.arcs (λ cs k. each_cell utf8_inherits ascii_spelled (written_cells t.transform cs));
    })

-- The shapes that are written are read back.
use Rattle.std.proofs.Common.{◌≡◌, ℕ, ℤ, ◌<◌, Bool, true, false, List, [], ◌∷◌, length, map, Option, Some, Ok, refl, sym, ap, ◌∙◌, subst, arith}
use Rattle.std.specs.Prelude.{codes, ◌^◌, ◌&&◌}
use Rattle.topojson_meaning.proofs.Names.{and_parts, AllByRecursion, list_all, made_of_some, lines_and_rings-line, lines_and_rings-lines, lines_and_rings-area, lines_and_rings-areas, lines_and_rings-group, by_kinds, joined, Point, lines_and_rings, Json, is_some_list, geometrical_at, full_at, places_at, single_at, full-group, TopoShape, IsPlace, IsArc, is_full, places, is_single, Transform, elements_place, geometry_type, part_name, is_collection, type_in, type_of, object_type, some_elements, named, need, Reader, ◌>>=◌, if_some, places_in, arcs_in, places_shape, arcs_shape, shape, part, typed_shape, geometry, GeometryType, Places, Arcs, Collection}
use Rattle.json_value.specs.declared.json.Json.TheVariants as j
use Rattle.geometry.specs.declared.shape.Geometry.TheVariants as g
use Rattle.geometry.proofs.Agreement.{all_left, all_right}
use Rattle.topojson_types.specs.Values.{Members, number_value, cell_places, cell_value, whole_value, line_value, lines_value, typed, inner_value, geometrical}
use Rattle.topojson_meaning.specs.declared.geometry_type.ArcsType.TheVariants as of_arcs
use Rattle.topojson_meaning.specs.declared.geometry_type.PlacesType.TheVariants as of_places
use Rattle.topojson_meaning.proofs.ArcsBack.{elements_place_back, each_place_back}
use Rattle.topojson_meaning.proofs.LinesBack.{some_elements_back, line_in_back, lines_back, polygon_in_back, polygons_back}
use Rattle.topojson_meaning.proofs.ShapeKinds.{geometrical-group}
use Rattle.topojson_meaning.proofs.Steps.{Gives, then_gives, pure_gives, kept_gives}
use Rattle.topojson_meaning.proofs.Unrolled.{shape_object, shapes_array}
use Rattle.topojson_meaning.proofs.ValidKept.{IsLineOrRing, IsLine, IsArea}

-- ---- lists that are full

full_lines : (arcs : List (List Point)) (closed : Bool) (ls : List (List ℤ)) → list_all is_some_list ls ≡ true → AllByRecursion (IsLineOrRing arcs) (map (λ l. (closed, l)) ls) → AllByRecursion (IsLine arcs closed) ls
full_lines arcs closed [] f h = tt
full_lines arcs closed (l ∷ ls) f h = let p = and_parts (is_some_list l) (list_all is_some_list ls) f in ((p.0, h.0), full_lines arcs closed ls p.1 h.1)

full_area : (arcs : List (List Point)) (rs : List (List ℤ)) → (is_some_list rs && list_all is_some_list rs) ≡ true → AllByRecursion (IsLineOrRing arcs) (map (λ l. (true, l)) rs) → IsArea arcs rs
full_area arcs rs f h = let p = and_parts (is_some_list rs) (list_all is_some_list rs) f in (p.0, full_lines arcs true rs p.1 h)

full_areas : (arcs : List (List Point)) (areas : List (List (List ℤ))) → list_all (λ rs. is_some_list rs && list_all is_some_list rs) areas ≡ true
    → AllByRecursion (IsLineOrRing arcs) (joined (map (map (λ l. (true, l))) areas)) → AllByRecursion (IsArea arcs) areas
full_areas arcs [] f h = tt
full_areas arcs (rs ∷ areas) f h = grind (arith, and_parts, full_area, all_left, IsLineOrRing, all_right, full_areas arcs areas)

-- ---- what is said of a shape

-- no list is empty but a collection's, its cells may stand there, and its lines and rings are sound
abbrev pub Fine : Option Transform → List (List Point) → TopoShape → Type 0
Fine transform arcs s = (is_full s ≡ true) × AllByRecursion (IsPlace transform) (places s) × AllByRecursion (IsLineOrRing arcs) (lines_and_rings s)

-- it is written with the name of its type and one member, which is read as it
pub record Parts (transform : Option Transform) (arcs : List (List Point)) (s : TopoShape) : Type 0 where
  pub type : GeometryType
  pub name : List ℕ
  pub value : Json
  pub is : geometrical (cell_value transform) s ≡ typed name (part_name type) value
  pub known : geometry_type name ≡ Some type
  pub reads : Gives (part transform arcs type value) (Some s)
  pub single : is_single s ≡ true → is_collection (Some type) ≡ false

-- ---- members

-- the type of an object with these members
pub named_type : (ms : Members) (name : List ℕ) (type : GeometryType) → need (codes "type") ms ≡ Ok (j.Text name) → geometry_type name ≡ Some type → object_type ms ≡ Ok (Some type)
unfolding object_type type_of
named_type ms name type e known = rw e (ap type_in (j.outs-Text name) ∙ rw known refl)

inner_members : (type : GeometryType) (t v : Json) → (need (codes "type") ((codes "type", t) ∷ ((part_name type, v) ∷ [])) ≡ Ok t) × (need (part_name type) ((codes "type", t) ∷ ((part_name type, v) ∷ [])) ≡ Ok v)
unfolding need named
inner_members type t v = grind (arith, type)

-- ---- shapes

module _ (transform : Option Transform) (arcs : List (List Point)) (long : AllByRecursion (IsArc transform) arcs) (few : length arcs < 2 ^ 63) where
  -- what is read of some elements
  elements_back : {A : Type 0} (f : List Json → Reader (Option TopoShape)) (value : A → Json) (xs : List A) (s : TopoShape) → is_some_list xs ≡ true → Gives (f (map value xs)) (Some s)
      → Gives (some_elements (j.Array (map value xs)) >>= if_some f) (Some s)
  elements_back f value xs s e h = then_gives (some_elements (j.Array (map value xs))) (if_some f) (Some (map value xs)) (Some s) (some_elements_back value xs e) h

  abbrev Back : TopoShape → Type 0
  Back s = Fine transform arcs s → Parts transform arcs s

  -- the member that a shape is made of is read
  pub typed_back : (type : GeometryType) (ms : Members) (v : Json) (x : Option TopoShape) → need (part_name type) ms ≡ Ok v → Gives (part transform arcs type v) x → Gives (typed_shape transform arcs (Some type) ms) x
  unfolding typed_shape
  typed_back type ms v x e h = pure_gives (need (part_name type) ms) (part transform arcs type) v x e h

  -- a geometry inside a collection is read back
  inner_back : (s : TopoShape) → Parts transform arcs s → Gives (shape transform arcs (inner_value (geometrical (cell_value transform) s))) (Some s)
  unfolding geometry
  inner_back s p =
      let ms : Members = (codes "type", j.Text p.name) ∷ ((part_name p.type, p.value) ∷ []) in
      let found = inner_members p.type (j.Text p.name) p.value in
      let read : Gives (geometry transform arcs ms) (Some s) =
      pure_gives (object_type ms) (λ t. typed_shape transform arcs t ms) (Some p.type) (Some s) (named_type ms p.name p.type found.0 p.known) (typed_back p.type ms p.value (Some s) found.1 p.reads) in
      λ c. rw (p.is, shape_object transform arcs ms) (read c)

  -- a shape that is no collection, by what it is written as
  made : (s : TopoShape) (type : GeometryType) (name : List ℕ) (v : Json) → geometrical (cell_value transform) s ≡ typed name (part_name type) v → geometry_type name ≡ Some type → is_collection (Some type) ≡ false
      → Gives (part transform arcs type v) (Some s) → Parts transform arcs s
  made s type name v is known e reads = record { type = type; name = name; value = v; is = is; known = known; reads = reads; single = λ _. e }

  each_parts : (ss : List TopoShape) → AllByRecursion Back ss → list_all is_full ss ≡ true → AllByRecursion (IsPlace transform) (joined (map places ss)) → AllByRecursion (IsLineOrRing arcs) (joined (map lines_and_rings ss))
      → AllByRecursion (Parts transform arcs) ss
  each_parts [] all f h k = tt
  each_parts (s ∷ ss) all f h k = grind (arith, and_parts, all_left, IsLineOrRing, all_right, each_parts ss all.1)

  group_back : (ss : List TopoShape) → AllByRecursion (Parts transform arcs) ss → Gives (part transform arcs Collection (j.Array (map (λ s. inner_value (geometrical (cell_value transform) s)) ss))) (Some (g.Group ss))
  unfolding part
  group_back ss all c = rw (shapes_array transform arcs (map (λ s. inner_value (geometrical (cell_value transform) s)) ss), kept_gives (Parts transform arcs) (λ s. inner_value (geometrical (cell_value transform) s)) (shape transform arcs) inner_back ss all c) refl

  pub shape_parts : (s : TopoShape) → Fine transform arcs s → Parts transform arcs s
  unfolding geometry_type part places_shape places_in arcs_shape arcs_in elements_place
  shape_parts = by_kinds Back (record {
    point = λ p h. let back = elements_place_back transform p (subst (AllByRecursion (IsPlace transform)) (places_at.point p) h.1).0 in
        made (g.Point p) (Places of_places.Point) (codes "Point") (cell_value transform p) ((geometrical_at (cell_value transform)).point p) refl refl
        (elements_back (places_in transform of_places.Point) (number_value (cell_places transform)) (p.x ∷ (p.y ∷ [])) (g.Point p) refl (λ c. rw (back c) refl));
    points = λ ps h.
        let f : is_some_list ps ≡ true = sym (full_at.points ps) ∙ h.0 in
        let back = each_place_back transform ps (subst (AllByRecursion (IsPlace transform)) (places_at.points ps) h.1) in
        made (g.MultiPoint ps) (Places of_places.MultiPoint) (codes "MultiPoint") (j.Array (map (cell_value transform) ps)) ((geometrical_at (cell_value transform)).points ps) refl refl
        (elements_back (places_in transform of_places.MultiPoint) (cell_value transform) ps (g.MultiPoint ps) f (λ c. rw (back c, made_of_some g.MultiPoint ps f) refl));
    line = λ refs h.
        let back = line_in_back transform arcs long few refs (subst (AllByRecursion (IsLineOrRing arcs)) (lines_and_rings-line Point (List ℤ) refs) h.2).0 in
        made (g.Line refs) (Arcs of_arcs.LineString) (codes "LineString") (line_value refs) ((geometrical_at (cell_value transform)).line refs) refl refl
        (elements_back (arcs_in arcs of_arcs.LineString) whole_value refs (g.Line refs) (sym (full_at.line refs) ∙ h.0) (λ c. rw (back c) refl));
    lines = λ ls h.
        let f = and_parts (is_some_list ls) (list_all is_some_list ls) (sym (full_at.lines ls) ∙ h.0) in
        let back = lines_back transform arcs long few ls (full_lines arcs false ls f.1 (subst (AllByRecursion (IsLineOrRing arcs)) (lines_and_rings-lines Point (List ℤ) ls) h.2)) in
        made (g.Lines ls) (Arcs of_arcs.MultiLineString) (codes "MultiLineString") (lines_value ls) ((geometrical_at (cell_value transform)).lines ls) refl refl
        (elements_back (arcs_in arcs of_arcs.MultiLineString) line_value ls (g.Lines ls) f.0 (λ c. rw (back c, made_of_some g.Lines ls f.0) refl));
    area = λ rs h.
        let k = full_area arcs rs (sym (full_at.area rs) ∙ h.0) (subst (AllByRecursion (IsLineOrRing arcs)) (lines_and_rings-area Point (List ℤ) rs) h.2) in
        made (g.Area rs) (Arcs of_arcs.Polygon) (codes "Polygon") (lines_value rs) ((geometrical_at (cell_value transform)).area rs) refl refl
        (elements_back (arcs_in arcs of_arcs.Polygon) line_value rs (g.Area rs) k.0 (λ c. rw (polygon_in_back transform arcs long few rs k c) refl));
    areas = λ areas h.
        let f = and_parts (is_some_list areas) (list_all (λ rs. is_some_list rs && list_all is_some_list rs) areas) (sym (full_at.areas areas) ∙ h.0) in
        let back = polygons_back transform arcs long few areas (full_areas arcs areas f.1 (subst (AllByRecursion (IsLineOrRing arcs)) (lines_and_rings-areas Point (List ℤ) areas) h.2)) in
        made (g.Areas areas) (Arcs of_arcs.MultiPolygon) (codes "MultiPolygon") (j.Array (map lines_value areas)) ((geometrical_at (cell_value transform)).areas areas) refl refl
        (elements_back (arcs_in arcs of_arcs.MultiPolygon) lines_value areas (g.Areas areas) f.0 (λ c. rw (back c, made_of_some g.Areas areas f.0) refl));
    group = λ ss all h. record {
      type = Collection;
      name = codes "GeometryCollection";
      value = j.Array (map (λ s. inner_value (geometrical (cell_value transform) s)) ss);
      is = geometrical-group (cell_value transform) ss;
      known = refl;
      reads = group_back ss (each_parts ss all (sym (full-group ss) ∙ h.0) (subst (AllByRecursion (IsPlace transform)) (places_at.group ss) h.1) (subst (AllByRecursion (IsLineOrRing arcs)) (lines_and_rings-group Point (List ℤ) ss) h.2));
      single = λ e. let f : false ≡ true = sym (single_at.group ss) ∙ e in absurd cc;
    };
  })

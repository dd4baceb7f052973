-- A topology on a grid decodes to what the topology decodes to whose positions its cells stand for.
use Rattle.std.proofs.Common.{rules, arith, ◌≡◌, ℕ, ℤ, bytes_eq, Bool, List, [], ◌∷◌, map, Option, None, Some, refl, ap, ◌∙◌, subst}
use Rattle.build_meaning.proofs.Names.{AllByRecursion, all_left, all_right, map_agree, prune-point, prune-points, prune-line, prune-lines, prune-area, prune-areas, prune-group, composed, by_kinds, map_some, then_some, some_of, joined, Point, prune, places_at, decoded_line, decoded_shape, decoded_feature, decoded_object, of_name, decoded, TopoShape, object_features, place_on, TopoFeature, TopoObject, Transform, feature_celled, object_celled, objects_celled, celled, LiesBack, EachCell, CelledDecodes, places, option_places, features_places, objects_places, BuiltDecodesOnGrid, DecodesBack, DecodesBackOnGrid, NoneIsNew, all_weaker, built}
use Rattle.build_meaning.proofs.BuiltCells.{built_cells}
use Rattle.build_meaning.proofs.Celled.{all_lie_back}
use Rattle.build_meaning.proofs.Renumbered.{built_has_no_transform}
use Rattle.geometry.specs.declared.shape.Geometry.TheVariants as g

-- ---- shapes whose Points and MultiPoints are placed alike

module _ {M : Type 0} (one two : Point → Point) (kept : Bool → List ℤ → Option M) where
  abbrev Same : Point → Type 0
  Same p = one p ≡ two p

  abbrev Agrees : TopoShape → Type 0
  Agrees s = AllByRecursion Same (places s) → prune one kept s ≡ prune two kept s

  at_point : (p : Point) → Agrees (g.Point p)
  at_point p h = grind (arith, places_at.point, prune-point)

  at_points : (ps : List Point) → Agrees (g.MultiPoint ps)
  at_points ps h =
      let k : AllByRecursion Same ps = subst (AllByRecursion Same) (places_at.points ps) h in
      rw (prune-points one kept ps, prune-points two kept ps) (ap (λ qs. Some (g.MultiPoint qs)) (map_agree one two ps k))

  members : (ss : List TopoShape) → AllByRecursion Agrees ss → AllByRecursion Same (joined (map places ss)) → some_of (prune one kept) ss ≡ some_of (prune two kept) ss
  members [] all h = refl
  members (s ∷ ss) all h = rw (all.0 (all_left Same (places s) (joined (map places ss)) h), members ss all.1 (all_right Same (places s) (joined (map places ss)) h)) refl

  pub placed_alike : (s : TopoShape) → AllByRecursion Same (places s) → prune one kept s ≡ prune two kept s
  placed_alike = by_kinds Agrees (record {
    point = at_point;
    points = at_points;
    line = λ l h. rw (prune-line one kept l, prune-line two kept l) refl;
    lines = λ ls h. rw (prune-lines one kept ls, prune-lines two kept ls) refl;
    area = λ rs h. rw (prune-area one kept rs, prune-area two kept rs) refl;
    areas = λ areas h. rw (prune-areas one kept areas, prune-areas two kept areas) refl;
    group = (λ ss all h. grind (
      arith,
      prune-group one kept ss,
      prune-group two kept ss,
      members ss all (subst (AllByRecursion Same)
          (places_at.group ss) h),
    ));
  })

-- ---- what is decoded of each object

module _ (transform : Transform) (cell : Point → Point) (arcs : List (List Point)) where
  abbrev Lies : List Point → Type 0
  Lies ps = AllByRecursion (LiesBack transform cell) ps

  abbrev lies : Point → Point
  lies = place_on transform

  abbrev line_of : Bool → List ℤ → Option (List Point)
  line_of closed refs = Some (decoded_line arcs closed refs)

  shape_same : (s : Option TopoShape) → Lies (option_places s) → then_some (decoded_shape lies arcs) (then_some (prune cell (λ closed refs. Some refs)) s) ≡ then_some (decoded_shape (λ p. p) arcs) s
  shape_same None h = refl
  shape_same (Some s) h = composed cell lies (λ closed refs. Some refs) line_of s ∙ placed_alike (λ p. lies (cell p)) (λ p. p) line_of s h

  features_same : (fs : List TopoFeature) → Lies (features_places fs) → map (decoded_feature lies arcs) (map (feature_celled cell) fs) ≡ map (decoded_feature (λ p. p) arcs) fs
  features_same [] h = refl
  features_same (f ∷ fs) h = grind (arith, shape_same, all_left, all_right, features_same fs (all_right (LiesBack transform cell) (option_places f.shape) (features_places fs) h))

  object_same : (o : TopoObject) → Lies (features_places (object_features o)) → decoded_object lies arcs (object_celled cell o) ≡ decoded_object (λ p. p) arcs o
  object_same o h = grind (arith, shape_same, all_left, features_same)

  name_same : (name : List ℕ) (os : List (List ℕ × TopoObject)) → Lies (objects_places os)
      → map_some (decoded_object lies arcs) (of_name name (objects_celled cell os)) ≡ map_some (decoded_object (λ p. p) arcs) (of_name name os)
  name_same name [] h = refl
  name_same name (o ∷ os) h = grind (
    arith,
    bytes_eq,
    object_same,
    all_left,
    all_right,
    name_same name os (all_right
        (LiesBack transform cell) (features_places (object_features o.1)) (objects_places os) h),
  )

-- ---- topologies

plain_same : (transform : Transform) (cell : Point → Point) (os : List (List ℕ × TopoObject)) (arcs : List (List Point)) (name : List ℕ) →
    EachCell (LiesBack transform cell) (record { objects = os; arcs = arcs; transform = None })
    → decoded (celled transform cell (record { objects = os; arcs = arcs; transform = None })) name ≡ decoded (record { objects = os; arcs = arcs; transform = None }) name
unfolding decoded celled
plain_same transform cell os arcs name h = search (rules, all_lie_back, name_same)

pub celled_decodes : CelledDecodes
celled_decodes transform cell y name plain h = grind (arith, plain_same)

-- ---- what is built of layers

pub built_decodes : NoneIsNew → BuiltDecodesOnGrid
built_decodes none transform cell t limit ls name lie = celled_decodes transform cell (built t limit ls) name (built_has_no_transform t limit ls) (built_cells none (LiesBack transform cell) t limit ls lie)

pub decodes_back : DecodesBack → NoneIsNew → DecodesBackOnGrid
decodes_back back none transform cell t limit ls sound distinct lie = grind (arith, all_weaker, built_decodes)

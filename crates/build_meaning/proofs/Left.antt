-- What holds of each cell and of each feature of a topology holds of what is left of it, where rings are protected too, and what stays.
use Rattle.std.proofs.Common.{◌≡◌, ℕ, List, map, Option, refl, ap, subst, ◌∙◌, suc, ◌+◌, ◌≤◌, max, Bool, [], ◌∷◌, None, Some, sym, arith}
use Rattle.build_meaning.proofs.Names.{fun_ext, map-map, TopoShape, object_features, TopoFeature, TopoObject, trimmed, labels, SimplifiedKeeps, no_protection, spared_by, SparedKeeps, simplified_by, AllByRecursion, by_kinds, map_some, Point, Geometry, nesting_at, option_pruned_nests, nesting, option_nesting, properties_nesting, placed_arcs, Contents, is_used, line_renumbered, EachCell, all_features, along, into_part, unmarked, rings_marked, marked, Protection, MarkedRefs, sparing, shape_marked, feature_spared, spared_whole, SparedCellsAreOn, SparedNestsNoDeeper, IsOn, Refs, feature_pruned, large_refs, retained_arcs, option_places, objects_pruned}
use Rattle.json_value.specs.Depth.{greatest}
use Rattle.json_value.specs.declared.json.Json.{Json}
use Rattle.geojson_types.specs.declared.id.Id.{Id}
use Rattle.build_meaning.proofs.Marks.{marked_at, marked-group}
use Rattle.build_meaning.proofs.Reshaped.{Objects, at_name, feature_with, object_with, objects_with, object_features_with, pruned_shape, features_of, objects_over, features_hold}
use Rattle.build_meaning.proofs.Spared.{spared_shape, whole_plain}
use Rattle.build_meaning.proofs.ValidPruned.{option_stay, places_stay}
use Rattle.build_meaning.proofs.ValidRetained.{all_retained}
use Rattle.build_meaning.proofs.ValidTrimmed.{all_kept}

-- ---- cells

module _ (X : Point → Type 0) where
  abbrev Have : List Point → Type 0
  Have ps = AllByRecursion X ps

  arcs_have : (kept : List (List ℕ)) (arcs : List (List Point)) → AllByRecursion Have arcs → AllByRecursion Have (retained_arcs kept arcs)
  arcs_have [] arcs h = tt
  arcs_have (is ∷ kept) [] h = tt
  arcs_have (is ∷ kept) (cells ∷ arcs) h = (all_retained X is cells h.0, arcs_have kept arcs h.1)

  shape_has : (protects : Protection) (kept : MarkedRefs) (s : Option TopoShape) → Have (option_places s) → Have (option_places (spared_shape protects kept s))
  shape_has protects kept None h = h
  shape_has protects kept (Some s) h = places_stay (λ p. p) kept X s (map_some (λ x. x.path) (protects s)) h

  pub spared_cells : (protects : Protection) (kept : List (List ℕ)) (limit : ℕ) (y : Contents) → EachCell X y → EachCell X (spared_by protects kept limit y)
  unfolding spared_by trimmed
  spared_cells protects kept limit y h =
      let whole : Contents = spared_whole protects kept limit y in
      let used : ℕ → Bool = is_used whole.objects in
      let left : MarkedRefs = sparing (large_refs limit (placed_arcs y.transform (retained_arcs kept y.arcs))) in (
        all_kept Have used 0 (retained_arcs kept y.arcs) (arcs_have kept y.arcs h.0),
        objects_over X X option_places option_places (pruned_shape (λ p. p) (line_renumbered used)) (option_stay (λ p. p) (line_renumbered used) X) whole.objects
            (objects_over X X option_places option_places (spared_shape protects left) (shape_has protects left) y.objects h.1),
      )

-- ---- features

module _ (X : TopoFeature → Type 0) (stays : (refs : Refs) (f : TopoFeature) → X f → X (feature_pruned refs f)) where
  again : (refs : Refs) (os : Objects) → AllByRecursion X (features_of os) → AllByRecursion X (features_of (objects_pruned refs os))
  again refs os h = features_hold X (pruned_shape (λ p. p) refs) (stays refs) os h

  spared_features : (protects : Protection) → ((kept : MarkedRefs) (f : TopoFeature) → X f → X (feature_spared protects kept f)) → (kept : List (List ℕ)) (limit : ℕ) (y : Contents)
      → AllByRecursion X (all_features y) → AllByRecursion X (all_features (spared_by protects kept limit y))
  unfolding spared_by trimmed
  spared_features protects spared kept limit y h =
      let left : MarkedRefs = sparing (large_refs limit (placed_arcs y.transform (retained_arcs kept y.arcs))) in
      again (line_renumbered (is_used (spared_whole protects kept limit y).objects)) (spared_whole protects kept limit y).objects (features_hold X (spared_shape protects left) (spared left) y.objects h)

-- ---- how deep features nest

module _ {P L : Type 0} where
  abbrev SameDepth : Geometry P L L → Type 0
  SameDepth s = (way : Option (List ℕ)) → nesting (marked s way) ≡ nesting s

  members_depth : (i : ℕ) (ss : List (Geometry P L L)) (way : Option (List ℕ)) → AllByRecursion SameDepth ss → greatest (map nesting (along marked i ss way)) ≡ greatest (map nesting ss)
  members_depth i [] way all = refl
  members_depth i (s ∷ ss) way all = rw (all.0 (into_part i way), members_depth (suc i) ss way all.1) refl

  -- a mark makes no shape deeper
  pub marked_depth : (s : Geometry P L L) (way : Option (List ℕ)) → nesting (marked s way) ≡ nesting s
  marked_depth = by_kinds SameDepth (record {
    point = λ p way. ap nesting (ap (λ f. f way) ((marked_at P L).point p)) ∙ (nesting_at P (Bool × L)).point p ∙ sym ((nesting_at P L).point p);
    points = λ ps way. ap nesting (ap (λ f. f way) ((marked_at P L).points ps)) ∙ (nesting_at P (Bool × L)).points ps ∙ sym ((nesting_at P L).points ps);
    line = λ l way. ap nesting (ap (λ f. f way) ((marked_at P L).line l)) ∙ (nesting_at P (Bool × L)).line (unmarked l) ∙ sym ((nesting_at P L).line l);
    lines = λ ls way. ap nesting (ap (λ f. f way) ((marked_at P L).lines ls)) ∙ (nesting_at P (Bool × L)).lines (map unmarked ls) ∙ sym ((nesting_at P L).lines ls);
    area = λ rs way. ap nesting (ap (λ f. f way) ((marked_at P L).area rs)) ∙ (nesting_at P (Bool × L)).area (rings_marked rs way) ∙ sym ((nesting_at P L).area rs);
    areas = λ areas way. ap nesting (ap (λ f. f way) ((marked_at P L).areas areas)) ∙ (nesting_at P (Bool × L)).areas (along rings_marked 0 areas way) ∙ sym ((nesting_at P L).areas areas);
    group = λ ss all way. ap nesting (marked-group ss way) ∙ (nesting_at P (Bool × L)).group (along marked 0 ss way) ∙ ap (λ n. 2 + n) (members_depth 0 ss way all) ∙ sym ((nesting_at P L).group ss);
  })

abbrev NestsTo : ℕ → TopoFeature → Type 0
NestsTo n f = max (option_nesting f.shape) (1 + properties_nesting f.properties) ≤ n

module _ (protects : Protection) (n : ℕ) where
  pruned_nests : (refs : Refs) (f : TopoFeature) → NestsTo n f → NestsTo n (feature_pruned refs f)
  pruned_nests refs f h = omega (arith, h, option_pruned_nests (λ (p : Point). p) refs f.shape)

  shape_nests : (kept : MarkedRefs) (s : Option TopoShape) → option_nesting (spared_shape protects kept s) ≤ option_nesting s
  shape_nests kept None = omega arith
  shape_nests kept (Some s) =
      omega (arith, option_pruned_nests (λ (p : Point). p) kept (Some (shape_marked protects s)), marked_depth s (map_some (λ x. x.path) (protects s)))

  spared_nests : (kept : MarkedRefs) (f : TopoFeature) → NestsTo n f → NestsTo n (feature_spared protects kept f)
  spared_nests kept f h = omega (arith, h, shape_nests kept f.shape)

  pub nests_no_deeper : (kept : List (List ℕ)) (limit : ℕ) (y : Contents) → AllByRecursion (NestsTo n) (all_features y) → AllByRecursion (NestsTo n) (all_features (spared_by protects kept limit y))
  nests_no_deeper kept limit y h = spared_features (NestsTo n) pruned_nests protects spared_nests kept limit y h

-- ---- both

pub cells_are_on : SparedCellsAreOn
cells_are_on g protects kept limit y h = spared_cells (IsOn g) protects kept limit y h

pub nests : SparedNestsNoDeeper
nests n protects kept limit y h = nests_no_deeper protects n kept limit y h

-- ---- names, identifiers and properties stay

abbrev Label : Type 0
Label = Option Id × Option (List (List ℕ × Json))

abbrev label : TopoFeature → Label
label f = (f.id, f.properties)

abbrev named : List ℕ × TopoObject → List ℕ × List Label
named o = (o.0, map label (object_features o.1))

labels_stay : (h : Option TopoShape → Option TopoShape) (os : Objects) → map named (objects_with h os) ≡ map named os
labels_stay h os =
    map-map named (at_name (object_with h)) os
    ∙ ap (λ (k : TopoObject → List Label). map (λ o. (o.0, k o.1)) os) (fun_ext (λ o. ap (map label) (object_features_with h o) ∙ map-map label (feature_with h) (object_features o)))

pub spared_keeps : SparedKeeps
unfolding spared_by trimmed
spared_keeps protects kept limit y = (labels_stay (pruned_shape (λ p. p) _) _ ∙ labels_stay (spared_shape protects _) y.objects, refl)

pub simplified_keeps : SimplifiedKeeps
unfolding simplified_by spared_by
simplified_keeps kept limit y =
    subst (λ whole. (labels (trimmed whole) ≡ labels y) × ((trimmed whole).transform ≡ y.transform)) (whole_plain kept limit y) (spared_keeps no_protection kept limit y)

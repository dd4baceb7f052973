-- A topology on a grid is valid where the topology is whose positions its cells stand for.
use Rattle.std.proofs.Common.{rules, arith, ◌≡◌, ℕ, ◌≤◌, ℤ, true, List, [], ◌∷◌, map, Option, None, Some, refl, sym, ap, ◌∙◌, subst}
use Rattle.build_meaning.proofs.Names.{length-map, AllByRecursion, all_left, all_right, all_two, all_map, all_weaker, or_empty, arc_at, first_of, last_of, Meet, Closes, map_some, Point, IsPosition, is_some_list, Contents, object_features, IsTransform, TopoFeature, TopoObject, Transform, feature_celled, objects_celled, celled, IsOnGrid, EachCell, CelledIsValid, Refs, option_places, features_places, objects_places, IsPlace, IsFeature, IsObject, IsArc, IsTopology, BuiltIsValidOnGrid, IsValid, NoneIsNew}
use Rattle.elimination_meaning.proofs.Direction.{map_reverse}
use Rattle.build_meaning.proofs.BuiltCells.{built_cells}
use Rattle.build_meaning.proofs.Celled.{at_map, objects_lines}
use Rattle.build_meaning.proofs.Renumbered.{built_has_no_transform}
use Rattle.build_meaning.proofs.ValidPruned.{GivesSome, option_full, option_stay, option_single}

-- ---- lines of mapped arcs

module _ (f : Point → Point) where
  abbrev once_more : List Point → List Point
  once_more = map f

  first_map : (xs : List Point) → first_of (once_more xs) ≡ map_some f (first_of xs)
  first_map xs = grind arith

  last_map : (xs : List Point) → last_of (once_more xs) ≡ map_some f (last_of xs)
  last_map [] = refl
  last_map (x ∷ []) = refl
  last_map (x ∷ (y ∷ xs)) = last_map (y ∷ xs)

  pub meet_map : (xs : List (List Point)) → Meet xs → Meet (map once_more xs)
  meet_map [] h = tt
  meet_map (p ∷ []) h = tt
  meet_map (p ∷ (q ∷ ps)) h = (last_map p ∙ ap (map_some f) h.0 ∙ sym (first_map q), meet_map (q ∷ ps) h.1)

  abbrev EndsAt : Option Point → List (List Point) → Type 0
  EndsAt o xs = elim (last_of xs) [ None ↦ ⊥ | Some q ↦ last_of q ≡ o ]

  end_map : (o : Option Point) (p : List Point) (ps : List (List Point)) → EndsAt o (p ∷ ps) → EndsAt (map_some f o) (map once_more (p ∷ ps))
  end_map o p [] h = last_map p ∙ ap (map_some f) h
  end_map o p (q ∷ ps) h = end_map o q ps h

  close_map : (xs : List (List Point)) → Closes xs → Closes (map once_more xs)
  close_map [] h = h
  close_map (p ∷ ps) h = subst (λ o. EndsAt o (map once_more (p ∷ ps))) (sym (first_map p)) (end_map (first_of p) p ps h)

  empty_map : (o : Option (List Point)) → or_empty (map_some once_more o) ≡ once_more (or_empty o)
  empty_map o = grind arith

  arc_map : (arcs : List (List Point)) (r : ℤ) → arc_at (map once_more arcs) r ≡ once_more (arc_at arcs r)
  arc_map arcs r = grind (arith, at_map, empty_map, map_reverse)

  pub line_map : (arcs : List (List Point)) (refs : List ℤ) → map (arc_at (map once_more arcs)) refs ≡ map once_more (map (arc_at arcs) refs)
  line_map arcs [] = refl
  line_map arcs (r ∷ refs) = rw (arc_map arcs r, line_map arcs refs) refl

-- ---- cells

module _ (transform : Transform) (cell : Point → Point) where
  abbrev On : Point → Type 0
  On = IsOnGrid transform cell

  abbrev AllOn : List Point → Type 0
  AllOn ps = AllByRecursion On ps

  abbrev IsThere : Point → Type 0
  IsThere = IsPlace (Some transform)

  all_there : (ps : List Point) → AllByRecursion IsPosition ps → AllOn ps → AllByRecursion (λ p. IsThere (cell p)) ps
  all_there = all_two IsPosition On (λ p. IsThere (cell p)) (λ p h k. (k.0, subst IsPosition (sym k.1) h))

  arc_there : (a : List Point) → IsArc None a → AllOn a → IsArc (Some transform) (map cell a)
  arc_there a h k = (subst (λ n. 2 ≤ n) (sym (length-map a cell)) h.0, all_map IsThere cell a (all_there a h.1 k))

  -- ---- features and objects

  abbrev same_refs : Refs
  same_refs closed refs = Some refs

  some_same : GivesSome same_refs
  some_same closed l h m e = let same : l ≡ m = cc in subst (λ z. is_some_list z ≡ true) same h

  feature_there : (f : TopoFeature) → IsFeature None f → AllOn (option_places f.shape) → IsFeature (Some transform) (feature_celled cell f)
  feature_there f h k = (option_full cell same_refs some_same f.shape h.0, option_stay cell same_refs IsThere f.shape (all_there (option_places f.shape) h.1 k))

  features_there : (fs : List TopoFeature) → AllByRecursion (IsFeature None) fs → AllOn (features_places fs) → AllByRecursion (IsFeature (Some transform)) (map (feature_celled cell) fs)
  features_there [] h k = tt
  features_there (f ∷ fs) h k = search (rules, feature_there, all_left, all_right, features_there fs h.1 (all_right On (option_places f.shape) (features_places fs) k))

  objects_there : (os : List (List ℕ × TopoObject)) → AllByRecursion (λ o. IsObject None o.1) os → AllOn (objects_places os)
      → AllByRecursion (λ o. IsObject (Some transform) o.1) (objects_celled cell os)
  objects_there [] h k = tt
  objects_there (o ∷ os) h k = grind (
    arith,
    feature_there,
    all_left,
    option_single,
    features_there,
    all_right,
    objects_there os h.1
        (all_right On (features_places (object_features o.1)) (objects_places os) k),
  )

  names_stay : (os : List (List ℕ × TopoObject)) → map (λ o. o.0) (objects_celled cell os) ≡ map (λ o. o.0) os
  names_stay [] = refl
  names_stay (o ∷ os) = ap (λ ns. o.0 ∷ ns) (names_stay os)

  -- ---- topologies

  valid_plain : (os : List (List ℕ × TopoObject)) (arcs : List (List Point)) → IsTransform transform → EachCell On (record { objects = os; arcs = arcs; transform = None })
      → IsTopology (record { objects = os; arcs = arcs; transform = None }) → IsTopology (celled transform cell (record { objects = os; arcs = arcs; transform = None }))
  unfolding celled
  valid_plain os arcs numbers on h = search (
    rules,
    objects_lines,
    names_stay,
    objects_there,
    all_map,
    all_two,
    arc_there,
    length-map,
    all_weaker,
    line_map,
    meet_map,
    close_map,
  )

abbrev IsValidOn : Transform → (Point → Point) → Contents → Type 0
IsValidOn transform cell z = EachCell (IsOnGrid transform cell) z → IsTopology z → IsTopology (celled transform cell z)

pub celled_is_valid : CelledIsValid
celled_is_valid transform cell y numbers plain on h =
    let with_none : y ≡ record { objects = y.objects; arcs = y.arcs; transform = None } = ap (λ w. record { objects = y.objects; arcs = y.arcs; transform = w }) plain in
    subst (IsValidOn transform cell) (sym with_none) (valid_plain transform cell y.objects y.arcs numbers) on h

pub built_is_valid : IsValid → NoneIsNew → BuiltIsValidOnGrid
built_is_valid valid none transform cell t limit ls numbers sound distinct on = search (rules, celled_is_valid, built_has_no_transform, built_cells)

-- Leaving out the arcs that no line uses changes nothing of what is decoded.
use Rattle.std.proofs.Common.{rules, ◌≡◌, ℕ, zero, suc, ◌+◌, ℤ, Bool, true, List, [], ◌∷◌, map, Option, None, Some, refl, ap, arith}
use Rattle.build_meaning.proofs.Names.{nat_tests, AllByRecursion, all_weaker, all_of, any_from_in, all_left, all_right, agreed, composed, number_of, at, arc_at, stitched, map_some, then_some, Point, prune, option_lines_and_rings, Featured, Shape, completed, decoded_line, decoded_shape, decoded_feature, decoded_object, of_name, placed_arcs, decoded, TopoFeature, TopoObject, is_used, keep_from, new_index_from, renumbered, line_renumbered, feature_renumbered, object_renumbered, trimmed, Transform, TopoShape, Contents, object_features, objects_lines_and_rings}
use Rattle.topojson_types.specs.Topologies.{features_lines_and_rings}

-- ---- each arc that is kept is found again

pub kept_at : {X : Type 0} (used : ℕ → Bool) (n : ℕ) (xs : List X) (i : ℕ) → used (n + i) ≡ true → at (keep_from used n xs) (new_index_from used n i) ≡ at xs i
kept_at used n [] i h = refl
kept_at {X = X} used n (x ∷ xs) zero h = grind arith
kept_at {X = X} used n (x ∷ xs) (suc i) h = grind (arith, kept_at used (suc n) xs i)

pub renumbered_at : {X : Type 0} (used : ℕ → Bool) (arcs : List (List X)) (r : ℤ) → used (number_of r) ≡ true → arc_at (keep_from used 0 arcs) (renumbered used r) ≡ arc_at arcs r
unfolding number_of
renumbered_at used arcs r h = grind (arith, kept_at)

-- it passes
abbrev pub IsUsed : (ℕ → Bool) → ℤ → Type 0
IsUsed used r = used (number_of r) ≡ true

-- each index of the line passes
abbrev pub AllUsed : (ℕ → Bool) → Bool × List ℤ → Type 0
AllUsed used b = AllByRecursion (IsUsed used) b.1

pub all_renumbered : {X : Type 0} (used : ℕ → Bool) (arcs : List (List X)) (refs : List ℤ) → AllByRecursion (IsUsed used) refs
    → map (arc_at (keep_from used 0 arcs)) (map (renumbered used) refs) ≡ map (arc_at arcs) refs
all_renumbered used arcs [] h = refl
all_renumbered used arcs (r ∷ refs) h = rw (renumbered_at used arcs r h.0, all_renumbered used arcs refs h.1) refl

-- ---- each index of a line of the objects is used

pub all_used : (os : List (List ℕ × TopoObject)) → AllByRecursion (AllUsed (is_used os)) (objects_lines_and_rings os)
all_used os = grind (arith, all_of, any_from_in, nat_tests)

-- ---- what is decoded

module _ (lies : Point → Point) (used : ℕ → Bool) (arcs : List (List Point)) where
  abbrev kept : List (List Point)
  kept = keep_from used 0 arcs

  abbrev line_of : List (List Point) → Bool → List ℤ → Option (List Point)
  line_of from closed refs = Some (decoded_line from closed refs)

  line_same : (b : Bool × List ℤ) → AllUsed used b → line_of kept b.0 (map (renumbered used) b.1) ≡ line_of arcs b.0 b.1
  line_same b h = ap (λ xs. Some (completed b.0 (stitched xs))) (all_renumbered used arcs b.1 h)

  shape_same : (s : Option TopoShape) → AllByRecursion (AllUsed used) (option_lines_and_rings s)
      → then_some (decoded_shape lies kept) (then_some (prune (λ p. p) (line_renumbered used)) s) ≡ then_some (decoded_shape lies arcs) s
  shape_same None h = refl
  shape_same (Some s) h = search (rules, composed, agreed, all_weaker, line_same)

  abbrev with_shape : TopoFeature → Option Shape → Featured
  with_shape f s = record { id = f.id; properties = f.properties; shape = s }

  feature_same : (f : TopoFeature) → AllByRecursion (AllUsed used) (option_lines_and_rings f.shape) → decoded_feature lies kept (feature_renumbered used f) ≡ decoded_feature lies arcs f
  feature_same f h = ap (with_shape f) (shape_same f.shape h)

  features_same : (fs : List TopoFeature) → AllByRecursion (AllUsed used) (features_lines_and_rings fs) → map (decoded_feature lies kept) (map (feature_renumbered used) fs) ≡ map (decoded_feature lies arcs) fs
  features_same [] h = refl
  features_same (f ∷ fs) h =
      grind (arith, feature_same, all_left, all_right, features_same fs (all_right (AllUsed used) (option_lines_and_rings f.shape) (features_lines_and_rings fs) h))

  name_same : (name : List ℕ) (os : List (List ℕ × TopoObject)) → AllByRecursion (AllUsed used) (objects_lines_and_rings os)
      → map_some (decoded_object lies kept) (of_name name (map (λ o. (o.0, object_renumbered used o.1)) os)) ≡ map_some (decoded_object lies arcs) (of_name name os)
  name_same name [] h = refl
  name_same name (o ∷ os) h =
      grind (arith, feature_same, all_left, features_same, all_right, name_same name os (all_right (AllUsed used) (features_lines_and_rings (object_features o.1)) (objects_lines_and_rings os) h))

-- arcs are placed one by one
pub kept_of_map : {X Y : Type 0} (f : X → Y) (used : ℕ → Bool) (n : ℕ) (xs : List X) → map f (keep_from used n xs) ≡ keep_from used n (map f xs)
kept_of_map f used n [] = refl
kept_of_map {X = X} f used n (x ∷ xs) = grind (arith, kept_of_map f used (suc n) xs)

pub kept_placed : (transform : Option Transform) (used : ℕ → Bool) (arcs : List (List Point)) → placed_arcs transform (keep_from used 0 arcs) ≡ keep_from used 0 (placed_arcs transform arcs)
kept_placed transform used arcs = grind (arith, kept_of_map)

-- a trimmed topology decodes to the features of the whole one, whatever the name
pub trimmed_decodes : (t : Contents) (name : List ℕ) → decoded (trimmed t) name ≡ decoded t name
unfolding decoded trimmed
trimmed_decodes t name = search (kept_placed, name_same, all_used)

-- Layers that are snapped to the grid over them lie on it, and are as sound as before.
use Rattle.std.proofs.Common.{rules, arith, ◌≡◌, ℕ, ◌≤◌, true, List, [], ◌∷◌, map, Option, None, Some, refl, ap}
use Rattle.build_meaning.proofs.Names.{AllByRecursion, all_weaker, all_left, all_right, all_append, all_map, by_kinds, moved_at, option_points_moved, map_some, Point, nesting_at, Featured, Shape, nesting, option_nesting, feature_nesting, FeatureHasNumbers, option_points, features_points, FeatureHasTexts, settled, Axes, IsGrid, covers, snapped, grid_over, Settles, IsSound, AreSound, IsSnapped, SnappedAreOn, EachFeature, SnappedKeep, named_points, IsCount, AreInputs, snapped_named, IsOn, Named, names_of, moved, moved_feature}
use Rattle.json_value.specs.Depth.{greatest}
use Rattle.grid_snap.proofs.Layered.{snapped_sound}
use Rattle.grid_snap.proofs.Least.{covers_all, grid_made}
use Rattle.build_meaning.proofs.Again.{all_hold}

names_stay : (g : Option Axes) (ls : Named) → names_of (snapped_named g ls) ≡ names_of ls
names_stay None ls = refl
names_stay (Some g) [] = refl
names_stay (Some g) (l ∷ ls) = ap (λ ns. l.0 ∷ ns) (names_stay (Some g) ls)

-- ---- on a grid

module _ (g : Axes) (grid : IsGrid g) where
  abbrev Covered : Point → Type 0
  Covered p = covers g p ≡ true

  abbrev AllOn : List Point → Type 0
  AllOn ps = AllByRecursion (IsOn (Some g)) ps

  lands : (p : Point) → Covered p → IsOn (Some g) (snapped g p)
  lands p h = let s : Settles g p = settled g p grid h in (s.covered, s.again)

  feature_lands : (f : Featured) → AllByRecursion Covered (option_points f.shape) → AllOn (option_points (moved_feature (snapped g) f).shape)
  feature_lands f h = search (rules, option_points_moved, all_map, all_weaker, lands)

  features_land : (fs : List Featured) → AllByRecursion Covered (features_points fs) → AllOn (features_points (map (moved_feature (snapped g)) fs))
  features_land [] h = tt
  features_land (f ∷ fs) h = grind (arith, all_append, feature_lands, all_left, all_right, features_land fs (all_right Covered (option_points f.shape) (features_points fs) h))

  layers_land : (ls : Named) → AllByRecursion Covered (named_points ls) → AllOn (named_points (snapped_named (Some g) ls))
  layers_land [] h = tt
  layers_land (l ∷ ls) h = grind (arith, all_append, features_land, all_left, all_right, layers_land ls (all_right Covered (features_points l.1.features) (named_points ls) h))

  feature_sound : (f : Featured) → IsSound f → AllByRecursion Covered (option_points f.shape) → IsSound (moved_feature (snapped g) f)
  feature_sound f s h = grind (arith, snapped_sound)

  features_sound : (fs : List Featured) → AllByRecursion IsSound fs → AllByRecursion Covered (features_points fs) → AllByRecursion IsSound (map (moved_feature (snapped g)) fs)
  features_sound [] s h = tt
  features_sound (f ∷ fs) s h = search (rules, feature_sound, all_left, all_right, features_sound fs s.1 (all_right Covered (option_points f.shape) (features_points fs) h))

  layers_sound : (ls : Named) → AreSound ls → AllByRecursion Covered (named_points ls) → AreSound (snapped_named (Some g) ls)
  layers_sound [] s h = tt
  layers_sound (l ∷ ls) s h = grind (arith, features_sound, all_left, all_right, layers_sound ls s.1 (all_right Covered (features_points l.1.features) (named_points ls) h))

-- ---- on the grid that is asked for

without : (ls : Named) → AreSound ls → IsSnapped None ls (snapped_named None ls)
without ls sound = record { sound = sound; names = refl; on = (tt, all_hold (IsOn None) (λ p. tt) (named_points ls)) }

by_grid : (count : ℕ) (ls : Named) → IsCount (Some count) → AreSound ls → AreInputs ls → (o : Option Axes) → grid_over count (named_points ls) ≡ o
    → IsSnapped o ls (snapped_named o ls)
by_grid count ls n sound inputs None e = without ls sound
by_grid count ls n sound inputs (Some g) e =
    let grid : IsGrid g = grid_made count (named_points ls) g n.0 n.1 inputs e in
    let covered = covers_all count (named_points ls) g n.0 e in
    record { sound = layers_sound g grid ls sound covered; names = names_stay (Some g) ls; on = (grid, layers_land g grid ls covered) }

pub snapped_on : SnappedAreOn
snapped_on None ls n sound inputs = without ls sound
snapped_on (Some count) ls n sound inputs = by_grid count ls n sound inputs (grid_over count (named_points ls)) refl

-- ---- what stays beside positions

module _ (f : Point → Point) where
  abbrev Nests : Shape → Type 0
  Nests s = nesting (moved f s) ≡ nesting s

  members_nest : (ss : List Shape) → AllByRecursion Nests ss → greatest (map nesting (map (moved f) ss)) ≡ greatest (map nesting ss)
  members_nest [] all = refl
  members_nest (s ∷ ss) all = rw (all.0, members_nest ss all.1) refl

  moved_nests : (s : Shape) → nesting (moved f s) ≡ nesting s
  moved_nests = grind (arith, nesting_at Point (List Point), by_kinds Nests, moved_at f, members_nest)

  option_nests : (s : Option Shape) → option_nesting (map_some (moved f) s) ≡ option_nesting s
  option_nests s = grind (arith, moved_nests)

  features_stay : (X : Featured → Type 0) → ((x : Featured) → X x → X (moved_feature f x)) → (fs : List Featured) → AllByRecursion X fs → AllByRecursion X (map (moved_feature f) fs)
  features_stay X stays fs h = all_map X (moved_feature f) fs (all_weaker X (λ x. X (moved_feature f x)) stays fs h)

layers_stay : (g : Axes) (X : Featured → Type 0) → ((x : Featured) → X x → X (moved_feature (snapped g) x)) → (ls : Named) → EachFeature X ls → EachFeature X (snapped_named (Some g) ls)
layers_stay g X stays [] h = tt
layers_stay g X stays (l ∷ ls) h = (features_stay (snapped g) X stays l.1.features h.0, layers_stay g X stays ls h.1)

pub snapped_keep : SnappedKeep
snapped_keep None ls = record { nests = λ n h. h; numbers = λ h. h; texts = λ h. h }
snapped_keep (Some g) ls = record { nests = λ n h. layers_stay g (λ f. feature_nesting f ≤ n) (λ x k. rw (option_nests (snapped g) x.shape) k) ls h; numbers = λ h. layers_stay g FeatureHasNumbers (λ x k. k) ls h; texts = λ h. layers_stay g FeatureHasTexts (λ x k. k) ls h }

-- The layers over all arcs, with those that no kept line uses, are a valid topology.
use Rattle.std.proofs.Common.{◌≡◌, ℕ, ◌≤◌, ℤ, Bool, true, false, List, [], ◌∷◌, map, length, Option, None, Some, refl, sym, ap, subst, if◌then◌else◌, arith}
use Rattle.build_meaning.proofs.Names.{length-map, AllByRecursion, all_weaker, all_two, all_map, arc_at, then_some, Point, IsPosition, prune, option_lines_and_rings, Collapsed, Small, Shape, Featured, is_some_list, is_proper_option, option_points, clean, is_short, AllClean, Stroke, linework, In, is_full_option, option_places, IsFeature, IsObject, AreDistinct, AreInRange, IsJoined, IsClosed, IsArc, IsTopology, TopoObject, index_in, reduced, EndsStay, NoneIsNew, all_arcs, kept_refs, unless, cleaned, own_pieces, is_small, IsSound, AreSound, Named, names_of, layers_of, named_lines_and_rings, Kept, features_by, objects_by, pieces_of, sub_all, objects_lines_and_rings, Many, feature_by, object_features, untrimmed, TopoFeature, Layer, features_lines_and_rings}
use Rattle.cutter.specs.Pieces.{stitched}
use Rattle.build_meaning.proofs.LinesAndRings.{option_left}
use Rattle.build_meaning.proofs.Linework.{StandsIn, all_clean, each_stands}
use Rattle.build_meaning.proofs.Reshaped.{over}
use Rattle.build_meaning.proofs.ValidEnds.{SameEnds, ends_kept, named_ends, meet_as, close_as}
use Rattle.build_meaning.proofs.ValidIndexes.{arcs_long, ranged, met, closed}
use Rattle.build_meaning.proofs.ValidPositions.{arcs_placed}
use Rattle.build_meaning.proofs.ValidShapes.{places_stay, made_full}
use Rattle.topojson_types.specs.Topologies as topology

-- ---- names and objects

names_are : (kept : Kept) (ls : Named) → map (λ o. o.0) (objects_by kept ls) ≡ names_of ls
names_are kept [] = refl
names_are kept (l ∷ ls) = ap (λ ns. l.0 ∷ ns) (names_are kept ls)

module _ (kept : Kept) (some : (closed : Bool) (l : List Point) (m : List ℤ) → kept closed l ≡ Some m → is_some_list m ≡ true) where
  option_full : (s : Option Shape) → is_proper_option s ≡ true → is_full_option (then_some (prune (λ p. p) kept) s) ≡ true
  option_full None h = refl
  option_full (Some s) h = made_full kept some s h

  option_stay : (s : Option Shape) → AllByRecursion IsPosition (option_points s) → AllByRecursion IsPosition (option_places (then_some (prune (λ p. p) kept) s))
  option_stay None h = tt
  option_stay (Some s) h = places_stay kept IsPosition s h

  features_are : (fs : List Featured) → AllByRecursion IsSound fs → AllByRecursion (IsFeature None) (features_by kept fs)
  features_are [] h = tt
  features_are (f ∷ fs) h = ((option_full f.shape h.0.proper, option_stay f.shape h.0.places), features_are fs h.1)

  objects_are : (ls : Named) → AreSound ls → AllByRecursion (λ o. IsObject None o.1) (objects_by kept ls)
  objects_are [] h = tt
  objects_are (l ∷ ls) h = (features_are l.1.features h.0, objects_are ls h.1)

-- ---- lines of the objects

module _ (kept : Kept) (X : Bool × List ℤ → Type 0) where
  abbrev Gives : Bool × List Point → Type 0
  Gives b = (m : List ℤ) → kept b.0 b.1 ≡ Some m → X (b.0, m)

  objects_left : (ls : Named) → AllByRecursion Gives (named_lines_and_rings ls) → AllByRecursion X (objects_lines_and_rings (objects_by kept ls))
  objects_left ls h =
      over Gives X (λ (l : List ℕ × Layer). features_lines_and_rings l.1.features) (λ (o : List ℕ × TopoObject). topology.features_lines_and_rings (object_features o.1)) (λ l. (l.0, Many (features_by kept l.1.features)))
      (λ l k. over Gives X (λ (f : Featured). option_lines_and_rings f.shape) (λ (t : TopoFeature). option_lines_and_rings t.shape) (feature_by kept) (λ f. option_left (λ p. p) kept X f.shape) l.1.features k) ls h

-- ---- kept lines

-- the indexes name arcs that meet, and those of a ring close
abbrev IsFine : List (List Point) → Bool × List ℤ → Type 0
IsFine arcs b = AreInRange (length arcs) b.1 × IsJoined arcs b × IsClosed arcs b

module _ (lines : List Stroke) (t limit : ℕ) where
  -- a line without pieces is dropped
  some_kept : (closed : Bool) (l : List Point) (m : List ℤ) → kept_refs lines t limit closed l ≡ Some m → is_some_list m ≡ true
  some_kept closed l m e = on closed (own_pieces lines closed l) (is_short closed (clean l)) e
    where
      some : (d : Bool) (x : ℤ) (xs : List ℤ) → unless (if d then Some Small else None) (x ∷ xs) ≡ Some m → is_some_list m ≡ true
      some d x xs h = grind arith

      on : (b : Bool) (xs : List (List Point)) (c : Bool)
          → unless (if c then Some Collapsed else (if is_small limit b (stitched (map (reduced t) xs)) then Some Small else None)) (map (index_in (all_arcs lines)) xs) ≡ Some m → is_some_list m ≡ true
      on b xs true h = cc
      on true [] false h = cc
      on false [] false h = cc
      on b (x ∷ xs) false h = some (is_small limit b (stitched (map (reduced t) (x ∷ xs)))) (index_in (all_arcs lines) x) (map (index_in (all_arcs lines)) xs) h

  module _ (stay : EndsStay) (are_clean : AllClean lines) where
    abbrev arcs : List (List Point)
    arcs = all_arcs lines

    abbrev fewer : List (List Point)
    fewer = map (reduced t) (all_arcs lines)

    same_ends : (r : ℤ) → SameEnds (arc_at fewer r) (arc_at arcs r)
    same_ends = named_ends (reduced t) arcs (all_weaker (λ x. 2 ≤ length x) (λ x. SameEnds (reduced t x) x) (λ x h. (ends_kept stay t x h).0) arcs (arcs_long lines are_clean))

    line_or_ring_fine : (s : Stroke) → In s lines → IsFine fewer (s.closed, map (index_in arcs) (pieces_of lines s))
    line_or_ring_fine s k = (
      subst (λ n. AreInRange n (map (index_in arcs) (pieces_of lines s))) (sym (length-map arcs (reduced t))) (ranged lines are_clean s k),
      meet_as (arc_at fewer) (arc_at arcs) same_ends (map (index_in arcs) (pieces_of lines s)) (met lines are_clean s k),
      λ c. close_as (arc_at fewer) (arc_at arcs) same_ends (map (index_in arcs) (pieces_of lines s)) (closed lines are_clean s k c),
    )

    kept_fine : (b : Bool × List Point) → StandsIn lines b → (m : List ℤ) → kept_refs lines t limit b.0 b.1 ≡ Some m → IsFine fewer (b.0, m)
    kept_fine b stands m e = grind (arith, line_or_ring_fine (cleaned b.0 b.1))

-- ---- topologies

module _ (stay : EndsStay) (none : NoneIsNew) (t limit : ℕ) (ls : Named) (sound : AreSound ls) where
  abbrev lines : List Stroke
  lines = linework (layers_of ls)

  abbrev fewer_arcs : List (List Point)
  fewer_arcs = map (reduced t) (all_arcs lines)

  fewer_are_arcs : AllByRecursion (IsArc None) fewer_arcs
  fewer_are_arcs =
      all_map (IsArc None) (reduced t) (all_arcs lines)
      (all_two (λ x. 2 ≤ length x) (λ x. AllByRecursion IsPosition x) (λ x. IsArc None (reduced t x))
      (λ x h k. ((ends_kept stay t x h).1, sub_all IsPosition (none t x) k)) (all_arcs lines) (arcs_long lines (all_clean ls sound)) (arcs_placed ls sound))

  all_fine : AllByRecursion (IsFine fewer_arcs) (objects_lines_and_rings (objects_by (kept_refs lines t limit) ls))
  all_fine =
      objects_left (kept_refs lines t limit) (IsFine fewer_arcs) ls
      (all_weaker (StandsIn lines) (λ b. (m : List ℤ) → kept_refs lines t limit b.0 b.1 ≡ Some m → IsFine fewer_arcs (b.0, m)) (kept_fine lines t limit stay (all_clean ls sound)) (named_lines_and_rings ls) (each_stands ls))

pub untrimmed_is_valid : EndsStay → NoneIsNew → (t limit : ℕ) (ls : Named) → AreSound ls → AreDistinct (names_of ls) → IsTopology (untrimmed t limit ls)
untrimmed_is_valid stay none t limit ls sound distinct = grind (arith, all_fine stay none t limit ls sound, names_are, objects_are, some_kept, fewer_are_arcs stay none t limit ls sound, all_weaker)

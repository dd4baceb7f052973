-- A topology whose arcs are reduced stays valid.
use Rattle.std.proofs.Common.{arith, ◌≡◌, ℕ, ◌≤◌, ℤ, Bool, true, cond, List, map, length, Option, Some, sym, subst}
use Rattle.build_meaning.proofs.Names.{AllByRecursion, all_weaker, all_two, arc_at, Meet, Closes, Point, Cause, is_some_list, placed_arcs, Contents, objects_lines_and_rings, TopoObject, unless, is_used, keep_from, renumbered, line_renumbered, trimmed, Protection, no_protection, sparing, objects_spared, spared_whole, spared_by, SparedIsValid, small_cause, large_refs, objects_pruned, retained_arcs, EachFromFirstToLast, AreDistinct, AreInRange, IsJoined, IsClosed, IsArc, IsObject, IsTopology, EndsStay, IsValid, NoneIsNew, built, untrimmed}
use Rattle.build_meaning.proofs.Reshaped.{pruned_shape, names_stay}
use Rattle.build_meaning.proofs.Spared.{spared_shape, by_refs, objects_plain, objects_left}
use Rattle.build_meaning.proofs.Trimmed.{AllUsed, all_renumbered, all_used}
use Rattle.build_meaning.proofs.ValidEnds.{meet_as, close_as}
use Rattle.build_meaning.proofs.ValidPruned.{MarkedGivesSome, objects_are}
use Rattle.build_meaning.proofs.ValidRetained.{retained_length, named_retained, retained_are_arcs}
use Rattle.build_meaning.proofs.ValidTrimmed.{all_kept, all_below, of_objects}
use Rattle.build_meaning.proofs.ValidUntrimmed.{untrimmed_is_valid}

-- the indexes name arcs that meet, and those of a ring close
abbrev IsFine : List (List Point) → Bool × List ℤ → Type 0
IsFine arcs b = AreInRange (length arcs) b.1 × IsJoined arcs b × IsClosed arcs b

all_fine : (y : Contents) → IsTopology y → AllByRecursion (IsFine y.arcs) (objects_lines_and_rings y.objects)
all_fine y h =
    all_two (λ b. AreInRange (length y.arcs) b.1) (λ b. IsJoined y.arcs b × IsClosed y.arcs b) (IsFine y.arcs) (λ b r k. (r, k.0, k.1)) (objects_lines_and_rings y.objects) h.ranged
    (all_two (IsJoined y.arcs) (IsClosed y.arcs) (λ b. IsJoined y.arcs b × IsClosed y.arcs b) (λ b j c. (j, c)) (objects_lines_and_rings y.objects) h.joined h.closed)

-- ---- without the arcs that no line uses

some_renumbered : (used : ℕ → Bool) → MarkedGivesSome (by_refs (line_renumbered used))
some_renumbered used closed mark l h m e = grind arith

valid_trimmed : (y : Contents) → IsTopology y → IsTopology (trimmed y)
unfolding trimmed
valid_trimmed y h =
    let used : ℕ → Bool = is_used y.objects in
    let left : List (List Point) = keep_from used 0 y.arcs in
    let os : List (List ℕ × TopoObject) = objects_pruned (line_renumbered used) y.objects in
    let as_spared : objects_spared no_protection (by_refs (line_renumbered used)) y.objects ≡ os = objects_plain (by_refs (line_renumbered used)) y.objects in
    let fine : AllByRecursion (IsFine left) (objects_lines_and_rings os) =
    of_objects used (IsFine left) y.objects
    (all_two (IsFine y.arcs) (AllUsed used) (λ b. IsFine left (b.0, map (renumbered used) b.1))
    (λ b f k. (
      all_below used y.arcs b.1 k f.0,
      subst Meet (sym (all_renumbered used y.arcs b.1 k)) f.1,
      λ c. subst Closes (sym (all_renumbered used y.arcs b.1 k)) (f.2 c),
    )) (objects_lines_and_rings y.objects) (all_fine y h) (all_used y.objects)) in
    record {
      names = subst AreDistinct (sym (names_stay (pruned_shape (λ p. p) (line_renumbered used)) y.objects)) h.names;
      transform = h.transform;
      objects = subst (AllByRecursion (λ o. IsObject y.transform o.1)) as_spared (objects_are no_protection (by_refs (line_renumbered used)) (some_renumbered used) y.transform y.objects h.objects);
      arcs = all_kept (IsArc y.transform) used 0 y.arcs h.arcs;
      ranged = all_weaker (IsFine left) (λ b. AreInRange (length left) b.1) (λ b f. f.0) (objects_lines_and_rings os) fine;
      joined = all_weaker (IsFine left) (IsJoined left) (λ b f. f.1) (objects_lines_and_rings os) fine;
      closed = all_weaker (IsFine left) (IsClosed left) (λ b f. f.2) (objects_lines_and_rings os) fine;
    }

-- ---- without some cells between the ends of arcs, and without lines that are too short

pub valid_whole : (protects : Protection) (kept : List (List ℕ)) (limit : ℕ) (y : Contents) → IsTopology y → EachFromFirstToLast kept y.arcs → IsTopology (spared_whole protects kept limit y)
valid_whole protects kept limit y h through =
    let fewer : List (List Point) = retained_arcs kept y.arcs in
    let places : List (List Point) = placed_arcs y.transform fewer in
    let os : List (List ℕ × TopoObject) = objects_spared protects (sparing (large_refs limit places)) y.objects in
    let long : AllByRecursion (λ a. 2 ≤ length a) y.arcs = all_weaker (IsArc y.transform) (λ a. 2 ≤ length a) (λ a k. k.0) y.arcs h.arcs in
    let ends = named_retained kept y.arcs long through in
    let fine : AllByRecursion (IsFine fewer) (objects_lines_and_rings os) =
    objects_left protects (sparing (large_refs limit places)) (IsFine fewer) y.objects
    (all_weaker (IsFine y.arcs) (λ b. (mark : Bool) (m : List ℤ) → sparing (large_refs limit places) b.0 (mark, b.1) ≡ Some m → IsFine fewer (b.0, m))
    (λ b f mark m e. same fewer b m mark (small_cause limit places b.0 b.1) (
      subst (λ n. AreInRange n b.1) (sym (retained_length kept y.arcs through)) f.0,
      meet_as (arc_at fewer) (arc_at y.arcs) ends b.1 f.1,
      λ c. close_as (arc_at fewer) (arc_at y.arcs) ends b.1 (f.2 c),
    ) e) (objects_lines_and_rings y.objects) (all_fine y h)) in
    record {
      names = subst AreDistinct (sym (names_stay (spared_shape protects (sparing (large_refs limit places))) y.objects)) h.names;
      transform = h.transform;
      objects = objects_are protects (sparing (large_refs limit places)) (λ closed mark l has m e. gives l m mark (small_cause limit places closed l) has e) y.transform y.objects h.objects;
      arcs = retained_are_arcs y.transform kept y.arcs h.arcs through;
      ranged = all_weaker (IsFine fewer) (λ b. AreInRange (length fewer) b.1) (λ b f. f.0) (objects_lines_and_rings os) fine;
      joined = all_weaker (IsFine fewer) (IsJoined fewer) (λ b f. f.1) (objects_lines_and_rings os) fine;
      closed = all_weaker (IsFine fewer) (IsClosed fewer) (λ b f. f.2) (objects_lines_and_rings os) fine;
    }
  where
    same : (fewer : List (List Point)) (b : Bool × List ℤ) (m : List ℤ) (mark : Bool)
        (w : Option Cause) → IsFine fewer b → cond mark (Some b.1) (unless w b.1) ≡ Some m → IsFine fewer (b.0, m)
    same fewer b m mark w f k = grind arith

    gives : (l m : List ℤ) (mark : Bool) (w : Option Cause) → is_some_list l ≡ true → cond mark (Some l) (unless w l) ≡ Some m → is_some_list m ≡ true
    gives l m mark w has k = grind arith

-- ---- both

pub spared_is_valid : SparedIsValid
unfolding spared_by
spared_is_valid protects kept limit y h through = valid_trimmed (spared_whole protects kept limit y) (valid_whole protects kept limit y h through)

pub built_is_valid : EndsStay → NoneIsNew → IsValid
unfolding built
built_is_valid stay none t limit ls sound distinct = valid_trimmed (untrimmed t limit ls) (untrimmed_is_valid stay none t limit ls sound distinct)

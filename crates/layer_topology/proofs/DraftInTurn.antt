-- What is left of a draft where guards are asked for is what is left of the topology for which it stands, or where small rings go first of what is left of
-- it then.
use Rattle.std.proofs.Common.{◌≡◌, ◌≤◌, ℕ, zero, suc, ℤ, pos, negsuc, Bool, true, false, List, [], map, map-id, length, Option, None, Some, refl, sym, ap, ◌∙◌, subst, ◌∷◌, cond}
use Rattle.std.proofs.lemmas.List.{length-map}
use Rattle.std.proofs.Math.Path.{fun_ext}
use Rattle.std.specs.List.{AllByRecursion}
use Rattle.std.specs.Prelude.{replicate}
use Rattle.build_meaning.proofs.Spread.{spread_through}
use Rattle.build_meaning.proofs.SparedAlike.{positions_alike}
use Rattle.build_meaning.specs.ArcPositions.{arc_positions}
use Rattle.build_meaning.specs.InTurn.{first_whole, spread}
use Rattle.build_meaning.specs.InTurnLaws.{refs_in_turn, InTurnIsAtOnce, SameRingsStay, WithoutSmallIsValid}
use Rattle.build_meaning.specs.Left.{is_at_once, guard_of, left_by, left_indexes, left_of, protection_of, rings_to_stay}
use Rattle.build_meaning.specs.LeftLaws.{LeftIndexesReach}
use Rattle.build_meaning.specs.ProtectedRings.{CanStay, ProtectedRingsCanStay}
use Rattle.build_meaning.specs.Protected.{objects_spared, protected_rings, protection, spared_by, spared_removed_count, sparing}
use Rattle.build_meaning.specs.Simplified.{EachFromFirstToLast, large_refs, retained_arcs}
use Rattle.build_meaning.specs.Trimming.{is_used, keep_from, new_index_from, renumbered, trimmed}
use Rattle.build_meaning.specs.declared.guards.Guards.{Guards}
use Rattle.byte_ends.specs.Ends.{saturated}
use Rattle.geometry.specs.declared.address.Dropped.{Dropped}
use Rattle.geometry.specs.Joins.{AreInRange}
use Rattle.geometry.specs.Points.{IsPosition, Point}
use Rattle.guarded_meaning.specs.Guards.{guarded_by}
use Rattle.layer_topology.proofs.Asked.{over_once, rings_can_stay, ways_lead}
use Rattle.topo_model.proofs.Drafted.{left_drafted, rings_drafted}
use Rattle.layer_topology.specs.InTurn.{held_by, indexes_for, judged_first, reduced_of, threshold_in_turn}
use Rattle.layer_topology.specs.Levels.{chosen_for, reduced_by, threshold_by}
use Rattle.layer_topology.specs.declared.level.Level.{Level}
use Rattle.owned_values.proofs.Elements.{all_map, all_two, all_weaker}
use Rattle.topo_model.proofs.Along.{objects_are}
use Rattle.topo_model.proofs.Chosen.{chosen_as}
use Rattle.topo_model.proofs.Result.{are_positions}
use Rattle.topo_model.specs.Along.{objects_along, large_along, AreWays, Ways}
use Rattle.topo_model.specs.DraftUses.{draft_contents}
use Rattle.topo_model.specs.Drops.{judged_refs, objects_drops}
use Rattle.topo_model.specs.Parts.{contents}
use Rattle.topo_model.specs.Rebuilding.{Rebuilding}
use Rattle.topo_model.specs.Retaining.{StandsFor, StandsForTopology}
use Rattle.topo_model.specs.Uses.{answers, chosen}
use Rattle.topo_model.specs.Ways.{ways_under}
use Rattle.topojson_types.specs.Decoding.{placed_arcs}
use Rattle.topojson_types.specs.Topologies.{Contents}
use Rattle.topojson_types.specs.Transforms.{place_on}
use Rattle.topojson_types.specs.Validity.{IsArc, IsPlace, IsTopology}
use Rattle.topojson_types.specs.declared.object.TopoObject.{TopoObject}
use Rattle.topojson_types.specs.declared.transform.Transform.{Transform}

-- ---- positions of arcs

placed_many : (transform : Option Transform) (arcs : List (List Point)) → length (placed_arcs transform arcs) ≡ length arcs
placed_many None arcs = refl
placed_many (Some t) arcs = length-map arcs (map (place_on t))

placed_long : (transform : Option Transform) (arcs : List (List Point)) → AllByRecursion (IsArc transform) arcs → AllByRecursion (λ a. 2 ≤ length a) (placed_arcs transform arcs)
placed_long None arcs h = all_weaker (IsArc None) (λ a. 2 ≤ length a) (λ a h. h.0) arcs h
placed_long (Some t) arcs h = all_map (λ a. 2 ≤ length a) (map (place_on t)) arcs (all_weaker (IsArc (Some t)) (λ a. 2 ≤ length (map (place_on t) a)) (λ a h. subst (λ n. 2 ≤ n) (sym (length-map a (place_on t))) h.0) arcs h)

-- they are those of arcs
pub positions_are : (transform : Option Transform) (arcs : List (List Point)) → AllByRecursion (IsArc transform) arcs → AllByRecursion (λ a. AllByRecursion IsPosition a) (placed_arcs transform arcs)
positions_are transform arcs h = are_positions transform arcs (all_weaker (IsArc transform) (λ a. AllByRecursion (IsPlace transform) a) (λ a h. h.1) arcs h)

pub placed_are : (transform : Option Transform) (arcs : List (List Point)) → AllByRecursion (IsArc transform) arcs → AllByRecursion (IsArc None) (placed_arcs transform arcs)
placed_are transform arcs h =
    all_two (λ a. 2 ≤ length a) (λ a. AllByRecursion IsPosition a) (IsArc None) (λ a l p. (l, p)) (placed_arcs transform arcs) (placed_long transform arcs h) (positions_are transform arcs h)

-- as many answers as there are arcs
answers_many : (passes : ℕ → Bool) (n count : ℕ) → length (answers passes n count) ≡ count
answers_many passes n zero = refl
answers_many passes n (suc count) = ap suc (answers_many passes (suc n) count)

-- ---- where nothing goes first all arcs hold

abbrev all : ℕ → Bool
all n = true

pub all_flags : (n count : ℕ) → replicate count true ≡ answers (λ i. true) n count
all_flags n zero = refl
all_flags n (suc count) = ap (λ bs. true ∷ bs) (all_flags (suc n) count)

keep_all : {X : Type 0} (n : ℕ) (xs : List X) → keep_from all n xs ≡ xs
keep_all n [] = refl
keep_all n (x ∷ xs) = ap (λ ys. x ∷ ys) (keep_all (suc n) xs)

all_before : (n count : ℕ) → new_index_from all n count ≡ count
all_before n zero = refl
all_before n (suc count) = ap suc (all_before (suc n) count)

same_index : (r : ℤ) → renumbered all r ≡ r
same_index (pos i) = ap pos (all_before 0 i)
same_index (negsuc i) = ap negsuc (all_before 0 i)

same_rings : (rings : List (List ℤ)) → map (map (renumbered all)) rings ≡ rings
same_rings rings = ap (λ f. map (map f) rings) (fun_ext same_index) ∙ ap (λ f. map f rings) (fun_ext map-id) ∙ map-id rings

spread_all : (n : ℕ) (kept : List (List ℕ)) (arcs : List (List Point)) → EachFromFirstToLast kept arcs → spread all n kept arcs ≡ kept
spread_all n [] [] h = refl
spread_all n [] (ps ∷ arcs) h = absurd h
spread_all n (is ∷ kept) [] h = absurd h
spread_all n (is ∷ kept) (ps ∷ arcs) h = ap (λ ks. is ∷ ks) (spread_all (suc n) kept arcs h.1)

-- ---- a draft

module _ (guards : Guards) (level : Level) (limit : ℕ) (os : List (List ℕ × TopoObject)) (arcs : List (List Point)) (transform : Option Transform) (once : is_at_once guards ≡ true) where
  abbrev y : Contents
  y = draft_contents os arcs transform

  abbrev placed : List (List Point)
  placed = placed_arcs transform arcs

  -- the topology with all its arcs, and what is reduced of it, where what is small goes first (true) and where it doesn't
  abbrev pub whole : Bool → Contents
  whole b = cond b (first_whole guards limit y) y

  abbrev full : Bool → Contents
  full b = reduced_of b guards limit y

  abbrev t : Bool → ℕ
  t b = threshold_in_turn b guards level limit y

  abbrev pub used : Bool → ℕ → Bool
  used b n = cond b (is_used (first_whole guards limit y).objects n) true

  abbrev kept : Bool → List (List ℕ)
  kept b = indexes_for b guards level limit y

  abbrev ways : Ways
  ways = ways_under guards.keep_shapes placed os

  ways_are : AreWays (protection guards.keep_shapes placed) ways os
  ways_are = ways_lead guards.keep_shapes placed os ways refl

  none_large : (of : List (List Point)) (closed : Bool) → large_refs limit of closed [] ≡ None
  none_large of true = refl
  none_large of false = refl

  none_judged : (of : List (List Point)) (closed : Bool) → refs_in_turn limit placed of closed [] ≡ None
  none_judged of true = refl
  none_judged of false = refl

  module _ (law : InTurnIsAtOnce) where
    whole_arcs : (b : Bool) → (whole b).arcs ≡ arcs
    whole_arcs true = (law guards (t true) limit y).arcs
    whole_arcs false = refl

    whole_is : (b : Bool) → contents (whole b).objects arcs transform ≡ whole b
    whole_is true = ap (λ xs. contents (whole true).objects xs transform) (sym (whole_arcs true))
    whole_is false = refl

    -- the lines and rings that stay at first
    stay_first : large_along limit placed ways os ≡ (whole true).objects
    stay_first =
        objects_are (protection guards.keep_shapes placed) (sparing (large_refs limit placed)) ways os ways_are
        ∙ sym (left_drafted guards.keep_shapes placed (large_refs limit placed) (none_large placed) os)
        ∙ ap (λ xs. objects_spared (protection guards.keep_shapes placed) (sparing (large_refs limit (placed_arcs transform xs))) y.objects) (sym (whole_arcs true))

    flags_are : (b : Bool) (flags : List Bool) → flags ≡ answers (held_by (judged_first b limit placed) ways os) 0 (length placed) → flags ≡ answers (used b) 0 (length placed)
    flags_are true flags e = e ∙ ap (λ xs. answers (is_used xs) 0 (length placed)) stay_first
    flags_are false flags e = e

    pub flags_from : (b : Bool) (now : List (List Point)) (first : Option Rebuilding) (told : Ways) (flags : List Bool) → now ≡ placed → first ≡ judged_first b limit now → told ≡ ways_under guards.keep_shapes now os
        → flags ≡ answers (held_by first told os) 0 (length now) → flags ≡ answers (used b) 0 (length placed)
    flags_from b now first told flags is judged w e =
        flags_are b flags
        (e ∙ ap (λ (f : Option Rebuilding). answers (held_by f told os) 0 (length now)) judged
        ∙ ap (λ (ws : Ways). answers (held_by (judged_first b limit now) ws os) 0 (length now)) w
        ∙ ap (λ (xs : List (List Point)). answers (held_by (judged_first b limit xs) (ways_under guards.keep_shapes xs os) os) 0 (length xs)) is)

    -- as many as the arcs
    flags_many : (b : Bool) (flags : List Bool) → flags ≡ answers (used b) 0 (length placed) → length flags ≡ length placed
    flags_many b flags e = ap length e ∙ answers_many (used b) 0 (length placed)

    pub flags_for_arcs : (b : Bool) (flags : List Bool) → flags ≡ answers (used b) 0 (length placed) → length flags ≡ length arcs
    flags_for_arcs b flags e = flags_many b flags e ∙ placed_many transform arcs

    pub arcs_flags : (b : Bool) (flags : List Bool) → flags ≡ answers (used b) 0 (length placed) → flags ≡ answers (used b) 0 (length arcs)
    arcs_flags b flags e = e ∙ ap (answers (used b) 0) (placed_many transform arcs)

    pub own_flags : (b : Bool) (flags : List Bool) → flags ≡ answers (used b) 0 (length placed) → flags ≡ answers (used b) 0 (length flags)
    own_flags b flags e = e ∙ ap (answers (used b) 0) (sym (flags_many b flags e))

    pub lines_from : (b : Bool) (now lines : List (List Point)) (flags : List Bool) → now ≡ placed → flags ≡ answers (used b) 0 (length placed) → lines ≡ chosen flags now → lines ≡ keep_from (used b) 0 placed
    lines_from b now lines flags is e l = l ∙ ap (chosen flags) is ∙ chosen_as (used b) (length placed) flags placed e refl

    found_are : (now : List (List Point)) (rings : List (List ℤ)) → now ≡ placed → rings ≡ protected_rings (protection guards.keep_shapes now) os → rings ≡ rings_to_stay guards y
    found_are now rings is r = r ∙ ap (λ (xs : List (List Point)). protected_rings (protection guards.keep_shapes xs) os) is ∙ sym (rings_drafted guards.keep_shapes placed os)

    pub rings_in_range : ProtectedRingsCanStay → IsTopology y → (b : Bool) (now : List (List Point)) (rings : List (List ℤ)) (flags : List Bool) → now ≡ placed → flags ≡ answers (used b) 0 (length placed)
        → rings ≡ protected_rings (protection guards.keep_shapes now) os → AllByRecursion (AreInRange (length flags)) rings
    rings_in_range can sound b now rings flags is e r =
        subst (λ (n : ℕ). AllByRecursion (AreInRange n) rings) (sym (flags_many b flags e))
        (subst (AllByRecursion (AreInRange (length placed))) (sym (found_are now rings is r)) (rings_can_stay can guards y sound).in_range)

    -- the arcs that are reduced
    lines_are : (b : Bool) → keep_from (used b) 0 placed ≡ arc_positions (full b)
    lines_are true = ap (keep_from (used true) 0) (sym (ap (placed_arcs transform) (whole_arcs true))) ∙ sym (positions_alike (whole true))
    lines_are false = keep_all 0 placed

    -- the rings that have to stay
    rings_are : SameRingsStay → (b : Bool) → map (map (renumbered (used b))) (protected_rings (protection guards.keep_shapes placed) os) ≡ rings_to_stay guards (full b)
    rings_are same true = ap (map (map (renumbered (used true)))) (sym (rings_drafted guards.keep_shapes placed os)) ∙ sym (same guards limit y)
    rings_are same false = same_rings (protected_rings (protection guards.keep_shapes placed) os) ∙ sym (rings_drafted guards.keep_shapes placed os)

    module _ (same : SameRingsStay) (b : Bool) (rings : List (List ℤ)) (lines : List (List Point)) (r : rings ≡ map (map (renumbered (used b))) (protected_rings (protection guards.keep_shapes placed) os))
        (l : lines ≡ keep_from (used b) 0 placed) where
      -- the numbers that stay of them
      pub numbers_are : reduced_by (guarded_by guards.no_crossings rings) level lines ≡ left_indexes guards (t b) (full b)
      numbers_are =
          ap (λ (rs : List (List ℤ)). reduced_by (guarded_by guards.no_crossings rs) level lines) (r ∙ rings_are same b)
          ∙ ap (λ (xs : List (List Point)). reduced_by (guard_of guards (full b)) level xs) (l ∙ lines_are b)
          ∙ ap (λ n. left_indexes guards n (full b)) (sym (over_once guards level (full b) (arc_positions (full b)) once))

      pub chosen_are : chosen_for level (threshold_by (guarded_by guards.no_crossings rings) level lines) ≡ chosen_for level (t b)
      chosen_are =
          ap (λ (rs : List (List ℤ)). chosen_for level (threshold_by (guarded_by guards.no_crossings rs) level lines)) (r ∙ rings_are same b)
          ∙ ap (λ (xs : List (List Point)). chosen_for level (threshold_by (guard_of guards (full b)) level xs)) (l ∙ lines_are b)
          ∙ ap (chosen_for level) (sym (over_once guards level (full b) (arc_positions (full b)) once))

      pub can_stay : ProtectedRingsCanStay → IsTopology (full b) → CanStay lines rings
      can_stay can sound =
          subst (λ (xs : List (List Point)). CanStay xs rings) (sym (l ∙ lines_are b)) (subst (CanStay (arc_positions (full b))) (sym (r ∙ rings_are same b)) (rings_can_stay can guards (full b) sound))

    module _ (valid : WithoutSmallIsValid) (sound : IsTopology y) where
      pub full_valid : (b : Bool) → IsTopology (full b)
      full_valid true = (valid guards limit y sound).at_first
      full_valid false = sound

      whole_valid : (b : Bool) → IsTopology (whole b)
      whole_valid true = (valid guards limit y sound).whole
      whole_valid false = sound

      module _ (reach : LeftIndexesReach) where
        reached : (b : Bool) → EachFromFirstToLast (left_indexes guards (t b) (full b)) (full b).arcs
        reached b = reach guards (t b) (full b) (full_valid b)

        full_arcs : (full true).arcs ≡ keep_from (used true) 0 arcs
        unfolding trimmed
        full_arcs = ap (keep_from (used true) 0) (whole_arcs true)

        through : (b : Bool) → EachFromFirstToLast (kept b) arcs
        through true =
            spread_through (used true) 0 (left_indexes guards (t true) (full true)) arcs (all_weaker (IsArc transform) (λ a. 2 ≤ length a) (λ a h. h.0) arcs sound.arcs)
            (subst (EachFromFirstToLast (left_indexes guards (t true) (full true))) full_arcs (reached true))
        through false = reached false

        -- what stays of all arcs
        pub spread_is : (b : Bool) → spread (used b) 0 (left_indexes guards (t b) (full b)) arcs ≡ kept b
        spread_is true = refl
        spread_is false = spread_all 0 (left_indexes guards (t false) y) arcs (reached false)

        objects_left : (b : Bool) (later : List (List Point)) → objects_along (sparing (judged_refs (judged_first b limit placed) (record { arcs = later; limit = limit }))) ways os
            ≡ objects_spared (protection_of guards (whole b)) (sparing (large_refs limit later)) (whole b).objects
        objects_left true later =
            objects_are (protection guards.keep_shapes placed) (sparing (refs_in_turn limit placed later)) ways os ways_are
            ∙ sym (left_drafted guards.keep_shapes placed (refs_in_turn limit placed later) (none_judged later) os) ∙ (law guards (t true) limit y).objects later
        objects_left false later =
            objects_are (protection guards.keep_shapes placed) (sparing (large_refs limit later)) ways os ways_are ∙ sym (left_drafted guards.keep_shapes placed (large_refs limit later) (none_large later) os)

        pub stands : (b : Bool) (retained : List (List Point)) → retained ≡ retained_arcs (kept b) arcs
            → StandsFor (protection_of guards (whole b)) (kept b) (whole b).objects os arcs retained transform (judged_first b limit placed) limit ways
        stands b retained picks = record { picks = picks; large = objects_left b (placed_arcs transform retained) }

        pub stands_for : (b : Bool) (retained : List (List Point)) (counts : List ℕ) → retained ≡ retained_arcs (kept b) arcs → counts ≡ map length arcs
            → StandsForTopology os retained counts transform (judged_first b limit placed) limit ways
        stands_for b retained counts picks many = record {
          protects = protection_of guards (whole b);
          kept = kept b;
          of = (whole b).objects;
          arcs = arcs;
          stands = stands b retained picks;
          through = through b;
          counts_are = many;
          valid = subst IsTopology (sym (whole_is b)) (whole_valid b);
        }

        -- what comes of them is what is left
        pub contents_are : (b : Bool) (topology : Contents) → topology ≡ (left_by (protection_of guards (whole b)) (kept b) limit (contents (whole b).objects arcs transform)).contents
            → topology ≡ (left_of guards (t b) limit (full b)).contents
        unfolding left_of
        contents_are true topology e = e ∙ ap (spared_by (protection_of guards (whole true)) (kept true) limit) (whole_is true) ∙ sym ((law guards (t true) limit y).contents (reached true))
        contents_are false topology e = e

        pub removed_are : (b : Bool) (n : ℕ) → n ≡ saturated (left_by (protection_of guards (whole b)) (kept b) limit (contents (whole b).objects arcs transform)).removed_count
            → n ≡ saturated (left_of guards (t b) limit (full b)).removed_count
        unfolding left_of
        removed_are true n e = e ∙ ap (λ z. saturated (spared_removed_count (protection_of guards (whole true)) (kept true) limit z)) (whole_is true) ∙ ap saturated (sym ((law guards (t true) limit y).removed_count (reached true)))
        removed_are false n e = e

  pub drops_from : (b : Bool) (first : Option Rebuilding) (retained : List (List Point)) (told : Ways) (dropped : List Dropped) → first ≡ judged_first b limit placed → retained ≡ retained_arcs (kept b) arcs → told ≡ ways
      → dropped ≡ objects_drops (record { first = first; later = record { arcs = placed_arcs transform retained; limit = limit } }) 0 told os
      → dropped ≡ objects_drops (record { first = judged_first b limit placed; later = record { arcs = placed_arcs transform (retained_arcs (kept b) arcs); limit = limit } }) 0 ways os
  drops_from b first retained told dropped j r w e =
      e ∙ ap (λ (f : Option Rebuilding). objects_drops (record { first = f; later = record { arcs = placed_arcs transform retained; limit = limit } }) 0 told os) j
      ∙ ap (λ (xs : List (List Point)). objects_drops (record { first = judged_first b limit placed; later = record { arcs = placed_arcs transform xs; limit = limit } }) 0 told os) r
      ∙ ap (λ (ws : Ways). objects_drops (record { first = judged_first b limit placed; later = record { arcs = placed_arcs transform (retained_arcs (kept b) arcs); limit = limit } }) 0 ws os) w

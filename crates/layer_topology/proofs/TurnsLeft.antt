-- What is left of a draft where guards are asked for is what is left in turn of a topology, and of layers.
use Rattle.std.proofs.Common.{arith, ◌≡◌, ℕ, zero, suc, Bool, true, false, ◌&&◌, cond, List, [], ◌++◌, append-nil, map, Option, None, Some, refl, sym, ap, ◌∙◌, subst}
use Rattle.std.proofs.Math.Path.{fun_ext}
use Rattle.std.specs.Prelude.{nat_lt}
use Rattle.build_meaning.proofs.Again.{all_hold}
use Rattle.build_meaning.proofs.Whole.{each_stays}
use Rattle.build_meaning.specs.ArcPositions.{arc_positions}
use Rattle.build_meaning.specs.Assembled.{arcs_of_layers}
use Rattle.build_meaning.specs.Built.{untrimmed, built}
use Rattle.build_meaning.specs.BuiltLaws.{AreSound}
use Rattle.build_meaning.specs.InTurn.{built_left, dropped_in_turn, goes_first, indexes_from_first, indexes_in_turn, layers_arcs_left, layers_dropped_in_turn, layers_left_in_turn, left_at_first, left_in_turn, option_caused_in_turn, without_small}
use Rattle.build_meaning.specs.InTurnLaws.{FirstIsLeftAtZero, FirstOfBuilt}
use Rattle.build_meaning.specs.Layers.{Named}
use Rattle.build_meaning.specs.Quantized.{named_points}
use Rattle.build_meaning.specs.Left.{Left, is_at_once, left_indexes, left_of, no_guards, protection_of}
use Rattle.build_meaning.specs.LeftLaws.{UnguardedIsBuilt, UnprotectedIsSimplified}
use Rattle.build_meaning.specs.Protected.{spared_dropped}
use Rattle.build_meaning.specs.Quantized.{AreOn, IsOn}
use Rattle.build_meaning.specs.Simplified.{retained_arcs}
use Rattle.build_meaning.specs.declared.guards.Guards.{Guards}
use Rattle.byte_ends.specs.Ends.{saturated}
use Rattle.effective_area.specs.Calls.{Call}
use Rattle.elimination_meaning.specs.Laws.{ZeroLaw}
use Rattle.geojson_types.specs.Features.{Shape}
use Rattle.geometry.specs.DropCauses.{dropped_of_layers}
use Rattle.geometry.specs.Paths.{Placed}
use Rattle.geometry.specs.Points.{Point}
use Rattle.geometry.specs.declared.address.Cause.{Cause}
use Rattle.geometry.specs.declared.address.Dropped.{Dropped}
use Rattle.guarded_meaning.specs.Laws.{KeptByWeight}
use Rattle.layer_topology.proofs.Asked.{as_none, over_once, ways_lead}
use Rattle.layer_topology.proofs.AtZero.{left_at}
use Rattle.layer_topology.proofs.Guarded.{in_turn_is, in_turn_removes}
use Rattle.layer_topology.specs.InTurn.{IsLeftInTurn, judged_first, threshold_in_turn}
use Rattle.layer_topology.specs.Levels.{calls_at, calls_over, chosen_for, threshold_at, threshold_of}
use Rattle.layer_topology.specs.Topologies.{IsLeft}
use Rattle.layer_topology.specs.Written.{layers_threshold}
use Rattle.layer_topology.specs.declared.level.Level.{Level}
use Rattle.topo_model.proofs.DraftDrops.{drops_judged, option_judged}
use Rattle.topo_model.proofs.Result.{drops_are, drops_in_turn_are}
use Rattle.topo_model.specs.Along.{AreWays, Ways}
use Rattle.topo_model.specs.Drops.{objects_drops}
use Rattle.topo_model.specs.Rebuilding.{Judging}
use Rattle.topo_model.specs.Retaining.{IsDraftOf}
use Rattle.topo_model.specs.Ways.{ways_under}
use Rattle.topojson_types.specs.declared.object.TopoObject.{TopoObject}
use Rattle.topojson_types.specs.Decoding.{placed_arcs}
use Rattle.topojson_types.specs.Topologies.{Contents}
use Rattle.topojson_types.specs.Validity.{IsTopology}

-- where all arcs are reduced at once no reducer is called
pub no_calls : (guards : Guards) (level : Level) (arcs : List (List Point)) (calls : List Call) → is_at_once guards ≡ true → calls ≡ calls ++ calls_over guards level arcs
no_calls guards level arcs calls e = sym (ap (λ b. calls ++ cond b [] (calls_at level arcs)) e ∙ append-nil calls)

-- ---- topologies

module _ (guards : Guards) (t limit : ℕ) (y : Contents) (valid : IsTopology y) where
  abbrev ways_of_rings : Ways
  ways_of_rings = ways_under guards.keep_shapes (arc_positions y) y.objects

  abbrev left : Bool → Left
  left b = cond b (record { contents = (left_of guards t limit (without_small guards limit y)).contents; dropped = dropped_in_turn guards t limit y; removed_count = (left_of guards t limit (without_small guards limit y)).removed_count })
      (left_of guards t limit y)

  lead : AreWays (protection_of guards y) ways_of_rings y.objects
  lead = ways_lead guards.keep_shapes (arc_positions y) y.objects ways_of_rings refl

  pub topology_drops : (b : Bool) → goes_first guards limit ≡ b
      → objects_drops (record { first = judged_first b limit (arc_positions y); later = record { arcs = placed_arcs y.transform (retained_arcs (indexes_in_turn guards t limit y) y.arcs); limit = limit } }) 0 ways_of_rings y.objects ≡ (left b).dropped
  unfolding dropped_in_turn left_of
  topology_drops true e = drops_in_turn_are (protection_of guards y) (indexes_in_turn guards t limit y) limit y (retained_arcs (indexes_in_turn guards t limit y) y.arcs) refl ways_of_rings lead valid.objects (arc_positions y)
  topology_drops false e =
      drops_are (protection_of guards y) (indexes_in_turn guards t limit y) limit y (retained_arcs (indexes_in_turn guards t limit y) y.arcs) refl ways_of_rings lead valid.objects
      ∙ ap (λ b. spared_dropped (protection_of guards y) (cond b (indexes_from_first guards t limit y) (left_indexes guards t y)) limit y) e

-- without a guard it is left as each arc is reduced by itself
pub topology_apart : (guards : Guards) (level : Level) (limit : ℕ) (y : Contents) → is_at_once guards ≡ false → (topology : Contents) (dropped : List Dropped) (removed_count : ℕ)
    → IsLeft (left_of no_guards (threshold_at level (arc_positions y)) limit y) topology dropped removed_count → IsLeft (left_in_turn guards (threshold_of guards level (without_small guards limit y)) limit y) topology dropped removed_count
topology_apart guards level limit y apart topology dropped removed_count is =
    subst (λ (u : Guards). IsLeft (left_in_turn u (threshold_of u level (without_small u limit y)) limit y) topology dropped removed_count) (sym (as_none guards apart)) is

-- what is left of a topology as small rings go first or not
pub topology_left : (guards : Guards) (level : Level) (limit : ℕ) (y topology : Contents) (dropped : List Dropped) (removed_count : ℕ) (chosen : Option ℕ) → IsTopology y
    → IsLeftInTurn (goes_first guards limit) guards level limit y.objects y topology dropped removed_count chosen
    → IsLeft (left_in_turn guards (threshold_of guards level (without_small guards limit y)) limit y) topology dropped removed_count
topology_left guards level limit y topology dropped removed_count chosen valid is =
    let t = threshold_of guards level (without_small guards limit y) in
    record {
      topology_is = is.topology_is ∙ in_turn_is guards t limit y;
      dropped_are = is.dropped_are ∙ topology_drops guards t limit y valid (goes_first guards limit) refl;
      count_is = is.count_is ∙ ap saturated (in_turn_removes guards t limit y);
    }

-- ---- layers

-- without a guard it is what is built of them
pub layers_apart : (guards : Guards) (level : Level) (limit : ℕ) (ls : Named) → is_at_once guards ≡ false → (topology : Contents) (dropped : List Dropped) (removed_count : ℕ)
    → IsLeft (built_left (threshold_at level (arcs_of_layers ls)) limit ls) topology dropped removed_count → IsLeft (layers_left_in_turn guards (layers_threshold guards level limit ls) limit ls) topology dropped removed_count
layers_apart guards level limit ls apart topology dropped removed_count is =
    subst (λ (u : Guards). IsLeft (layers_left_in_turn u (layers_threshold u level limit ls) limit ls) topology dropped removed_count) (sym (as_none guards apart)) is

-- at a limit of zero nothing goes at first of what is built of layers
free : (ls : Named) → AreOn None ls
free ls = (tt, all_hold (IsOn None) (λ p. tt) (named_points ls))

module _ (stays : ZeroLaw) (by_weight : KeptByWeight) (plain : UnprotectedIsSimplified) (unguarded : UnguardedIsBuilt) (at_zero : FirstIsLeftAtZero) (of_built : FirstOfBuilt) (guards : Guards) (limit : ℕ)
    (once : is_at_once guards ≡ true) (ls : Named) (sound : AreSound ls) where
  none_goes : left_at_first guards 0 (built 0 0 ls) ≡ built 0 0 ls
  none_goes = at_zero guards 0 (built 0 0 ls) ∙ left_at by_weight plain guards (built 0 0 ls) ∙ (unguarded None 0 0 ls (free ls) sound).contents

  either_way : (n : ℕ) (b : Bool) → nat_lt 0 n ≡ b → left_at_first guards n (built 0 0 ls) ≡ cond b (left_at_first guards n (built 0 0 ls)) (built 0 0 ls)
  either_way n true e = refl
  either_way zero false e = none_goes
  either_way (suc n) false e = let less : nat_lt 0 (suc n) ≡ true = grind arith in let z : true ≡ false = sym less ∙ e in cc

  -- what is left at first of all arcs of the layers is what is built of them without what goes first
  pub full_is : left_at_first guards limit (untrimmed 0 0 ls) ≡ without_small guards limit (built 0 0 ls)
  full_is =
      sym (of_built guards limit ls sound) ∙ either_way limit (nat_lt 0 limit) refl
      ∙ sym (ap (λ b. cond (b && nat_lt 0 limit) (left_at_first guards limit (built 0 0 ls)) (built 0 0 ls)) once)

  threshold_same : (level : Level) → threshold_in_turn true guards level limit (untrimmed 0 0 ls) ≡ layers_threshold guards level limit ls
  threshold_same level =
      ap (threshold_of guards level) full_is
      ∙ over_once guards level (without_small guards limit (built 0 0 ls)) (arc_positions (without_small guards limit (built 0 0 ls))) once
      ∙ sym (over_once guards level (without_small guards limit (built 0 0 ls)) (arcs_of_layers ls) once)

  module _ (level : Level) (objects : List (List ℕ × TopoObject)) (draft : IsDraftOf ls objects) (topology : Contents) (dropped : List Dropped) (removed_count : ℕ) (chosen : Option ℕ)
      (is : IsLeftInTurn true guards level limit objects (untrimmed 0 0 ls) topology dropped removed_count chosen) where
    abbrev t : ℕ
    t = threshold_in_turn true guards level limit (untrimmed 0 0 ls)

    pub layers_chosen : chosen ≡ chosen_for level (layers_threshold guards level limit ls)
    layers_chosen = is.chosen_is ∙ ap (chosen_for level) (threshold_same level)

    abbrev judging : List (List Point) → Judging
    judging arcs = record { first = Some (record { arcs = arcs; limit = limit }); later = record { arcs = layers_arcs_left guards t limit ls; limit = limit } }

    option_same : (s : Option Shape) → option_judged ls guards.keep_shapes (judging (arcs_of_layers ls)) s ≡ option_caused_in_turn guards t limit ls s
    option_same None = refl
    option_same (Some s) = refl

    layers_drops : dropped ≡ layers_dropped_in_turn guards t limit ls
    unfolding layers_dropped_in_turn
    layers_drops =
        is.dropped_are
        ∙ ap (λ arcs. objects_drops (judging arcs) 0 (ways_under guards.keep_shapes arcs objects) objects) (each_stays stays (arcs_of_layers ls))
        ∙ drops_judged ls guards.keep_shapes (judging (arcs_of_layers ls)) stays sound objects (ways_under guards.keep_shapes (arcs_of_layers ls) objects) draft.drafted
        (ways_lead guards.keep_shapes (arcs_of_layers ls) objects (ways_under guards.keep_shapes (arcs_of_layers ls) objects) refl)
        ∙ ap (λ (caused : Option Shape → List (Placed Cause)). dropped_of_layers 0 (map (λ l. map (λ f. caused f.shape) l.1.features) ls)) (fun_ext option_same)

    abbrev at : ℕ → Bool → Left
    at n b = cond b (record { contents = (left_in_turn guards n limit (built 0 0 ls)).contents; dropped = layers_dropped_in_turn guards n limit ls; removed_count = (left_in_turn guards n limit (built 0 0 ls)).removed_count }) (built_left n limit ls)

    left_are : (n : ℕ) → t ≡ n → IsLeft (at n (is_at_once guards)) topology dropped removed_count
    left_are n e =
        subst (λ b. IsLeft (at n b) topology dropped removed_count) (sym once)
        (record {
          topology_is = is.topology_is ∙ ap (λ y. (left_of guards t limit y).contents) full_is ∙ ap (λ k. (left_of guards k limit (without_small guards limit (built 0 0 ls))).contents) e
              ∙ in_turn_is guards n limit (built 0 0 ls);
          dropped_are = layers_drops ∙ ap (λ k. layers_dropped_in_turn guards k limit ls) e;
          count_is = is.count_is ∙ ap (λ y. saturated (left_of guards t limit y).removed_count) full_is ∙ ap (λ k. saturated (left_of guards k limit (without_small guards limit (built 0 0 ls))).removed_count) e
              ∙ ap saturated (in_turn_removes guards n limit (built 0 0 ls));
        })

    pub layers_left : IsLeft (layers_left_in_turn guards (layers_threshold guards level limit ls) limit ls) topology dropped removed_count
    layers_left = left_are (layers_threshold guards level limit ls) (threshold_same level)

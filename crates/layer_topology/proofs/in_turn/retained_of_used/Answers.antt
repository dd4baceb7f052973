use Rattle.std.proofs.Common.{◌∙◌, ℕ, ℤ, Bool, List, None, ap, map, subst, sym}
use Rattle.std.specs.List.{AllByRecursion}
use Rattle.build_meaning.specs.InTurn.{spread}
use Rattle.build_meaning.specs.Protected.{protected_rings, protection}
use Rattle.build_meaning.specs.Simplified.{retained_arcs}
use Rattle.build_meaning.specs.Trimming.{renumbered}
use Rattle.geometry.specs.Lists.{map_some}
use Rattle.geometry.specs.Points.{IsPosition, Point}
use Rattle.layer_topology.proofs.DraftInTurn.{arcs_flags, can_stay, chosen_are, flags_for_arcs, flags_from, full_valid, lines_from, numbers_are, own_flags, placed_are, positions_are, rings_in_range, spread_is, used}
use Rattle.topojson_types.specs.Validity.{IsArc}
use Rattle.layer_topology.proofs.in_turn.retained_of_used.Goals as goal

pub protected_under-requires : goal.protected_under-requires
protected_under-requires c =
    let v = c.requires.valid in
    subst (AllByRecursion (λ a. AllByRecursion IsPosition a)) (sym v.2) (positions_are v.0 c.args.arcs.now v.1.arcs)

pub renumbered_rings-requires : goal.renumbered_rings-requires
renumbered_rings-requires c =
    let v = c.requires.valid in
    let j = c.requires.judged in
    let a = c.args.asked in
    let ways = ap (map (map_some (λ w. w.items))) c.deref.ensures.value ∙ c.in_ok-ways.ensures.ways in
    let law = c.in_turn_is_at_once.ensures in
    rings_in_range a.guards a.level a.ring_limit c.args.objects.now c.args.arcs.now v.0 c.requires.at_once law c.protected_rings_can_stay.ensures v.1 j.0 c.args.placed.now c.in_ok-ways.field-0.rings.items c.deref-2.result.now v.2
    (c.deref-2.ensures.value ∙ flags_from a.guards a.level a.ring_limit c.args.objects.now c.args.arcs.now v.0 c.requires.at_once law j.0 c.args.placed.now _ _ c.in_ok-held.held.items v.2 j.1 ways c.in_ok-held.ensures)
    c.in_ok-ways.ensures.rings

pub used_lines-requires : goal.used_lines-requires
used_lines-requires c =
    let v = c.requires.valid in
    subst (AllByRecursion (IsArc None)) (sym v.2) (placed_are v.0 c.args.arcs.now v.1.arcs)

pub kept_at_once-requires-clause-rings : goal.kept_at_once-requires-clause-rings
kept_at_once-requires-clause-rings c =
    let v = c.requires.valid in
    let j = c.requires.judged in
    let a = c.args.asked in
    let os = c.args.objects.now in
    let ways = ap (map (map_some (λ w. w.items))) c.deref.ensures.value ∙ c.in_ok-ways.ensures.ways in
    let law = c.in_turn_is_at_once.ensures in
    let flags = flags_from a.guards a.level a.ring_limit os c.args.arcs.now v.0 c.requires.at_once law j.0 c.args.placed.now _ _ c.in_ok-held.held.items v.2 j.1 ways c.in_ok-held.ensures in
    let holds : ℕ → Bool = used a.guards a.level a.ring_limit os c.args.arcs.now v.0 c.requires.at_once j.0 in
    let found = c.in_ok-ways.ensures.rings ∙ ap (λ (xs : List (List Point)). protected_rings (protection a.guards.keep_shapes xs) os) v.2 in
    let own = own_flags a.guards a.level a.ring_limit os c.args.arcs.now v.0 c.requires.at_once law j.0 c.deref-2.result.now (c.deref-2.ensures.value ∙ flags) in
    let rings = c.in_ok-rings.ensures holds own ∙ ap (λ (rs : List (List ℤ)). map (map (renumbered holds)) rs) found in
    let lines = lines_from a.guards a.level a.ring_limit os c.args.arcs.now v.0 c.requires.at_once law j.0 c.args.placed.now c.in_ok-lines.lines.items c.deref-3.result.now v.2 (c.deref-3.ensures.value ∙ flags) c.in_ok-lines.ensures in
    can_stay a.guards a.level a.ring_limit os c.args.arcs.now v.0 c.requires.at_once law c.same_rings_stay.ensures j.0 c.deref-5.result.now c.deref-4.result.now
    (c.deref-5.ensures.value ∙ rings) (c.deref-4.ensures.value ∙ lines) c.protected_rings_can_stay.ensures
    (full_valid a.guards a.level a.ring_limit os c.args.arcs.now v.0 c.requires.at_once law c.without_small_is_valid.ensures v.1 j.0)

pub retained_in_turn-requires : goal.retained_in_turn-requires
retained_in_turn-requires c =
    let v = c.requires.valid in
    let j = c.requires.judged in
    let a = c.args.asked in
    let os = c.args.objects.now in
    let ways = ap (map (map_some (λ w. w.items))) c.deref.ensures.value ∙ c.in_ok-ways.ensures.ways in
    let law = c.in_turn_is_at_once.ensures in
    let flags = flags_from a.guards a.level a.ring_limit os c.args.arcs.now v.0 c.requires.at_once law j.0 c.args.placed.now _ _ c.in_ok-held.held.items v.2 j.1 ways c.in_ok-held.ensures in
    flags_for_arcs a.guards a.level a.ring_limit os c.args.arcs.now v.0 c.requires.at_once law j.0 c.deref-6.result.now (c.deref-6.ensures.value ∙ flags)

pub returns-clause-arcs : goal.returns-clause-arcs
returns-clause-arcs c b transform judged valid is =
    let a = c.args.asked in
    let os = c.args.objects.now in
    let arcs = c.args.arcs.now in
    let ways = ap (map (map_some (λ w. w.items))) c.deref.ensures.value ∙ c.in_ok-ways.ensures.ways in
    let law = c.in_turn_is_at_once.ensures in
    let flags = flags_from a.guards a.level a.ring_limit os arcs transform c.requires.at_once law b c.args.placed.now _ _ c.in_ok-held.held.items is judged ways c.in_ok-held.ensures in
    let holds : ℕ → Bool = used a.guards a.level a.ring_limit os arcs transform c.requires.at_once b in
    let found = c.in_ok-ways.ensures.rings ∙ ap (λ (xs : List (List Point)). protected_rings (protection a.guards.keep_shapes xs) os) is in
    let own = own_flags a.guards a.level a.ring_limit os arcs transform c.requires.at_once law b c.deref-2.result.now (c.deref-2.ensures.value ∙ flags) in
    let rings = c.in_ok-rings.ensures holds own ∙ ap (λ (rs : List (List ℤ)). map (map (renumbered holds)) rs) found in
    let lines = lines_from a.guards a.level a.ring_limit os arcs transform c.requires.at_once law b c.args.placed.now c.in_ok-lines.lines.items c.deref-3.result.now is (c.deref-3.ensures.value ∙ flags) c.in_ok-lines.ensures in
    let numbers = c.in_ok-numbers.ensures.kept
    ∙ numbers_are a.guards a.level a.ring_limit os arcs transform c.requires.at_once law c.same_rings_stay.ensures b c.deref-5.result.now c.deref-4.result.now (c.deref-5.ensures.value ∙ rings) (c.deref-4.ensures.value ∙ lines) in
    c.in_ok-left.ensures holds (arcs_flags a.guards a.level a.ring_limit os arcs transform c.requires.at_once law b c.deref-6.result.now (c.deref-6.ensures.value ∙ flags))
    ∙ ap (λ (ns : List (List ℕ)). retained_arcs (spread holds 0 ns arcs) arcs) numbers
    ∙ ap (λ (ns : List (List ℕ)). retained_arcs ns arcs) (spread_is a.guards a.level a.ring_limit os arcs transform c.requires.at_once law c.without_small_is_valid.ensures valid c.left_indexes_reach.ensures b)

pub returns-clause-counts : goal.returns-clause-counts
returns-clause-counts c = c.in_ok-counts.ensures

pub returns-clause-ways : goal.returns-clause-ways
returns-clause-ways c = c.in_ok-ways.ensures.ways

pub returns-clause-chosen : goal.returns-clause-chosen
returns-clause-chosen c b transform judged valid is =
    let a = c.args.asked in
    let os = c.args.objects.now in
    let arcs = c.args.arcs.now in
    let ways = ap (map (map_some (λ w. w.items))) c.deref.ensures.value ∙ c.in_ok-ways.ensures.ways in
    let law = c.in_turn_is_at_once.ensures in
    let flags = flags_from a.guards a.level a.ring_limit os arcs transform c.requires.at_once law b c.args.placed.now _ _ c.in_ok-held.held.items is judged ways c.in_ok-held.ensures in
    let holds : ℕ → Bool = used a.guards a.level a.ring_limit os arcs transform c.requires.at_once b in
    let found = c.in_ok-ways.ensures.rings ∙ ap (λ (xs : List (List Point)). protected_rings (protection a.guards.keep_shapes xs) os) is in
    let own = own_flags a.guards a.level a.ring_limit os arcs transform c.requires.at_once law b c.deref-2.result.now (c.deref-2.ensures.value ∙ flags) in
    let rings = c.in_ok-rings.ensures holds own ∙ ap (λ (rs : List (List ℤ)). map (map (renumbered holds)) rs) found in
    let lines = lines_from a.guards a.level a.ring_limit os arcs transform c.requires.at_once law b c.args.placed.now c.in_ok-lines.lines.items c.deref-3.result.now is (c.deref-3.ensures.value ∙ flags) c.in_ok-lines.ensures in
    c.in_ok-numbers.ensures.chosen
    ∙ chosen_are a.guards a.level a.ring_limit os arcs transform c.requires.at_once law c.same_rings_stay.ensures b c.deref-5.result.now c.deref-4.result.now (c.deref-5.ensures.value ∙ rings) (c.deref-4.ensures.value ∙ lines)

-- The threshold and the arcs of layers where guards are asked for, and where none is.
use Rattle.std.proofs.Common.{◌≡◌, ◌∙◌, ℕ, Bool, true, false, cond, List, [], map, refl, ap, sym, subst, inl, inr}
use Rattle.std.specs.Prelude.{◌||◌}
use Rattle.build_meaning.proofs.LeftOf.{no_rings}
use Rattle.build_meaning.specs.ArcPositions.{arc_positions}
use Rattle.build_meaning.specs.Left.{guard_of, is_at_once, no_guards, rings_to_stay}
use Rattle.build_meaning.specs.Protected.{protected_rings, protection}
use Rattle.build_meaning.specs.ProtectedRings.{CanStay, ProtectedRingsCanStay}
use Rattle.build_meaning.specs.declared.guards.Guards.{Guards}
use Rattle.geometry.specs.Lists.{joined}
use Rattle.geometry.specs.Points.{Point}
use Rattle.layer_topology.specs.Levels.{threshold_at, threshold_by, threshold_over}
use Rattle.layer_topology.specs.declared.level.Level.{Level}
use Rattle.topo_model.specs.Along.{AreWays, Ways}
use Rattle.topo_model.specs.Ways.{ways_under}
use Rattle.topojson_types.specs.declared.object.TopoObject.{TopoObject}
use Rattle.topojson_types.specs.Topologies.{Contents, object_features}
use Rattle.topojson_types.specs.Validity.{IsTopology}

module _ (guards : Guards) (level : Level) where
  pub over_once : (y : Contents) (arcs : List (List Point)) → is_at_once guards ≡ true → threshold_over guards level y arcs ≡ threshold_by (guard_of guards y) level (arc_positions y)
  over_once y arcs e = ap (λ b. cond b (threshold_by (guard_of guards y) level (arc_positions y)) (threshold_at level arcs)) e

-- ---- the rings that have to stay

-- they can be asked to stay
pub rings_can_stay : ProtectedRingsCanStay → (guards : Guards) (y : Contents) → IsTopology y → CanStay (arc_positions y) (rings_to_stay guards y)
rings_can_stay can guards y h = on guards.keep_shapes refl
  where
    on : (s : Bool) → guards.keep_shapes ≡ s → CanStay (arc_positions y) (protected_rings (protection s (arc_positions y)) y.objects)
    on true e = can y h
    on false e = subst (CanStay (arc_positions y)) (sym (no_rings (joined (map (λ o. object_features o.1) y.objects)))) (record { in_range = tt; meet = tt; long = tt })

-- the ways to them lead to the protected rings
pub ways_lead : (keep_shapes : Bool) (arcs : List (List Point)) (os : List (List ℕ × TopoObject)) (ways : Ways) → ways ≡ ways_under keep_shapes arcs os → AreWays (protection keep_shapes arcs) ways os
ways_lead true arcs os ways e = inl e
ways_lead false arcs os ways e = inr (refl, e)

-- ---- where nothing is asked for

pub as_none : (guards : Guards) → is_at_once guards ≡ false → guards ≡ no_guards
as_none guards e = on guards.no_crossings guards.keep_shapes e
  where
    on : (b s : Bool) → b || s ≡ false → record { no_crossings = b; keep_shapes = s } ≡ no_guards
    on false false h = refl
    on true s h = absurd cc
    on false true h = absurd cc

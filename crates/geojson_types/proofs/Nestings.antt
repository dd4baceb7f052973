-- How deep shapes nest, by kind, and that pruning makes none deeper.
use Rattle.std.proofs.Common.{◌≡◌, ◌+◌, ◌≤◌, max, Bool, true, false, List, [], ◌∷◌, map, Option, None, Some, arith}
use Rattle.std.specs.List.{AllByRecursion}
use Rattle.json_value.specs.Depth.{greatest}
use Rattle.geometry.specs.declared.shape.Geometry.{Geometry}
use Rattle.geometry.specs.declared.shape.Geometry.TheVariants as g
use Rattle.geometry.specs.Lists.{map_some, then_some, with_some, some_of, unless_empty}
use Rattle.geojson_types.specs.Nesting.{nesting, nesting_step, option_nesting}
use Rattle.geometry.specs.Pruning.{area_by, prune}
use Rattle.geometry.proofs.ByKind.{AtKinds, at_kinds}
use Rattle.geometry.proofs.Cases.{prune-point, prune-points, prune-line, prune-lines, prune-area, prune-areas, prune-group}
use Rattle.geometry.proofs.Induction.{by_kinds}

module _ (P L : Type 0) where
  pub nesting_at : AtKinds (nesting {P = P} {L = L}) nesting_step
  unfolding nesting
  nesting_at = at_kinds nesting_step

  pub nesting-group : (ss : List (Geometry P L L)) → nesting {P = P} {L = L} (g.Group ss) ≡ 2 + greatest (map nesting ss)
  nesting-group = nesting_at.group

module _ {P Q L M : Type 0} (place : P → Q) (kept : Bool → L → Option M) where
  abbrev Shallower : Geometry P L L → Type 0
  Shallower s = option_nesting (prune place kept s) ≤ nesting s

  line_nests : (o : Option M) → option_nesting {P = Q} {L = M} (map_some g.Line o) ≤ 3
  line_nests None = omega arith
  line_nests (Some m) = omega (arith, (nesting_at Q M).line m)

  lines_nest : (ms : List M) → option_nesting {P = Q} {L = M} (unless_empty g.Lines ms) ≤ 4
  lines_nest [] = omega arith
  lines_nest (m ∷ ms) = omega (arith, (nesting_at Q M).lines (m ∷ ms))

  area_nests : (o : Option (List M)) → option_nesting {P = Q} {L = M} (map_some g.Area o) ≤ 4
  area_nests None = omega arith
  area_nests (Some ms) = omega (arith, (nesting_at Q M).area ms)

  areas_nest : (mss : List (List M)) → option_nesting {P = Q} {L = M} (unless_empty g.Areas mss) ≤ 5
  areas_nest [] = omega arith
  areas_nest (ms ∷ mss) = omega (arith, (nesting_at Q M).areas (ms ∷ mss))

  one_nests : (o : Option (Geometry Q M M)) (ts : List (Geometry Q M M)) → greatest (map nesting (with_some o ts)) ≤ max (option_nesting o) (greatest (map nesting ts))
  one_nests None ts = omega arith
  one_nests (Some t) ts = omega arith

  members_nest : (ss : List (Geometry P L L)) → AllByRecursion Shallower ss → greatest (map nesting (some_of (prune place kept) ss)) ≤ greatest (map nesting ss)
  members_nest [] all = omega arith
  members_nest (s ∷ ss) all = omega (arith, one_nests (prune place kept s) (some_of (prune place kept) ss), all.0, members_nest ss all.1)

  at_group : (ss : List (Geometry P L L)) → AllByRecursion Shallower ss → Shallower (g.Group ss)
  at_group ss all =
      rw (prune-group place kept ss, (nesting_at P L).group ss) (omega (arith, (nesting_at Q M).group (some_of (prune place kept) ss), members_nest ss all))

  pub pruned_nests : (s : Geometry P L L) → option_nesting (prune place kept s) ≤ nesting s
  pruned_nests = by_kinds Shallower (record {
    point = λ p. rw (prune-point place kept p, (nesting_at P L).point p) (omega (arith, (nesting_at Q M).point (place p)));
    points = λ ps. rw (prune-points place kept ps, (nesting_at P L).points ps) (omega (arith, (nesting_at Q M).points (map place ps)));
    line = λ l. rw (prune-line place kept l, (nesting_at P L).line l) (line_nests (kept false l));
    lines = λ ls. rw (prune-lines place kept ls, (nesting_at P L).lines ls) (lines_nest (some_of (kept false) ls));
    area = λ rs. rw (prune-area place kept rs, (nesting_at P L).area rs) (area_nests (area_by (kept true) rs));
    areas = λ rss. rw (prune-areas place kept rss, (nesting_at P L).areas rss) (areas_nest (some_of (area_by (kept true)) rss));
    group = at_group;
  })

  pub option_pruned_nests : (o : Option (Geometry P L L)) → option_nesting (then_some (prune place kept) o) ≤ option_nesting o
  option_pruned_nests None = omega arith
  option_pruned_nests (Some s) = pruned_nests s

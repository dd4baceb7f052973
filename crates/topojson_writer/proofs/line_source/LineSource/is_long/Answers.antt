use Rattle.std.proofs.Common.{◌≡◌, ◌∙◌, ◌+◌, ◌-◌, ◌<◌, ◌≤◌, ap, drop, length, map, subst, arith}
use Rattle.owned_values.proofs.Elements.{all_at}
use Rattle.geometry.specs.Joins.{arc_at, joined_after_first, number_of}
use Rattle.topojson_types.specs.Validity.{IsTopology}
use Rattle.topojson_types.proofs.WalkPlaces.{long_arcs}
use Rattle.topojson_writer.proofs.LineTexts.{arc_length, long_enough, one_more}
use Rattle.topojson_writer.proofs.line_source.LineSource.is_long.Goals as goal
use Rattle.topojson_writer.proofs.line_source.LineSource.is_long.Goals.{After-saturating_sub-missing}

module _ (c : After-saturating_sub-missing) where
  abbrev many_are : c.len-many.result ≡ length (arc_at c.args.self.now.arcs c.reference-item.result)
  many_are =
      let within = all_at (λ r. number_of r < length c.args.self.now.arcs) c.args.refs.now c.refs.reference-index c.reference-item.result c.refs-test.true c.reference-item.is c.requires in
      c.len-many.ensures ∙ arc_length c.args.self.now.arcs c.reference-item.result c.index.result c.index-arcs-index.result c.index.ensures within (rw (c.arcs.ensures.arcs ∙ ap (λ t. t.arcs) c.self.view_is) at c.index-arcs-index.is)

  passed : (3 - c.saturating_sub-missing.result) + length (joined_after_first (map (arc_at c.args.self.now.arcs) (drop (c.refs.reference-index + 1) c.args.refs.now))) ≤ length (joined_after_first (map (arc_at c.args.self.now.arcs) c.args.refs.now))
  passed = one_more c.args.self.now.arcs c.args.refs.now c.refs.reference-index c.reference-item.result c.refs.missing c.saturating_sub-missing.result c.len-many.result _ c.refs-test.true c.reference-item.is many_are c.refs.invariant.few c.saturating_sub-missing.ensures c.refs.invariant.passed

pub refs-preserved : goal.refs-preserved
refs-preserved c = record { few = omega (arith, c.saturating_sub-missing.ensures, c.refs.invariant.few); passed = passed c.before }

pub returns-then-missing-eq0 : goal.returns-then-missing-eq0
returns-then-missing-eq0 c = λ _. long_enough c.args.self.now.arcs c.args.refs.now (long_arcs c.args.self.now (subst IsTopology c.self.view_is c.arcs.ensures.valid)) c.requires (omega (arith, passed c.before, c.if-missing-eq0.true))

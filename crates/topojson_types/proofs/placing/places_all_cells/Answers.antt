use Rattle.std.proofs.Common.{◌≡◌, sym, ◌∙◌}
use Rattle.topojson_types.proofs.GridOrder.{all_by_corners, corners_by_all}
use Rattle.topojson_types.proofs.placing.places_all_cells.Goals as goal

pub returns-then-is_some : goal.returns-then-is_some
returns-then-is_some c =
    let first = rw c.at.ensures at c.placed-least.ensures in
    let second = rw c.at-2.ensures at c.placed-greatest.ensures in (
      λ r. all_by_corners c.args.transform.now _ _ first second (sym c.is_some.ensures ∙ c.if-is_some.true) (sym c.is_some-then-is_some.ensures ∙ r),
      λ all. c.is_some-then-is_some.ensures ∙ (corners_by_all c.args.transform.now _ _ first second all).1,
    )

pub returns-else-is_some : goal.returns-else-is_some
returns-else-is_some c =
    let first = rw c.at.ensures at c.placed-least.ensures in
    let second = rw c.at-2.ensures at c.placed-greatest.ensures in (
      λ r. absurd cc,
      λ all. c.is_some.ensures ∙ (corners_by_all c.args.transform.now _ _ first second all).0,
    )

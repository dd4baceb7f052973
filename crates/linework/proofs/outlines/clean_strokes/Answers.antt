use Rattle.std.proofs.Common.{◌<◌, length, sym, subst, arith}
use Rattle.std.proofs.lemmas.List.{map-append, take_more_set}
use Rattle.geometry.proofs.Moved.{turns}
use Rattle.junctions.specs.Cleaning.{clean}
use Rattle.linework.specs.Outlines.{over_positions}
use Rattle.linework.proofs.outlines.clean_strokes.Goals as goal

pub strokes-preserved : goal.strokes-preserved
strokes-preserved c =
    let within : c.strokes.stroke-index < length c.strokes.strokes = subst (λ n. c.strokes.stroke-index < n) (sym c.strokes.auto.strokes) c.strokes-test.true in
    record {
      cleaned = turns (over_positions clean) c.args.strokes.now c.strokes.stroke-index c.strokes.strokes c.stroke-item.result c.clean_stroke.new.stroke c.strokes-test.true
          c.strokes.invariant.cleaned c.clean_stroke.ensures;
      short = grind (arith, c.in_ok-push.ensures.items, c.is_collapsed.ensures, c.strokes.invariant.short, take_more_set c.strokes.strokes c.strokes.stroke-index c.clean_stroke.new.stroke within, map-append);
    }

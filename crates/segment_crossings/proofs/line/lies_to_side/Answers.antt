use Rattle.std.proofs.Common.{inr, sym, ◌∙◌}
use Rattle.std.proofs.lemmas.Bool.{false_from_ne_true}
use Rattle.geometry.proofs.Points.{same_is}
use Rattle.segment_crossings.specs.Lines.{as_segment}
use Rattle.segment_crossings.proofs.Sided.{from_never, sided_never}
use Rattle.segment_crossings.proofs.line.lies_to_side.Goals as goal

pub returns-then-is_same : goal.returns-then-is_same
returns-then-is_same c = λ e. false_from_ne_true _ (from_never c.args.is_left_side (as_segment c.args.line.now) c.args.other.now.from c.args.other.now.to
    (inr (same_is c.args.other.now.from c.args.line.now.to (sym c.is_same.ensures ∙ c.if-is_same.true))) (c.is_to_side.ensures c.if-is_to_side.true))

pub returns-else-is_same : goal.returns-else-is_same
returns-else-is_same c = λ e. false_from_ne_true _ (sided_never c.args.is_left_side (as_segment c.args.line.now) (as_segment c.args.other.now)
    (c.is_to_side-else-is_same.ensures e) (c.is_to_side.ensures c.if-is_to_side.true))

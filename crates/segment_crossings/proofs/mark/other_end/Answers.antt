use Rattle.std.proofs.Common.{inl, inr, ap, sym, ◌∙◌}
use Rattle.geometry.proofs.Points.{same_is}
use Rattle.guarded_meaning.specs.Segments.{segment}
use Rattle.segment_crossings.proofs.mark.other_end.Goals as goal

pub returns-then-is_same : goal.returns-then-is_same
returns-then-is_same c = inl (ap (λ p. segment p c.args.line.now.to) (same_is _ _ (sym c.is_same.ensures ∙ c.if-is_same.true)))

pub returns-then-is_same-2 : goal.returns-then-is_same-2
returns-then-is_same-2 c = inr (ap (λ p. segment c.args.line.now.from p) (same_is _ _ (sym c.is_same-2.ensures ∙ c.if-is_same-2.true)))

use Rattle.std.proofs.Common.{◌≡◌}
use Rattle.extraction.proofs.layer.ExtractedLayer.of.Given as goal

abbrev pub invariant-features : goal.invariant-features
invariant-features l = l.extracted.features ≡ l.yielded

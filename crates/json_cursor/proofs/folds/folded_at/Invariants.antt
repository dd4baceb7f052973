use Rattle.std.specs.Str.{is_utf8}
use Rattle.json_value.specs.Reading.{value_at}
use Rattle.json_cursor.specs.Arrays.{prefix_elements}
use Rattle.json_cursor.proofs.FoldedSoFar.{FoldedSoFar}
use Rattle.json_cursor.proofs.folds.folded_at.Given as goal

abbrev pub invariant-elements : goal.invariant-elements
invariant-elements g l = FoldedSoFar (g.T.Elements.takes l.with) (value_at is_utf8 l.depth_left) l.turns (prefix_elements l.depth_left l.turns l.inside) l.fn.start l.fn.counts l.turn l.rest l.made l.counts

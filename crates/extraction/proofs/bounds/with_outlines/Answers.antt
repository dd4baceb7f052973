use Rattle.std.proofs.Common.{List, map, ap, ◌∙◌}
use Rattle.std.proofs.lemmas.List.{length-map}
use Rattle.geometry.specs.Points.{Point}
use Rattle.grid_snap.specs.Bounds.{widened_by}
use Rattle.grid_snap.proofs.Widening.{turns, ends, lists_of}
use Rattle.extraction.proofs.Bounded.{got_is}
use Rattle.extraction.proofs.bounds.with_outlines.Goals as goal

pub lines-preserved : goal.lines-preserved
lines-preserved c =
    turns (λ (ps : List Point). ps) (map (λ b. b.1) c.args.outlines.now) c.lines.i c.args.bounds c.lines.all _ c.positions_of.result.now (rw (length-map, ← c.len-i-end.ensures) c.lines-test.true)
    (got_is (map (λ b. b.1) c.args.outlines.now) c.lines.i c.positions_of.result.now c.positions_of.ensures) c.lines.invariant c.with_positions-all.ensures

pub returns : goal.returns
returns c =
    ends (λ (ps : List Point). ps) (map (λ b. b.1) c.args.outlines.now) c.lines.i c.args.bounds c.lines.all (rw (length-map, ← c.len-i-end.ensures) c.lines-test.false) c.lines.invariant
    ∙ ap (widened_by c.args.bounds) (lists_of (map (λ b. b.1) c.args.outlines.now))

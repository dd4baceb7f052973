use Rattle.std.proofs.Common.{◌≡◌, ◌<◌, length}
use Rattle.topojson_decoder.specs.Leaping.{at_depth, end_of, level}
use Rattle.topojson_decoder.proofs.leaping.after_closing.Given as goal

abbrev pub invariant-loop-depth : goal.invariant-loop-depth
invariant-loop-depth l = record {
  depth_left : 0 < l.depth;
  so_far : end_of (at_depth 1) l.inside ≡ end_of (level l.depth l.quoted) l.rest;
}

abbrev pub decreases-loop-depth : goal.decreases-loop-depth
decreases-loop-depth l = length l.rest

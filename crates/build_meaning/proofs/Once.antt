-- Each segment of the lines lies once, in exactly one arc.
use Rattle.std.proofs.Common.{◌≡◌, ◌<◌, List, ap, sym, ◌∙◌, subst}
use Rattle.build_meaning.proofs.Names.{AllClean, Stroke, same_times, structured, line_segments, piece_segments, times, arcs_of, pieces, EachSegmentOnce, layers_of, linework}
pub use Rattle.cutter.proofs.Known.{flat_split as same_pieces}
use Rattle.cutter.proofs.Words.{sharers, segments_once}
use Rattle.arc_table.proofs.Once.{once_in_arcs}
use Rattle.arc_table.specs.Laws.{AreOnceIn}
use Rattle.build_meaning.proofs.Linework.{all_clean}

once_in_lines : (lines : List Stroke) → AllClean lines → AreOnceIn (arcs_of (pieces lines)) (line_segments lines)
once_in_lines lines clean a b h =
    let k = structured lines clean in
    let e : times a b (piece_segments (pieces lines)) ≡ times a b (line_segments lines) =
    ap (λ xs. times a b (piece_segments xs)) (sym (same_pieces lines lines)) ∙ same_times lines clean a b in
    once_in_arcs (pieces lines) (sharers (pieces lines) k) (segments_once (pieces lines) k) a b (subst (λ n. 0 < n) (sym e) h)

pub each_segment_once : EachSegmentOnce
each_segment_once ls sound = once_in_lines (linework (layers_of ls)) (all_clean ls sound)

-- All pieces of all lines and rings.
use Rattle.std.proofs.Common.{Bool, List, sym, subst, ◌≤◌, length, arith}
use Rattle.cutter.proofs.Names.{each_of, Point, IsClean, AllClean, is_cut, Stroke, pieces_of, pieces, IsStructured}
use Rattle.cutter.proofs.Starts.{line}
pub use Rattle.junctions.proofs.Members.{from_flat}
use Rattle.cutter.proofs.Junctions.{In, Via}
use Rattle.cutter.proofs.Splits.{IsWalk, AllWalks}
use Rattle.cutter.proofs.PieceLaws.{IsPieceOf, one_way, two_ways, once, not_back, interior_apart}
use Rattle.cutter.proofs.OpenPieces.{open_pieces}
use Rattle.cutter.proofs.RingPieces.{ring_pieces}

pub clean_in : (s : Stroke) (ss : List Stroke) → AllClean ss → In s ss → IsClean s
clean_in s ss h k = each_of IsClean ss s h k

line_or_ring_walks : (ls : List Stroke) (closed : Bool) (ps : List Point) → In (line closed ps) ls → IsClean (line closed ps) →
    AllWalks (is_cut ls) (Via ls) (pieces_of ls (line closed ps))
line_or_ring_walks ls closed ps h k = grind (arith, ring_pieces, open_pieces)

-- each piece of the lines is a walk from cut to cut
pub piece_of : (ls : List Stroke) → AllClean ls → (x : List Point) → In x (pieces ls) → IsPieceOf ls x
piece_of ls clean x k =
    let r = from_flat (pieces_of ls) x ls k in
    each_of (IsWalk (is_cut ls) (Via ls)) (pieces_of ls r.0) x (line_or_ring_walks ls r.0.closed r.0.positions r.1 (clean_in r.0 ls clean r.1)) r.2

two_or_more : (ls : List Stroke) (x : List Point) → IsPieceOf ls x → 2 ≤ length x
two_or_more ls x h = subst (λ l. 2 ≤ length l) (sym h.is) (omega arith)

-- what the pieces of lines keep
pub structured : (ls : List Stroke) → AllClean ls → IsStructured (pieces ls)
structured ls clean = grind (arith, one_way, piece_of, two_ways, once, not_back, interior_apart, two_or_more)

-- The linework of named layers, and the pieces of its lines.
use Rattle.std.proofs.Common.{◌≡◌, false, not, List, [], ◌∷◌, map, ap, sym, ◌∙◌, subst}
use Rattle.build_meaning.proofs.Names.{map-map, AllByRecursion, all_append, all_of, Point, option_lines_and_rings, joined, Featured, clean, is_short, AllClean, Stroke, linework, linework_of, is_short_outline, in_flat, structured, In, AreDistinct as Apart, interior, cleaned, own_pieces, IsRingIfClosed, IsSound, AreSound, Named, layers_of, named_lines_and_rings, pieces_of, pieces, split_of, piece_lists, Layer, features_lines_and_rings}
use Rattle.junctions.proofs.Members.{in_map, in_filter}
use Rattle.linework.proofs.Outlined.{long_clean}
-- an open line (false) or a ring (true)
pub use Rattle.linework.specs.Outlines.{Outline as Line, long_outlines as long_of}

-- those of layers that have enough positions
abbrev pub long_lines_and_rings : Named → List Line
long_lines_and_rings ls = long_of (named_lines_and_rings ls)

-- the linework is that of the layers' lines and rings
pub linework_lines : (ls : Named) → linework (layers_of ls) ≡ linework_of (named_lines_and_rings ls)
unfolding linework
linework_lines ls = ap (λ bs. linework_of (joined bs)) (map-map (λ (l : Layer). features_lines_and_rings l.features) (λ l. l.1) ls)

-- ---- clean lines

-- the rings of layers are rings
features_rings : (fs : List Featured) → AllByRecursion IsSound fs → AllByRecursion IsRingIfClosed (features_lines_and_rings fs)
features_rings [] h = tt
features_rings (f ∷ fs) h = all_append IsRingIfClosed (option_lines_and_rings f.shape) (features_lines_and_rings fs) h.0.rings (features_rings fs h.1)

pub named_rings : (ls : Named) → AreSound ls → AllByRecursion IsRingIfClosed (named_lines_and_rings ls)
named_rings [] h = tt
named_rings (l ∷ ls) h = all_append IsRingIfClosed (features_lines_and_rings l.1.features) (named_lines_and_rings ls) (features_rings l.1.features h.0) (named_rings ls h.1)

-- the linework is clean
pub all_clean : (ls : Named) → AreSound ls → AllClean (linework (layers_of ls))
all_clean ls h = subst AllClean (sym (linework_lines ls)) (long_clean (named_lines_and_rings ls) (named_rings ls h))

-- ---- pieces

-- the pieces of the linework, line by line, are those of the layers' lines that aren't short
pub split_lists : (ls : Named) → piece_lists (map (split_of (linework (layers_of ls))) (linework (layers_of ls)))
    ≡ map (λ b. own_pieces (linework (layers_of ls)) b.0 b.1) (long_lines_and_rings ls)
split_lists ls =
    let lines : List Stroke = linework (layers_of ls) in
    map-map (λ s. s.pieces) (split_of lines) lines ∙ ap (map (pieces_of lines)) (linework_lines ls) ∙ map-map (pieces_of lines) (λ (b : Line). cleaned b.0 b.1) (long_lines_and_rings ls)

-- a line that isn't short is one of these, cleaned
abbrev pub StandsIn : List Stroke → Line → Type 0
StandsIn ms b = is_short b.0 (clean b.1) ≡ false → In (cleaned b.0 b.1) ms

pub each_stands : (ls : Named) → AllByRecursion (StandsIn (linework (layers_of ls))) (named_lines_and_rings ls)
each_stands ls =
    let all = named_lines_and_rings ls in
    all_of (StandsIn (linework (layers_of ls))) all
    (λ b k e. subst (In (cleaned b.0 b.1)) (sym (linework_lines ls)) (in_map (λ (c : Line). cleaned c.0 c.1) b (long_of all) (in_filter (λ c. not (is_short_outline c)) b all k (ap not e))))

-- its pieces are pieces of the linework
pub own_in : (lines : List Stroke) (b : Line) → StandsIn lines b → is_short b.0 (clean b.1) ≡ false → (p : List Point) → In p (own_pieces lines b.0 b.1) → In p (pieces lines)
own_in lines b h e p k = in_flat (pieces_of lines) (cleaned b.0 b.1) p lines (h e) k

-- the interior positions of the pieces of the linework are distinct
pub own_apart : (ls : Named) → AreSound ls → (p : List Point) → In p (pieces (linework (layers_of ls))) → Apart (interior p)
own_apart ls h p k = (structured (linework (layers_of ls)) (all_clean ls h)).interior p k

-- Pairs of segments that meet badly, by their ends.
use Rattle.std.specs.Prelude.{List, [], ◌∷◌, ◌++◌, map}
use Rattle.std.specs.List.{filter}
use Rattle.guarded_meaning.specs.Segments.{Segment, meets_badly}
use Rattle.segment_crossings.specs.declared.crossing.Crossing.{Crossing}

abbrev pub crossing_of : Segment → Segment → Crossing
crossing_of s t = record { first = (s.from, s.to); second = (t.from, t.to) }

-- the pairs of a segment and each of these that meets it badly, in their order
abbrev pub pairs_with : Segment → List Segment → List Crossing
pairs_with s ts = map (crossing_of s) (filter (meets_badly s) ts)

-- all pairs of these segments, of two places of the list, that meet badly: by the place of the first, and then by that of the second
abbrev pub crossing_pairs : List Segment → List Crossing
crossing_pairs [] = []
crossing_pairs (s ∷ ss) = pairs_with s ss ++ crossing_pairs ss

-- Worked rows of topologies with a transform: what counts is where cells lie, not their numbers.
use Rattle.std.proofs.Common.{◌≡◌, pos, negsuc, List, [], ◌∷◌, None, Some, refl}
use Rattle.build_meaning.proofs.Names.{codes, cross, twice_area, Point, scaled_of, Contents, place_on, Transform, is_before, reduce, celled, LiesBack, reduced_indexes}
use Rattle.topojson_types.specs.TransformNumbers.{stands_for, to_units, transform_value}
use Rattle.topojson_types.specs.Transforms.{moved}
use Rattle.build_meaning.proofs.SimplifiedRows.{at}

-- a topology of one arc and no object
abbrev one_arc : List Point → Contents
one_arc cells = record { objects = []; arcs = cells ∷ []; transform = None }

-- ---- a step of two units: twice the area of the corner is 8 where it lies, and would be 2 in numbers of the grid

abbrev coarse : Transform
coarse = record { scale = (codes "0.000000002", codes "0.000000002"); translate = (codes "0", codes "0") }

abbrev coarse_arc : Contents
coarse_arc = record { objects = []; arcs = (at 0 0 ∷ (at 1 1 ∷ (at 2 0 ∷ []))) ∷ []; transform = Some coarse }

coarse_stays : reduced_indexes 8 coarse_arc ≡ (0 ∷ (1 ∷ (2 ∷ []))) ∷ []
unfolding reduce is_before twice_area cross place_on stands_for to_units transform_value scaled_of
coarse_stays = refl

coarse_goes : reduced_indexes 9 coarse_arc ≡ (0 ∷ (2 ∷ [])) ∷ []
unfolding reduce is_before twice_area cross place_on stands_for to_units transform_value scaled_of
coarse_goes = refl

-- ---- a grid whose origin is ten units to the right

abbrev shift : Transform
shift = record { scale = (codes "0.000000001", codes "0.000000001"); translate = (codes "0.00000001", codes "0") }

abbrev shift_cell : Point → Point
shift_cell p = moved p (record { x = negsuc 9; y = pos 0 })

shift_lies : LiesBack shift shift_cell (at 12 1)
unfolding place_on stands_for to_units transform_value scaled_of
shift_lies = refl

shift_celled : celled shift shift_cell (one_arc (at 10 0 ∷ (at 12 1 ∷ []))) ≡ record { objects = []; arcs = (at 0 0 ∷ (at 2 1 ∷ [])) ∷ []; transform = Some shift }
unfolding celled
shift_celled = refl

-- Worked rows of the definitions: junctions and cut positions of small lines, the linework of small layers.
use Rattle.std.proofs.Common.{◌≡◌, ℕ, Bool, true, false, List, [], ◌∷◌, map, position, Some, None, refl}
use Rattle.std.specs.Prelude.{pos}
use Rattle.geometry.specs.declared.address.Cause.TheVariants.{Collapsed}
use Rattle.geometry.specs.declared.shape.Geometry.TheVariants as g
use Rattle.geojson_types.specs.declared.layer.Layer.{Layer}
use Rattle.geojson_types.specs.Features.{Shape, Featured}
use Rattle.geometry.specs.Points.{Point}
use Rattle.geometry.proofs.Cases.{lines_and_rings-line}
use Rattle.geometry.specs.Rings.{same}
use Rattle.junctions.specs.declared.stroke.Stroke.{Stroke}
use Rattle.junctions.specs.Cleaning.{clean}
use Rattle.junctions.specs.Cuts.{is_cut}
use Rattle.linework.specs.Linework.{linework, collapsed}
use Rattle.junctions.specs.Visits.{first_seen, positions, is_junction}
use Rattle.linework.proofs.Placing.{placed_lines_and_rings_at}

abbrev at : ℕ → ℕ → Point
at x y = record { x = pos x; y = pos y }

abbrev stroke : Bool → List Point → Stroke
stroke closed ps = record { closed = closed; positions = ps }

-- two unit squares that share a side
abbrev squares : List Stroke
squares =
    stroke true (at 0 0 ∷ (at 1 0 ∷ (at 1 1 ∷ (at 0 1 ∷ (at 0 0 ∷ [])))))
    ∷ (stroke true (at 1 0 ∷ (at 2 0 ∷ (at 2 1 ∷ (at 1 1 ∷ (at 1 0 ∷ []))))) ∷ [])

abbrev corners : List Point
corners = at 0 0 ∷ (at 1 0 ∷ (at 1 1 ∷ (at 0 1 ∷ (at 2 0 ∷ (at 2 1 ∷ [])))))

pub squares_junctions : map (is_junction squares) corners ≡ false ∷ (true ∷ (true ∷ (false ∷ (false ∷ (false ∷ [])))))
squares_junctions = unfold same in refl

pub squares_cuts : map (is_cut squares) corners ≡ false ∷ (true ∷ (true ∷ (false ∷ (false ∷ (false ∷ [])))))
squares_cuts = unfold same in refl

-- the numbers of their positions
pub squares_seen : first_seen (positions squares) ≡ corners
squares_seen = unfold same in refl

pub last_corner : position (same (at 2 1)) (first_seen (positions squares)) ≡ Some 5
last_corner = unfold same in refl

-- a line that turns back beside one that goes on
abbrev back : List Stroke
back = stroke false (at 0 0 ∷ (at 1 0 ∷ (at 0 0 ∷ []))) ∷ (stroke false (at 0 0 ∷ (at 1 0 ∷ (at 2 0 ∷ []))) ∷ [])

pub back_junctions : map (is_junction back) (at 0 0 ∷ (at 1 0 ∷ (at 2 0 ∷ []))) ≡ true ∷ (true ∷ (true ∷ []))
back_junctions = unfold same in refl

-- a ring that winds twice
abbrev twice : List Stroke
twice = stroke true (at 0 0 ∷ (at 1 0 ∷ (at 0 1 ∷ (at 0 0 ∷ (at 1 0 ∷ (at 0 1 ∷ (at 0 0 ∷ []))))))) ∷ []

pub twice_junctions : map (is_junction twice) (at 0 0 ∷ (at 1 0 ∷ (at 0 1 ∷ []))) ≡ false ∷ (false ∷ (false ∷ []))
twice_junctions = unfold same in refl

pub twice_cuts : map (is_cut twice) (at 0 0 ∷ (at 1 0 ∷ (at 0 1 ∷ []))) ≡ true ∷ (false ∷ (false ∷ []))
twice_cuts = unfold same in refl

-- a figure eight
abbrev eight : List Stroke
eight = stroke true (at 1 1 ∷ (at 2 2 ∷ (at 2 0 ∷ (at 1 1 ∷ (at 0 2 ∷ (at 0 0 ∷ (at 1 1 ∷ []))))))) ∷ []

pub eight_cuts : map (is_cut eight) (at 1 1 ∷ (at 2 2 ∷ (at 0 0 ∷ []))) ≡ true ∷ (false ∷ (false ∷ []))
eight_cuts = unfold same in refl

-- a line that ends on the middle of a ring
abbrev touching : List Stroke
touching = stroke true (at 0 0 ∷ (at 2 0 ∷ (at 2 2 ∷ (at 0 0 ∷ [])))) ∷ (stroke false (at 2 0 ∷ (at 5 0 ∷ [])) ∷ [])

pub touching_cuts : map (is_cut touching) (at 0 0 ∷ (at 2 0 ∷ (at 2 2 ∷ (at 5 0 ∷ [])))) ≡ false ∷ (true ∷ (false ∷ (true ∷ [])))
touching_cuts = unfold same in refl

-- an open line whose ends are equal
abbrev loop : List Stroke
loop = stroke false (at 0 0 ∷ (at 1 0 ∷ (at 0 1 ∷ (at 0 0 ∷ [])))) ∷ []

pub loop_junctions : map (is_junction loop) (at 0 0 ∷ (at 1 0 ∷ (at 0 1 ∷ []))) ≡ true ∷ (false ∷ (false ∷ []))
loop_junctions = unfold same in refl

-- equal neighbours
pub run_cleaned : clean (at 0 0 ∷ (at 0 0 ∷ (at 1 0 ∷ (at 0 0 ∷ (at 0 0 ∷ []))))) ≡ at 0 0 ∷ (at 1 0 ∷ (at 0 0 ∷ []))
run_cleaned = unfold same in refl

-- a layer with these shapes
abbrev feature : Shape → Featured
feature s = record { id = None; properties = None; shape = Some s }

abbrev layer : List Shape → Layer
layer ss = record { features = map feature ss }

-- two lines, of which one collapses
abbrev one_collapses : List Layer
one_collapses = layer (g.Line (at 0 5 ∷ (at 10 5 ∷ [])) ∷ (g.Line (at 0 5 ∷ (at 0 5 ∷ [])) ∷ [])) ∷ []

pub one_stays : linework one_collapses ≡ stroke false (at 0 5 ∷ (at 10 5 ∷ [])) ∷ []
one_stays = unfold linework same in simp (lines_and_rings-line)

pub one_is_dropped : collapsed one_collapses ≡ record { address = record { layer = 0; feature = 1; path = [] }; cause = Collapsed } ∷ []
one_is_dropped = unfold collapsed same in simp ((placed_lines_and_rings_at Point (List Point)).line)

-- a ring of three positions, which collapsed, in a collection inside a collection
abbrev nested : List Layer
nested = layer [] ∷ (layer (g.Group (g.Point (at 3 3) ∷ (g.Group (g.Area ((at 0 0 ∷ (at 1 0 ∷ (at 1 0 ∷ (at 0 0 ∷ [])))) ∷ []) ∷ []) ∷ [])) ∷ []) ∷ [])

pub ring_is_dropped : collapsed nested ≡ record { address = record { layer = 1; feature = 0; path = 1 ∷ (0 ∷ (0 ∷ [])) }; cause = Collapsed } ∷ []
unfolding collapsed same
ring_is_dropped = simp ((placed_lines_and_rings_at Point (List Point)).group, (placed_lines_and_rings_at Point (List Point)).point, (placed_lines_and_rings_at Point (List Point)).area)

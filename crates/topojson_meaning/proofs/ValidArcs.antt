-- The positions, cells and arcs that are read may stand in the topology.
use Rattle.std.proofs.Common.{◌≡◌, ℕ, true, List, [], ◌∷◌, Option, Some, None, unsigned_abs, arith}
use Rattle.topojson_meaning.proofs.Names.{leb-true, and_parts, AllByRecursion, Point, IsWithin, IsPosition, Json, grid_limit, is_within, origin, IsPlace, IsArc, Transform, units, elements_position, position, grid_cell, elements_cell, cell, difference_limit, cells_after, elements_place, place, arc_cells, as_arc, arc, arc_list, elements, each}
use Rattle.decimal_text.proofs.ScaledNumber.{scaled_of-within}
use Rattle.topojson_meaning.proofs.ValidYields.{Yields, then_yields, give_yields, count_yields, fail_yields, pure_then, if_yields, each_yields}

-- ---- positions

elements_position_yields : (vs : List Json) → Yields IsPosition (elements_position vs)
unfolding elements_position units
elements_position_yields vs = grind (arith, fail_yields, pure_then, then_yields, count_yields, scaled_of-within)

position_yields : (v : Json) → Yields IsPosition (position v)
unfolding position
position_yields v = pure_then IsPosition (elements v) elements_position (λ vs h. elements_position_yields vs)

-- ---- cells

within_is : (bound : ℕ) (p : Point) → is_within bound p ≡ true → IsWithin bound p
unfolding is_within
within_is bound p h = grind (arith, and_parts, unsigned_abs, leb-true)

module _ (t : Transform) where
  abbrev IsCell : Point → Type 0
  IsCell = IsPlace (Some t)

  elements_cell_yields : (bound : ℕ) (before : Point) (vs : List Json) → Yields IsCell (elements_cell t bound before vs)
  unfolding elements_cell grid_cell
  elements_cell_yields bound before vs = grind (arith, fail_yields, pure_then, count_yields, within_is)

  cells_after_yield : (before : Point) (vs : List Json) → Yields (AllByRecursion IsCell) (cells_after t before vs)
  unfolding cells_after cell
  cells_after_yield before [] = give_yields (AllByRecursion IsCell) [] tt
  cells_after_yield before (v ∷ vs) =
      then_yields IsCell (AllByRecursion IsCell) (cell t difference_limit before v) _ (pure_then IsCell (elements v)
      (elements_cell t difference_limit before) (λ vs h. elements_cell_yields difference_limit before vs))
      (λ c hc. then_yields (AllByRecursion IsCell) (AllByRecursion IsCell) (cells_after t c vs) _ (cells_after_yield c vs)
      (λ cs hs. give_yields (AllByRecursion IsCell) (c ∷ cs) (hc, hs)))

-- ---- places

pub elements_place_yields : (transform : Option Transform) (vs : List Json) → Yields (IsPlace transform) (elements_place transform vs)
unfolding elements_place
elements_place_yields None vs = elements_position_yields vs
elements_place_yields (Some t) vs = elements_cell_yields t grid_limit origin vs

pub place_yields : (transform : Option Transform) (v : Json) → Yields (IsPlace transform) (place transform v)
unfolding place
place_yields transform v = pure_then (IsPlace transform) (elements v) (elements_place transform) (λ vs h. elements_place_yields transform vs)

-- ---- arcs

arc_cells_yield : (transform : Option Transform) (vs : List Json) → Yields (AllByRecursion (IsPlace transform)) (arc_cells transform vs)
unfolding arc_cells
arc_cells_yield None vs = each_yields IsPosition position position_yields vs
arc_cells_yield (Some t) vs = cells_after_yield t origin vs

as_arc_yields : (transform : Option Transform) (cs : List Point) → AllByRecursion (IsPlace transform) cs → Yields (IsArc transform) (as_arc cs)
as_arc_yields transform cs h = grind (arith, if_yields, give_yields, leb-true, fail_yields)

pub arc_list_yields : (transform : Option Transform) (v : Json) → Yields (AllByRecursion (IsArc transform)) (arc_list transform v)
unfolding arc_list arc
arc_list_yields transform v = pure_then (AllByRecursion (IsArc transform)) (elements v) (each (arc transform)) (λ vs h. each_yields
    (IsArc transform) (arc transform) (λ v. grind (arith, pure_then, then_yields, arc_cells_yield, as_arc_yields)) vs)

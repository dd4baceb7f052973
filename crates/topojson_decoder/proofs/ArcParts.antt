-- Arcs as what is made of their cells one after another.
use Rattle.std.specs.Prelude.{nat_le}
use Rattle.std.proofs.lemmas.Bool.Decides.{nat_tests}
use Rattle.std.proofs.Common.{◌≡◌, ◌<◌, ◌≤◌, true, false, length, arith, List, [], ◌∷◌, ◌++◌, Option, Some, None, Result, Ok, Err, refl, sym, ap, ◌∙◌}
use Rattle.json_value.specs.declared.json.Json.{Json}
use Rattle.json_value.specs.Kinds.{array_of}
use Rattle.geojson_types.specs.declared.counts.Counts.{Counts}
use Rattle.geometry.specs.Points.{Point}
use Rattle.topojson_types.specs.declared.transform.Transform.{Transform}
use Rattle.topojson_types.specs.Transforms.{origin}
use Rattle.topojson_meaning.specs.declared.fault.TopoFault.{TopoFault}
use Rattle.topojson_meaning.specs.declared.fault.TopoFault.TheVariants.{WrongKind, ShortArc}
use Rattle.topojson_meaning.specs.Arcs.{position, cells_after, arc_cells, arc, arc_list, as_arc}
use Rattle.topojson_meaning.specs.Members.{elements}
use Rattle.topojson_meaning.specs.Reader.{Reader, ◌>>=◌, and_then, give, pure, or_fail, each, gather}
use Rattle.json_cursor.specs.Arrays.{array_by, list_by}
use Rattle.json_cursor.specs.Folds.{fold}
use Rattle.topojson_decoder.specs.Cells.{ArcsSoFar, Before, CellsSoFar, next_cell, after_cell, same_transform, with_arc, with_cell}
use Rattle.topojson_decoder.proofs.Running.{run_through, run_to_end}

-- ---- cells

-- the cells that values are, by what the first is read by
abbrev cells_from : Before → List Json → Reader (List Point)
cells_from (None, before) vs = each position vs
cells_from (Some t, before) vs = cells_after t before vs

no_cells : (s : Before) (c : Counts) → cells_from s [] c ≡ Ok ([], c)
unfolding gather cells_after
no_cells (None, before) c = refl
no_cells (Some t, before) c = refl

first_of_each : {B : Type 0} (next : Reader (List B)) (r : Result (B × Counts) TopoFault)
    → and_then (λ x c. and_then (λ xs. give (x ++ xs)) (next c)) (and_then (λ x. give (x ∷ [])) r) ≡ and_then (λ x. next >>= λ xs. give (x ∷ xs)) r
first_of_each next (Ok x) = refl
first_of_each next (Err e) = refl

one_cell : (s : Before) (v : Json) (vs : List Json) (c : Counts) → cells_from s (v ∷ vs) c ≡ (next_cell s v >>= λ x. cells_from (after_cell s x) vs >>= λ xs. give (x ∷ xs)) c
unfolding gather cells_after
one_cell (None, before) v vs c = first_of_each (each position vs) (position v c)
one_cell (Some t, before) v vs c = refl

-- the cells of an arc are those after the origin
all_cells : (transform : Option Transform) (vs : List Json) (c : Counts) → arc_cells transform vs c ≡ cells_from (transform, origin) vs c
unfolding arc_cells
all_cells None vs c = refl
all_cells (Some t) vs c = refl

-- ---- arcs

-- whether the cells are enough
abbrev pub arc_of : CellsSoFar → Reader (List Point)
arc_of s = as_arc s.1

abbrev pub no_cell : Option Transform → CellsSoFar
no_cell transform = ((transform, origin), [])

module _ (transform : Option Transform) where
  pub cells_made : (vs : List Json) (c : Counts) → and_then as_arc (arc_cells transform vs c) ≡ and_then arc_of (fold with_cell (no_cell transform) vs c)
  cells_made vs c = ap (and_then as_arc) (all_cells transform vs c) ∙ run_to_end next_cell after_cell cells_from no_cells one_cell as_arc (transform, origin) vs c

  arc_by : (o : Option (List Json)) (c : Counts) → (pure (or_fail WrongKind o) >>= λ vs. arc_cells transform vs >>= as_arc) c ≡ and_then arc_of (list_by WrongKind (fold with_cell (no_cell transform)) o c)
  arc_by None c = refl
  arc_by (Some vs) c = cells_made vs c

  pub arc_is : (v : Json) (c : Counts) → arc transform v c ≡ and_then arc_of (array_by WrongKind (fold with_cell (no_cell transform)) v c)
  unfolding arc elements array_by
  arc_is v c = arc_by (array_of v) c

-- ---- arcs one after another

no_arcs : (transform : Option Transform) (c : Counts) → each (arc transform) [] c ≡ Ok ([], c)
unfolding gather
no_arcs transform c = refl

one_arc : (transform : Option Transform) (v : Json) (vs : List Json) (c : Counts) → each (arc transform) (v ∷ vs) c ≡ (arc transform v >>= λ x. each (arc transform) vs >>= λ xs. give (x ∷ xs)) c
unfolding gather
one_arc transform v vs c = first_of_each (each (arc transform) vs) (arc transform v c)

-- the arcs that were read
abbrev pub arcs_of : ArcsSoFar → Reader (List (List Point))
arcs_of s = give s.1

abbrev pub no_arc : Option Transform → ArcsSoFar
no_arc transform = (transform, [])

module _ (transform : Option Transform) where
  pub all_arcs : (vs : List Json) (c : Counts) → each (arc transform) vs c ≡ and_then arcs_of (fold with_arc (no_arc transform) vs c)
  all_arcs vs c = sym (run_through arc same_transform (λ t us. each (arc t) us) no_arcs one_arc transform vs c)

  arcs_by : (o : Option (List Json)) (c : Counts) → (pure (or_fail WrongKind o) >>= each (arc transform)) c ≡ and_then arcs_of (list_by WrongKind (fold with_arc (no_arc transform)) o c)
  arcs_by None c = refl
  arcs_by (Some vs) c = all_arcs vs c

  pub arcs_are : (v : Json) (c : Counts) → arc_list transform v c ≡ and_then arcs_of (array_by WrongKind (fold with_arc (no_arc transform)) v c)
  unfolding arc_list elements array_by
  arcs_are v c = arcs_by (array_of v) c

-- ---- how long an arc is

module _ (s : CellsSoFar) (c : Counts) where
  pub short_arc : length s.1 < 2 → arc_of s c ≡ Err ShortArc
  short_arc h = let few : nat_le 2 (length s.1) ≡ false = grind (arith, nat_tests) in rw few refl

  pub long_arc : 2 ≤ length s.1 → arc_of s c ≡ Ok (s.1, c)
  long_arc h = let many : nat_le 2 (length s.1) ≡ true = grind (arith, nat_tests) in rw many refl

-- The ends of arcs as what is made of their cells one after another.
use Rattle.std.specs.Prelude.{◌==◌, nat_le, sum, map, if◌then◌else◌}
use Rattle.std.proofs.Common.{◌≡◌, ℕ, ◌+◌, ◌<◌, ◌≤◌, Bool, true, false, length, arith, List, [], ◌∷◌, ◌++◌, Option, Some, None, Result, Ok, Err, refl, sym, ap, ◌∙◌}
use Rattle.std.proofs.lemmas.Bool.Decides.{nat_tests}
use Rattle.std.proofs.lemmas.List.{length_push, map-append}
use Rattle.std.proofs.lemmas.List.Sums.{sum-map, sum_by_push}
use Rattle.byte_ends.specs.Ends.{saturated}
use Rattle.json_value.specs.declared.json.Json.{Json}
use Rattle.json_value.specs.Kinds.{array_of}
use Rattle.geojson_types.specs.declared.counts.Counts.{Counts}
use Rattle.geometry.specs.Points.{Point}
use Rattle.topojson_types.specs.declared.transform.Transform.{Transform}
use Rattle.topojson_types.specs.Transforms.{origin}
use Rattle.topojson_meaning.specs.declared.fault.TopoFault.{TopoFault}
use Rattle.topojson_meaning.specs.declared.fault.TopoFault.TheVariants.{WrongKind, ShortArc}
use Rattle.topojson_meaning.specs.Arcs.{arc_cells, arc, arc_list, as_arc}
use Rattle.topojson_meaning.specs.Members.{elements}
use Rattle.topojson_meaning.specs.Reader.{Reader, ◌>>=◌, and_then, fail, give, pure, or_fail, each}
use Rattle.json_cursor.specs.declared.stop.Stop.{Stop}
use Rattle.json_cursor.specs.Answers.{Stops}
use Rattle.json_cursor.specs.Arrays.{array_by, list_by}
use Rattle.json_cursor.specs.Folds.{fold}
use Rattle.json_cursor.proofs.Steps.{then_stops}
use Rattle.topojson_decoder.specs.ArcEnds.{EndsOfArcsSoFar, EndsSoFar, arc_ends, arc_ends_list, ends, ends_from, ends_kept, ends_of, ends_of_all, last_from, more_ends, with_arc_ends, with_end, with_more, with_more_arcs}
use Rattle.topojson_decoder.specs.declared.arc_ends.KeptArcs.{KeptArcs}
use Rattle.topojson_decoder.specs.Cells.{ArcsSoFar, CellsSoFar, next_cell, after_cell, same_transform, with_arc, with_cell}
use Rattle.topojson_decoder.proofs.ArcParts.{all_arcs, arc_of, arcs_of, cells_made, no_arc, no_cell}
use Rattle.topojson_decoder.proofs.Running.{stepping, step_through}

-- ---- one more cell

last_more : (c : Point) (cs : List Point) (x : Point) → last_from c (cs ++ x ∷ []) ≡ x
last_more c [] x = refl
last_more c (d ∷ ds) x = last_more d ds x

ends_more : (cs : List Point) (x : Point) → more_ends (ends cs) x ≡ ends (cs ++ x ∷ [])
ends_more [] x = refl
ends_more (c ∷ cs) x = ap (λ z. c ∷ z ∷ []) (sym (last_more c cs x))

count_more : (m n : ℕ) → n ≡ m + 1 → saturated (saturated m + 1) ≡ saturated n
count_more m n h = omega (arith, h)

one_more : (cs : List Point) (x : Point) → with_more (ends_of cs) x ≡ ends_of (cs ++ x ∷ [])
one_more cs x = λ i. (ends_more cs x i, count_more (length cs) (length (cs ++ x ∷ [])) (length_push cs x) i)

pub both_ends : (n : ℕ) (first cell : Point) → 2 ≤ n → ends_from n first cell ≡ first ∷ cell ∷ []
both_ends n first cell h = let some : (n == 0) ≡ false = grind (arith, nat_tests) in rw some refl

-- ---- whether they are enough

enough : (n : ℕ) → nat_le 2 (saturated n) ≡ nat_le 2 n
enough n = grind (arith, nat_tests)

abbrev pub ends_end : EndsSoFar → Reader (List Point × ℕ)
ends_end s = if nat_le 2 s.1.1 then give s.1 else fail ShortArc

abbrev pub no_end : Option Transform → EndsSoFar
no_end transform = ((transform, origin), ([], 0))

by_test : (b : Bool) (cs : List Point) (d : Counts) → and_then (λ x. give (ends_of x)) ((if b then give cs else fail ShortArc) d) ≡ (if b then give (ends_of cs) else fail ShortArc) d
by_test true cs d = refl
by_test false cs d = refl

ends_at_end : (s : CellsSoFar) (d : Counts) → and_then (λ x. give (ends_of x)) (arc_of s d) ≡ ends_end (s.0, ends_of s.1) d
ends_at_end s d = by_test (nat_le 2 (length s.1)) s.1 d ∙ ap (λ b. (if b then give (ends_of s.1) else fail ShortArc) d) (sym (enough (length s.1)))

in_ends : (r : Result (CellsSoFar × Counts) TopoFault) → and_then (λ x. give (ends_of x)) (and_then arc_of r) ≡ and_then ends_end (and_then (λ s. give (s.0, ends_of s.1)) r)
in_ends (Ok x) = ends_at_end x.0 x.1
in_ends (Err e) = refl

module _ (transform : Option Transform) where
  ends_made : (vs : List Json) (c : Counts) → and_then (λ x. give (ends_of x)) (and_then as_arc (arc_cells transform vs c)) ≡ and_then ends_end (fold with_end (no_end transform) vs c)
  ends_made vs c =
      ap (and_then (λ x. give (ends_of x))) (cells_made transform vs c)
      ∙ in_ends (fold with_cell (no_cell transform) vs c)
      ∙ ap (and_then ends_end) (sym (step_through next_cell after_cell with_more ends_of one_more vs (transform, origin) [] c))

  ends_by : (o : Option (List Json)) (c : Counts) → and_then (λ x. give (ends_of x)) ((pure (or_fail WrongKind o) >>= λ vs. arc_cells transform vs >>= as_arc) c) ≡ and_then ends_end (list_by WrongKind (fold with_end (no_end transform)) o c)
  ends_by None c = refl
  ends_by (Some vs) c = ends_made vs c

  pub arc_ends_is : (v : Json) (c : Counts) → arc_ends transform v c ≡ and_then ends_end (array_by WrongKind (fold with_end (no_end transform)) v c)
  unfolding arc elements array_by
  arc_ends_is v c = ends_by (array_of v) c

module _ (s : EndsSoFar) (c : Counts) where
  pub few_ends : s.1.1 < 2 → ends_end s c ≡ Err ShortArc
  few_ends h = let few : nat_le 2 s.1.1 ≡ false = grind (arith, nat_tests) in rw few refl

  pub enough_ends : 2 ≤ s.1.1 → ends_end s c ≡ Ok (s.1, c)
  enough_ends h = let many : nat_le 2 s.1.1 ≡ true = grind (arith, nat_tests) in rw many refl

-- ---- one more arc

sum_more : (a b n : ℕ) → n ≡ a + b → saturated (saturated a + saturated b) ≡ saturated n
sum_more a b n h = omega (arith, h)

positions_more : (arcs : List (List Point)) (one : List Point) → saturated (saturated (sum (map length arcs)) + saturated (length one)) ≡ saturated (sum (map length (arcs ++ one ∷ [])))
positions_more arcs one =
    sum_more (sum (map length arcs)) (length one) (sum (map length (arcs ++ one ∷ [])))
    (sum-map length (arcs ++ one ∷ []) ∙ sum_by_push length arcs one ∙ ap (λ z. z + length one) (sym (sum-map length arcs)))

one_more_arc : (arcs : List (List Point)) (one : List Point) → with_more_arcs (ends_of_all arcs) (ends_of one) ≡ ends_of_all (arcs ++ one ∷ [])
one_more_arc arcs one = λ i. (sym (map-append ends arcs (one ∷ [])) i, positions_more arcs one i)

abbrev step_arc : List (List Point) × ℕ → List Point → List (List Point) × ℕ
step_arc s one = with_more_arcs s (ends_of one)

at_once : (t : Option Transform) (s : List (List Point) × ℕ) (r : Result (List Point × Counts) TopoFault) → and_then {B = EndsOfArcsSoFar} (λ one. give (t, with_more_arcs s one)) (and_then (λ cells. give (ends_of cells)) r) ≡ and_then {B = EndsOfArcsSoFar} (λ one. give (t, step_arc s one)) r
at_once t s (Ok x) = refl
at_once t s (Err e) = refl

alike : (s : EndsOfArcsSoFar) (v : Json) (c : Counts) → with_arc_ends s v c ≡ stepping arc same_transform step_arc s v c
alike s v c = at_once s.0 s.1 (arc s.0 v c)

pub with_arc_ends_stops : (prefix : Option (Json × List ℕ)) (old : Counts) (why : Stop TopoFault) (s : EndsOfArcsSoFar) → Stops (arc_ends s.0) prefix old why → Stops (with_arc_ends s) prefix old why
with_arc_ends_stops prefix old why s h = then_stops (arc_ends s.0) (λ one. give (s.0, with_more_arcs s.1 one)) (with_arc_ends s) prefix old (λ v. refl) why h

abbrev pub arcs_end : EndsOfArcsSoFar → Reader KeptArcs
arcs_end s = give (record { list = s.1.0; positions = Some s.1.1 })

abbrev pub no_arc_ends : Option Transform → EndsOfArcsSoFar
no_arc_ends transform = (transform, ([], 0))

in_arcs : (r : Result (ArcsSoFar × Counts) TopoFault) → and_then (λ arcs. give (ends_kept arcs)) (and_then arcs_of r) ≡ and_then arcs_end (and_then (λ s. give (s.0, ends_of_all s.1)) r)
in_arcs (Ok x) = refl
in_arcs (Err e) = refl

all_alike : (s : EndsOfArcsSoFar) (vs : List Json) (c : Counts) → fold with_arc_ends s vs c ≡ fold (stepping arc same_transform step_arc) s vs c
all_alike s vs c = λ i. fold (λ t v d. alike t v d i) s vs c

module _ (transform : Option Transform) where
  arcs_made : (vs : List Json) (c : Counts) → and_then (λ arcs. give (ends_kept arcs)) (each (arc transform) vs c) ≡ and_then arcs_end (fold with_arc_ends (no_arc_ends transform) vs c)
  arcs_made vs c =
      ap (and_then (λ arcs. give (ends_kept arcs))) (all_arcs transform vs c)
      ∙ in_arcs (fold with_arc (no_arc transform) vs c)
      ∙ ap (and_then arcs_end) (sym (step_through arc same_transform step_arc ends_of_all one_more_arc vs transform [] c))
      ∙ ap (and_then arcs_end) (sym (all_alike (no_arc_ends transform) vs c))

  arcs_by : (o : Option (List Json)) (c : Counts) → and_then (λ arcs. give (ends_kept arcs)) ((pure (or_fail WrongKind o) >>= each (arc transform)) c) ≡ and_then arcs_end (list_by WrongKind (fold with_arc_ends (no_arc_ends transform)) o c)
  arcs_by None c = refl
  arcs_by (Some vs) c = arcs_made vs c

  pub arc_ends_list_is : (v : Json) (c : Counts) → arc_ends_list transform v c ≡ and_then arcs_end (array_by WrongKind (fold with_arc_ends (no_arc_ends transform)) v c)
  unfolding arc_list elements array_by
  arc_ends_list_is v c = arcs_by (array_of v) c

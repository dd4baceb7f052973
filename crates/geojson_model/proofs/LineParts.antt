-- Lines, rings and polygons by what is read of their elements.
use Rattle.std.proofs.Common.{◌≡◌, ℕ, ◌<◌, ◌≤◌, Bool, true, false, List, [], ◌∷◌, length, Option, Some, None, Result, Ok, Err, refl, sym, ap, ◌∙◌, arith}
use Rattle.std.specs.Prelude.{nat_le, option_to_list}
use Rattle.std.proofs.lemmas.Bool.Decides.{nat_tests}
use Rattle.json_value.specs.declared.json.Json.{Json}
use Rattle.json_value.specs.Kinds.{array_of}
use Rattle.geometry.specs.Points.{Point}
use Rattle.geometry.specs.Rings.{is_closed}
use Rattle.geojson_types.specs.declared.counts.Counts.{Counts}
use Rattle.geojson_meaning.specs.declared.fault.GeoFaultKind.{GeoFaultKind}
use Rattle.geojson_meaning.specs.declared.fault.GeoFaultKind.TheVariants.{WrongKind, ShortLine, ShortRing, OpenRing}
use Rattle.geojson_meaning.specs.Coordinates.{position}
use Rattle.geojson_meaning.specs.Lines.{some_elements, elements_in, line, line_in, as_line}
use Rattle.geojson_meaning.specs.Polygons.{ring, ring_in, as_ring, polygon, polygon_in, with_outer}
use Rattle.geojson_meaning.specs.Reader.{Reader, and_then, give, gather, if_some}
use Rattle.json_cursor.specs.declared.stop.Stop.{Stop}
use Rattle.json_cursor.specs.declared.stop.Stop.TheVariants as stop
use Rattle.json_cursor.specs.Answers.{Reads, Stops}
use Rattle.json_cursor.specs.Arrays.{always, array_by, list_by, led_by, led, some_array_by, some_of}
use Rattle.json_cursor.specs.Folds.{one, some_one}
use Rattle.json_cursor.proofs.ArrayParts.{made_at_end, same_some_array}
use Rattle.json_cursor.proofs.Steps.{then_reads, then_faults, then_stops}

-- ---- arrays that are to have elements

of_kind : (o : Option (List Json)) (c : Counts) → elements_in o c ≡ list_by WrongKind some_of o c
of_kind None c = refl
of_kind (Some []) c = refl
of_kind (Some (v ∷ vs)) c = refl

pub elements_by : {B : Type 0} (part : List Json → Reader (Option B)) (v : Json) (c : Counts) → and_then (if_some part) (some_elements v c) ≡ some_array_by WrongKind part v c
unfolding some_elements array_by
elements_by part v c = ap (and_then (if_some part)) (of_kind (array_of v) c)

-- ---- lines

module _ (exact : Bool) where
  -- its positions, before it is looked at whether they are enough
  abbrev pub positions : Json → Reader (Option (List Point))
  positions = some_array_by WrongKind (always (gather (one (position exact))))

  line_is : (v : Json) (c : Counts) → line exact v c ≡ and_then (if_some as_line) (positions v c)
  unfolding line line_in
  line_is v c = elements_by (line_in exact) v c ∙ made_at_end WrongKind (gather (one (position exact))) as_line v c

  ring_is : (v : Json) (c : Counts) → ring exact v c ≡ and_then (if_some as_ring) (positions v c)
  unfolding ring ring_in
  ring_is v c = elements_by (ring_in exact) v c ∙ made_at_end WrongKind (gather (one (position exact))) as_ring v c

  module _ (prefix : Option (Json × List ℕ)) (old : Counts) where
    pub line_stops : (s : Stop GeoFaultKind) → Stops positions prefix old s → Stops (line exact) prefix old s
    line_stops s h = then_stops positions (if_some as_line) (line exact) prefix old (λ v. line_is v old) s h

    pub ring_stops : (s : Stop GeoFaultKind) → Stops positions prefix old s → Stops (ring exact) prefix old s
    ring_stops s h = then_stops positions (if_some as_ring) (ring exact) prefix old (λ v. ring_is v old) s h

    module _ (rest : List ℕ) (new : Counts) where
      pub no_line : Reads positions prefix None rest old new → Reads (line exact) prefix None rest old new
      no_line r = then_reads positions (if_some as_line) (line exact) prefix old new (λ v. line_is v old) None rest r None new refl

      pub no_ring : Reads positions prefix None rest old new → Reads (ring exact) prefix None rest old new
      no_ring r = then_reads positions (if_some as_ring) (ring exact) prefix old new (λ v. ring_is v old) None rest r None new refl

      module _ (ps : List Point) (r : Reads positions prefix (Some ps) rest old new) where
        pub some_line : 2 ≤ length ps → Reads (line exact) prefix (Some ps) rest old new
        some_line long = let enough : nat_le 2 (length ps) ≡ true = grind (arith, nat_tests) in then_reads positions (if_some as_line) (line exact) prefix old new (λ v. line_is v old) (Some ps) rest r (Some ps) new (rw enough refl)

        pub short_line : length ps < 2 → Stops (line exact) prefix old (stop.Fault ShortLine)
        short_line short = let few : nat_le 2 (length ps) ≡ false = grind (arith, nat_tests) in then_faults positions (if_some as_line) (line exact) prefix old new (λ v. line_is v old) (Some ps) rest r ShortLine (rw few refl)

        pub short_ring : length ps < 4 → Stops (ring exact) prefix old (stop.Fault ShortRing)
        short_ring short = let few : nat_le 4 (length ps) ≡ false = grind (arith, nat_tests) in then_faults positions (if_some as_ring) (ring exact) prefix old new (λ v. ring_is v old) (Some ps) rest r ShortRing (rw few refl)

        module _ (long : 4 ≤ length ps) where
          enough : nat_le 4 (length ps) ≡ true
          enough = grind (arith, nat_tests)

          pub open_ring : is_closed ps ≡ false → Stops (ring exact) prefix old (stop.Fault OpenRing)
          open_ring h = then_faults positions (if_some as_ring) (ring exact) prefix old new (λ v. ring_is v old) (Some ps) rest r OpenRing (rw (enough, h) refl)

          pub some_ring : is_closed ps ≡ true → Reads (ring exact) prefix (Some ps) rest old new
          some_ring h = then_reads positions (if_some as_ring) (ring exact) prefix old new (λ v. ring_is v old) (Some ps) rest r (Some ps) new (rw (enough, h) refl)

-- ---- polygons

module _ (exact : Bool) where
  outer_led : (outer : Option (List Point)) (r : Result (List (List Point) × Counts) GeoFaultKind) → and_then (λ inner. give (with_outer outer inner)) r ≡ and_then (λ inner. give (led (option_to_list outer) inner)) r
  outer_led outer (Err e) = refl
  outer_led None (Ok x) = refl
  outer_led (Some ps) (Ok x) = refl

  first_led : (vs : List Json) (r : Result (Option (List Point) × Counts) GeoFaultKind)
      → and_then (λ outer c. and_then (λ inner. give (with_outer outer inner)) (gather (some_one (ring exact)) vs c)) r
      ≡ and_then (λ first c. and_then (λ inner. give (led first inner)) (gather (some_one (ring exact)) vs c)) (and_then (λ outer. give (option_to_list outer)) r)
  first_led vs (Ok x) = outer_led x.0 (gather (some_one (ring exact)) vs x.1)
  first_led vs (Err e) = refl

  rings_led : (vs : List Json) (c : Counts) → led_by (some_one (ring exact)) vs c ≡ polygon_in exact vs c
  unfolding polygon_in
  rings_led [] c = refl
  rings_led (v ∷ vs) c = sym (first_led vs (ring exact v c))

  pub polygon_is : (v : Json) (c : Counts) → some_array_by WrongKind (led_by (some_one (ring exact))) v c ≡ polygon exact v c
  unfolding polygon
  polygon_is v c = same_some_array WrongKind (led_by (some_one (ring exact))) (polygon_in exact) rings_led v c ∙ sym (elements_by (polygon_in exact) v c)

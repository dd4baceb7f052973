-- An arc that stands as it is written is read as it.
use Rattle.std.proofs.Common.{◌≡◌, ℕ, ◌<◌, ◌≤◌, Bool, true, false, List, [], ◌∷◌, ◌++◌, ◌-◌, length, map, take, Some, None, ap, sym, ◌∙◌, append_assoc, length-append, arith}
use Rattle.std.specs.Prelude.{ℤ, ◌^◌, IsUtf8, codes, unsigned_abs}
use Rattle.std.specs.List.{AllByRecursion, flat_map}
use Rattle.std.specs.Str.{is_utf8}
use Rattle.std.proofs.lemmas.Grind.{flat_map-append}
use Rattle.std.proofs.lemmas.List.{append-nil, take_at}
use Rattle.std.proofs.lemmas.Str.{is_utf8-from_IsUtf8}
use Rattle.owned_values.specs.Commas.{comma_unless, with_commas}
use Rattle.owned_values.proofs.Elements.{all_append, all_weaker}
use Rattle.decimal_text.specs.Scaling.{units_text}
use Rattle.decimal_text.proofs.NumberBytes.{units_utf8}
use Rattle.decimal_text.proofs.UnitsText.{units_text-number}
use Rattle.json_value.specs.declared.json.Json.{Json}
use Rattle.json_value.specs.Depth.{depth}
use Rattle.json_value.specs.Reading.{value_at}
use Rattle.json_value.specs.Text.{json_text}
use Rattle.json_value.specs.WellFormed.{IsWellFormed}
use Rattle.json_value.proofs.Inherits.{Inherits, items_inherit, depth_inherits, numbers_inherit, utf8_inherits}
use Rattle.json_value.proofs.Nesting.{deeper}
use Rattle.json_value.proofs.Texts.{text-array, text-number}
use Rattle.json_value.proofs.Utf8.{ascii_split, text_utf8}
use Rattle.json_value.proofs.Written.{text_spells}
use Rattle.json_value.proofs.WrittenUtf8.{written_utf8}
use Rattle.json_reading.proofs.Ending.{Ends}
use Rattle.json_reading.proofs.ValuesFound.{found}
use Rattle.geojson_types.specs.declared.counts.Counts.{Counts}
use Rattle.geometry.specs.Points.{Point, IsInput, IsPosition}
use Rattle.geometry.specs.Units.{input_limit, unit_places}
use Rattle.topojson_types.specs.Values.{arc_value, cell_value, number_value}
use Rattle.topojson_meaning.specs.Arcs.{arc}
use Rattle.topojson_meaning.proofs.ArcsBack.{arc_back}
use Rattle.json_cursor.specs.Answers.{Reads}
use Rattle.json_cursor.specs.Arrays.{prefix_value}
use Rattle.topojson_decoder.specs.LeastArcs.{AreSpelled}

-- ---- the value of an arc

module _ {Number Text : List ℕ → Type 0} {X : ℕ → Json → Type 0} (is : Inherits Number Text X) (number : (u : ℤ) → unsigned_abs u < 10 ^ 64 → Number (units_text u unit_places)) where
  position_has : (p : Point) → IsPosition p → X 1 (cell_value None p)
  position_has p h = is.array 0 (number_value unit_places p.x ∷ (number_value unit_places p.y ∷ []))
      (is.number 0 _ (number p.x (omega (arith, h.0))), (is.number 0 _ (number p.y (omega (arith, h.1))), tt))

  arc_has : (cs : List Point) → AllByRecursion IsPosition cs → X 2 (arc_value None cs)
  arc_has = items_inherit is 1 IsPosition (cell_value None) position_has

arc_formed : (cs : List Point) → AllByRecursion IsPosition cs → IsWellFormed (arc_value None cs)
arc_formed cs h = record {
  numbers = arc_has numbers_inherit (λ u k. units_text-number u unit_places k) cs h;
  texts = (arc_has utf8_inherits (λ u k. units_utf8 u unit_places) cs h).texts;
}

-- ---- it is read

arc_found : (d : ℕ) (cs : List Point) (rest : List ℕ) → 2 ≤ d → Ends rest → AllByRecursion IsPosition cs → value_at is_utf8 d (json_text (arc_value None cs) ++ rest) ≡ Some (arc_value None cs, rest)
arc_found d cs rest deep ends h =
    let formed = arc_formed cs h in
    let nests : depth (arc_value None cs) ≤ 2 = arc_has depth_inherits (λ u k. tt) cs h in
    found is_utf8 (λ b. IsUtf8 b) (λ s t k f. is_utf8-from_IsUtf8 t (text_utf8 s t k f)) ascii_split (deeper (text_spells (arc_value None cs) formed.numbers) d (omega arith)) (written_utf8 (arc_value None cs) formed) rest ends

module _ (bytes inside rest : List ℕ) (cs : List Point) (opens : bytes ≡ codes "[" ++ inside) (s : AreSpelled cs inside rest) where
  pub splits : bytes ≡ json_text (arc_value None cs) ++ rest
  splits = rw text-array (opens ∙ ap (λ z. 91 ∷ z) s.text)

  pub no_longer : length rest ≤ length bytes
  no_longer = omega (arith, ap length splits, length-append (json_text (arc_value None cs)) rest)

  pub text_is : take (length bytes - length rest) bytes ≡ json_text (arc_value None cs)
  text_is =
      let text = json_text (arc_value None cs) in
      ap (take (length bytes - length rest)) splits ∙ take_at text rest (length bytes - length rest) (omega (arith, ap length splits, length-append text rest))

  pub arc_reads : (d : ℕ) → 2 ≤ d → Ends rest → 2 ≤ length cs → (c : Counts) → Reads (arc None) (prefix_value d bytes) cs rest c c
  arc_reads d deep ends long c =
      let here = all_weaker IsInput IsPosition (λ p k. (omega (arith, k.0), omega (arith, k.1))) cs s.within in
      record { value = arc_value None cs; prefix_is = ap (prefix_value d) splits ∙ arc_found d cs rest deep ends here; means = arc_back None cs (long, here) c }

-- ---- its positions, one after another

abbrev written : Point → List ℕ
written p = json_text (cell_value None p)

-- each with a comma after it
abbrev pub begun : List Point → List ℕ
begun cs = flat_map (λ c. written c ++ codes ",") cs

pub position_text : (x y : ℤ) → written (record { x = x; y = y }) ≡ codes "[" ++ (units_text x unit_places ++ (codes "," ++ (units_text y unit_places ++ codes "]")))
position_text x y = simp (text-array, text-number, append_assoc, append-nil)

last_comma : (is_first : Bool) (cs : List Point) (c : Point) → with_commas is_first (map json_text (map (cell_value None) (cs ++ c ∷ []))) ≡ comma_unless is_first ++ (begun cs ++ written c)
last_comma b [] c = simp append-nil
last_comma b (d ∷ cs) c = rw (last_comma false cs c) (simp append_assoc)

-- these positions stand so far, and then what is left
pub record SoFar (cells : List Point) (inside left : List ℕ) : Type 0 where
  pub text : inside ≡ begun cells ++ left
  pub within : AllByRecursion IsInput cells

module _ (cells : List Point) (inside left following : List ℕ) (s : SoFar cells inside left) (x y : ℤ) (position : left ≡ (codes "[" ++ (units_text x unit_places ++ (codes "," ++ (units_text y unit_places ++ codes "]")))) ++ following)
    (first : unsigned_abs x ≤ input_limit) (second : unsigned_abs y ≤ input_limit) where
  abbrev cell : Point
  cell = record { x = x; y = y }

  splits_so : inside ≡ begun cells ++ (written cell ++ following)
  splits_so = s.text ∙ ap (λ z. begun cells ++ z) (position ∙ ap (λ z. z ++ following) (sym (position_text x y)))

  all_within : AllByRecursion IsInput (cells ++ cell ∷ [])
  all_within = all_append IsInput cells (cell ∷ []) s.within ((first, second), tt)

  pub goes_on : (more : List ℕ) → following ≡ codes "," ++ more → SoFar (cells ++ cell ∷ []) inside more
  goes_on more h = record { text = splits_so ∙ rw (h, flat_map-append) (simp (append_assoc, append-nil)); within = all_within }

  pub ends : (rest : List ℕ) → following ≡ codes "]" ++ rest → AreSpelled (cells ++ cell ∷ []) inside rest
  ends rest h = record { text = splits_so ∙ rw (h, last_comma true cells cell) (simp append_assoc); within = all_within }

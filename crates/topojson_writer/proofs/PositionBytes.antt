-- The bytes of a position: but for its own brackets there is none that closes.
use Rattle.std.proofs.Common.{◌≡◌, ℕ, ◌<◌, ℤ, false, List, [], ◌∷◌, ◌++◌, refl, ap, ◌∙◌, append_assoc, append-nil, arith}
use Rattle.std.specs.List.{AllByRecursion}
use Rattle.std.specs.Prelude.{◌==◌, codes}
use Rattle.std.proofs.lemmas.Bool.Decides.{nat_tests}
use Rattle.owned_values.proofs.Elements.{all_append, all_weaker}
use Rattle.decimal_text.proofs.NumberBytes.{units_small}
use Rattle.decimal_text.specs.Scaling.{units_text}
use Rattle.json_value.specs.Text.{json_text}
use Rattle.json_value.proofs.Texts.{text-array, text-number}
use Rattle.geometry.specs.Points.{Point}
use Rattle.geometry.specs.Units.{unit_places}
use Rattle.topojson_writer.specs.FeatureValues.{position_value}
use Rattle.topojson_writer.specs.LineTexts.{behind_bracket}

-- each byte is less than a bracket that closes
abbrev AreLess : List ℕ → Type 0
AreLess bs = AllByRecursion (λ b. b < 93) bs

units_less : (units : ℤ) (places : ℕ) → AreLess (units_text units places)
units_less units places = all_weaker (λ b. b < 58) (λ b. b < 93) (λ b h. omega (arith, h)) (units_text units places) (units_small units places)

-- ---- behind the bracket

behind_less : (bs rest : List ℕ) → AreLess bs → behind_bracket (bs ++ 93 ∷ rest) ≡ rest
behind_less [] rest h = refl
behind_less (b ∷ bs) rest h =
    let other : (b == 93) ≡ false = grind (arith, nat_tests, h.0) in
    rw other (behind_less bs rest h.1)

position_bytes : (p : Point) → json_text (position_value p) ≡ codes "[" ++ (units_text p.x unit_places ++ (codes "," ++ (units_text p.y unit_places ++ codes "]")))
position_bytes p = simp (text-array, text-number, append_assoc, append-nil)

-- of the text of a position, and of another bracket in front
pub behind_position : (p : Point) (rest : List ℕ) → behind_bracket (codes "[" ++ (json_text (position_value p) ++ rest)) ≡ rest
behind_position p rest =
    let x = units_text p.x unit_places in
    let y = units_text p.y unit_places in
    let inner = codes "[[" ++ (x ++ (codes "," ++ y)) in
    let less : AreLess inner = (omega arith, (omega arith, all_append (λ b. b < 93) x (codes "," ++ y) (units_less p.x unit_places) (omega arith, units_less p.y unit_places))) in
    let split : codes "[" ++ (json_text (position_value p) ++ rest) ≡ inner ++ 93 ∷ rest = rw (position_bytes p) (simp append_assoc) in
    ap behind_bracket split ∙ behind_less inner rest less

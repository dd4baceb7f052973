-- The escaped bytes of a text spell it.
use Rattle.std.proofs.Common.{◌≡◌, ℕ, ◌+◌, ◌*◌, ◌/◌, ◌%◌, ◌<◌, false, List, [], ◌∷◌, ◌++◌, Some, refl, arith}
use Rattle.std.specs.Prelude.{codes, encode_utf8}
use Rattle.std.proofs.lemmas.Bool.Decides.{nat_tests}
use Rattle.std.proofs.lemmas.Str.{encode_ascii}
use Rattle.std.proofs.Math.Nat.{div-add-mod}
use Rattle.json_value.specs.Grammar.{hex_value, is_high, is_low, SpellsUnit, unit_of, SpellsChars, chars_end, chars_plain, chars_escape, chars_unit}
use Rattle.json_value.specs.Text.{hex_digit, escaped_byte, escaped}

-- a hexadecimal digit is read as the number that it was written for
hex_again : (n : ℕ) → n < 16 → hex_value (hex_digit n) ≡ Some n
hex_again n h = grind (arith, nat_tests)

not_high : (b : ℕ) → b < 32 → is_high b ≡ false
not_high b h = grind (arith, nat_tests)

not_low : (b : ℕ) → b < 32 → is_low b ≡ false
not_low b h = grind (arith, nat_tests)

-- the six bytes that stand for any other byte below a blank
unit_spelled : (b : ℕ) → b < 32 → SpellsUnit (92 ∷ 117 ∷ 48 ∷ 48 ∷ hex_digit (b / 16) ∷ hex_digit (b % 16) ∷ []) b
unit_spelled b h =
    let parts = div-add-mod b 16 in
    let whole : ((0 * 16 + 0) * 16 + b / 16) * 16 + b % 16 ≡ b = omega arith in
    rw whole at (unit_of 48 48 (hex_digit (b / 16)) (hex_digit (b % 16)) refl refl (hex_again (b / 16) (omega arith)) (hex_again (b % 16) (omega arith)))

control_spelled : (b : ℕ) {s t : List ℕ} → b < 32 → SpellsChars s t → SpellsChars ((codes "\\u00" ++ hex_digit (b / 16) ∷ hex_digit (b % 16) ∷ []) ++ s) (b ∷ t)
control_spelled b {s} {t} h more =
    let one : encode_utf8 b ≡ b ∷ [] = encode_ascii b (omega arith) in
    rw one at (chars_unit _ b s t (unit_spelled b h) (not_high b h) (not_low b h) more)

byte_spelled : (b : ℕ) {s t : List ℕ} → SpellsChars s t → SpellsChars (escaped_byte b ++ s) (b ∷ t)
byte_spelled b h = unfold escaped_byte in grind (arith, nat_tests, chars_plain, chars_escape, control_spelled)

pub escaped_spells : (t : List ℕ) → SpellsChars (escaped t) t
escaped_spells [] = chars_end
escaped_spells (b ∷ t) = byte_spelled b (escaped_spells t)

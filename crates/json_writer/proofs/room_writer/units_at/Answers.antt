use Rattle.std.proofs.Common.{◌≡◌, ℕ, ◌/◌, ◌%◌, ◌^◌, List, ◌++◌, ap, ◌∙◌, decimal, int_lt, pos, take, unsigned_abs}
use mir.Syntax.{w64}
use Rattle.std.proofs.lemmas.List.{append_assoc}
use Rattle.std.proofs.lemmas.Int.{to_z-of_z}
use Rattle.decimal_text.specs.Parts.{fraction_text, sign_text}
use Rattle.decimal_text.specs.Scaling.{units_text}
use Rattle.decimal_text.specs.Units.{fixed, trimmed}
use Rattle.json_writer.proofs.room_writer.units_at.Goals as goal

-- the sign, and behind it the number without one
made : (sign whole rest old : List ℕ) {t1 t2 : List ℕ} → t1 ≡ old ++ sign → t2 ≡ t1 ++ (whole ++ rest) → t2 ≡ old ++ ((sign ++ whole) ++ rest)
made sign whole rest old e1 e2 = e2 ∙ ap (λ t. t ++ (whole ++ rest)) e1 ∙ simp append_assoc

pub returns-clause-written : goal.returns-clause-written
unfolding units_text
returns-clause-written c =
    let units = c.args.units in
    let unit = 10 ^ c.args.places in
    let size = unsigned_abs units in
    let is = to_z-of_z w64 units c.ranges.units in
    let positive = rw is at c.unsigned_abs.ensures.value in
    let sign = rw is at c.sign_at-unsigned.ensures.written in
    made (sign_text (int_lt units (pos 0))) (decimal (size / unit)) (fraction_text (trimmed (fixed c.args.places (size % unit)))) (take c.args.at c.args.room.now) sign
    (rw positive at c.size_at.ensures.written)

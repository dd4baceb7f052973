use Rattle.std.proofs.Common.{arith, ◌≡◌, ◌≤◌, ◌^◌, sym, pos, ◌-ℤ◌, unsigned_abs, true, false}
use Rattle.std.proofs.lemmas.Int.{to_z-of_z, ints}
use mir.Syntax.{w128}
use mir.Val.{to_z, of_z}
use Rattle.decimal_text.specs.PartsInCode.{parts_in}
use Rattle.decimal_text.specs.Rounding.{signed}
use Rattle.decimal_text.specs.Scaling.{denominator, numerator}
use Rattle.decimal_text.proofs.Nearest.{rounded_of-magnitude, rounded_of-range}
use Rattle.decimal_text.proofs.ScaledNumber.{denominator-positive}
use Rattle.decimal_text.proofs.scaling.scaled_number.Goals as goal

pub returns-in_default : goal.returns-in_default
returns-in_default c = grind (arith, to_z-of_z w128 c.args.limit c.ranges.limit, rounded_of-range, denominator-positive (parts_in c.args.parts))

pub returns-then-parts : goal.returns-then-parts
returns-then-parts c =
    let n = parts_in c.args.parts in
    let same = to_z-of_z w128 c.args.limit c.ranges.limit in
    let limit = rw same at c.unsigned_abs.ensures.value in
    let found = rw limit at c.in-Ok.ensures in
    let small : c.in-Ok.found.value ≤ 10 ^ 37 = omega (arith, ints, found.within) in
    let value : to_z w128 (of_z w128 (pos 0 -ℤ to_z w128 c.in-Ok.found.value)) ≡ signed true c.in-Ok.found.value = omega (arith, ints) in
    let is = rounded_of-magnitude true (numerator n c.args.places) (denominator n) (unsigned_abs c.args.limit) c.in-Ok.found (denominator-positive n) found in
    rw (c.if-parts.true, value) (sym is)

pub returns-else-parts : goal.returns-else-parts
returns-else-parts c =
    let n = parts_in c.args.parts in
    let same = to_z-of_z w128 c.args.limit c.ranges.limit in
    let limit = rw same at c.unsigned_abs.ensures.value in
    let found = rw limit at c.in-Ok.ensures in
    let small : c.in-Ok.found.value ≤ 10 ^ 37 = omega (arith, ints, found.within) in
    let value : to_z w128 c.in-Ok.found.value ≡ signed false c.in-Ok.found.value = omega (arith, ints) in
    let is = rounded_of-magnitude false (numerator n c.args.places) (denominator n) (unsigned_abs c.args.limit) c.in-Ok.found (denominator-positive n) found in
    rw (c.if-parts.false, value) (sym is)

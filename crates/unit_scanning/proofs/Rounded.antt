-- A number of more decimals than are kept, rounded.
use Rattle.std.proofs.Common.{◌≡◌, ℕ, ◌+◌, ◌-◌, ◌*◌, ◌^◌, ◌<◌, ◌≤◌, Bool, true, Ok, sym, ap, ◌∙◌, arith}
use Rattle.std.specs.Prelude.{◌/◌, ◌%◌, ◌==◌, IsTrue, ◌↔◌}
use Rattle.std.proofs.Math.Nat.{one-le-pow}
use Rattle.std.proofs.lemmas.Nat.{div-add-mod', pow-add}
use Rattle.decimal_text.specs.declared.rounding.Magnitude.{Magnitude}
use Rattle.decimal_text.specs.Rounding.{IsRounded, ScalesTo, nearest, signed, rounded_of}
use Rattle.decimal_text.proofs.Nearest.{rounded_of-magnitude, rounded_of-nearest, rounded_of-whole, rounded_of-within}
use Rattle.geometry.specs.Units.{unit_places, units_in_one, input_limit}
use Rattle.decimal_text.proofs.RoundedFractions.{IsRounded-some, IsRounded-unique}

-- a fraction of units, at their places more
IsRounded-places : (v den u : ℕ) → IsRounded v den u → IsRounded (v * units_in_one) (units_in_one * den) u
IsRounded-places v den u r = record { low = omega (arith, r.low); high = omega (arith, r.high) }

exact_places : (v den u : ℕ) (exact : Bool) → (IsTrue exact ↔ (u * den ≡ v)) → IsTrue exact ↔ (u * (units_in_one * den) ≡ v * units_in_one)
exact_places v den u exact h = (λ t. let e = h.0 t in omega arith, λ e. h.1 (omega arith))

pub rounds : (negative : Bool) (v den limit : ℕ) → 0 < den → nearest v den ≤ limit
    → rounded_of negative (v * units_in_one) (units_in_one * den) limit ≡ Ok (record { value = signed negative (nearest v den); exact = v % den == 0 })
rounds negative v den limit some small =
    let is : IsRounded v den (nearest v den) = IsRounded-some v den some in
    let s : ScalesTo negative v den limit (Ok (record { value = signed negative (nearest v den); exact = v % den == 0 })) = rw (rounded_of-within negative v den limit small) at (rounded_of-nearest negative v den limit some) in
    let same : s.magnitude ≡ nearest v den = IsRounded-unique v den s.magnitude (nearest v den) s.rounded is in
    let m : Magnitude = record { value = nearest v den; exact = v % den == 0 } in
    let exact : IsTrue m.exact ↔ (nearest v den * den ≡ v) = rw same at s.exact in
    rounded_of-magnitude negative (v * units_in_one) (units_in_one * den) limit m (omega arith)
    record { rounded = IsRounded-places v den (nearest v den) is; exact = exact_places v den (nearest v den) m.exact exact; within = small }

-- no more decimals than are kept
pub whole_units : (negative : Bool) (v places size : ℕ) → places ≤ unit_places → size ≡ v * 10 ^ (unit_places - places) → size ≤ input_limit
    → rounded_of negative (v * units_in_one) (10 ^ places) input_limit ≡ Ok (record { value = signed negative size; exact = true })
whole_units negative v places size few is small =
    let tens : units_in_one ≡ 10 ^ (unit_places - places) * 10 ^ places = (let e : unit_places ≡ (unit_places - places) + places = omega arith in ap (λ m. 10 ^ m) e ∙ pow-add 10 (unit_places - places) places) in
    let num : v * units_in_one ≡ size * 10 ^ places = ap (λ m. v * m) tens ∙ (let e : v * (10 ^ (unit_places - places) * 10 ^ places) ≡ (v * 10 ^ (unit_places - places)) * 10 ^ places = omega arith in e) ∙ ap (λ m. m * 10 ^ places) (sym is) in
    rw num (rounded_of-whole negative (10 ^ places) size input_limit (one-le-pow places 10 (omega arith)) small)

-- more
pub rounded_units : (negative : Bool) (v places step size : ℕ) → unit_places < places → step ≡ 1 * 10 ^ (places - unit_places) → size ≡ nearest v step → size ≤ input_limit
    → rounded_of negative (v * units_in_one) (10 ^ places) input_limit ≡ Ok (record { value = signed negative size; exact = v % step == 0 })
rounded_units negative v places step size more is near small =
    let one : step ≡ 10 ^ (places - unit_places) = omega (arith, is) in
    let some : 0 < step = rw one (one-le-pow (places - unit_places) 10 (omega arith)) in
    let tens : 10 ^ places ≡ units_in_one * step = (let e : places ≡ unit_places + (places - unit_places) = omega arith in ap (λ m. 10 ^ m) e ∙ pow-add 10 unit_places (places - unit_places) ∙ ap (λ m. units_in_one * m) (sym one)) in
    rw (tens, near) (rounds negative v step input_limit some (rw near at small))

pub step_some : (step zeros : ℕ) → step ≡ 1 * 10 ^ zeros → 0 < step
step_some step zeros is = let p = one-le-pow zeros 10 (omega arith) in omega (arith, is, p)

-- decimals that are all zeros
pub zero_decimals : (negative : Bool) (v places one limit : ℕ) → one ≡ 1 * 10 ^ places → v % one ≡ 0 → v / one ≤ limit
    → rounded_of negative (v * 10 ^ 0) (10 ^ places) limit ≡ Ok (record { value = signed negative (v / one); exact = true })
zero_decimals negative v places one limit is none small =
    let tens : one ≡ 10 ^ places = omega (arith, is) in
    let num : v * 10 ^ 0 ≡ v / one * 10 ^ places = (let e = div-add-mod' v one in let f = ap (λ m. v / one * m) tens in omega (arith, e, f, none)) in
    rw num (rounded_of-whole negative (10 ^ places) (v / one) limit (one-le-pow places 10 (omega arith)) small)

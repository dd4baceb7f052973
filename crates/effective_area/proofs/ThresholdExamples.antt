-- Worked examples, computed from the definition.
use Rattle.std.proofs.Common.{◌≡◌, Some, None, refl}
use Rattle.std.specs.Prelude.{codes}
use Rattle.decimal_text.specs.Scaling.{scaled_of}
use Rattle.geometry.specs.Units.{threshold_limit}
use Rattle.effective_area.specs.Thresholds.{threshold_of}

one_and_a_half : threshold_of (codes "1.5") ≡ Some 3000000000000000000
one_and_a_half = unfold scaled_of in refl

below_zero : threshold_of (codes "-1") ≡ None
below_zero = unfold scaled_of in refl

above_all : threshold_of (codes "1e19") ≡ None
above_all = unfold scaled_of in refl

too_fine : threshold_of (codes "1e-19") ≡ None
too_fine = unfold scaled_of in refl

too_fine_below_zero : threshold_of (codes "-1e-19") ≡ None
too_fine_below_zero = unfold scaled_of in refl

ten_to_minus_fifteen : threshold_of (codes "1e-15") ≡ Some 2000
ten_to_minus_fifteen = unfold scaled_of in refl

zero : threshold_of (codes "0") ≡ Some 0
zero = unfold scaled_of in refl

minus_zero : threshold_of (codes "-0") ≡ Some 0
minus_zero = unfold scaled_of in refl

fine : threshold_of (codes "4.500000000000000001") ≡ Some 9000000000000000002
fine = unfold scaled_of in refl

largest : threshold_of (codes "1000000000000000000") ≡ Some threshold_limit
largest = unfold scaled_of in refl

past_the_largest : threshold_of (codes "1000000000000000000.000000000000000001") ≡ None
past_the_largest = unfold scaled_of in refl

rounded_to_the_largest : threshold_of (codes "1000000000000000000.0000000000000000001") ≡ None
rounded_to_the_largest = unfold scaled_of in refl

no_number : threshold_of (codes "x") ≡ None
no_number = unfold scaled_of in refl

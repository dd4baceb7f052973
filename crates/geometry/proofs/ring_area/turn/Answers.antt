use Rattle.std.proofs.Common.{◌∙◌, ◌≤◌, ◌-ℤ◌, ◌*ℤ◌, ap, sym, subst, ℕ, FitsSigned, to_z, of_z, arith, rules}
use Rattle.std.proofs.lemmas.Int.{to_z-of_z, fits_signed_from_abs}
use Rattle.std.specs.Prelude.{unsigned_abs}
use Rattle.geometry.specs.Areas.{most_turned}
use Rattle.geometry.proofs.RingAreas.{products_apart, through, read_both, both}
use Rattle.geometry.proofs.ring_area.turn.Goals as goal
use mir.Syntax.{w64, w128}

pub overflow_sub-result : goal.overflow_sub-result
overflow_sub-result c = grind (arith, products_apart, fits_signed_from_abs, through)

pub returns-clause-value : goal.returns-clause-value
returns-clause-value c =
    let px : FitsSigned w64 c.x.result = search rules in
    let qy : FitsSigned w64 c.y.result = search rules in
    let qx : FitsSigned w64 c.x-2.result = search rules in
    let py : FitsSigned w64 c.y-2.result = search rules in
    let f : FitsSigned w128 c.product-left.result = search rules in
    let g : FitsSigned w128 c.product-right.result = search rules in
    let small : unsigned_abs (c.product-left.result -ℤ c.product-right.result) ≤ most_turned = products_apart c.product-left.result c.product-right.result c.product-left.ensures.bound c.product-right.ensures.bound in
    let h : FitsSigned w128 (c.product-left.result -ℤ c.product-right.result) = fits_signed_from_abs w128 _ (omega arith) in
    let left = both ◌*ℤ◌ _ _ _ _ _ c.x.ensures.x c.y.ensures.y (read_both w64 ◌*ℤ◌ _ _ _ px qy c.product-left.ensures.value) in
    let right = both ◌*ℤ◌ _ _ _ _ _ c.x-2.ensures.x c.y-2.ensures.y (read_both w64 ◌*ℤ◌ _ _ _ qx py c.product-right.ensures.value) in
    both ◌-ℤ◌ _ _ _ _ _ left right (ap (λ z. to_z w128 (of_z w128 z)) (through _ _ f g) ∙ to_z-of_z w128 _ h)

pub returns-clause-bound : goal.returns-clause-bound
returns-clause-bound c =
    let f : FitsSigned w128 c.product-left.result = search rules in
    let g : FitsSigned w128 c.product-right.result = search rules in
    let small : unsigned_abs (c.product-left.result -ℤ c.product-right.result) ≤ most_turned = products_apart c.product-left.result c.product-right.result c.product-left.ensures.bound c.product-right.ensures.bound in
    let h : FitsSigned w128 (c.product-left.result -ℤ c.product-right.result) = fits_signed_from_abs w128 _ (omega arith) in
    let P : ℕ → Type 0 = λ n. n ≤ most_turned in
    subst P (sym (ap unsigned_abs (ap (λ z. to_z w128 (of_z w128 z)) (through _ _ f g) ∙ to_z-of_z w128 _ h))) small

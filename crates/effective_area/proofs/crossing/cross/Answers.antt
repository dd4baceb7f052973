use Rattle.std.proofs.Common.{◌<◌, ◌-ℤ◌, ◌*ℤ◌, arith, FitsSigned, of_z, to_z, ap, ◌∙◌, rules}
use Rattle.std.proofs.lemmas.Int.{to_z-of_z, fits_signed_from_abs}
use Rattle.effective_area.proofs.Products.{apart_fits}
use Rattle.geometry.proofs.RingAreas.{read_both, both, through}
use Rattle.geometry.specs.Areas.{cross}
use Rattle.geometry.specs.Units.{area_limit}
use Rattle.std.specs.Int.RustNames.{unsigned_abs}
use mir.Syntax.{w128, w64}
use Rattle.effective_area.proofs.crossing.cross.Goals as goal

pub overflow_sub-result : goal.overflow_sub-result
overflow_sub-result c = grind (arith, apart_fits, fits_signed_from_abs, through)

pub returns-clause-value : goal.returns-clause-value
returns-clause-value c = unfold cross in
    let x1 : FitsSigned w64 c.x.result = search rules in
    let x2 : FitsSigned w64 c.x-2.result = search rules in
    let y1 : FitsSigned w64 c.y.result = search rules in
    let y2 : FitsSigned w64 c.y-2.result = search rules in
    let x3 : FitsSigned w64 c.x-3.result = search rules in
    let x4 : FitsSigned w64 c.x-4.result = search rules in
    let y3 : FitsSigned w64 c.y-3.result = search rules in
    let y4 : FitsSigned w64 c.y-4.result = search rules in
    let f1 : FitsSigned w64 c.difference.result = search rules in
    let f2 : FitsSigned w64 c.difference-2.result = search rules in
    let f3 : FitsSigned w64 c.difference-3.result = search rules in
    let f4 : FitsSigned w64 c.difference-4.result = search rules in
    let f : FitsSigned w128 c.product-left.result = search rules in
    let g : FitsSigned w128 c.product-right.result = search rules in
    let small : unsigned_abs (c.product-left.result -ℤ c.product-right.result) < area_limit = apart_fits c.product-left.result c.product-right.result c.product-left.ensures.bound c.product-right.ensures.bound in
    let h : FitsSigned w128 (c.product-left.result -ℤ c.product-right.result) = fits_signed_from_abs w128 _ (omega arith) in
    let d1 = both ◌-ℤ◌ _ _ _ _ _ c.x.ensures.x c.x-2.ensures.x (read_both w64 ◌-ℤ◌ _ _ _ x1 x2 c.difference.ensures.value) in
    let d2 = both ◌-ℤ◌ _ _ _ _ _ c.y.ensures.y c.y-2.ensures.y (read_both w64 ◌-ℤ◌ _ _ _ y1 y2 c.difference-2.ensures.value) in
    let d3 = both ◌-ℤ◌ _ _ _ _ _ c.x-3.ensures.x c.x-4.ensures.x (read_both w64 ◌-ℤ◌ _ _ _ x3 x4 c.difference-3.ensures.value) in
    let d4 = both ◌-ℤ◌ _ _ _ _ _ c.y-3.ensures.y c.y-4.ensures.y (read_both w64 ◌-ℤ◌ _ _ _ y3 y4 c.difference-4.ensures.value) in
    let p1 = both ◌*ℤ◌ _ _ _ _ _ d1 d2 (read_both w64 ◌*ℤ◌ _ _ _ f1 f2 c.product-left.ensures.value) in
    let p2 = both ◌*ℤ◌ _ _ _ _ _ d3 d4 (read_both w64 ◌*ℤ◌ _ _ _ f3 f4 c.product-right.ensures.value) in
    let t = ap (λ z. to_z w128 (of_z w128 z)) (through _ _ f g) ∙ to_z-of_z w128 _ h in
    both ◌-ℤ◌ _ _ _ _ _ p1 p2 t

use Rattle.std.proofs.Common.{◌≡◌, ℤ, ◌*ℤ◌, ◌∙◌, Option, Some, None, refl, to_z, of_z, arith, rules}
use Rattle.std.proofs.lemmas.Int.{ints}
use Rattle.std.specs.Option.{SomeIff, IfSome}
use mir.Syntax.{w64}
use Rattle.topojson_types.proofs.WholeNumbers.{stands_whole}
use Rattle.topojson_types.proofs.placing.whole_number_on.Goals as goal

reported : (o : Option ℤ) (P : Type 0) (v w : ℤ) → SomeIff o P v → v ≡ w → IfSome o (λ u. u ≡ w)
reported None P v w h e = tt
reported (Some u) P v w h e = h.1 ∙ e

pub returns : goal.returns
returns c =
    let k : to_z w64 (of_z w64 c.args.number) ≡ c.args.number = omega (arith, ints) in
    let s : to_z w64 (of_z w64 c.in_ok-units.field-0) ≡ c.in_ok-units.field-0 = search rules in
    let t : to_z w64 (of_z w64 c.in_ok-units-2.field-0) ≡ c.in_ok-units-2.field-0 = search rules in
    let p : to_z w64 (of_z w64 c.in_ok-product.product) ≡ c.in_ok-product.product = search rules in
    let product : c.in_ok-product.product ≡ c.args.number *ℤ c.in_ok-units.field-0 = rw (k, s) at c.in_ok-product.ensures.1 in
    let stands = stands_whole c.args.scale.now c.args.translate.now c.args.number c.in_ok-units.field-0 c.in_ok-units-2.field-0 c.in_ok-units.ensures c.in_ok-units-2.ensures in
    rw stands (reported c.checked_add.result _ _ _ c.checked_add.ensures (rw (p, t, product) refl))

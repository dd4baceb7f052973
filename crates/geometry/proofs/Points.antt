-- What `same` says of two positions, and what their order does.
use Rattle.std.proofs.Common.{arith, ◌≡◌, true, ◌&&◌, ap, ◌∙◌}
use Rattle.std.proofs.lemmas.Cmp.{int_eq_equiv}
use Rattle.std.proofs.lemmas.Map.Lookups.{exact_signed}
use Rattle.std.specs.Ordering.{int_eq, ordering_then}
use Rattle.std.specs.declared.cmp.Ordering.{Ordering}
use Rattle.std.specs.declared.cmp.Ordering.TheVariants.{Equal}
use Rattle.geometry.specs.Order.{point_cmp}
use Rattle.geometry.specs.Points.{Point}
use Rattle.geometry.specs.Rings.{same}

pub same_self : (p : Point) → same p p ≡ true
same_self p = unfold same in ap (λ b. b && int_eq p.y p.y) (int_eq_equiv.refl p.x) ∙ int_eq_equiv.refl p.y

pub same_is : (p q : Point) → same p q ≡ true → p ≡ q
same_is p q h = unfold same in grind arith

-- both parts of a compound comparison tie
pub then_equal : (p q : Ordering) → ordering_then p q ≡ Equal → (p ≡ Equal) × (q ≡ Equal)
then_equal p q h = grind arith

pub point_exact : (p q : Point) → point_cmp p q ≡ Equal → p ≡ q
point_exact p q h = grind (arith, then_equal, exact_signed)

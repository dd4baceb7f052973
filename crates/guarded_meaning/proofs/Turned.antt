-- A triangle holds the same in either direction.
use Rattle.std.proofs.Common.{◌≡◌, Bool, true, inl, inr, arith}
use Rattle.guarded_meaning.proofs.Names.{ints, cross, Point, EitherWay, in_triangle}
use Rattle.guarded_meaning.proofs.Crosses.{cross_is}
use Rattle.guarded_meaning.proofs.Pasch.{swapped}
use Rattle.guarded_meaning.proofs.Step.{on_turned}
use Rattle.guarded_meaning.proofs.Tests.{OneSign, Has, has_says, has_passes, inner_says, inner_passes}

both_or_none : (b c : Bool) → (b ≡ true → c ≡ true) → (c ≡ true → b ≡ true) → b ≡ c
both_or_none b c f g = grind arith

module _ (a p c q : Point) where
  signs_turned : OneSign (cross a p q) (cross p c q) (cross c a q) → OneSign (cross c p q) (cross p a q) (cross a c q)
  signs_turned (inl h) = inr (omega (arith, ints, h, swapped p c q), omega (arith, ints, h, swapped a p q), omega (arith, ints, h, swapped c a q))
  signs_turned (inr h) = inl (omega (arith, ints, h, swapped p c q), omega (arith, ints, h, swapped a p q), omega (arith, ints, h, swapped c a q))

  has_turned : Has a p c q → Has c p a q
  has_turned (inl h) = inl (on_turned a c q h)
  has_turned (inr (inl h)) = inr (inr (inl (on_turned a p q h)))
  has_turned (inr (inr (inl h))) = inr (inl (on_turned p c q h))
  has_turned (inr (inr (inr h))) =
      let w = inner_says a p c q h in inr (inr (inr (inner_passes c p a q ((λ e. w.0 (omega (arith, ints, e, cross_is c p a, cross_is a p c))), signs_turned w.1))))

  back : in_triangle a p c q ≡ true → in_triangle c p a q ≡ true
  back h = has_passes c p a q (has_turned (has_says a p c q h))

pub either_way : EitherWay
either_way a p c q = both_or_none (in_triangle c p a q) (in_triangle a p c q) (back c p a q) (back a p c q)

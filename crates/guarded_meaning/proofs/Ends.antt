-- The ends of a triangle's base are in it.
use Rattle.std.proofs.Common.{◌≡◌, true, ℤ, pos, inl, arith}
use Rattle.guarded_meaning.proofs.Names.{and_from, Decides-int_eq, ints, cross, Point, is_between, is_on, in_triangle}
use Rattle.guarded_meaning.proofs.Crosses.{cross_is}
use Rattle.guarded_meaning.proofs.Tests.{has_passes}

between_last : (x y : ℤ) → is_between x y y ≡ true
between_last x y = grind (arith, ints)

on_last : (a c : Point) → is_on a c c ≡ true
unfolding is_on
on_last a c = and_from _ _ ((Decides-int_eq (cross a c c) (pos 0)).1 (omega (arith, ints, cross_is a c c))) (and_from _ _ (between_last a.x c.x) (between_last a.y c.y))

pub holds_after : (a p c : Point) → in_triangle a p c c ≡ true
holds_after a p c = has_passes a p c c (inl (on_last a c))

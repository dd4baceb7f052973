-- Products of numbers of 64 bits, which are read through their bits as numbers of 128.
use Rattle.std.proofs.Common.{◌≡◌, ◌∙◌, ℤ, ◌*ℤ◌, FitsSigned, to_z, of_z, ap, sym, subst, arith}
use Rattle.std.proofs.lemmas.Int.{ints, to_z-of_z}
use mir.Syntax.{w64, w128}

-- a number as it is read
abbrev pub widened : ℤ → ℤ
widened a = to_z w128 (of_z w128 (to_z w64 (of_z w64 a)))

fits_wider : (a : ℤ) → FitsSigned w64 a → FitsSigned w128 a
fits_wider a f = omega (arith, ints, f)

pub widened_is : (a : ℤ) → FitsSigned w64 a → widened a ≡ a
widened_is a f = ap (λ z. to_z w128 (of_z w128 z)) (to_z-of_z w64 a f) ∙ to_z-of_z w128 a (fits_wider a f)

product_read : (a b : ℤ) → FitsSigned w64 a → FitsSigned w64 b → widened a *ℤ widened b ≡ a *ℤ b
product_read a b f g = ap (λ z. z *ℤ widened b) (widened_is a f) ∙ ap (λ z. a *ℤ z) (widened_is b g)

pub product_fits : (a b : ℤ) → FitsSigned w64 a → FitsSigned w64 b → FitsSigned w128 (a *ℤ b) → FitsSigned w128 (widened a *ℤ widened b)
product_fits a b f g h = subst (FitsSigned w128) (sym (product_read a b f g)) h

pub product_is : (a b : ℤ) → FitsSigned w64 a → FitsSigned w64 b → FitsSigned w128 (a *ℤ b) → to_z w128 (of_z w128 (widened a *ℤ widened b)) ≡ a *ℤ b
product_is a b f g h = ap (λ z. to_z w128 (of_z w128 z)) (product_read a b f g) ∙ to_z-of_z w128 (a *ℤ b) h

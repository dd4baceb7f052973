-- The sum over a ring's positions, carried.
use Rattle.std.proofs.Common.{◌≡◌, ℕ, ◌+◌, ◌*◌, ◌<◌, ◌≤◌, ℤ, pos, ◌+ℤ◌, ◌-ℤ◌, ◌*ℤ◌, List, [], ◌∷◌, ◌++◌, Option, None, Some, drop, length, reverse, get_or, FitsSigned, to_z, of_z, refl, ap, ◌∙◌, arith}
use Rattle.std.proofs.lemmas.List.{drop_all, reverse-append}
use Rattle.std.proofs.lemmas.Int.{ints, to_z-of_z, fits_signed_from_abs}
use Rattle.std.specs.Prelude.{unsigned_abs}
use Rattle.geometry.specs.Areas.{turn, shoelace, turn_after, sum_after, most_turned}
use Rattle.geometry.specs.Joins.{last_of}
use Rattle.geometry.specs.Points.{Point}
use Rattle.owned_values.proofs.Lists.{drop_here}
use Rattle.geometry.specs.Units.{position_limit, area_limit}
use mir.Syntax.{w128, Width}

-- two products of coordinates
pub products_apart : (a b : ℤ) → unsigned_abs a ≤ position_limit * position_limit → unsigned_abs b ≤ position_limit * position_limit → unsigned_abs (a -ℤ b) ≤ most_turned
products_apart a b p q = omega (arith, ints)

-- a difference through the bits of its parts
pub through : (p q : ℤ) → FitsSigned w128 p → FitsSigned w128 q → to_z w128 (of_z w128 p) -ℤ to_z w128 (of_z w128 q) ≡ p -ℤ q
through p q f g = ap (λ z. z -ℤ to_z w128 (of_z w128 q)) (to_z-of_z w128 p f) ∙ ap (λ z. p -ℤ z) (to_z-of_z w128 q g)

module _ (w : Width) (f : ℤ → ℤ → ℤ) where
  -- a call's arguments are read through their bits
  pub read_both : (a b r : ℤ) → FitsSigned w a → FitsSigned w b → r ≡ f (to_z w (of_z w a)) (to_z w (of_z w b)) → r ≡ f a b
  read_both a b r p q e = e ∙ ap (λ z. f z (to_z w (of_z w b))) (to_z-of_z w a p) ∙ ap (f a) (to_z-of_z w b q)

-- both arguments of an operation replaced by equal ones
pub both : (f : ℤ → ℤ → ℤ) (a b x y r : ℤ) → a ≡ x → b ≡ y → r ≡ f a b → r ≡ f x y
both f a b x y r p q e = e ∙ ap (λ z. f z b) p ∙ ap (f x) q

-- ---- the walk

-- so many times what the sum is carried by, and a rest
abbrev pub sum_of : ℤ → ℤ → ℤ
sum_of whole rest = whole *ℤ pos area_limit +ℤ rest

-- a part added through the bits
pub added : (rest t : ℤ) → unsigned_abs rest < area_limit → unsigned_abs t ≤ most_turned → to_z w128 (of_z w128 (rest +ℤ to_z w128 (of_z w128 t))) ≡ rest +ℤ t
added rest t h k =
    ap (λ z. to_z w128 (of_z w128 (rest +ℤ z))) (to_z-of_z w128 t (fits_signed_from_abs w128 t (omega (arith, k))))
    ∙ to_z-of_z w128 (rest +ℤ t) (fits_signed_from_abs w128 (rest +ℤ t) (omega (arith, ints, h, k)))

-- a part is added to the sum
pub sum_more : (whole rest more kept t : ℤ) → sum_of more kept ≡ sum_of whole (rest +ℤ t) → sum_of more kept ≡ sum_of whole rest +ℤ t
sum_more whole rest more kept t e = omega (arith, ints, e)

-- ---- lists

-- the next position adds its part
pub one_after : (last : Option Point) (p : Point) (ps : List Point) → sum_after last (p ∷ ps) ≡ turn_after last p +ℤ sum_after (Some p) ps
unfolding shoelace
one_after None p ps = omega (arith, ints)
one_after (Some q) p ps = refl

-- after the last position nothing is added
pub none_after : (last : Option Point) → sum_after last [] ≡ pos 0
unfolding shoelace
none_after None = refl
none_after (Some q) = refl

-- what the sum is in the end stays
pub sum_stays : (last : Option Point) (p : Point) (ps : List Point) (i : ℕ) (s all : ℤ) → i < length ps → p ≡ get_or ps i p → s +ℤ sum_after last (drop i ps) ≡ all
    → (s +ℤ turn_after last p) +ℤ sum_after (Some p) (drop (i + 1) ps) ≡ all
sum_stays last p ps i s all lt is e =
    let here : sum_after last (drop i ps) ≡ turn_after last p +ℤ sum_after (Some p) (drop (i + 1) ps) = ap (sum_after last) (drop_here ps i p lt is) ∙ one_after last p (drop (i + 1) ps) in
    omega (arith, ints, here, e)

pub sum_ends : (last : Option Point) (ps : List Point) (i : ℕ) (s all : ℤ) → length ps ≤ i → s +ℤ sum_after last (drop i ps) ≡ all → s ≡ all
sum_ends last ps i s all le e =
    let none : sum_after last (drop i ps) ≡ pos 0 = ap (sum_after last) (drop_all i ps le) ∙ none_after last in
    omega (arith, ints, none, e)

-- ---- lines

last_end : {X : Type 0} (xs : List X) (x : X) → last_of (xs ++ (x ∷ [])) ≡ Some x
last_end [] x = refl
last_end (y ∷ []) x = refl
last_end (y ∷ (z ∷ xs)) x = last_end (z ∷ xs) x

-- a line goes on after its end
pub sum_over : (ps following : List Point) (end : Point) → last_of ps ≡ Some end → shoelace (ps ++ following) ≡ shoelace ps +ℤ sum_after (Some end) following
unfolding shoelace
sum_over [] following end e = grind arith
sum_over (p ∷ []) following end e =
    let same : p ≡ end = grind arith in
    let here : shoelace (p ∷ following) ≡ shoelace (end ∷ following) = ap (λ q. shoelace (q ∷ following)) same in
    omega (arith, ints, here)
sum_over (p ∷ (q ∷ ps)) following end e = let rest = sum_over (q ∷ ps) following end e in omega (arith, ints, rest)

turned : (p q : Point) → turn q p ≡ pos 0 -ℤ turn p q
turned p q = omega (arith, ints)

-- the other way round each part turns over
pub sum_back : (ps : List Point) → shoelace (reverse ps) ≡ pos 0 -ℤ shoelace ps
unfolding shoelace
sum_back [] = refl
sum_back (p ∷ []) = refl
sum_back (p ∷ (q ∷ ps)) =
    let parts : reverse (p ∷ (q ∷ ps)) ≡ reverse (q ∷ ps) ++ (p ∷ []) = reverse-append (p ∷ []) (q ∷ ps) in
    let end : last_of (reverse (q ∷ ps)) ≡ Some q = ap last_of (reverse-append (q ∷ []) ps) ∙ last_end (reverse ps) q in
    let over : shoelace (reverse (q ∷ ps) ++ (p ∷ [])) ≡ shoelace (reverse (q ∷ ps)) +ℤ (turn q p +ℤ pos 0) = sum_over (reverse (q ∷ ps)) (p ∷ []) q end in
    let rest = sum_back (q ∷ ps) in
    let t = turned p q in
    ap shoelace parts ∙ omega (arith, ints, over, rest, t)

-- Geometries whose positions are replaced: the equations by kind, loops that replace each element, and rings, which stay rings.
use Rattle.std.proofs.Common.{◌≡◌, ℕ, suc, zero, ◌+◌, ◌-◌, ◌<◌, ◌≤◌, true, List, [], ◌∷◌, ◌++◌, map, length, take, drop, get_or, set, slice_get, Option, refl, sym, ap, ◌∙◌, arith, add-one}
use Rattle.std.proofs.lemmas.Bool.{and_parts}
use Rattle.std.proofs.lemmas.List.{length-map}
use Rattle.std.proofs.Math.Seq.{take-append_seam}
use Rattle.std.proofs.lemmas.Option.{slice_get-map}
use Rattle.std.specs.Option.{option_map}
use Rattle.std.specs.Prelude.{nat_le}
use Rattle.geometry.specs.Points.{Point}
use Rattle.geometry.specs.Rings.{same, both_same, is_closed, is_ring}
use Rattle.geometry.proofs.Points.{same_self, same_is}

-- ---- loops

-- the elements before the index are replaced, and the others are as they were
pub record Replaced {A : Type 0} (f : A → A) (xs : List A) (i : ℕ) (ys : List A) : Type 0 where
  pub made : ys ≡ map f (take i xs) ++ drop i xs

pub starts : {A : Type 0} (f : A → A) (xs : List A) → Replaced f xs 0 xs
starts f xs = grind arith

got_here : {A : Type 0} (f : A → A) (xs : List A) (i : ℕ) (d : A) → get_or (map f (take i xs) ++ drop i xs) i d ≡ get_or xs i d
got_here f [] zero d = refl
got_here f [] (suc i) d = refl
got_here f (x ∷ xs) zero d = refl
got_here f (x ∷ xs) (suc i) d = got_here f xs i d

set_here : {A : Type 0} (f : A → A) (xs : List A) (i : ℕ) (d : A) → i < length xs
    → set (map f (take i xs) ++ drop i xs) i (f (get_or xs i d)) ≡ map f (take (suc i) xs) ++ drop (suc i) xs
set_here f [] i d h = absurd (omega arith)
set_here f (x ∷ xs) zero d h = refl
set_here f (x ∷ xs) (suc i) d h = ap (λ ys. f x ∷ ys) (set_here f xs i d (omega arith))

pub turns : {A : Type 0} (f : A → A) (xs : List A) (i : ℕ) (ys : List A) (x y : A) → i < length xs → Replaced f xs i ys
    → y ≡ f (get_or ys i x) → Replaced f xs (i + 1) (set ys i y)
turns f xs i ys x y h so made = grind (arith, got_here, set_here, add-one)

take_whole : {A : Type 0} (f : A → A) (xs : List A) (i : ℕ) → length xs ≤ i → map f (take i xs) ++ drop i xs ≡ map f xs
take_whole f [] zero h = refl
take_whole f [] (suc i) h = refl
take_whole f (x ∷ xs) zero h = absurd (omega arith)
take_whole f (x ∷ xs) (suc i) h = ap (λ ys. f x ∷ ys) (take_whole f xs i (omega arith))

pub ends : {A : Type 0} (f : A → A) (xs : List A) (i : ℕ) (ys : List A) → length xs ≤ i → Replaced f xs i ys → ys ≡ map f xs
ends f xs i ys h so = so.made ∙ take_whole f xs i h

-- a list that was written back whole
pub refilled : {A : Type 0} (f : A → A) (n : ℕ) (xs ws : List A) → n ≡ length xs → ws ≡ map f xs → take n (ws ++ drop (length ws) xs) ≡ map f xs
refilled f n xs ws e h =
    let many : n ≡ length ws = e ∙ sym (ap length h ∙ length-map xs f) in
    ap (λ m. take m (ws ++ drop (length ws) xs)) many ∙ take-append_seam ws (drop (length ws) xs) ∙ h

-- ---- rings

same_moved : (f : Point → Point) (p q : Point) → same p q ≡ true → same (f p) (f q) ≡ true
same_moved f p q h = ap (λ r. same (f p) (f r)) (sym (same_is p q h)) ∙ same_self (f p)

both_moved : (f : Point → Point) (a b : Option Point) → both_same a b ≡ true → both_same (option_map f a) (option_map f b) ≡ true
both_moved f a b h = grind (arith, same_moved)

-- equal positions stay equal, so a ring stays one
pub ring_moved : (f : Point → Point) (ps : List Point) → is_ring ps ≡ true → is_ring (map f ps) ≡ true
ring_moved f ps h = unfold is_ring is_closed in
    let k = and_parts (nat_le 4 (length ps)) (both_same (slice_get ps 0) (slice_get ps (length ps - 1))) h in
    rw (length-map ps f, slice_get-map f ps 0, slice_get-map f ps (length ps - 1), k.0)
    (both_moved f (slice_get ps 0) (slice_get ps (length ps - 1)) k.1)

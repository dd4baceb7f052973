-- Where segments and positions stand in pieces, and what the pieces of lines keep.
use Rattle.std.specs.Prelude.{◌≡◌, ◌≤◌, List, [], ◌∷◌, length, reverse}
use Rattle.geometry.specs.Points.{Point}
pub use Rattle.geometry.specs.Lists.{tail, all_but_last_of, all_but_last, interior, Apart}
pub use Rattle.junctions.specs.Among.{In}

-- the piece has the segment from a to b, with the positions l before it, backwards, and r after it
pub data At : List Point → Point → Point → List Point → List Point → Type 0 where
  first : {a b : Point} {r : List Point} → At [] a b r (a ∷ (b ∷ r))
  later : {l : List Point} {a b c : Point} {r xs : List Point} → At l a b (c ∷ r) xs → At (a ∷ l) b c r xs

-- What the pieces of lines have in common. Two that have the same segment in the same direction are equal; two that have it in
-- opposite directions are each other's reverse; none has a segment at two places, in the same direction or in opposite
-- ones; its positions between the ends are distinct; and it has two positions or more.
pub record IsStructured (xs : List (List Point)) : Type 0 where
  pub same_way : (x y : List Point) → In x xs → In y xs → (l : List Point) (a b : Point) (r l' r' : List Point) → At l a b r x → At l' a b r' y → x ≡ y
  pub opposite : (x y : List Point) → In x xs → In y xs → (l : List Point) (a b : Point) (r l' r' : List Point) → At l a b r x → At l' b a r' y → x ≡ reverse y
  pub once : (x : List Point) → In x xs → (l : List Point) (a b : Point) (r l' r' : List Point) → At l a b r x → At l' a b r' x → l ≡ l'
  pub not_back : (x : List Point) → In x xs → (l : List Point) (a b : Point) (r l' r' : List Point) → At l a b r x → At l' b a r' x → ⊥
  pub interior : (x : List Point) → In x xs → Apart (interior x)
  pub long : (x : List Point) → In x xs → 2 ≤ length x

-- Lists of which elements are left out.
use Rattle.std.specs.Prelude.{List, [], ◌∷◌}

-- the first list is the second without some of its elements
pub data Sublist {X : Type 0} : List X → List X → Type 0 where
  none : Sublist [] []
  keep : {x : X} {xs ys : List X} → Sublist xs ys → Sublist (x ∷ xs) (x ∷ ys)
  skip : {y : X} {xs ys : List X} → Sublist xs ys → Sublist xs (y ∷ ys)

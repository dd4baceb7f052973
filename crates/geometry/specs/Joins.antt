-- Arc indexes, the arcs that they name, and lines put together of arcs: TopoJSON 1.0, sections 2.1.3 and 2.1.4.
use Rattle.std.specs.Prelude.{◌≡◌, ℕ, ◌<◌, zero, suc, ℤ, pos, negsuc, Bool, true, false, List, [], ◌∷◌, ◌++◌, Option, None, Some, reverse}
use Rattle.std.specs.List.{AllByRecursion}
use Rattle.owned_values.specs.Lists.{tail}
pub use Rattle.owned_values.specs.Lists.{tail as rest_after_first}

-- the number of the arc that an index names
unfoldable pub number_of : ℤ → ℕ
number_of (pos i) = i
number_of (negsuc i) = i

-- the index names it reversed
unfoldable pub is_reversed : ℤ → Bool
is_reversed (pos i) = false
is_reversed (negsuc i) = true

-- each index names an arc
abbrev pub AreInRange : ℕ → List ℤ → Type 0
AreInRange count refs = AllByRecursion (λ r. number_of r < count) refs

-- the element of this number, if there is one
abbrev pub at : {X : Type 0} → List X → ℕ → Option X
at [] i = None
at (x ∷ xs) zero = Some x
at (x ∷ xs) (suc i) = at xs i

abbrev pub or_empty : {X : Type 0} → Option (List X) → List X
or_empty None = []
or_empty (Some xs) = xs

-- the arc of a number, or for a number's ones' complement that arc reversed
abbrev pub arc_at : {X : Type 0} → List (List X) → ℤ → List X
arc_at arcs (pos i) = or_empty (at arcs i)
arc_at arcs (negsuc i) = reverse (or_empty (at arcs i))

-- lists one after another, each without its first
abbrev pub joined_after_first : {X : Type 0} → List (List X) → List X
joined_after_first [] = []
joined_after_first (p ∷ ps) = tail p ++ joined_after_first ps

-- the first list, and then each later one without its first
abbrev pub stitched : {X : Type 0} → List (List X) → List X
stitched [] = []
stitched (p ∷ ps) = p ++ joined_after_first ps

abbrev pub first_of : {X : Type 0} → List X → Option X
first_of [] = None
first_of (x ∷ xs) = Some x

abbrev pub last_of : {X : Type 0} → List X → Option X
last_of [] = None
last_of (x ∷ []) = Some x
last_of (x ∷ y ∷ xs) = last_of (y ∷ xs)

-- each list but the first begins where the one before ends
abbrev pub Meet : {X : Type 0} → List (List X) → Type 0
Meet [] = Unit {0}
Meet (p ∷ []) = Unit {0}
Meet (p ∷ q ∷ ps) = (last_of p ≡ first_of q) × Meet (q ∷ ps)

-- the last list ends where the first begins
abbrev pub Closes : {X : Type 0} → List (List X) → Type 0
Closes ps = elim (first_of ps) [ None ↦ ⊥ | Some p ↦ elim (last_of ps) [ None ↦ ⊥ | Some q ↦ last_of q ≡ first_of p ] ]

-- How often lines move on: how many of their positions differ from the one before. A ring that moves on n times has n + 1 positions, with
-- equal neighbours as one.
use Rattle.std.specs.Prelude.{◌≡◌, ◌⊎◌, ℕ, suc, ℤ, ◌+◌, ◌-◌, ◌<◌, Bool, true, not, ◌||◌, nat_le, ◌==◌, List, [], ◌∷◌, ◌++◌, length, map, replicate, take, slice_index, slice_index_or, slice_set, if◌then◌else◌}
use Rattle.std.specs.List.{AllByRecursion, Contains, list_all}
use Rattle.geometry.specs.Joins.{AreInRange, number_of}
use Rattle.geometry.specs.Points.{Point}
use Rattle.geometry.specs.Rings.{same}
use Rattle.guarded_meaning.specs.Guards.{uses}
use Rattle.guarded_reduction.specs.Indexes.{point_at}
use Rattle.guarded_reduction.specs.Linking.{Linked}

-- ---- along a line

-- from the one to the other
abbrev pub steps : Point → Point → ℕ
steps p q = if same p q then 0 else 1

abbrev pub moves_from : Point → List Point → ℕ
moves_from p [] = 0
moves_from p (q ∷ qs) = steps p q + moves_from q qs

abbrev pub moves : List Point → ℕ
moves [] = 0
moves (p ∷ ps) = moves_from p ps

-- how many moves fewer there are when p goes from between a and c
abbrev pub lost : Point → Point → Point → ℕ
lost a p c = (steps a p + steps p c) - steps a c

-- ---- along a ring

-- over arcs that move on so often
abbrev pub ring_moves : List ℕ → List ℤ → ℕ
ring_moves ms [] = 0
ring_moves ms (r ∷ refs) = slice_index_or ms (number_of r) 0 + ring_moves ms refs

-- three times or more: the ring has four positions
unfoldable pub stays : List ℕ → List ℤ → Bool
stays ms refs = nat_le 3 (ring_moves ms refs)

-- ---- rings that are to stay

-- the arc of each place, how often each arc moves on, and of each arc the numbers of the rings that use it
pub record Counted : Type 0 where
  pub rings : List (List ℤ)
  pub owners : List ℕ
  pub moves : List ℕ
  pub users : List (List ℕ)

-- the arc of a place
abbrev pub owner_at : Counted → ℕ → ℕ
owner_at g z = slice_index g.owners z

-- how many moves fewer there are when the place goes
abbrev pub lost_at : Linked → ℕ → ℕ
lost_at s z = lost (point_at s.positions (slice_index s.befores z)) (point_at s.positions z) (point_at s.positions (slice_index s.afters z))

-- how often the arcs move on when the place is gone
abbrev pub moves_without : Linked → ℕ → Counted → List ℕ
moves_without s z g = slice_set g.moves (owner_at g z) (slice_index g.moves (owner_at g z) - lost_at s z)

abbrev pub counted_without : Linked → ℕ → Counted → Counted
counted_without s z g = record { rings = g.rings; owners = g.owners; moves = moves_without s z g; users = g.users }

-- each ring that uses the place's arc stays when the place is gone
unfoldable pub keeps_all : Linked → ℕ → Counted → Bool
keeps_all s z g = list_all (λ refs. not (uses (owner_at g z) refs) || stays (moves_without s z g) refs) g.rings

-- of arcs of which the first has this number, the number of each place's arc
abbrev pub owners_of : ℕ → List (List Point) → List ℕ
owners_of k [] = []
owners_of k (ps ∷ arcs) = replicate (length ps) k ++ owners_of (suc k) arcs

-- the rings that use an arc
abbrev pub users_at : List (List ℕ) → ℕ → List ℕ
users_at us k = slice_index_or us k []

-- how often a number stands in a list
abbrev pub times : ℕ → List ℕ → ℕ
times k [] = 0
times k (n ∷ ns) = (if n == k then 1 else 0) + times k ns

-- how often a ring uses an arc
abbrev pub uses_of : ℕ → List ℤ → ℕ
uses_of k [] = 0
uses_of k (r ∷ refs) = (if number_of r == k then 1 else 0) + uses_of k refs

-- of rings of which the first has the number j, the number of each as often as it uses the arc
abbrev pub users_from : ℕ → ℕ → List (List ℤ) → List ℕ
users_from k j [] = []
users_from k j (refs ∷ rings) = replicate (uses_of k refs) j ++ users_from k (suc j) rings

-- the arc indexes of the ring of this number
abbrev pub ring_at : List (List ℤ) → ℕ → List ℤ
ring_at rings j = slice_index_or rings j []

-- of the first n rings each is listed where it uses an arc, as often as it does and in order, and nothing else is
pub record AreUsers (n : ℕ) (rings : List (List ℤ)) (us : List (List ℕ)) : Type 0 where
  pub ring : (k j : ℕ) → Contains (users_at us k) j → j < n
  pub listed : (k j : ℕ) → k < length us → j < n → uses k (ring_at rings j) ≡ true → Contains (users_at us k) j
  pub are : (k : ℕ) → k < length us → users_at us k ≡ users_from k 0 (take n rings)

-- the ring of this number is listed with these arcs after the others, as often as it uses them
pub record AddsUser (ring : ℕ) (refs : List ℤ) (old new : List (List ℕ)) : Type 0 where
  pub many : length new ≡ length old
  pub has : (k j : ℕ) → Contains (users_at old k) j → Contains (users_at new k) j
  pub listed : (k : ℕ) → k < length new → uses k refs ≡ true → Contains (users_at new k) ring
  pub only : (k j : ℕ) → Contains (users_at new k) j → Contains (users_at old k) j ⊎ (j ≡ ring)
  pub after : (k : ℕ) → k < length new → users_at new k ≡ users_at old k ++ replicate (uses_of k refs) ring

-- each arc index is that of an arc, each ring is listed with the arcs that it uses, and all stay
pub record IsReady (g : Counted) : Type 0 where
  pub in_range : AllByRecursion (AreInRange (length g.moves)) g.rings
  pub owner : (z : ℕ) → z < length g.owners → owner_at g z < length g.moves
  pub many : length g.users ≡ length g.moves
  pub none : length g.rings ≡ 0 → g.moves ≡ []
  pub users : AreUsers (length g.rings) g.rings g.users
  pub stay : AllByRecursion (λ refs. stays g.moves refs ≡ true) g.rings

-- three moves are enough for a ring, so no arc counts for more
abbrev pub capped : ℕ → ℕ
capped m = if nat_le 3 m then 3 else m

-- and these are how often the rings move on, where no arc counts for more than three moves
pub record HasSums (g : Counted) (sums : List ℕ) : Type 0 where
  pub ready : IsReady g
  pub sums_are : sums ≡ map (ring_moves (map capped g.moves)) g.rings

-- it is counted over these arcs, as far as they are left
pub record IsCounted (arcs left : List (List Point)) (g : Counted) : Type 0 where
  pub owners : g.owners ≡ owners_of 0 arcs
  pub moves : g.moves ≡ map moves left

-- What the index shows of arcs.
use Rattle.std.specs.Prelude.{◌≡◌, ◌⊎◌, ℕ, ◌<◌, Bool, true, false, List, length, slice_index_or}
use Rattle.geometry.specs.Lists.{In}
use Rattle.geometry.specs.Points.{Point}
use Rattle.elimination_meaning.specs.Elimination.{Vertex}
use Rattle.guarded_meaning.specs.Arcs.{ArcCorner, Place, Neighbours, places, is_place_of, all_neighbours, is_pair_of}
use Rattle.guarded_meaning.specs.Guards.{is_free}
use Rattle.guarded_reduction.specs.declared.index.corner.Corner.{Corner}
use Rattle.guarded_reduction.specs.Indexes.{Meets, NoneMeets, is_left_at, point_at}
use Rattle.guarded_reduction.specs.Blocking.{is_blocked_by}

-- the number is that of a place that is left, and the point is there
pub record IsShown (ps : List Point) (bs : List Bool) (z : ℕ) (p : Point) : Type 0 where
  pub within : z < length ps
  pub left : is_left_at bs z ≡ true
  pub point : point_at ps z ≡ p

-- the two ends of a segment are shown, and each is noted as the other's neighbour
pub record IsLinked (ps : List Point) (bs : List Bool) (befores afters : List ℕ) (y z : ℕ) (p q : Point) : Type 0 where
  pub from : IsShown ps bs y p
  pub to : IsShown ps bs z q
  pub after : (d : ℕ) → slice_index_or afters y d ≡ z
  pub before : (d : ℕ) → slice_index_or befores z d ≡ y

-- each place of the arcs has a number, by its arc and its index, under which the lists show it, and its segments
pub record Shows (number : ℕ → ℕ → ℕ) (ps : List Point) (bs : List Bool) (befores afters : List ℕ) (arcs : List (List Vertex)) : Type 0 where
  pub place : (x : Place) → In x (places 0 arcs) → IsShown ps bs (number x.arc x.vertex.index) x.vertex.point
  pub pair : (j : Neighbours) → In j (all_neighbours 0 arcs) → IsLinked ps bs befores afters (number j.arc j.from.index) (number j.arc j.to.index) j.from.point j.to.point

-- this number is that of the corner's own place alone
pub record IsOwn (number : ℕ → ℕ → ℕ) (arcs : List (List Vertex)) (c : ArcCorner) (w : ℕ) : Type 0 where
  pub place : (x : Place) → In x (places 0 arcs) → number x.arc x.vertex.index ≡ w → is_place_of c x ≡ true
  pub from : (j : Neighbours) → In j (all_neighbours 0 arcs) → number j.arc j.from.index ≡ w → is_pair_of c j ≡ true
  pub to : (j : Neighbours) → In j (all_neighbours 0 arcs) → number j.arc j.to.index ≡ w → is_pair_of c j ≡ true

-- the corner, as it is asked for
abbrev pub asked : ArcCorner → ℕ → Corner
asked c w = record { before = c.before; at = c.corner.point; after = c.after; place = w }

-- where no place that is left blocks a corner, it is free
abbrev pub FreeLaw : Type 0
FreeLaw = (number : ℕ → ℕ → ℕ) (ps : List Point) (bs : List Bool) (befores afters : List ℕ) (arcs : List (List Vertex)) (c : ArcCorner) (w : ℕ) →
    Shows number ps bs befores afters arcs → IsOwn number arcs c w →
    NoneMeets ps bs (is_blocked_by ps befores afters (asked c w)) → is_free arcs c ≡ true

-- where a number leads to another, a segment does, or it leads to itself: there is none
pub record Leads (number : ℕ → ℕ → ℕ) (ps : List Point) (arcs : List (List Vertex)) (y z : ℕ) : Type 0 where
  pub pair : Neighbours
  pub there : In pair (all_neighbours 0 arcs)
  pub from : number pair.arc pair.from.index ≡ y
  pub to : number pair.arc pair.to.index ≡ z
  pub from_point : point_at ps y ≡ pair.from.point
  pub to_point : point_at ps z ≡ pair.to.point

-- a number is that of a place
pub record IsPlace (number : ℕ → ℕ → ℕ) (ps : List Point) (arcs : List (List Vertex)) (z : ℕ) : Type 0 where
  pub place : Place
  pub there : In place (places 0 arcs)
  pub number_is : number place.arc place.vertex.index ≡ z
  pub point : point_at ps z ≡ place.vertex.point

-- the lists show nothing that is not in the arcs
pub record ShowsOnly (number : ℕ → ℕ → ℕ) (ps : List Point) (bs : List Bool) (befores afters : List ℕ) (arcs : List (List Vertex)) : Type 0 where
  pub place : (z : ℕ) → z < length ps → is_left_at bs z ≡ true → IsPlace number ps arcs z
  pub after : (z d : ℕ) → z < length ps → is_left_at bs z ≡ true → (slice_index_or afters z d ≡ z) ⊎ Leads number ps arcs z (slice_index_or afters z d)
  pub before : (z d : ℕ) → z < length ps → is_left_at bs z ≡ true → (slice_index_or befores z d ≡ z) ⊎ Leads number ps arcs (slice_index_or befores z d) z

-- where a place that is left blocks a corner, it is not free
abbrev pub BlockedLaw : Type 0
BlockedLaw = (number : ℕ → ℕ → ℕ) (ps : List Point) (bs : List Bool) (befores afters : List ℕ) (arcs : List (List Vertex)) (c : ArcCorner) (z : ℕ) →
    ShowsOnly number ps bs befores afters arcs →
    Meets ps bs (is_blocked_by ps befores afters (asked c (number c.arc c.corner.index))) z → is_free arcs c ≡ false

-- Arcs, found by the lesser of their two ends.
use Rattle.std.specs.Prelude.{◌≡◌, ◌⊎◌, ℕ, suc, Bool, true, false, not, ◌&&◌, List, [], ◌∷◌, map, reverse, Option, None, Some, if◌then◌else◌}
use Rattle.std.specs.Option.{option_map}
use Rattle.std.specs.Ordering.{ordering_then, is_lt}
use Rattle.std.specs.declared.cmp.Ordering.{Ordering}
use Rattle.cutter.specs.Places.{In}
use Rattle.cutter.specs.Segments.{Segment}
use Rattle.geometry.specs.Order.{point_cmp}
use Rattle.geometry.specs.Points.{Point}
use Rattle.geometry.specs.Rings.{same}

-- two segments are equal: their first positions are, and their last ones
abbrev pub equal : Segment → Segment → Bool
equal s t = same s.from t.from && same s.to t.to

-- the order of segments: by their first positions and then by their last ones
abbrev pub segment_cmp : Segment → Segment → Ordering
segment_cmp s t = ordering_then (point_cmp s.from t.from) (point_cmp s.to t.to)

-- the first segment of a line, if it has one
abbrev pub start_of : List Point → Option Segment
start_of [] = None
start_of (p ∷ []) = None
start_of (p ∷ (q ∷ ps)) = Some (record { from = p; to = q })

-- the first of two segments goes after the second, or there is no second
abbrev pub is_later : Option Segment → Option Segment → Bool
is_later None o = false
is_later (Some s) None = true
is_later (Some s) (Some t) = is_lt (segment_cmp t s)

-- the lesser of two segments
abbrev pub lesser : Option Segment → Option Segment → Option Segment
lesser o u = if is_later o u then u else o

-- the lesser of the first segment of a line and of its last one, backwards
abbrev pub end_of : List Point → Option Segment
end_of ps = lesser (start_of ps) (start_of (reverse ps))

-- it is the last one, backwards
abbrev pub is_turned : List Point → Bool
is_turned ps = is_later (start_of ps) (start_of (reverse ps))

-- two lines with the same end run the same way: both begin with it, or both end
abbrev pub same_way : Bool → Bool → Bool
same_way true turned = turned
same_way false turned = not turned

-- there is one, and it is this
abbrev pub is_end : Segment → Option Segment → Bool
is_end s None = false
is_end s (Some t) = equal s t

-- the number of the first arc that has this end, if there is one
abbrev pub number_from : List (List Point) → Segment → Option ℕ
number_from [] s = None
number_from (arc ∷ arcs) s = if is_end s (end_of arc) then Some 0 else option_map suc (number_from arcs s)

-- the ends of arcs, and for each arc whether it is its last segment, backwards
pub record EndsAndWays : Type 0 where
  pub segments : List Segment
  pub turned : List Bool

-- none yet
abbrev pub no_ends : EndsAndWays
no_ends = record { segments = []; turned = [] }

-- these are the ends of the arcs
abbrev pub AreEnds : List (List Point) → EndsAndWays → Type 0
AreEnds arcs ends = (map end_of arcs ≡ map Some ends.segments) × (map is_turned arcs ≡ ends.turned)

-- an arc that has the end of the line is the line or its reverse, and the line if both run the same way
abbrev pub EndIdentifies : List (List Point) → List Point → Type 0
EndIdentifies arcs line = (x : List Point) → In x arcs → (s : Segment) → end_of x ≡ Some s → end_of line ≡ Some s → ((x ≡ line) ⊎ (x ≡ reverse line)) × (is_turned x ≡ is_turned line → x ≡ line)

-- so it is with each two of these lines
abbrev pub EndsIdentify : List (List Point) → Type 0
EndsIdentify xs = (y : List Point) → In y xs → EndIdentifies xs y

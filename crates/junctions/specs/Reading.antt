-- What lines say of a position as they are read, and what is kept of that.
use Rattle.std.specs.Prelude.{◌≡◌, ◌≤◌, ℕ, Bool, true, false, ◌||◌, nat_le, List, [], ◌∷◌, ◌++◌, map, take, drop, length, slice_get, Some, if◌then◌else◌}
use Rattle.std.specs.List.{filter, flat_map, list_any}
use Rattle.geometry.specs.Points.{Point}
use Rattle.geometry.specs.Rings.{same}
use Rattle.junctions.specs.Kept.{at_junction, at_cut, at_once}
use Rattle.junctions.specs.declared.stroke.Stroke.{Stroke}
use Rattle.junctions.specs.declared.vertex.Vertex.{Vertex}
use Rattle.junctions.specs.declared.vertex.Vertex.TheVariants.{Unvisited, Once, Between, Junction, RingStart}
use Rattle.junctions.specs.Visits.{Visit, inner_visits, last, is_junction, visits_at}

-- ---- positions by their numbers

-- one position more, after the others if it is new
abbrev pub with_position : List Point → Point → List Point
with_position ps q = if list_any (same q) ps then ps else ps ++ (q ∷ [])

-- more of them, in order
abbrev pub with_positions : List Point → List Point → List Point
with_positions ps [] = ps
with_positions ps (q ∷ qs) = with_positions (with_position ps q) qs

-- the numbers are the places at which the positions stand among others
abbrev pub AreNumbers : List Point → List ℕ → List Point → Type 0
AreNumbers ks ns ps = map (slice_get ks) ns ≡ map Some ps

-- ---- what was read

-- the positions before and after a position, over these visits
abbrev pub beside : Point → List Visit → List Point
beside p vs = flat_map (λ v. v.before ∷ (v.after ∷ [])) (filter (λ v. same v.here p) vs)

-- a line turns back there, in one of these visits
abbrev pub turns : Point → List Visit → Bool
turns p vs = list_any (λ v. same v.before v.after) (filter (λ v. same v.here p) vs)

-- the visits of a list of positions that is a ring or not
abbrev pub line_visits : Bool → List Point → List Visit
line_visits closed ps = inner_visits (ps ++ (if closed then take 1 (drop 1 ps) else []))

-- the first and the last position of an open line
abbrev pub line_ends : Bool → List Point → List Point
line_ends closed [] = []
line_ends closed (p ∷ ps) = if closed then [] else p ∷ (last p ps ∷ [])

-- those of all lines
abbrev pub all_ends : List Stroke → List Point
all_ends ls = flat_map (λ s. line_ends s.closed s.positions) ls

-- ---- what is kept of it

-- what is kept of a position represents these neighbors, whether a line turns back in it, and whether an open line ends there. Neighbors are
-- given by their places among these positions
abbrev pub Represents : List Point → Vertex → List Point → Bool → Bool → Type 0
Represents ks Unvisited ns turns ends = (ns ≡ []) × (turns ≡ false) × (ends ≡ false)
Represents ks (Once a b) ns turns ends = (length ns ≡ 2) × AreNumbers ks (a ∷ (b ∷ [])) (with_positions [] ns) × (turns ≡ false) × (ends ≡ false)
Represents ks (Between a b) ns turns ends = AreNumbers ks (a ∷ (b ∷ [])) (with_positions [] ns) × (turns ≡ false) × (ends ≡ false)
Represents ks Junction ns turns ends = (ends || (turns || nat_le 3 (length (with_positions [] ns)))) ≡ true
Represents ks RingStart ns turns ends = ⊥

-- what is kept of each of the positions represents what these visits and ends of open lines say of it
pub record AllRepresent (ks : List Point) (vs : List Vertex) (visits : List Visit) (ends : List Point) : Type 0 where
  pub size : length vs ≡ length ks
  pub each : (i : ℕ) (p : Point) (v : Vertex) → slice_get ks i ≡ Some p → slice_get vs i ≡ Some v → Represents ks v (beside p visits) (turns p visits) (list_any (same p) ends)

-- what is kept represents these too, whatever was read before
abbrev pub Adds : List Point → List Vertex → List Vertex → List Visit → List Point → Type 0
Adds ks old new visits ends = (read : List Visit) (ended : List Point) → AllRepresent ks old read ended → AllRepresent ks new (read ++ visits) (ended ++ ends)

-- of each of the positions it is kept whether it is a junction of the lines, and whether lines are cut there: at junctions, and where the test passes.
-- One that is kept as visited once has no other visit
pub record AreClassified (ls : List Stroke) (starts : Point → Bool) (ks : List Point) (vs : List Vertex) : Type 0 where
  pub size : length vs ≡ length ks
  pub junctions : (i : ℕ) (p : Point) (v : Vertex) → slice_get ks i ≡ Some p → slice_get vs i ≡ Some v → at_junction v ≡ is_junction ls p
  pub cuts : (i : ℕ) (p : Point) (v : Vertex) → slice_get ks i ≡ Some p → slice_get vs i ≡ Some v → at_cut v ≡ (is_junction ls p || starts p)
  pub once : (i : ℕ) (p : Point) (v : Vertex) → slice_get ks i ≡ Some p → slice_get vs i ≡ Some v → at_once v ≡ true → length (visits_at ls p) ≤ 1

-- Segments between two positions.
use Rattle.std.specs.Prelude.{ℕ, ◌==◌, Bool, not, ◌&&◌, ◌||◌, nat_lt, List, length, slice_index_or}
use Rattle.geometry.specs.Points.{Point}
use Rattle.geometry.specs.Rings.{same}
use Rattle.guarded_reduction.specs.declared.index.corner.Corner.{Corner}
use Rattle.guarded_reduction.specs.Indexes.{point_at}
use Rattle.guarded_reduction.specs.Tests.{is_held_by}

-- the place y is another than w, and at the position c
unfoldable pub leads_on : List Point → Point → ℕ → ℕ → Bool
leads_on ps c w y = nat_lt y (length ps) && (not (y == w) && same c (point_at ps y))

-- a segment from the place z, at the position p, leads from a to c, and the place w is no end of it
unfoldable pub is_joined_at : List Point → List ℕ → List ℕ → Point → Point → ℕ → ℕ → Point → Bool
is_joined_at ps befores afters a c w z p =
    same a p && (not (z == w) && (leads_on ps c w (slice_index_or befores z w) || leads_on ps c w (slice_index_or afters z w)))

-- the place z, at the position p, joins the positions before and after the corner, which are two
unfoldable pub joins_ends : List Point → List ℕ → List ℕ → Corner → ℕ → Point → Bool
joins_ends ps befores afters c z p = not (same c.before c.after) && is_joined_at ps befores afters c.before c.after c.place z p

-- the place z, at the position p, is in the corner's triangle, or joins the positions before and after it
unfoldable pub is_blocked_by : List Point → List ℕ → List ℕ → Corner → ℕ → Point → Bool
is_blocked_by ps befores afters c z p = is_held_by c z p || joins_ends ps befores afters c z p

-- the corner as it is seen from its other side
abbrev pub turned_corner : Corner → Corner
turned_corner c = record { before = c.after; at = c.at; after = c.before; place = c.place }

-- Which lists of positions are closed, and which are linear rings (RFC 7946, section 3.1.6).
use Rattle.std.specs.Prelude.{◌-◌, Bool, false, ◌&&◌, nat_le, List, length, Option, Some, None, slice_get}
use Rattle.std.specs.Ordering.{int_eq}
use Rattle.geometry.specs.Points.{Point}

-- equal in both coordinates
unfoldable pub same : Point → Point → Bool
same p q = int_eq p.x q.x && int_eq p.y q.y

-- both are there and equal
abbrev pub both_same : Option Point → Option Point → Bool
both_same None q = false
both_same (Some p) None = false
both_same (Some p) (Some q) = same p q

-- there is a first position, and the last is equal to it
unfoldable pub is_closed : List Point → Bool
is_closed ps = both_same (slice_get ps 0) (slice_get ps (length ps - 1))

-- four positions or more, closed
unfoldable pub is_ring : List Point → Bool
is_ring ps = nat_le 4 (length ps) && is_closed ps

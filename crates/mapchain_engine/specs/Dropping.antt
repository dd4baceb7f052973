-- The lines and rings that are reported as dropped are those that the expected features lack.
use Rattle.std.specs.Prelude.{◌≡◌, ℕ, Bool, List, map, Option, None, Some}
use Rattle.build_meaning.specs.Expected.{kept_line, own_cause, rebuilt}
use Rattle.geojson_types.specs.Features.{Shape}
use Rattle.geometry.specs.Lists.{map_some, some_of}
use Rattle.geometry.specs.DropCauses.{drop_causes}
use Rattle.geometry.specs.Paths.{Placed, placed_lines_and_rings}
use Rattle.geometry.specs.Points.{Point}
use Rattle.geometry.specs.Pruning.{option_lines_and_rings, prune}
use Rattle.geometry.specs.declared.address.Cause.{Cause}
use Rattle.junctions.specs.declared.stroke.Stroke.{Stroke}

-- an open line (false) or a ring (true), and why it is left out, if it is
pub record Judged : Type 0 where
  pub closed : Bool
  pub line : List Point
  pub cause : Option Cause

-- the line with the way to it
abbrev pub line_or_ring_at : Placed Judged → Placed (Bool × List Point)
line_or_ring_at x = record { path = x.path; part = (x.part.closed, x.part.line) }

-- the cause of a line with the way to it, if it is left out
abbrev pub cause_at : Placed Judged → Option (Placed Cause)
cause_at x = map_some (λ c. record { path = x.path; part = c }) x.part.cause

-- what stands for it, if it stays
abbrev pub stays_as : (Bool → List Point → List Point) → Option Cause → Bool → List Point → Option (Bool × List Point)
stays_as given None closed line = Some (closed, given closed line)
stays_as given (Some c) closed line = None

-- Each line of the shape, in reading order, is either reported as dropped, or stands among the lines of what is left of the shape: never both,
-- and never neither.
pub record LeavesOutWhatIsReported (lines : List Stroke) (t limit : ℕ) (s : Shape) : Type 0 where
  pub judged : List (Placed Judged)
  pub all : map line_or_ring_at judged ≡ placed_lines_and_rings s
  pub reported : some_of cause_at judged ≡ drop_causes (own_cause lines t limit) s
  pub left : some_of (λ x. stays_as (rebuilt lines t) x.part.cause x.part.closed x.part.line) judged
      ≡ option_lines_and_rings (prune (λ p. p) (kept_line lines t limit) s)

-- each line of a shape is either reported as dropped or left, whatever the shape is and whatever the lines are that cut it
abbrev pub DropsAreReported : Type 0
DropsAreReported = (lines : List Stroke) (t limit : ℕ) (s : Shape) → LeavesOutWhatIsReported lines t limit s

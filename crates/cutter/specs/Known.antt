-- What vertices know of the positions of a line that is to be split.
use Rattle.std.specs.Prelude.{◌≡◌, ◌<◌, true, List, ◌∷◌, length}
use Rattle.geometry.specs.Points.{Point}
use Rattle.junctions.specs.Answers.{Answers, is_member}
use Rattle.junctions.specs.declared.stroke.Stroke.{Stroke}
use Rattle.cutter.specs.Pieces.{start_in, from_start}
use Rattle.cutter.specs.Places.{In}
use Rattle.cutter.specs.Slices.{EndsPass}

-- each of the positions is among those that are known
abbrev pub AllKnown : List Point → List Point → Type 0
AllKnown known ps = (p : Point) → In p ps → is_member known p ≡ true

-- all its positions are known, a ring starts at one of them, and from its start the line begins and ends at cut positions
pub record IsReady (v : Answers) (s : Stroke) : Type 0 where
  pub known : AllKnown v.points s.positions
  pub starts : s.closed ≡ true → start_in (is_member v.cuts) s.positions < length s.positions
  pub ends : EndsPass (is_member v.cuts) (from_start (is_member v.cuts) s)

-- its second position isn't its last, and is one of these
abbrev pub GoesOnceThroughSecond : List Point → List Point → Type 0
GoesOnceThroughSecond once (p ∷ (q ∷ (r ∷ ps))) = is_member once q ≡ true
GoesOnceThroughSecond once ps = ⊥

use Rattle.std.proofs.Common.{◌≡◌, not, slice_set, ◌||◌, drop}
use Rattle.std.specs.List.{list_all}
use Rattle.guarded_meaning.specs.Guards.{uses}
use Rattle.guarded_reduction.specs.Moves.{stays}
use Rattle.guarded_reduction.proofs.Sums.{enough_left}
use Rattle.guarded_reduction.proofs.rings.kept_rings.KeptRings.all_stay.Given as goal

-- it is up to the others
abbrev pub invariant-users : goal.invariant-users
invariant-users l = enough_left l.sums l.lost l.ring l.sum (drop l.user-index l.users) ≡ list_all (λ refs. not (uses l.arc refs) || stays (slice_set l.self.moves l.arc l.left) refs) l.self.rings

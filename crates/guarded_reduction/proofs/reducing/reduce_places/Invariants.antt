use Rattle.std.proofs.Common.{◌≡◌, ◌-◌, ◌≤◌}
use Rattle.guarded_meaning.specs.Elimination.{eliminate_arcs, remaining_arcs}
use Rattle.guarded_meaning.specs.Guards.{guarded_by}
use Rattle.guarded_reduction.specs.Keeping.{IsKeeping}
use Rattle.guarded_reduction.specs.Linking.{IsShowing}
use Rattle.guarded_reduction.specs.Numbers.{left_arcs}
use Rattle.guarded_reduction.specs.States.{IsQueued}
use Rattle.guarded_reduction.proofs.reducing.reduce_places.Given as goal

-- what is left is reduced to the same
abbrev pub invariant-corners : goal.invariant-corners
invariant-corners l = record {
  queued : IsQueued l.round l.places l.queue l.waiting;
  round : l.round ≤ l.threshold;
  showing : IsShowing l.arcs l.places;
  flag : l.places.no_crossings ≡ l.fn.places.no_crossings;
  keeping : IsKeeping l.arcs l.rings l.places l.kept;
  rest : eliminate_arcs (guarded_by l.fn.places.no_crossings l.rings) (l.n - l._step) l.threshold (left_arcs l.arcs l.places.left) ≡ remaining_arcs (guarded_by l.fn.places.no_crossings l.rings) l.threshold l.arcs;
}

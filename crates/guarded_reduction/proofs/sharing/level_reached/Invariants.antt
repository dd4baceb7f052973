use Rattle.std.proofs.Common.{◌≡◌, ℕ, ◌-◌, ◌<◌, ◌≤◌, map}
use Rattle.elimination_meaning.specs.Elimination.{numbered}
use Rattle.geometry.specs.Units.{area_limit}
use Rattle.guarded_meaning.specs.Elimination.{eliminate_arcs, remaining_arcs}
use Rattle.guarded_meaning.specs.Guards.{guarded_by}
use Rattle.guarded_reduction.specs.Entries.{AreBelow}
use Rattle.guarded_reduction.specs.Keeping.{IsKeeping}
use Rattle.guarded_reduction.specs.Linking.{IsShowing}
use Rattle.guarded_reduction.specs.Numbers.{left_arcs}
use Rattle.guarded_reduction.specs.Sharing.{level_after, without_all}
use Rattle.guarded_reduction.specs.States.{IsQueued}
use Rattle.guarded_reduction.proofs.sharing.level_reached.Given as goal

-- what went is all that goes at any threshold over the level, but for what is ahead
abbrev pub invariant-corners : goal.invariant-corners
invariant-corners l = record {
  queued : IsQueued l.round l.places l.queue l.waiting;
  round : l.round ≤ area_limit;
  showing : IsShowing l.arcs l.places;
  flag : l.places.no_crossings ≡ l.fn.places.no_crossings;
  keeping : IsKeeping l.arcs l.rings l.places l.kept;
  below : AreBelow l.places;
  left : l.places.left ≡ without_all l.level.gone.items l.level.stays.items;
  area : level_after (guarded_by l.fn.places.no_crossings l.rings) (l.most - l._step) l.level.area (left_arcs l.arcs l.places.left) ≡ level_after (guarded_by l.fn.places.no_crossings l.rings) l.most 0 (map (numbered 0) l.arcs);
  stays : left_arcs l.arcs l.level.stays.items ≡ remaining_arcs (guarded_by l.fn.places.no_crossings l.rings) l.level.area l.arcs;
  rest : (t : ℕ) → l.level.area < t → eliminate_arcs (guarded_by l.fn.places.no_crossings l.rings) (l.n - l._step) t (left_arcs l.arcs l.places.left) ≡ remaining_arcs (guarded_by l.fn.places.no_crossings l.rings) t l.arcs;
}

use Rattle.std.proofs.Common.{◌≡◌, ◌-◌, ◌+◌, ◌*◌, ◌/◌, ◌<◌, ◌≤◌, All, length, min}
use Rattle.elimination_meaning.specs.Elimination.{eliminate, numbered}
use Rattle.effective_area.specs.Counts.{AreasRose, RoseBy}
use Rattle.effective_area.specs.declared.steps.Steps.{Steps}
use Rattle.effective_area.specs.Vertices.{vertices}
use Rattle.effective_area.proofs.rescan.rescanned.Given as goal

-- what is present is reduced to the same, and the looks at fewer corners are still to come
abbrev pub invariant-loop-turn : goal.invariant-loop-turn
invariant-loop-turn l = record {
  inside : All (λ i. i < length l.arc) l.present.items;
  few : length l.present.items + l._turn ≤ length l.arc;
  counted : (s : Steps) → RoseBy ((length l.present.items - 2) * (length l.present.items - 1) / 2) 0 l.steps s → RoseBy ((length l.arc - 2) * (length l.arc - 1) / 2) 0 l.fn.steps s;
  computed : AreasRose (min (length l.arc - length l.present.items) (length l.arc - 2)) l.fn.steps l.steps;
  rest : eliminate (length l.arc - l._turn) l.t (vertices l.arc l.present.items) ≡ eliminate (length l.arc) l.t (numbered 0 l.arc);
}

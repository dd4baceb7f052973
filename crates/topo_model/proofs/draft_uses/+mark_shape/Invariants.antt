use Rattle.std.proofs.Common.{◌≡◌, drop}
use Rattle.std.specs.List.{list_any}
use Rattle.geometry.specs.Lists.{map_some}
use Rattle.geometry.specs.Points.{Point}
use Rattle.geometry.specs.Pruning.{prune, option_lines_and_rings}
use Rattle.build_meaning.specs.OuterRings.{along, marked}
use Rattle.build_meaning.specs.Protected.{sparing}
use Rattle.topo_model.specs.ArcUses.{any_uses}
use Rattle.topo_model.specs.DraftUses.{refs_at_first}
use Rattle.topo_model.specs.Marks.{also_set}
use Rattle.topo_model.proofs.draft_uses.+mark_shape.Given as goal

abbrev pub invariant-shapes : goal.invariant-shapes
invariant-shapes l =
    let k = sparing (refs_at_first (map_some (λ r. r.now) l.first)) in
    let way = map_some (λ w. w.now) l.way in
    also_set (λ n. list_any (λ s. any_uses (option_lines_and_rings (prune (λ (p : Point). p) k s)) n) (along marked l.i (drop l.i l.members) way)) 0 l.used
    ≡ also_set (λ n. list_any (λ s. any_uses (option_lines_and_rings (prune (λ (p : Point). p) k s)) n) (along marked 0 l.members way)) 0 l.initial.used

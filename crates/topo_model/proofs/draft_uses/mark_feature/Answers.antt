use Rattle.std.proofs.Common.{ap}
use Rattle.geometry.specs.Lists.{map_some}
use Rattle.build_meaning.specs.Protected.{sparing}
use Rattle.topo_model.specs.DraftUses.{refs_at_first, shape_uses}
use Rattle.topo_model.proofs.DraftUses.{marks_none}
use Rattle.topo_model.proofs.draft_uses.mark_feature.Goals as goal

pub returns-in_default : goal.returns-in_default
returns-in_default c =
    let uses = shape_uses (sparing (refs_at_first (map_some (λ r. r.now) c.args.first))) (map_some (λ w. w.now) c.args.way) in
    marks_none (uses c.args.feature.now.shape) c.args.used.now (λ n. ap (λ s. uses s n) c.in_default.is)

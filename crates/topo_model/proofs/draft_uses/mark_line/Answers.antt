use Rattle.std.proofs.Common.{sym, ap, ◌∙◌, None, Some, if◌then◌else◌}
use Rattle.geometry.specs.Lists.{map_some}
use Rattle.topo_model.specs.DraftUses.{left_names, refs_at_first}
use Rattle.topo_model.proofs.DraftUses.{marks_none}
use Rattle.topo_model.proofs.draft_uses.mark_line.Goals as goal

pub returns-else-stays : goal.returns-else-stays
returns-else-stays c =
    let r = refs_at_first (map_some (λ r. r.now) c.args.first) c.args.closed in
    marks_none (left_names (r c.args.refs.now)) c.args.used.now
    (λ n. ap (λ refs. left_names (r refs) n) (sym c.as_slice-refs.ensures) ∙ ap (λ o. left_names o n) (c.stays.ensures ∙ ap (λ b. if b then Some c.as_slice-refs.result.now else None) c.if-stays.false))

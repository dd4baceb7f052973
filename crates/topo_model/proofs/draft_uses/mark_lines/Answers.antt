use Rattle.geometry.specs.Lists.{map_some}
use Rattle.topo_model.specs.DraftUses.{left_names, refs_at_first}
use Rattle.topo_model.proofs.Marked.{begins, marks_more}
use Rattle.topo_model.proofs.Marks.{all_marked}
use Rattle.topo_model.proofs.draft_uses.mark_lines.Goals as goal

pub lines-init : goal.lines-init
lines-init c = begins (λ refs. left_names (refs_at_first (map_some (λ r. r.now) c.args.first) c.args.closed refs)) c.args.used.now c.args.lines.now

pub lines-preserved : goal.lines-preserved
lines-preserved c =
    marks_more (λ refs. left_names (refs_at_first (map_some (λ r. r.now) c.args.first) c.args.closed refs)) c.args.used.now c.lines.used c.mark_line.new.used c.args.lines.now c.lines.line-index c.line-item.result c.lines-test.true
    c.line-item.is c.lines.invariant c.mark_line.ensures

pub returns : goal.returns
returns c = all_marked (λ refs. left_names (refs_at_first (map_some (λ r. r.now) c.args.first) c.args.closed refs)) c.args.lines.now c.lines.line-index c.lines.used c.args.used.now c.lines-test.false c.lines.invariant

use Rattle.std.proofs.Common.{◌≡◌, take}
use Rattle.geometry.specs.Lists.{map_some}
use Rattle.topo_model.specs.DraftUses.{left_names, refs_at_first}
use Rattle.topo_model.specs.Marks.{also_set}
use Rattle.topo_model.proofs.Marked.{any_of}
use Rattle.topo_model.proofs.draft_uses.mark_lines.Given as goal

abbrev pub invariant-lines : goal.invariant-lines
invariant-lines l = l.used ≡ also_set (any_of (λ refs. left_names (refs_at_first (map_some (λ r. r.now) l.first) l.closed refs)) (take l.line-index l.lines)) 0 l.initial.used

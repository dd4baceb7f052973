use Rattle.std.proofs.Common.{not, rules}
use Rattle.std.proofs.lemmas.Fn.{filter_same}
use Rattle.junctions.specs.Gathering.{is_collapsed}
use Rattle.linework.proofs.outlines.leave_out_collapsed.Goals as goal

pub returns : goal.returns
returns c = filter_same _ (λ s. not (is_collapsed s)) _ (λ x b f' k. search rules) _ _ c.retain.ensures.filtered

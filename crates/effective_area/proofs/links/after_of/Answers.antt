use Rattle.std.proofs.Common.{ap}
use Rattle.std.proofs.lemmas.List.{get_or_default}
use Rattle.effective_area.specs.Links.{after_in, first_link}
use Rattle.effective_area.specs.declared.links.Link.{Link}
use Rattle.effective_area.proofs.links.after_of.Goals as goal

pub returns : goal.returns
returns c = unfold after_in in ap (λ (x : Link). x.after) (get_or_default c.args.links.now c.args.index c.index-links-index.result first_link c.requires)

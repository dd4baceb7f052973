use Rattle.std.proofs.Common.{ap, ◌∙◌}
use Rattle.std.proofs.lemmas.List.{get_or_default}
use Rattle.effective_area.specs.Links.{area_in, first_link}
use Rattle.effective_area.specs.declared.links.Link.{Link}
use Rattle.effective_area.proofs.links.area_of.Goals as goal

pub returns : goal.returns
returns c = unfold area_in in c.number.ensures ∙ ap (λ (x : Link). x.area) (get_or_default c.args.links.now c.args.index c.index-links-index.result first_link c.requires)

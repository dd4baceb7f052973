use Rattle.std.proofs.Common.{subst}
use Rattle.effective_area.specs.Links.{SetsArea}
use Rattle.effective_area.proofs.LinkLaws.{sets_area}
use Rattle.effective_area.proofs.links.set_area.Goals as goal

pub returns : goal.returns
returns c = subst (SetsArea c.args.links.now _ c.args.at) c.of.ensures (sets_area c.args.links.now c.args.at c.of.result c.index-links-at.result c.requires)

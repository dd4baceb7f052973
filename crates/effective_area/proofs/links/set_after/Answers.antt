use Rattle.effective_area.proofs.LinkLaws.{sets_after}
use Rattle.effective_area.proofs.links.set_after.Goals as goal

pub returns : goal.returns
returns c = sets_after c.args.links.now c.args.at c.args.to c.index-links-at.result c.requires

use Rattle.effective_area.proofs.LinkLaws.{sets_before}
use Rattle.effective_area.proofs.links.set_before.Goals as goal

pub returns : goal.returns
returns c = sets_before c.args.links.now c.args.at c.args.to c.index-links-at.result c.requires

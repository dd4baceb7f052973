use Rattle.topojson_decoder.proofs.Repeating.{AreNew}
use Rattle.topojson_decoder.proofs.repeats.members_before_repeat.Given as goal

abbrev pub invariant-members : goal.invariant-members
invariant-members g l = AreNew l.members l.index l.met

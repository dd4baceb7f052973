use Rattle.json_value.proofs.Looking.{Met}
use Rattle.json_value.proofs.look_up.place_of.Given as goal

abbrev pub invariant-members : goal.invariant-members
invariant-members l = Met l.name l.members l.index l.found

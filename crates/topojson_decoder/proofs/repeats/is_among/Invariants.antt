use Rattle.std.proofs.Common.{◌≡◌, drop}
use Rattle.topojson_meaning.specs.Objects.{is_met}
use Rattle.topojson_decoder.proofs.Repeating.{names_of}
use Rattle.topojson_decoder.proofs.repeats.is_among.Given as goal

abbrev pub invariant-names : goal.invariant-names
invariant-names g l = is_met l.name (names_of l.members) ≡ is_met l.name (names_of (drop l.at l.members))

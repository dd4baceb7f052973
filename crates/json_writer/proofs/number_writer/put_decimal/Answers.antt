use mir.Syntax.{w64}
use Rattle.std.proofs.lemmas.Int.{to_z-of_z}
use Rattle.decimal_text.specs.Scaling.{units_text}
use Rattle.json_value.proofs.Texts.{text-number}
use Rattle.json_writer.proofs.number_writer.put_decimal.Goals as goal

pub returns-clause-text : goal.returns-clause-text
returns-clause-text g c = rw (to_z-of_z w64 c.args.units c.ranges.units, ← text-number (units_text c.args.units c.args.places)) at c.put_units.ensures.text

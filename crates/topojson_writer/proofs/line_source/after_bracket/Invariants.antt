use Rattle.std.proofs.Common.{◌≡◌, drop}
use Rattle.topojson_writer.specs.LineTexts.{behind_bracket}
use Rattle.topojson_writer.proofs.line_source.after_bracket.Given as goal

abbrev pub invariant-bytes : goal.invariant-bytes
invariant-bytes l = behind_bracket l.bytes ≡ behind_bracket (drop l.at l.bytes)

use Rattle.topojson_writer.proofs.LineTexts.{later_added}
use Rattle.topojson_writer.proofs.line_source.added_by.Goals as goal

pub returns-else-is_first : goal.returns-else-is_first
returns-else-is_first c = λ arc is.
    let rest = later_added arc c.args.text.now c.in_ok-positions.positions.now c.in_ok-positions.field-0-0.now is (c.in_ok-positions.ensures).cases.0 in
    rw (c.if-is_first.false, ← rest) c.after_bracket.ensures

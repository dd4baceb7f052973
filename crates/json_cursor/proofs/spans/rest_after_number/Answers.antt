use Rattle.std.proofs.Common.{length, sym, ap, ◌∙◌}
use Rattle.json_cursor.proofs.SpanParts.{number_spans}
use Rattle.json_cursor.proofs.spans.rest_after_number.Goals as goal

pub returns-in-Ok : goal.returns-in-Ok
returns-in-Ok c = number_spans c.args.bytes.now c.in-Ok.rest.now (sym (ap length c.skip.ensures) ∙ c.if-skip-bytes.false) c.in-Ok.ensures

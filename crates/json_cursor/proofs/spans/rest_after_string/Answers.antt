use Rattle.json_cursor.proofs.SpanParts.{string_spans}
use Rattle.json_cursor.proofs.spans.rest_after_string.Goals as goal

pub returns : goal.returns
returns c = string_spans _ c.args.bytes.now _ _ c.in_ok-rest.rest.now c.in_ok-quote.ensures c.if-quote-ne34.false c.in_ok-rest.ensures

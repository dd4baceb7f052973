use Rattle.std.proofs.Common.{refl}
use Rattle.decimal_json.proofs.written.value_text.Goals as goal

pub returns : goal.returns
returns c =
    let readable = c.if-not-is_readable.ensures refl in
    rw c.in_ok-text.ensures (c.written_text_is_read.ensures c.args.value.now 4294967295 readable.formed readable.nests)

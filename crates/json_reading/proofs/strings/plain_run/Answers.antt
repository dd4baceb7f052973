use Rattle.std.proofs.lemmas.List.Sums.{prefix_len-le-length}
use Rattle.json_value.specs.Grammar.{is_plain}
use Rattle.json_reading.proofs.strings.plain_run.Goals as goal

pub split_at-requires : goal.split_at-requires
split_at-requires c = rw c.plain_len.ensures (prefix_len-le-length is_plain c.args.bytes.now)

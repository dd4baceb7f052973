use Rattle.json_value.proofs.WrittenUtf8.{written_utf8}
use Rattle.json_value.proofs.laws.written_text_is_utf8.Goals as goal

pub returns : goal.returns
returns c = written_utf8

use Rattle.json_value.proofs.WrittenUtf8.{parts_written_utf8}
use Rattle.topojson_types.specs.Values.{topology_value}
use Rattle.topojson_meaning.proofs.Written.{topology_utf8}
use Rattle.topojson_meaning.proofs.laws.topology_text_is_utf8.Goals as goal

pub returns : goal.returns
returns c = λ t transform numbers texts. parts_written_utf8 (topology_value t) (topology_utf8 t transform numbers texts)

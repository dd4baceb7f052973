use Rattle.layer_topology.proofs.Laid as k
use Rattle.layer_topology.proofs.laws.written_laws.Goals as goal

pub returns : goal.returns
returns c =
    let on = c.snapped_are_on.ensures in
    record {
      valid = k.valid on c.built_is_valid_quantized.ensures;
      names = k.names on c.quantized_keeps.ensures;
      back = k.back on c.built_decodes_quantized.ensures;
      once = k.once on c.each_segment_once.ensures;
      nests = k.nests c.snapped_keep.ensures c.quantized_keeps.ensures;
      numbers = k.numbers c.snapped_keep.ensures c.quantized_keeps.ensures;
      texts = k.texts on c.snapped_keep.ensures c.quantized_keeps.ensures;
    }

use Rattle.mapchain_engine.proofs.SoundLayers.{all_taken, are_taken}
use Rattle.mapchain_engine.proofs.build_laws.read_layers_are_taken.Goals as goal

pub returns : goal.returns
returns c = λ o olds news layers counts all distinct. are_taken o layers (all_taken c.layer_laws.ensures o.exact olds news layers counts all) distinct

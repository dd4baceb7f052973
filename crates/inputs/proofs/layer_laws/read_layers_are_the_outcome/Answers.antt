use Rattle.inputs.proofs.LayersDecided.{read_comes}
use Rattle.inputs.proofs.layer_laws.read_layers_are_the_outcome.Goals as goal

pub returns : goal.returns
returns c = λ exact olds news layers counts bytes have read. read_comes 0 exact olds news layers counts bytes read have

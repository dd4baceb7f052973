use Rattle.json_writer.proofs.Lists.{array-text}
use Rattle.json_writer.proofs.Appending.{begins}
use Rattle.json_writer.proofs.list_writer.put_array.Goals as goal

pub items-init : goal.items-init
items-init g c = begins _ (array-text g.P.PutValue.value c.args.items.now) c.put.ensures.text c.put.ensures.kept

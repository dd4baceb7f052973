use Rattle.std.proofs.Common.{arith}
use Rattle.decimal_text.proofs.Trimmed.{trimmed-step, trimmed-stop}
use Rattle.json_writer.proofs.room_writer.trimmed_count.Goals as goal

pub loop-count-preserved : goal.loop-count-preserved
loop-count-preserved c = grind (arith, trimmed-step)

pub returns : goal.returns
returns c = grind (arith, trimmed-stop)

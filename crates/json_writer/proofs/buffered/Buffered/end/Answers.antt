use Rattle.json_writer.proofs.Standings.{ends}
use Rattle.json_writer.proofs.buffered.Buffered.end.Goals as goal

pub returns : goal.returns
returns g c = λ start h. ends start _ _ _ _ _ h _ _ (rw c.as_slice.ensures at c.put_part.ensures)

use Rattle.std.proofs.Common.{true, arith}
use Rattle.std.proofs.lemmas.Int.{ints}
use Rattle.guarded_meaning.proofs.Pasch.{swapped}
use Rattle.segment_crossings.proofs.mark.is_off.Goals as goal

pub returns-else-is_beyond : goal.returns-else-is_beyond
returns-else-is_beyond c = λ e. record {
  side = true;
  off = λ q h. let k = c.is_beyond-else-is_beyond.ensures.beyond e q h.position h.held in omega (arith, ints, k, swapped c.args.line.now.from c.args.line.now.to q);
}

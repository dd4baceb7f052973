use Rattle.std.proofs.lemmas.Slice.Eq.{strip_prefix_is}
use Rattle.std.proofs.lemmas.Bool.Decides.{Decides-eqb}
use Rattle.json_reading.proofs.Words.{by_strip}
use Rattle.json_reading.proofs.bytes.after_word.Goals as goal

pub returns : goal.returns
returns c = by_strip c.args.word.now c.args.bytes.now _ (strip_prefix_is Decides-eqb c.args.bytes.now c.args.word.now _ c.strip_prefix.ensures.cases)

use Rattle.std.proofs.Common.{◌∙◌}
use Rattle.command_words.proofs.Getters.{whole_read}
use Rattle.command_words.proofs.request.whole_number.Goals as goal

pub returns : goal.returns
returns c = c.ok.ensures.value ∙ whole_read c.args.text.now c.parse.result c.parse.ensures.value.0

use Rattle.std.proofs.Common.{Option, ap, ◌∙◌}
use Rattle.std.specs.Prelude.{unwrap_or}
use Rattle.clap.specs.Walk.{Text}
use Rattle.command_words.proofs.Getters.{now_or}
use Rattle.command_words.proofs.request.text_or.Goals as goal

pub returns : goal.returns
returns c = now_or c.given.result c.unwrap_or.result c.args.other c.unwrap_or.ensures ∙ ap (λ (o : Option Text). unwrap_or o c.args.other.now) c.given.ensures

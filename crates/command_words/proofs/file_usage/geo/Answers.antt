use Rattle.command_words.specs.CommandLine.{file_rule, most_rule, object_rule}
use Rattle.command_words.proofs.file_usage.geo.Goals as goal

pub returns : goal.returns
returns c = λ most.
    let one = c.with_argument-command.ensures _ object_rule c.command.ensures c.object.ensures in
    let two = c.with_argument.ensures _ most_rule one most in
    c.with_argument-2.ensures _ file_rule (c.with_common-command.ensures _ two) c.file.ensures

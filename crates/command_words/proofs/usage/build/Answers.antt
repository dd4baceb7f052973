use Rattle.command_words.specs.CommandLine.{exact_rule, grid_rule, layers_rule, quiet_rule}
use Rattle.command_words.proofs.usage.build.Goals as goal

pub returns : goal.returns
returns c = λ keep.
    let one = c.with_argument-command.ensures _ grid_rule c.command.ensures c.grid.ensures in
    let two = c.with_argument.ensures _ exact_rule (c.with_reducing-command.ensures _ one keep) c.exact.ensures in
    let three = c.with_argument-2.ensures _ quiet_rule (c.with_common-command.ensures _ two) c.quiet.ensures in
    c.with_argument-3.ensures _ layers_rule three c.layers.ensures

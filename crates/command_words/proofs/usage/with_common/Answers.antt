use Rattle.command_words.specs.CommandLine.{explain_rule, output_rule, report_rule}
use Rattle.command_words.proofs.usage.with_common.Goals as goal

pub returns : goal.returns
returns c = λ app is.
    let one = c.with_argument-command.ensures app output_rule is c.output.ensures in
    let two = c.with_argument-command-2.ensures _ report_rule one c.report.ensures in
    c.with_argument.ensures _ explain_rule two c.explain.ensures

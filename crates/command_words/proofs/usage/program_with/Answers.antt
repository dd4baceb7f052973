use Rattle.command_words.specs.CommandLine.{bare_app, build_app, geo_app, simplify_app, stat_app}
use Rattle.command_words.proofs.usage.program_with.Goals as goal

pub returns : goal.returns
returns c = λ build_rule simplify_rule most.
    let one = c.with_command-program.ensures bare_app build_app c.bare.ensures (c.build.ensures build_rule) in
    let two = c.with_command-program-2.ensures _ simplify_app one (c.simplify.ensures simplify_rule) in
    let three = c.with_command-program-3.ensures _ geo_app two (c.geo.ensures most) in
    c.with_command.ensures _ stat_app three c.stat.ensures

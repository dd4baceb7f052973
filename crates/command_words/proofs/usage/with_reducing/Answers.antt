use Rattle.command_words.specs.CommandLine.{area_rule, keep_rule, keep_shapes_rule, no_crossings_rule, ring_area_rule}
use Rattle.command_words.proofs.usage.with_reducing.Goals as goal

pub returns : goal.returns
returns c = λ app is keep.
    let one = c.with_argument-command.ensures app area_rule is c.area.ensures in
    let two = c.with_argument-command-2.ensures _ keep_rule one keep in
    let three = c.with_argument-command-3.ensures _ ring_area_rule two c.ring_area.ensures in
    let four = c.with_argument-command-4.ensures _ no_crossings_rule three c.no_crossings.ensures in
    c.with_argument.ensures _ keep_shapes_rule four c.keep_shapes.ensures

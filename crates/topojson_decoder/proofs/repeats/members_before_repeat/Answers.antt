use Rattle.std.proofs.Common.{rules}
use Rattle.topojson_decoder.proofs.Repeating.{one_more}
use Rattle.topojson_decoder.proofs.repeats.members_before_repeat.Goals as goal

pub members-preserved : goal.members-preserved
members-preserved g c =
    one_more c.args.members.now c.members.index _ c.members-test.true c.index-members-index.is c.members.met c.insert.new.self c.members.invariant c.as_str.result c.as_str.ensures.text (search rules) c.in_ok-insert.ensures.updates

use Rattle.json_cursor.specs.Arrays.{prefix_value}
use Rattle.topojson_decoder.specs.ObjectParts.{features}
use Rattle.topojson_decoder.proofs.MemberOccurrences.{judged}
use Rattle.topojson_decoder.proofs.object_parts.features_by.Goals as goal

pub returns-in-Err : goal.returns-in-Err
returns-in-Err c = λ v is. rw c.in-Err.is at (rw c.in-Some.is at is.read)

pub returns-in-Err-features_at : goal.returns-in-Err-features_at
returns-in-Err-features_at c = λ v is.
    judged (features c.args.start) (prefix_value c.args.depth_left c.args.found.prefix.now) v is.prefix.0 c.args.start.counts c.features_at.new.counts is.prefix.1 c.in-Err-features_at.stop c.in-Err-features_at.ensures

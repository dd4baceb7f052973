use Rattle.std.proofs.Common.{sym}
use Rattle.json_value.proofs.PlainLanes as lane
use Rattle.topojson_decoder.proofs.LeapParts as part
use Rattle.topojson_decoder.proofs.leaping.leap.Goals as goal

pub returns-in_ok-rest-in-len1-up : goal.returns-in_ok-rest-in-len1-up
returns-in_ok-rest-in-len1-up c = part.ends _ c.args.bytes.now _ c.in_ok-rest-in-len1-up.rest.now (lane.split c.args.bytes.now c.in-len1-up.len_at_least) (sym c.if-not-is_opening.ensures) c.in_ok-rest-in-len1-up.ensures

use Rattle.topojson_decoder.specs.Index.{transform_by}
use Rattle.topojson_decoder.proofs.index.arcs_member.Goals as goal

pub returns-in_default : goal.returns-in_default
returns-in_default c = c.passed_at.ensures c.args.start (transform_by c.args.transform.now)

pub returns-in-Again : goal.returns-in-Again
returns-in-Again c = c.passed_at-in-Again.ensures c.args.start (transform_by c.args.transform.now)

pub returns-then-begin_whole : goal.returns-then-begin_whole
returns-then-begin_whole c = c.passed_at-then-begin_whole.ensures c.args.start (transform_by c.args.transform.now)

pub returns-in-Err : goal.returns-in-Err
returns-in-Err c = c.passed_at-in-Err.ensures c.args.start (transform_by c.args.transform.now)

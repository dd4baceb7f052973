use Rattle.std.specs.Prelude.{codes}
use Rattle.std.proofs.lemmas.List.{nil_from_length}
use Rattle.std.proofs.lemmas.List.Sums.{prefix_len-le-length}
use Rattle.json_value.specs.Grammar.{is_plain}
use Rattle.json_value.proofs.Runs.{run_is, escape_is}
use Rattle.json_writer.proofs.Appending.{goes, ends}
use Rattle.json_writer.proofs.text_writer.put_text.Goals as goal

pub split_at-requires : goal.split_at-requires
split_at-requires g c = rw c.plain_len.ensures (prefix_len-le-length is_plain c.runs.rest.now)

-- the closing quotation mark

pub returns-in_default-clause-text : goal.returns-in_default-clause-text
returns-in_default-clause-text g c =
    let following = goes _ c.runs.invariant (run_is _ _ _ (codes "\"") _ c.plain_len.ensures c.split_at.ensures.front c.split_at.ensures.back) c.put-in-runs.ensures.text c.put-in-runs.ensures.kept in
    ends (rw (nil_from_length _ c.in_default.ensures.cases) at following) c.put-in_default.ensures.text

pub runs-preserved : goal.runs-preserved
runs-preserved g c =
    let following = goes _ c.runs.invariant (run_is _ _ _ (codes "\"") _ c.plain_len.ensures c.split_at.ensures.front c.split_at.ensures.back) c.put-in-runs.ensures.text c.put-in-runs.ensures.kept in
    goes _ following (escape_is _ _ (codes "\"") _ c.in-Some.ensures.cases.0) c.put_escaped.ensures.text c.put_escaped.ensures.kept

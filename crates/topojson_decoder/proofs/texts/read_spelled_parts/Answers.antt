use Rattle.std.proofs.Common.{refl}
use Rattle.geojson_types.specs.Counting.{no_counts}
use Rattle.topojson_meaning.specs.Topologies.{value_contents}
use Rattle.topojson_decoder.specs.Kept.{kept_value_contents, of_contents}
use Rattle.json_value.specs.Limits.{topology_depth}
use Rattle.json_cursor.proofs.WholeTexts as text
use Rattle.topojson_decoder.proofs.KeptParts.{unmade, unmade_fault}
use Rattle.topojson_decoder.proofs.TextParts.{stands_for, stands_for_none}
use Rattle.topojson_decoder.proofs.texts.read_spelled_parts.Goals as goal

pub returns-then-is_empty : goal.returns-then-is_empty
returns-then-is_empty c =
    let r = rw c.skip.ensures at c.in-Ok.ensures in
    let read = unmade (of_contents c.args.keeping) (value_contents r.value) no_counts c.in-Ok.parts c.kept_topology_at.new.counts (rw c.none-counts.ensures at r.means) in (
      read.whole,
      (c.if-not-are_utf8.ensures.yes refl, r.value, text.whole topology_depth c.args.bytes.now _ c.text_of.ensures r.value _ _ r.prefix_is c.skip-following.ensures c.if-is_empty.ensures, stands_for r.value _ _ read.reads),
      read.is,
    )

pub malformed-requires-in-Ok : goal.malformed-requires-in-Ok
malformed-requires-in-Ok c = λ utf8.
    let r = rw c.skip.ensures at c.in-Ok.ensures in
    text.trailing topology_depth c.args.bytes.now _ c.text_of.ensures r.value _ _ r.prefix_is c.skip-following.ensures c.if-is_empty.ensures

pub malformed-requires-in-Err-NoValue : goal.malformed-requires-in-Err-NoValue
malformed-requires-in-Err-NoValue c = λ utf8. text.no_value topology_depth c.args.bytes.now _ c.text_of.ensures (rw (c.in-Err-NoValue.field-0-is, c.skip.ensures) at c.in-Err-NoValue.ensures)

pub returns-in-Ok-check : goal.returns-in-Ok-check
returns-in-Ok-check c =
    let read = c.in-Ok-check.ensures.read in
    let stops = rw (c.in-Err-Fault.field-0-is, c.skip.ensures, c.none-counts.ensures) at c.in-Err-Fault.ensures in
    let kept = text.spelled_faults topology_depth c.args.bytes.now _ c.text_of.ensures (kept_value_contents c.args.keeping) _ c.in-Err-Fault.fault stops read.1.0 read.0 read.1.1 in
    rw c.in-Err-Fault.field-0-is (read.0, read.1.0, read.1.1, stands_for_none read.1.0 _ (unmade_fault (of_contents c.args.keeping) (value_contents read.1.0) no_counts c.in-Err-Fault.fault kept))

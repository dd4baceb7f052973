use Rattle.std.proofs.Common.{◌≤◌, ◌∙◌, length, refl, arith}
use Rattle.topojson_decoder.proofs.LeapParts as part
use Rattle.topojson_decoder.proofs.leaping.after_unmarked.Goals as goal

pub split_at-requires : goal.split_at-requires
split_at-requires c =
    let rest = c.loop-rest.rest.now in
    let enough : 16 ≤ length rest = omega (arith, c.loop-rest-test.true) in
    part.few rest enough _ _ (rw c.first_lanes-lanes.ensures at c.marks_among-marks.ensures) (rw c.first_lanes-lanes.ensures at c.quotes_among-quotes.ensures) (omega (arith, c.if-marks-ne0.true)) _ refl

pub returns-then-marks-ne0-clause-passes : goal.returns-then-marks-ne0-clause-passes
returns-then-marks-ne0-clause-passes c = λ n.
    let rest = c.loop-rest.rest.now in
    let enough : 16 ≤ length rest = omega (arith, c.loop-rest-test.true) in
    let passed = part.some_passed rest enough _ _ (rw c.first_lanes-lanes.ensures at c.marks_among-marks.ensures) (rw c.first_lanes-lanes.ensures at c.quotes_among-quotes.ensures) (omega (arith, c.if-marks-ne0.true)) _ refl in
    c.loop-rest.invariant.so_far n ∙ passed c.loop-rest.in_string c.turned.result c.split_at.result.1.now c.turned.ensures c.split_at.ensures.back n

pub loop-rest-preserved : goal.loop-rest-preserved
loop-rest-preserved c =
    let rest = c.loop-rest.rest.now in
    let enough : 16 ≤ length rest = omega (arith, c.loop-rest-test.true) in
    let passed = part.all_passed rest enough _ _ (rw c.first_lanes-lanes.ensures at c.marks_among-marks.ensures) (rw c.first_lanes-lanes.ensures at c.quotes_among-quotes.ensures) in
    record {
      so_far = λ n. c.loop-rest.invariant.so_far n ∙ passed c.loop-rest.in_string c.turned-in_string.result c.split_at-in-loop-rest.result.1.now (omega (arith, c.if-marks-ne0.false)) c.turned-in_string.ensures c.split_at-in-loop-rest.ensures.back n;
      left = omega (arith, c.loop-rest.invariant.left, c.split_at-in-loop-rest.ensures.back_len);
    }

use Rattle.std.proofs.Common.{◌≤◌, ◌∙◌, length, arith}
use Rattle.topojson_decoder.proofs.LeapBlocks.{block_passed}
use Rattle.topojson_decoder.proofs.leaping.after_blocks.Goals as goal

pub loop-rest-preserved : goal.loop-rest-preserved
loop-rest-preserved c =
    let rest = c.loop-rest.rest.now in
    let enough : 64 ≤ length rest = omega (arith, c.loop-rest-test.true) in
    let passed = block_passed rest enough c.loop-rest.in_string _ _ _ _ _ c.among-escapes.ensures c.among-quotes.ensures c.outside_strings-outside.ensures c.either_among.ensures c.either_among-in-loop-rest.ensures in
    record {
      so_far = c.loop-rest.invariant.so_far ∙ passed c.loop-rest.left _ c.from-opened.result c.from-closed.result _ _ c.from-opened.ensures c.from-closed.ensures (omega (arith, c.if-escapes-ne0.false)) (omega (arith, c.if-closed-left.false)) (omega (arith, c.if-closed-left.false, c.in-Some.ensures.1)) c.turned-in_string.ensures c.split_at.ensures.back;
      still_open = omega (arith, c.if-closed-left.false, c.in-Some.ensures.1);
      shorter = omega (arith, c.loop-rest.invariant.shorter, c.split_at.ensures.back_len);
    }

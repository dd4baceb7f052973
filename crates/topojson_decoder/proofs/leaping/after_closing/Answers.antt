use Rattle.std.proofs.Common.{◌∙◌, arith, sym}
use Rattle.json_value.proofs.PlainLanes as lane
use Rattle.json_reading.proofs.Steps.{not_equal}
use Rattle.topojson_decoder.proofs.LeapParts as part
use Rattle.topojson_decoder.proofs.leaping.after_closing.Goals as goal

pub loop-depth-preserved-then-first-eq92 : goal.loop-depth-preserved-then-first-eq92
loop-depth-preserved-then-first-eq92 c =
    let found = c.after_unmarked-in_string.result.0.now in
    let split = lane.split found c.in-len1-up-default.len_at_least in
    let escaped = c.in_ok-rest.ensures in
    record {
      depth_left = c.after_blocks-left.ensures.still_open;
      so_far = part.reached _ _ found c.after_blocks-left.result.1 _ _ _ c.after_blocks-left.ensures.still_open (c.loop-depth.invariant.so_far ∙ c.after_blocks-left.ensures.passes) c.after_unmarked-in_string.ensures.passes c.if-in_string.true
          ∙ part.string_escapes _ found _ split c.after_blocks-left.result.1 escaped.0 c.in_ok-rest.rest.now c.after_blocks-left.ensures.still_open c.if-first-eq92.true escaped.1
          ∙ part.still _ _ _ _ c.if-in_string.true;
    }

pub loop-depth-preserved-else-first-eq92 : goal.loop-depth-preserved-else-first-eq92
loop-depth-preserved-else-first-eq92 c =
    let found = c.after_unmarked-in_string.result.0.now in
    let split = lane.split found c.in-len1-up-default.len_at_least in
    record {
      depth_left = c.after_blocks-left.ensures.still_open;
      so_far = part.reached _ _ found c.after_blocks-left.result.1 _ _ _ c.after_blocks-left.ensures.still_open (c.loop-depth.invariant.so_far ∙ c.after_blocks-left.ensures.passes) c.after_unmarked-in_string.ensures.passes c.if-in_string.true
          ∙ part.string_goes_on _ found _ split c.after_blocks-left.result.1 c.after_blocks-left.ensures.still_open (not_equal _ 92 c.if-first-eq92.false);
    }

pub loop-depth-preserved-then-is_opening : goal.loop-depth-preserved-then-is_opening
loop-depth-preserved-then-is_opening c =
    let found = c.after_unmarked-in_string.result.0.now in
    let split = lane.split found c.in-len1-up-default.len_at_least in
    record {
      depth_left = omega (arith, c.in_ok-depth.ensures.1);
      so_far = part.reached _ _ found c.after_blocks-left.result.1 _ _ _ c.after_blocks-left.ensures.still_open (c.loop-depth.invariant.so_far ∙ c.after_blocks-left.ensures.passes) c.after_unmarked-in_string.ensures.passes c.if-in_string.false
          ∙ part.opens_more _ found _ split c.after_blocks-left.result.1 c.in_ok-depth.depth c.in_ok-depth.ensures.1 (sym c.if-is_opening.ensures)
          ∙ part.still _ _ _ _ c.if-in_string.false;
    }

pub returns-then-depth-eq0 : goal.returns-then-depth-eq0
returns-then-depth-eq0 c =
    let found = c.after_unmarked-in_string.result.0.now in
    let split = lane.split found c.in-len1-up-default.len_at_least in
    part.reached _ _ found c.after_blocks-left.result.1 _ _ _ c.after_blocks-left.ensures.still_open (c.loop-depth.invariant.so_far ∙ c.after_blocks-left.ensures.passes) c.after_unmarked-in_string.ensures.passes c.if-in_string.false
    ∙ part.closes_last_one _ found _ split c.after_blocks-left.result.1 (omega (arith, c.after_blocks-left.ensures.still_open, c.if-depth-eq0.true)) (sym c.if-is_opening.ensures) (sym c.if-is_closing.ensures)

pub loop-depth-preserved-else-depth-eq0 : goal.loop-depth-preserved-else-depth-eq0
loop-depth-preserved-else-depth-eq0 c =
    let found = c.after_unmarked-in_string.result.0.now in
    let split = lane.split found c.in-len1-up-default.len_at_least in
    record {
      depth_left = omega (arith, c.after_blocks-left.ensures.still_open, c.if-depth-eq0.false);
      so_far = part.reached _ _ found c.after_blocks-left.result.1 _ _ _ c.after_blocks-left.ensures.still_open (c.loop-depth.invariant.so_far ∙ c.after_blocks-left.ensures.passes) c.after_unmarked-in_string.ensures.passes c.if-in_string.false
          ∙ part.closes_one _ found _ split c.after_blocks-left.result.1 (omega (arith, c.after_blocks-left.ensures.still_open, c.if-depth-eq0.false)) (sym c.if-is_opening.ensures) (sym c.if-is_closing.ensures)
          ∙ part.still _ _ _ _ c.if-in_string.false;
    }

pub loop-depth-preserved : goal.loop-depth-preserved
loop-depth-preserved c =
    let found = c.after_unmarked-in_string.result.0.now in
    let split = lane.split found c.in-len1-up-default.len_at_least in
    record {
      depth_left = c.after_blocks-left.ensures.still_open;
      so_far = part.reached _ _ found c.after_blocks-left.result.1 _ _ _ c.after_blocks-left.ensures.still_open (c.loop-depth.invariant.so_far ∙ c.after_blocks-left.ensures.passes) c.after_unmarked-in_string.ensures.passes c.if-in_string.false
          ∙ part.passes _ found _ split c.after_blocks-left.result.1 c.after_blocks-left.ensures.still_open (sym c.if-is_opening.ensures) (sym c.if-is_closing.ensures);
    }

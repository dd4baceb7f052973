use Rattle.std.proofs.Common.{refl}
use Rattle.json_value.specs.Text.{json_text}
use Rattle.json_value.specs.Reading.{member_at, value_at}
use Rattle.json_cursor.proofs.Openings.{first_byte}
use Rattle.json_cursor.specs.Copying.{any, whole_member}
use Rattle.json_cursor.proofs.SpanParts as part
use Rattle.json_cursor.proofs.spans.+spanning.Goals as goal

-- ---- values

pub rest_after_value-returns-then-first-eq34 : goal.rest_after_value-returns-then-first-eq34
rest_after_value-returns-then-first-eq34 t c = part.text_spans c.args.deepest c.args.bytes.now _ _ _ c.in_ok-first.ensures c.if-first-eq34.true c.in_ok-rest.ensures

pub rest_after_value-returns-then-first-eq123 : goal.rest_after_value-returns-then-first-eq123
rest_after_value-returns-then-first-eq123 t c = part.object_spans c.args.deepest c.args.bytes.now _ _ _ c.in_ok-first.ensures c.if-first-eq123.true c.if-deepest-eq0.false c.in_ok-rest-2.ensures

pub rest_after_value-returns-then-first-eq91 : goal.rest_after_value-returns-then-first-eq91
rest_after_value-returns-then-first-eq91 t c = part.array_spans c.args.deepest c.args.bytes.now _ _ _ c.in_ok-first.ensures c.if-first-eq91.true c.if-deepest-eq0-2.false c.in_ok-rest-3.ensures

pub rest_after_value-returns-then-first-eq110 : goal.rest_after_value-returns-then-first-eq110
rest_after_value-returns-then-first-eq110 t c = part.null_spans c.args.deepest c.args.bytes.now _ c.in_ok-rest-4.ensures

pub rest_after_value-returns-then-first-eq116 : goal.rest_after_value-returns-then-first-eq116
rest_after_value-returns-then-first-eq116 t c = part.true_spans c.args.deepest c.args.bytes.now _ c.in_ok-rest-5.ensures

pub rest_after_value-returns-then-first-eq102 : goal.rest_after_value-returns-then-first-eq102
rest_after_value-returns-then-first-eq102 t c = part.false_spans c.args.deepest c.args.bytes.now _ c.in_ok-rest-6.ensures

pub rest_after_value-returns : goal.rest_after_value-returns
rest_after_value-returns t c =
    part.number_value_spans c.args.deepest c.args.bytes.now _ _ _ c.in_ok-first.ensures c.if-first-eq110.false c.if-first-eq116.false c.if-first-eq102.false c.if-first-eq34.false c.if-first-eq91.false c.if-first-eq123.false c.in_ok-rest-7.ensures

-- ---- members

pub rest_after_member-returns : goal.rest_after_member-returns
rest_after_member-returns t c = part.member_spans c.args.deepest c.args.bytes.now _ _ c.in_ok-rest.rest.now c.in_ok-name_end.ensures c.in_ok-following.ensures c.in_ok-rest.ensures

-- ---- elements

pub rest_after_array-returns-in-Some : goal.rest_after_array-returns-in-Some
rest_after_array-returns-in-Some t c = part.none_spans 93 (value_at any c.args.deepest) json_text c.args.inside.now _ refl (first_byte 93 _ _ c.in-Some.ensures)

pub rest_after_array-returns : goal.rest_after_array-returns
rest_after_array-returns t c = part.some_spans 93 (value_at any c.args.deepest) json_text c.args.inside.now _ c.in_default.ensures c.in_ok-rest.ensures

pub rest_after_elements-loop-init : goal.rest_after_elements-loop-init
rest_after_elements-loop-init t c = part.starts 93 (value_at any c.args.deepest) json_text _ c.args.inside.now

pub rest_after_elements-loop-preserved : goal.rest_after_elements-loop-preserved
rest_after_elements-loop-preserved t c = part.goes_on 93 (value_at any c.args.deepest) json_text _ _ c.args.inside.now _ c.loop.invariant c.loop-test.true _ c.in_ok-following.ensures _ _ c.in_ok-mark.ensures c.if-mark-ne44.false

pub rest_after_elements-returns-then-mark-eq93 : goal.rest_after_elements-returns-then-mark-eq93
rest_after_elements-returns-then-mark-eq93 t c = part.ends 93 (value_at any c.args.deepest) json_text _ _ c.args.inside.now _ c.loop.invariant c.loop-test.true _ c.in_ok-following.ensures _ _ c.in_ok-mark.ensures refl refl c.if-mark-eq93.true

-- ---- members

pub rest_after_object-returns-in-Some : goal.rest_after_object-returns-in-Some
rest_after_object-returns-in-Some t c = part.none_spans 125 (member_at any (value_at any c.args.deepest)) whole_member c.args.inside.now _ refl (first_byte 125 _ _ c.in-Some.ensures)

pub rest_after_object-returns : goal.rest_after_object-returns
rest_after_object-returns t c = part.some_spans 125 (member_at any (value_at any c.args.deepest)) whole_member c.args.inside.now _ c.in_default.ensures c.in_ok-rest.ensures

pub rest_after_members-loop-init : goal.rest_after_members-loop-init
rest_after_members-loop-init t c = part.starts 125 (member_at any (value_at any c.args.deepest)) whole_member _ c.args.inside.now

pub rest_after_members-loop-preserved : goal.rest_after_members-loop-preserved
rest_after_members-loop-preserved t c =
    part.goes_on 125 (member_at any (value_at any c.args.deepest)) whole_member _ _ c.args.inside.now _ c.loop.invariant c.loop-test.true _ c.in_ok-following.ensures _ _ c.in_ok-mark.ensures c.if-mark-ne44.false

pub rest_after_members-returns-then-mark-eq125 : goal.rest_after_members-returns-then-mark-eq125
rest_after_members-returns-then-mark-eq125 t c =
    part.ends 125 (member_at any (value_at any c.args.deepest)) whole_member _ _ c.args.inside.now _ c.loop.invariant c.loop-test.true _ c.in_ok-following.ensures _ _ c.in_ok-mark.ensures refl refl c.if-mark-eq125.true

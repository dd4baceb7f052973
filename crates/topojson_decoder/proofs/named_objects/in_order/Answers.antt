use Rattle.std.proofs.Common.{◌≡◌, [], ap, length, sym, ◌∙◌, arith}
use Rattle.std.specs.Option.{option_copied}
use Rattle.topojson_meaning.specs.Objects.{is_met, objects_after}
use Rattle.topojson_decoder.specs.Kept.{held_objects}
use Rattle.topojson_decoder.specs.Names.{names_before_repeat}
use Rattle.topojson_decoder.proofs.KeptParts.{made, made_fault}
use Rattle.topojson_decoder.proofs.NamedSeen as occurrence
use Rattle.topojson_decoder.proofs.Repeating.{names_of}
use Rattle.topojson_decoder.proofs.named_objects.in_order.Goals as goal

pub returns-then-repeat-len : goal.returns-then-repeat-len
returns-then-repeat-len c = λ depth_left ms h.
    let start = c.args.start in
    let list = c.args.occurrence.list.items in
    let many = occurrence.same_length start.keeping list h.whole h.kept in
    let counted = ap (names_before_repeat []) (occurrence.same_names start.keeping list h.whole h.kept) in
    made_fault (held_objects start.keeping) (objects_after (option_copied start.transform) start.arcs.now [] ms) start.counts _
    (occurrence.repeated start ms h.whole c.args.occurrence.counts c.args.occurrence.failed h.read (λ same. c.if-repeat-len.true (omega (arith, c.len.ensures, same, many, counted, rw c.deref.ensures.value at c.in-Ok.ensures))))

pub returns-then-is_among : goal.returns-then-is_among
returns-then-is_among c = λ depth_left ms h.
    let start = c.args.start in
    let list = c.args.occurrence.list.items in
    let names = occurrence.same_names start.keeping list h.whole h.kept in
    let many = occurrence.same_length start.keeping list h.whole h.kept in
    let counted = ap (names_before_repeat []) names in
    let differ : names_before_repeat [] (names_of h.whole) ≡ length h.whole = omega (arith, c.len.ensures, c.if-repeat-len.false, many, counted, rw c.deref.ensures.value at c.in-Ok.ensures) in
    made_fault (held_objects start.keeping) (objects_after (option_copied start.transform) start.arcs.now [] ms) start.counts _
    (occurrence.repeats_there start ms h.whole c.args.occurrence.counts differ c.in-Some.name c.in-Some.fault (rw c.in-Some.is at h.read)
    (ap (is_met c.in-Some.name) (sym names) ∙ sym (rw (c.as_str.ensures.text, c.deref-in-Some.ensures.value) at c.is_among.ensures) ∙ c.if-is_among.true))

pub returns-in-None : goal.returns-in-None
returns-in-None c = λ depth_left ms h.
    let start = c.args.start in
    let list = c.args.occurrence.list.items in
    let many = occurrence.same_length start.keeping list h.whole h.kept in
    let counted = ap (names_before_repeat []) (occurrence.same_names start.keeping list h.whole h.kept) in
    let differ : names_before_repeat [] (names_of h.whole) ≡ length h.whole = omega (arith, c.len.ensures, c.if-repeat-len.false, many, counted, rw c.deref.ensures.value at c.in-Ok.ensures) in
    rw (c.of.ensures, c.shrink_to_fit.ensures.items, h.kept, c.counted_features.ensures, sym h.counted)
    (made (held_objects start.keeping) (objects_after (option_copied start.transform) start.arcs.now [] ms) start.counts h.whole c.args.occurrence.counts
    (occurrence.all_read start ms h.whole c.args.occurrence.counts differ c.args.occurrence.failed c.in-None.is h.read))

pub returns-else-is_among : goal.returns-else-is_among
returns-else-is_among c = λ depth_left ms h.
    let start = c.args.start in
    let list = c.args.occurrence.list.items in
    let names = occurrence.same_names start.keeping list h.whole h.kept in
    let many = occurrence.same_length start.keeping list h.whole h.kept in
    let counted = ap (names_before_repeat []) names in
    let differ : names_before_repeat [] (names_of h.whole) ≡ length h.whole = omega (arith, c.len.ensures, c.if-repeat-len.false, many, counted, rw c.deref.ensures.value at c.in-Ok.ensures) in
    made_fault (held_objects start.keeping) (objects_after (option_copied start.transform) start.arcs.now [] ms) start.counts _
    (occurrence.fails_there start ms h.whole c.args.occurrence.counts differ c.in-Some.name c.in-Some.fault (rw c.in-Some.is at h.read)
    (ap (is_met c.in-Some.name) (sym names) ∙ sym (rw (c.as_str.ensures.text, c.deref-in-Some.ensures.value) at c.is_among.ensures) ∙ c.if-is_among.false))

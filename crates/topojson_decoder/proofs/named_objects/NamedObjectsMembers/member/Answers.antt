use Rattle.std.proofs.Common.{[], ◌∷◌, ◌++◌, Err, Ok, ap, sym, ◌∙◌}
use Rattle.std.specs.Option.{option_copied}
use Rattle.json_cursor.specs.Names.{name_of}
use Rattle.topojson_decoder.specs.Kept.{held_object, if_counted, kept_object}
use Rattle.topojson_decoder.specs.NamedObjects.{AreObjects, object}
use Rattle.topojson_decoder.proofs.KeptParts.{counted_more, unmade, unmade_fault}
use Rattle.topojson_decoder.proofs.NamedSeen as occurrence
use Rattle.topojson_decoder.proofs.MemberOccurrences.{member_goes_on}
use Rattle.topojson_decoder.proofs.named_objects.NamedObjectsMembers.member.Goals as goal

pub returns-then-is_some : goal.returns-then-is_some
returns-then-is_some c =
    let found = c.in_ok-rest.ensures in
    let name = name_of c.in_ok-name.name in
    member_goes_on (AreObjects c.args.with c.args.depth_left) c.args.depth_left c.args.self.now _ c.args.bytes.now name c.in_ok-name.value.now (c.in_ok-name.ensures c.args.depth_left) (Ok c.in_ok-rest.rest) (record {
      value = found.0;
      prefix = found.1;
      holds = λ ms h. record {
        whole = h.whole;
        kept = h.kept;
        counted = h.counted;
        read = occurrence.passes c.args.with ms h.whole _ c.args.self.now.failed (name, found.0) (sym c.is_some.ensures ∙ c.if-is_some.true) h.read;
      };
    })

pub returns-in_ok-count_features-in-Ok-object : goal.returns-in_ok-count_features-in-Ok-object
returns-in_ok-count_features-in-Ok-object c =
    let with = c.args.with in
    let new = c.kept_object_at-answer.new.counts in
    let old = c.args.self.now.counts in
    let found = c.in-Ok.ensures (kept_object with.keeping (option_copied with.transform) with.arcs.now) old new c.kept_object_at-answer.ensures in
    let name = name_of c.in_ok-name.name in
    let read = unmade (held_object with.keeping) (object with found.0) old c.in-Ok-object.kept new (rw c.in-Ok-object.is at found.2) in
    member_goes_on (AreObjects with c.args.depth_left) c.args.depth_left c.args.self.now _ c.args.bytes.now name c.in_ok-name.value.now (c.in_ok-name.ensures c.args.depth_left) (Ok c.in-Ok.read.1) (record {
      value = found.0;
      prefix = found.1;
      holds = λ ms h. record {
        whole = h.whole ++ (name, read.whole) ∷ [];
        kept = rw (c.in_ok-push-in-Ok-object.ensures.items, c.in_ok-name-2.ensures)
            (occurrence.kept_more with.keeping c.args.self.now.list.items h.whole h.kept (name, c.in-Ok-object.kept.object) (name, read.whole) (ap (λ k. (name, k.object)) read.is));
        counted = counted_more with.keeping h.whole (name, read.whole) c.args.self.now.features.items _ h.counted
            (c.in_ok-count_features-in-Ok-object.ensures ∙ ap (λ k. if_counted with.keeping (c.args.self.now.features.items ++ k.features ∷ [])) read.is);
        read = occurrence.reads with ms h.whole old name found.0 c.args.self.now.failed (sym c.is_some.ensures ∙ c.if-is_some.false) h.read read.whole new read.reads;
      };
    })

pub returns-in-Err-object : goal.returns-in-Err-object
returns-in-Err-object c =
    let with = c.args.with in
    let new = c.kept_object_at-answer.new.counts in
    let old = c.args.self.now.counts in
    let found = c.in-Ok.ensures (kept_object with.keeping (option_copied with.transform) with.arcs.now) old new c.kept_object_at-answer.ensures in
    let name = name_of c.in_ok-name.name in
    member_goes_on (AreObjects with c.args.depth_left) c.args.depth_left c.args.self.now _ c.args.bytes.now name c.in_ok-name.value.now (c.in_ok-name.ensures c.args.depth_left) (Ok c.in-Ok.read.1) (record {
      value = found.0;
      prefix = found.1;
      holds = λ ms h. record {
        whole = h.whole;
        kept = h.kept;
        counted = h.counted;
        read = rw c.in_ok-name-2.ensures
            (occurrence.fails with ms h.whole old name found.0 c.args.self.now.failed (sym c.is_some.ensures ∙ c.if-is_some.false) h.read c.in-Err-object.fault
            (unmade_fault (held_object with.keeping) (object with found.0) old c.in-Err-object.fault (rw c.in-Err-object.is at found.2)));
      };
    })

pub returns-in-Err : goal.returns-in-Err
returns-in-Err c =
    member_goes_on (AreObjects c.args.with c.args.depth_left) c.args.depth_left c.args.self.now c.args.self.now c.args.bytes.now (name_of c.in_ok-name.name) c.in_ok-name.value.now (c.in_ok-name.ensures c.args.depth_left) (Err c.in-Err.fault)
    (c.in-Err.ensures (kept_object c.args.with.keeping (option_copied c.args.with.transform) c.args.with.arcs.now) c.args.self.now.counts c.kept_object_at-answer.new.counts c.kept_object_at-answer.ensures)

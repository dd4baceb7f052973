use Rattle.std.proofs.Common.{[], ◌∷◌, ◌++◌, length, sym, ◌∙◌, arith}
use Rattle.std.specs.Option.{option_copied}
use Rattle.std.specs.Str.{is_utf8}
use Rattle.std.proofs.lemmas.List.{length-append}
use Rattle.json_value.specs.Reading.{value_at}
use Rattle.json_cursor.specs.Arrays.{prefix_elements}
use Rattle.json_cursor.specs.Folds.{fold, one, with_read}
use Rattle.json_cursor.proofs.ArrayParts.{as_list, same_reads, same_stops}
use Rattle.json_cursor.proofs.FoldedSoFar as so_far
use Rattle.topojson_meaning.specs.Reader.{each}
use Rattle.topojson_decoder.specs.Kept.{kept_feature}
use Rattle.topojson_decoder.proofs.FeatureLists as part
use Rattle.topojson_decoder.proofs.KeptParts.{listed_more}
use Rattle.topojson_decoder.proofs.collected_features.features_after.Goals as goal

pub returns-in-Err : goal.returns-in-Err
returns-in-Err c =
    let transform = option_copied c.args.by.transform in
    let element = kept_feature c.args.by.keeping transform c.args.by.arcs.now in
    part.elements_stop c.args.by.keeping transform c.args.by.arcs.now (prefix_elements c.args.depth_left (length c.args.inside.now) c.args.inside.now) c.args.counts.now c.in-Err.stop
    (same_stops (fold (with_read (one element)) []) (each element) (prefix_elements c.args.depth_left (length c.args.inside.now) c.args.inside.now) c.args.counts.now (λ vs. as_list (one element) vs c.args.counts.now) c.in-Err.stop
    (so_far.stops (with_read (one element)) (value_at is_utf8 c.args.depth_left) _ _ _ _ _ _ _ _ c.features.invariant.so_far c.features-test.true c.in-Err.stop
    (part.taken_stops element _ _ _ c.in-Err.stop (rw c.skip.ensures at c.in-Err.ensures))))

pub returns-in-Neither : goal.returns-in-Neither
returns-in-Neither c =
    let element = kept_feature c.args.by.keeping (option_copied c.args.by.transform) c.args.by.arcs.now in
    so_far.breaks (with_read (one element)) (value_at is_utf8 c.args.depth_left) _ _ _ _ _ _ _ _ c.features.invariant.so_far c.features-test.true _ _ _
    (part.taken_reads element _ _ _ _ _ _ (rw c.skip.ensures at c.in-Ok.ensures)) (rw c.in-Neither.is at c.mark_at-mark.ensures)

pub returns-in-Close : goal.returns-in-Close
returns-in-Close c =
    let transform = option_copied c.args.by.transform in
    let element = kept_feature c.args.by.keeping transform c.args.by.arcs.now in
    let v = c.features.invariant in
    let feature = c.in-Ok.feature in
    part.elements_read c.args.by.keeping transform c.args.by.arcs.now (prefix_elements c.args.depth_left (length c.args.inside.now) c.args.inside.now) c.args.counts.now (v.each ++ feature ∷ []) _ _
    (same_reads (fold (with_read (one element)) []) (each element) (prefix_elements c.args.depth_left (length c.args.inside.now) c.args.inside.now) c.args.counts.now (λ vs. as_list (one element) vs c.args.counts.now) _ _ _
    (so_far.ends (with_read (one element)) (value_at is_utf8 c.args.depth_left) _ _ _ _ _ _ _ _ v.so_far c.features-test.true _ _ _
    (part.taken_reads element _ _ _ _ _ _ (rw c.skip.ensures at c.in-Ok.ensures)) _ (rw c.in-Close.is at c.mark_at-mark.ensures)))
    _ (rw v.are at c.in_ok-list_feature-in-Ok.ensures ∙ sym (listed_more c.args.by.keeping v.each feature)) _ (omega (arith, v.counted, length-append v.each (feature ∷ [])))

pub features-preserved : goal.features-preserved
features-preserved c =
    let element = kept_feature c.args.by.keeping (option_copied c.args.by.transform) c.args.by.arcs.now in
    let v = c.features.invariant in
    let feature = c.in-Ok.feature in
    record {
      each = v.each ++ feature ∷ [];
      so_far = so_far.goes_on (with_read (one element)) (value_at is_utf8 c.args.depth_left) _ _ _ _ _ _ _ _ v.so_far c.features-test.true _ _ _
          (part.taken_reads element _ _ _ _ _ _ (rw c.skip.ensures at c.in-Ok.ensures)) _ (rw c.in-Comma.is at c.mark_at-mark.ensures);
      are = rw v.are at c.in_ok-list_feature-in-Ok.ensures ∙ sym (listed_more c.args.by.keeping v.each feature);
      counted = omega (arith, v.counted, length-append v.each (feature ∷ []));
    }

pub returns : goal.returns
returns c = so_far.turns_over (with_read (one (kept_feature c.args.by.keeping (option_copied c.args.by.transform) c.args.by.arcs.now))) (value_at is_utf8 c.args.depth_left) _ _ _ _ _ _ _ _ c.features.invariant.so_far c.features-test.false

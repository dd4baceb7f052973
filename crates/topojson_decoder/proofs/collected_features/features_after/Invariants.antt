use Rattle.std.proofs.Common.{◌≡◌, List, [], length}
use Rattle.std.specs.Option.{option_copied}
use Rattle.std.specs.Str.{is_utf8}
use Rattle.json_value.specs.Reading.{value_at}
use Rattle.json_cursor.specs.Arrays.{prefix_elements}
use Rattle.json_cursor.specs.Folds.{one, with_read}
use Rattle.json_cursor.proofs.FoldedSoFar.{FoldedSoFar}
use Rattle.topojson_types.specs.declared.feature.TopoFeature.{TopoFeature}
use Rattle.topojson_decoder.specs.Kept.{kept_feature, listed}
use Rattle.topojson_decoder.proofs.collected_features.features_after.Given as goal

abbrev pub invariant-features : goal.invariant-features
invariant-features l = record {
  each : List TopoFeature;
  so_far : FoldedSoFar (with_read (one (kept_feature l.by.keeping (option_copied l.by.transform) l.by.arcs.now))) (value_at is_utf8 l.depth_left) (length l.inside) (prefix_elements l.depth_left (length l.inside) l.inside) [] l.fn.counts l.before l.rest each l.counts;
  are : l.read.items ≡ listed l.by.keeping each;
  counted : length each ≡ l.before;
}

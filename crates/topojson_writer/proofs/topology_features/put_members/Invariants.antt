use Rattle.std.proofs.Common.{drop, map}
use Rattle.std.specs.Prelude.{codes}
use Rattle.json_value.specs.Text.{json_text}
use Rattle.json_value.specs.declared.json.Json.TheVariants as j
use Rattle.json_writer.proofs.Appending.{UpTo}
use Rattle.json_writer.proofs.Lists.{list_left, text_by}
use Rattle.topojson_writer.specs.FeatureValues.{feature_value}
use Rattle.topojson_writer.specs.Decoded.{feature_in}
use Rattle.topojson_writer.proofs.topology_features.put_members.Given as goal

abbrev pub invariant-members : goal.invariant-members
invariant-members g l =
    UpTo g.O.Out.text g.O.Out.good l.fn.out l.out (json_text (j.Array (map feature_value (map (feature_in l.topology) l.members))))
    (list_left (text_by (λ f. feature_value (feature_in l.topology f))) (codes "]") l.is_first (drop l.member-index l.members))

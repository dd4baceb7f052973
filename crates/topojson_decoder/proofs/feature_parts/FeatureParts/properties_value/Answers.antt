use Rattle.std.proofs.Common.{Some, ap, refl, ◌∙◌}
use Rattle.std.specs.Prelude.{codes}
use Rattle.topojson_meaning.specs.Features.{members_if}
use Rattle.topojson_decoder.specs.Features.{blank_members}
use Rattle.topojson_decoder.proofs.FeatureParts as occurrence
use Rattle.topojson_decoder.proofs.feature_parts.FeatureParts.properties_value.Goals as goal

pub returns-in_ok-properties-in-Whole : goal.returns-in_ok-properties-in-Whole
returns-in_ok-properties-in-Whole c =
    let found = c.in_ok-properties-in-Whole.ensures in
    record {
      value = found.0;
      prefix = found.1;
      holds = λ ms h. occurrence.sees_properties c.args.start c.args.depth_left (codes "properties") ms c.args.self.now found.0 h c.in_ok-properties-in-Whole.properties _ c.see.ensures refl (found.2 ∙ occurrence.whole_read c.args.start.keeping _ c.in-Whole.is (members_if (Some found.0)));
    }

pub returns-in_ok-rest-in-Shapes : goal.returns-in_ok-rest-in-Shapes
returns-in_ok-rest-in-Shapes c =
    let found = c.in_ok-rest-in-Shapes.ensures in
    record {
      value = found.0;
      prefix = found.1;
      holds = λ ms h. occurrence.sees_properties c.args.start c.args.depth_left (codes "properties") ms c.args.self.now found.0 h c.blank_properties.result _ c.see-in-Shapes.ensures refl
          (c.blank_properties.ensures ∙ ap blank_members (c.kind_at.ensures c.args.depth_left found.0 _ found.1) ∙ occurrence.blank_members_of found.0 ∙ occurrence.blank_read c.args.start.keeping c.in-Shapes.is (members_if (Some found.0)));
    }

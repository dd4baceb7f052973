use Rattle.std.proofs.Common.{Some, ap, refl, ◌∙◌}
use Rattle.std.specs.Prelude.{codes}
use Rattle.topojson_meaning.specs.Features.{identifier}
use Rattle.topojson_decoder.specs.Features.{blank_identifier}
use Rattle.topojson_decoder.proofs.FeatureParts as occurrence
use Rattle.topojson_decoder.proofs.feature_parts.FeatureParts.id_value.Goals as goal

pub returns-in_ok-id-in-Whole : goal.returns-in_ok-id-in-Whole
returns-in_ok-id-in-Whole c =
    let found = c.in_ok-id-in-Whole.ensures in
    record {
      value = found.0;
      prefix = found.1;
      holds = λ ms h. occurrence.sees_id c.args.start c.args.depth_left (codes "id") ms c.args.self.now found.0 h c.in_ok-id-in-Whole.id _ c.see.ensures refl (found.2 ∙ occurrence.whole_read c.args.start.keeping _ c.in-Whole.is (identifier (Some found.0)));
    }

pub returns-in_ok-rest-in-Shapes : goal.returns-in_ok-rest-in-Shapes
returns-in_ok-rest-in-Shapes c =
    let found = c.in_ok-rest-in-Shapes.ensures in
    record {
      value = found.0;
      prefix = found.1;
      holds = λ ms h. occurrence.sees_id c.args.start c.args.depth_left (codes "id") ms c.args.self.now found.0 h c.blank_id.result _ c.see-in-Shapes.ensures refl
          (c.blank_id.ensures ∙ ap blank_identifier (c.kind_at.ensures c.args.depth_left found.0 _ found.1) ∙ occurrence.blank_identifier_of found.0 ∙ occurrence.blank_read c.args.start.keeping c.in-Shapes.is (identifier (Some found.0)));
    }

use Rattle.std.proofs.Common.{None, Err}
use Rattle.std.specs.Option.{option_copied}
use Rattle.json_cursor.specs.Arrays.{prefix_value}
use Rattle.topojson_meaning.specs.Objects.{object}
use Rattle.topojson_decoder.specs.Kept.{held_object}
use Rattle.topojson_decoder.specs.declared.keeping.Keeping.TheVariants.{Whole}
use Rattle.topojson_decoder.proofs.KeptParts.{answers_back, whole_object}
use Rattle.topojson_decoder.proofs.object_parts.object_at.Goals as goal

pub returns-in-Err : goal.returns-in-Err
returns-in-Err c =
    answers_back (held_object (Whole None)) (λ k. k.object) (whole_object None) (object (option_copied c.args.transform) c.args.arcs.now) (prefix_value c.args.depth_left c.args.bytes.now) c.args.counts.now c.kept_object_at.new.counts
    (Err c.in-Err.stop) c.in-Err.ensures

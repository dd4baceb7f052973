use Rattle.json_writer.proofs.Appending.{begins}
use Rattle.topojson_writer.specs.FeatureValues.{feature_value}
use Rattle.topojson_writer.specs.Decoded.{feature_in}
use Rattle.topojson_writer.proofs.Elements.{decoded-text}
use Rattle.topojson_writer.proofs.topology_features.put_members.Goals as goal

pub members-init : goal.members-init
members-init g c = begins _ (decoded-text feature_value (feature_in c.args.topology.now) c.args.members.now) c.put.ensures.text c.put.ensures.kept

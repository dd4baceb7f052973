use Rattle.json_value.proofs.Written.{text_reads}
use Rattle.topojson_writer.specs.FeatureValues.{features_value}
use Rattle.topojson_writer.proofs.Written.{features_numbers}
use Rattle.topojson_writer.proofs.laws.features_text_spells_value.Goals as goal

pub returns-clause-reads : goal.returns-clause-reads
returns-clause-reads c = λ features d h depth_left. text_reads (features_value features) d (features_numbers features h) depth_left

-- What the prover is given for the texts of geometries and features.
use Rattle.std.proofs.Common.{append_assoc}
use Rattle.geometry.specs.declared.shape.Geometry.TheVariants.{outs-Point, outs-MultiPoint, outs-Line, outs-Lines, outs-Area, outs-Areas, outs-Group}
use Rattle.topojson_writer.proofs.ShapeParts.{contents-point, contents-points, contents-line, contents-lines, contents-area, contents-areas, contents-group, shape-text}
use Rattle.topojson_writer.proofs.FeatureParts.{feature-text, collection-text}

pub ruleset outs = (outs-Point, outs-MultiPoint, outs-Line, outs-Lines, outs-Area, outs-Areas, outs-Group)

pub ruleset shapes = (contents-point, contents-points, contents-line, contents-lines, contents-area, contents-areas, contents-group, shape-text, append_assoc)

pub ruleset features = (feature-text, collection-text, append_assoc)

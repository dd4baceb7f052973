use Rattle.std.proofs.Common.{sym, ap, ◌∙◌}
use Rattle.std.specs.Prelude.{codes}
use Rattle.json_value.specs.Text.{escaped_byte}
use Rattle.topojson_types.specs.Values.{geometrical}
use Rattle.topojson_types.proofs.ByKind.{geometrical_at}
use Rattle.topojson_writer.specs.Texts.{type_text}
use Rattle.topojson_writer.proofs.Shapes as kind
use Rattle.topojson_writer.proofs.geometry_writer.type_start.Goals as goal

pub returns-in-Point : goal.returns-in-Point
unfolding escaped_byte
returns-in-Point g c = sym (ap (λ shape. type_text (geometrical g.C.PutValue.value shape)) c.in-Point.is ∙ kind.type-is _ (codes "Point") (codes "coordinates") _ ((geometrical_at g.C.PutValue.value).point _))

pub returns-in-MultiPoint : goal.returns-in-MultiPoint
unfolding escaped_byte
returns-in-MultiPoint g c = sym (ap (λ shape. type_text (geometrical g.C.PutValue.value shape)) c.in-MultiPoint.is ∙ kind.type-is _ (codes "MultiPoint") (codes "coordinates") _ ((geometrical_at g.C.PutValue.value).points _))

pub returns-in-Line : goal.returns-in-Line
unfolding escaped_byte
returns-in-Line g c = sym (ap (λ shape. type_text (geometrical g.C.PutValue.value shape)) c.in-Line.is ∙ kind.type-is _ (codes "LineString") (codes "arcs") _ ((geometrical_at g.C.PutValue.value).line _))

pub returns-in-Lines : goal.returns-in-Lines
unfolding escaped_byte
returns-in-Lines g c = sym (ap (λ shape. type_text (geometrical g.C.PutValue.value shape)) c.in-Lines.is ∙ kind.type-is _ (codes "MultiLineString") (codes "arcs") _ ((geometrical_at g.C.PutValue.value).lines _))

pub returns-in-Area : goal.returns-in-Area
unfolding escaped_byte
returns-in-Area g c = sym (ap (λ shape. type_text (geometrical g.C.PutValue.value shape)) c.in-Area.is ∙ kind.type-is _ (codes "Polygon") (codes "arcs") _ ((geometrical_at g.C.PutValue.value).area _))

pub returns-in-Areas : goal.returns-in-Areas
unfolding escaped_byte
returns-in-Areas g c = sym (ap (λ shape. type_text (geometrical g.C.PutValue.value shape)) c.in-Areas.is ∙ kind.type-is _ (codes "MultiPolygon") (codes "arcs") _ ((geometrical_at g.C.PutValue.value).areas _))

pub returns-in-Group : goal.returns-in-Group
unfolding escaped_byte
returns-in-Group g c = sym (ap (λ shape. type_text (geometrical g.C.PutValue.value shape)) c.in-Group.is ∙ kind.type-is _ (codes "GeometryCollection") (codes "geometries") _ (kind.is-group g.C.PutValue.value _))

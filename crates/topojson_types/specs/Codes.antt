-- The code of the contents of a topology, by which a proof keeps two of them apart.
use Rattle.std.specs.Prelude.{ℕ, List, Option, refl}
use Rattle.std.specs.Coded.{Coded, code_by, coded×, coded_ℕ, coded_list, coded_option}
use Rattle.geometry.specs.Points.{Point}
use Rattle.topojson_types.specs.declared.object.TopoObject.{TopoObject}
use Rattle.topojson_types.specs.contracts.cell.Cell as cell
use Rattle.topojson_types.specs.contracts.object.TopoObject as object
use Rattle.topojson_types.specs.contracts.transform.Transform as transform
use Rattle.topojson_types.specs.declared.transform.Transform.{Transform}
use Rattle.topojson_types.specs.Topologies.{Contents}

-- the code of the arcs
abbrev arcs_code : Coded (List (List Point))
arcs_code = coded_list (coded_list cell.the_row.coded)

-- the code of the objects
abbrev objects_code : Coded (List (List ℕ × TopoObject))
objects_code = coded_list (coded× (coded_list coded_ℕ) object.the_row.coded)

-- the code of the transform
abbrev transform_code : Coded (Option Transform)
transform_code = coded_option transform.the_row.coded

-- contents as their objects, beside their arcs, beside their transform
abbrev Stored : Type 0
Stored = List (List ℕ × TopoObject) × (List (List Point) × Option Transform)

abbrev pub contents_code : Coded Contents
contents_code = code_by Stored (coded× objects_code (coded× arcs_code transform_code)) (λ t. (t.objects, (t.arcs, t.transform))) (λ p. record { objects = p.0; arcs = p.1.0; transform = p.1.1 }) (λ _. refl)

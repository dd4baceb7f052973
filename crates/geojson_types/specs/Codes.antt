-- The code of a feature as contracts see it, by which a proof keeps two of them apart.
use Rattle.std.specs.Prelude.{Option, refl}
use Rattle.std.specs.Coded.{Coded, code_by, coded×, coded_option}
use Rattle.json_value.specs.PropertyMembers.{Members, members_code}
use Rattle.owned_values.specs.contracts.items.Items as items
use Rattle.geojson_types.specs.declared.id.Id.{Id}
use Rattle.geojson_types.specs.contracts.id.Id as id
use Rattle.geometry.specs.contracts.shape.Geometry as geometry
use Rattle.geometry.specs.contracts.position.Position as position
use Rattle.geometry.specs.contracts.ring.Ring as ring
use Rattle.geojson_types.specs.Features.{Shape, Featured}

-- the code of a shape
abbrev pub shape_code : Coded Shape
shape_code = (geometry.the_row position.the_row (items.the_row position.the_row) ring.the_row).coded

-- the code of a feature, which is stored as its identifier beside its properties and its shape
abbrev pub feature_code : Coded Featured
feature_code =
    code_by (Option Id × (Option Members × Option Shape))
    (coded× (coded_option id.the_row.coded) (coded× (coded_option members_code) (coded_option shape_code)))
    (λ f. (f.id, (f.properties, f.shape)))
    (λ p. record { id = p.0; properties = p.1.0; shape = p.1.1 })
    (λ _. refl)

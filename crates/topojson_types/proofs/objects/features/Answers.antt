use Rattle.std.proofs.Common.{sym}
use Rattle.topojson_types.proofs.NamedObjects.{decoded_one, decoded_many, decoded_none}
use Rattle.topojson_types.proofs.objects.features.Goals as goal

pub returns-in_default-clause-absent : goal.returns-in_default-clause-absent
returns-in_default-clause-absent c _ = decoded_none c.args.topology.now c.args.name.now (sym c.in_default.ensures.object)

pub returns-in_ok-feature-in-One-clause-found : goal.returns-in_ok-feature-in-One-clause-found
returns-in_ok-feature-in-One-clause-found c =
    decoded_one c.args.topology.now c.args.name.now c.in-Some.object.now c.in-One.one c.in_ok-feature-in-One.field-0 (sym c.in-Some.ensures.object) c.in-One.is c.in_ok-feature-in-One.ensures

pub returns-in_ok-members-in-Many-clause-found : goal.returns-in_ok-members-in-Many-clause-found
returns-in_ok-members-in-Many-clause-found c =
    decoded_many c.args.topology.now c.args.name.now c.in-Some.object.now c.in-Many.many c.in_ok-members-in-Many.field-0 (sym c.in-Some.ensures.object) c.in-Many.is
    (rw c.as_slice.ensures at c.in_ok-members-in-Many.ensures)

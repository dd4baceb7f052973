use Rattle.std.proofs.Common.{refl}
use Rattle.geojson_meaning.specs.Members.{named}
use Rattle.geojson_model.proofs.leading.twice_at.Goals as goal

pub returns-in-Ok-Some : goal.returns-in-Ok-Some
unfolding named
returns-in-Ok-Some c =
    let object = rw c.in-Ok-Some.field-0-is at c.in-Ok-Some.ensures in
    record { members = object.members; prefix = object.prefix; seen = _; occurrence = object.holds (record { kind = refl; coordinates = refl }); answer = c.stand_twice.ensures }

use Rattle.json_cursor.specs.Arrays.{prefix_value}
use Rattle.json_cursor.proofs.Openings.{first_byte}
use Rattle.geojson_model.proofs.UsualGeometries.{is_usual, led_faulty, led_nothing, led_read, led_twice}
use Rattle.geojson_model.proofs.GeometryParts as part
use Rattle.geojson_model.proofs.leading.led_geometry_at.Goals as goal

pub returns-in-Err-NoValue : goal.returns-in-Err-NoValue
returns-in-Err-NoValue c = led_nothing c.args.exact c.args.kind c.args.depth_left c.args.bytes.now c.args.prefix.now c.args.counts.now c.requires.leads (rw c.in-Err-NoValue.field-0-is at c.in-Err-NoValue.ensures)

pub returns-in-None : goal.returns-in-None
returns-in-None c = λ v rest found. part.no_object c.args.exact v c.args.counts.now ((rw c.in-None.is at c.in_ok-found-in-Err-Fault.ensures) v rest found)

pub returns-in-Some : goal.returns-in-Some
returns-in-Some c =
    rw c.first_fault.ensures (led_faulty c.args.exact c.args.kind c.args.depth_left c.args.bytes.now c.args.prefix.now c.args.counts.now c.requires.leads c.in-Some.twice _ (rw c.in-Some.is at c.in_ok-found-in-Err-Fault.ensures) c.in-Err-Fault.fault (rw c.in-Err-Fault.field-0-is at c.in-Err-Fault.ensures))

pub returns-in-Some-after_byte : goal.returns-in-Some-after_byte
returns-in-Some-after_byte c =
    let r = c.in-Ok.ensures in
    let begins = c.requires.begins r.value _ c.in-Some-after_byte.rest.now r.prefix_is (first_byte 125 _ _ (rw c.skip.ensures at c.in-Some-after_byte.ensures)) in
    is_usual c.args.exact r.value begins.0 c.args.counts.now c.args.kind begins.1 _ c.coordinates_at.new.counts r.means (prefix_value c.args.depth_left c.args.bytes.now) c.in-Some-after_byte.rest.now begins.2

pub returns-in-Ok-None : goal.returns-in-Ok-None
returns-in-Ok-None c = λ v rest found. part.no_object c.args.exact v c.args.counts.now ((rw c.in-Ok-None.field-0-is at c.in-Ok-None.ensures) v rest found)

pub returns-then-twice : goal.returns-then-twice
returns-then-twice c = led_twice c.args.exact c.args.kind c.args.depth_left c.args.bytes.now c.args.prefix.now c.args.counts.now c.requires.leads c.in-Ok-Some.twice _ (rw c.in-Ok-Some.field-0-is at c.in-Ok-Some.ensures) c.if-twice.true

pub returns-else-twice : goal.returns-else-twice
returns-else-twice c = led_read c.args.exact c.args.kind c.args.depth_left c.args.bytes.now c.args.prefix.now c.args.counts.now c.requires.leads c.in-Ok-Some.twice _ (rw c.in-Ok-Some.field-0-is at c.in-Ok-Some.ensures) c.if-twice.false _ _ _ c.in-Ok.ensures

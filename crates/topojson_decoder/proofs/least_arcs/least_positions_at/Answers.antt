use Rattle.std.proofs.Common.{◌≡◌, arith}
use Rattle.std.proofs.lemmas.Int.{ints}
use mir.Syntax.{w64}
use mir.Val.{to_z, of_z}
use Rattle.json_cursor.proofs.Openings.{first_byte}
use Rattle.topojson_decoder.proofs.LeastArcs.{ends, goes_on}
use Rattle.topojson_decoder.proofs.least_arcs.least_positions_at.Goals as goal

pub returns-in-Some-after_byte : goal.returns-in-Some-after_byte
returns-in-Some-after_byte c =
    let x : to_z w64 (of_z w64 c.in-Some.x) ≡ c.in-Some.x = omega (arith, ints, c.in-Some.ensures.first) in
    let y : to_z w64 (of_z w64 c.in-Some.y) ≡ c.in-Some.y = omega (arith, ints, c.in-Some.ensures.second) in
    let cell = rw (x, y) at c.at.ensures in
    rw (c.in_ok-push.ensures.items, cell)
    (ends _ c.args.inside.now _ _ c.positions.invariant _ _ c.in-Some.ensures.text c.in-Some.ensures.first c.in-Some.ensures.second _ (first_byte 93 _ _ c.in-Some-after_byte.ensures))

pub positions-preserved : goal.positions-preserved
positions-preserved c =
    let x : to_z w64 (of_z w64 c.in-Some.x) ≡ c.in-Some.x = omega (arith, ints, c.in-Some.ensures.first) in
    let y : to_z w64 (of_z w64 c.in-Some.y) ≡ c.in-Some.y = omega (arith, ints, c.in-Some.ensures.second) in
    let cell = rw (x, y) at c.at.ensures in
    rw (c.in_ok-push.ensures.items, cell)
    (goes_on _ c.args.inside.now _ _ c.positions.invariant _ _ c.in-Some.ensures.text c.in-Some.ensures.first c.in-Some.ensures.second _ (first_byte 44 _ _ c.in-Some-after_byte-2.ensures))

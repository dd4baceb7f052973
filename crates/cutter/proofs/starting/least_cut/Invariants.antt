use Rattle.std.proofs.Common.{◌≡◌, ◌≤◌, length, take}
use Rattle.cutter.proofs.Names.{filter, is_member, least_point}
use Rattle.cutter.proofs.starting.least_cut.Given as goal

abbrev pub invariant-loop-i : goal.invariant-loop-i
invariant-loop-i l =
    let seen = filter (is_member l.vertices.cuts) (take l.i l.positions) in
    (l.best ≡ least_point seen) × (l.count ≡ length seen) × (l.count ≤ l.i)

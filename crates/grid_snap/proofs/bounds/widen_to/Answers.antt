use Rattle.std.proofs.Common.{◌≡◌, rules, refl, to_z, of_z, w64, FitsSigned}
use Rattle.std.specs.Int.{int_min, int_max}
use Rattle.grid_snap.proofs.Widening.{min_cast, max_cast}
use Rattle.grid_snap.proofs.bounds.widen_to.Goals as goal

pub returns-in-Some : goal.returns-in-Some
returns-in-Some c =
    let fl : FitsSigned w64 c.in-Some.b.left = search rules in
    let fr : FitsSigned w64 c.in-Some.b.right = search rules in
    let fb : FitsSigned w64 c.in-Some.b.bottom = search rules in
    let ft : FitsSigned w64 c.in-Some.b.top = search rules in
    let fx : FitsSigned w64 c.args.x = search rules in
    let fy : FitsSigned w64 c.args.y = search rules in
    let l : to_z w64 (of_z w64 c.min.result) ≡ int_min c.in-Some.b.left c.args.x = min_cast c.in-Some.b.left c.args.x c.min.result fl fx c.min.ensures.value in
    let r : to_z w64 (of_z w64 c.max.result) ≡ int_max c.in-Some.b.right c.args.x = max_cast c.in-Some.b.right c.args.x c.max.result fr fx c.max.ensures.value in
    let b : to_z w64 (of_z w64 c.min-in-Some.result) ≡ int_min c.in-Some.b.bottom c.args.y = min_cast c.in-Some.b.bottom c.args.y c.min-in-Some.result fb fy c.min-in-Some.ensures.value in
    let t : to_z w64 (of_z w64 c.max-in-Some.result) ≡ int_max c.in-Some.b.top c.args.y = max_cast c.in-Some.b.top c.args.y c.max-in-Some.result ft fy c.max-in-Some.ensures.value in
    rw (c.in-Some.is, l, r, b, t) refl

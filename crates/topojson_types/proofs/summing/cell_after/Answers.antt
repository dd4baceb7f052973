use Rattle.std.proofs.Common.{◌≡◌, ◌+ℤ◌, unsigned_abs, arith, ap, ◌∙◌, to_z, of_z, w64}
use Rattle.std.proofs.lemmas.Int.{ints}
use Rattle.topojson_types.specs.Transforms.{grid_limit, moved}
use Rattle.topojson_types.proofs.Grids.{out_x, out_y, is_within-both}
use Rattle.topojson_types.proofs.summing.cell_after.Goals as goal
use Rattle.topojson_types.proofs.summing.cell_after.Goals.{then-unsigned_abs-gt-GRID_LIMIT-via-then-unsigned_abs-gt-GRID_LIMIT, then-unsigned_abs-gt-GRID_LIMIT-via-else-unsigned_abs-gt-GRID_LIMIT+then-unsigned_abs-gt-GRID_LIMIT-2}

pub returns-then-unsigned_abs-gt-GRID_LIMIT-clause-none :
    goal.returns-then-unsigned_abs-gt-GRID_LIMIT-clause-none
returns-then-unsigned_abs-gt-GRID_LIMIT-clause-none c =
    let x : to_z w64 (of_z w64 (to_z w64 (of_z w64 c.x.result) +ℤ to_z w64 (of_z w64 c.x-2.result))) ≡ c.args.before.x +ℤ c.args.difference.x = omega (arith, ints) in
    let y : to_z w64 (of_z w64 (to_z w64 (of_z w64 c.y.result) +ℤ to_z w64 (of_z w64 c.y-2.result))) ≡ c.args.before.y +ℤ c.args.difference.y = omega (arith, ints) in
    elim c.then-unsigned_abs-gt-GRID_LIMIT.branch [
      | then-unsigned_abs-gt-GRID_LIMIT-via-then-unsigned_abs-gt-GRID_LIMIT w ↦
          out_x grid_limit c.args.before c.args.difference c.unsigned_abs.result
          (c.unsigned_abs.ensures.value ∙ ap unsigned_abs x) w.if-unsigned_abs-gt-GRID_LIMIT.true
      | then-unsigned_abs-gt-GRID_LIMIT-via-else-unsigned_abs-gt-GRID_LIMIT+then-unsigned_abs-gt-GRID_LIMIT-2 w ↦
          out_y grid_limit c.args.before c.args.difference w.unsigned_abs-else-unsigned_abs-gt-GRID_LIMIT.result
          (w.unsigned_abs-else-unsigned_abs-gt-GRID_LIMIT.ensures.value ∙ ap unsigned_abs y) w.if-unsigned_abs-gt-GRID_LIMIT-2.true
    ]

pub returns-clause-some : goal.returns-clause-some
returns-clause-some c =
    let x : to_z w64 (of_z w64 (to_z w64 (of_z w64 c.x.result) +ℤ to_z w64 (of_z w64 c.x-2.result))) ≡ c.args.before.x +ℤ c.args.difference.x = omega (arith, ints) in
    let y : to_z w64 (of_z w64 (to_z w64 (of_z w64 c.y.result) +ℤ to_z w64 (of_z w64 c.y-2.result))) ≡ c.args.before.y +ℤ c.args.difference.y = omega (arith, ints) in
    let e = c.unsigned_abs.ensures.value ∙ ap unsigned_abs x in
    let f = c.unsigned_abs-else-unsigned_abs-gt-GRID_LIMIT.ensures.value ∙ ap unsigned_abs y in
    (rw (x, y) at c.at.ensures, is_within-both grid_limit (moved c.args.before c.args.difference) (omega arith) (omega arith))

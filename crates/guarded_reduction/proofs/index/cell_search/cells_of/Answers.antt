use Rattle.std.proofs.Common.{arith}
use Rattle.std.proofs.lemmas.Int.{ints}
use Rattle.guarded_reduction.proofs.index.cell_search.cells_of.Goals as goal

pub returns : goal.returns
returns c = record {
  left = λ k h. c.cell_along-low.ensures.from k (omega (arith, ints, h));
  right = λ k l h. let n = c.cell_along-high.ensures.until k (omega (arith, ints, c.cell_along-low.ensures.least, l)) (omega (arith, ints, h)) in omega (arith, n);
  below = λ k h. c.cell_along-low_row.ensures.from k (omega (arith, ints, h));
  above = λ k l h. let n = c.cell_along-high_row.ensures.until k (omega (arith, ints, c.cell_along-low_row.ensures.least, l)) (omega (arith, ints, h)) in omega (arith, n);
}

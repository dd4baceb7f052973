use Rattle.std.proofs.Common.{◌∙◌, ap, arith, codes, inr, sym}
use Rattle.std.specs.Str.Parse.{ParsesUnsigned, ExplainsUnsignedError, HasUnsignedDigitsIfOk}
use Rattle.clap.specs.Matches.{found_of, one_text}
use Rattle.clap.proofs.WalkLemmas.{one_text-rows}
use Rattle.command_words.specs.Asked.{grid_at}
use Rattle.command_words.proofs.Getters.{no_grid, refused_grid, some_grid, unread_grid}
use Rattle.command_words.proofs.request.grid_of.Goals as goal

pub returns-in-Ok-None-clause-grid : goal.returns-in-Ok-None-clause-grid
returns-in-Ok-None-clause-grid c =
    let f = found_of c.args.arguments.now in
    ap grid_at (sym (one_text-rows f (codes "grid")))
    ∙ no_grid (λ bs r. ParsesUnsigned 32 10 bs r × ExplainsUnsignedError 10 bs r × HasUnsignedDigitsIfOk bs r) (λ t x g. g.0) (one_text f (codes "grid")) c.try_get_one.result
    (rw c.in-Ok-None.field-0-is at c.in-Ok-None.is) c.try_get_one.ensures.value

pub returns-then-cells-le1000000000-clause-grid : goal.returns-then-cells-le1000000000-clause-grid
returns-then-cells-le1000000000-clause-grid c =
    let f = found_of c.args.arguments.now in
    ap grid_at (sym (one_text-rows f (codes "grid")))
    ∙ some_grid (λ bs r. ParsesUnsigned 32 10 bs r × ExplainsUnsignedError 10 bs r × HasUnsignedDigitsIfOk bs r) (λ t x g. g.0) (one_text f (codes "grid")) c.try_get_one.result
    c.in-Ok-Some.cells (rw c.in-Ok-Some.field-0-is at c.in-Ok-Some.is) c.try_get_one.ensures.none c.try_get_one.ensures.value (omega arith) (omega arith)

pub returns-else-cells-ge2-clause-grid : goal.returns-else-cells-ge2-clause-grid
returns-else-cells-ge2-clause-grid c =
    let f = found_of c.args.arguments.now in
    inr (ap grid_at (sym (one_text-rows f (codes "grid")))
    ∙ refused_grid (λ bs r. ParsesUnsigned 32 10 bs r × ExplainsUnsignedError 10 bs r × HasUnsignedDigitsIfOk bs r) (λ t x g. g.0) (one_text f (codes "grid")) c.try_get_one.result
    c.in-Ok-Some.cells (rw c.in-Ok-Some.field-0-is at c.in-Ok-Some.is) c.try_get_one.ensures.none c.try_get_one.ensures.value (λ low high. omega (arith, c.else-cells-ge2.either)))

pub returns-in-Err-clause-grid : goal.returns-in-Err-clause-grid
returns-in-Err-clause-grid c =
    let f = found_of c.args.arguments.now in
    inr (ap grid_at (sym (one_text-rows f (codes "grid")))
    ∙ unread_grid (λ bs r. ParsesUnsigned 32 10 bs r × ExplainsUnsignedError 10 bs r × HasUnsignedDigitsIfOk bs r) (λ t x g. g.0) (one_text f (codes "grid")) c.try_get_one.result
    _ c.in-Err.is c.try_get_one.ensures.none c.try_get_one.ensures.value)

use Rattle.std.proofs.Common.{length, slice_get, refl, sym, ap, ◌∙◌}
use Rattle.std.proofs.lemmas.Option.{slice_get_read}
use Rattle.topo_model.proofs.Renumbered.{by_new_index_forwards, by_new_index_backwards}
use Rattle.topo_model.proofs.trimming.renumber.Goals as goal

pub returns-then-reversed : goal.returns-then-reversed
returns-then-reversed c =
    let found = c.in-Some.ensures.lookup in
    by_new_index_backwards c.args.renumbering.now c.args.index c.in-Some.new_index.now c.complement.result
    (ap (slice_get c.args.renumbering.now) (sym c.index.ensures) ∙ slice_get_read c.args.renumbering.now (length c.args.renumbering.now) c.index.result c.in-Some.new_index.now refl found.3.0 found.1)
    (sym c.reversed.ensures ∙ c.if-reversed.true) c.complement.ensures

pub returns-else-reversed : goal.returns-else-reversed
returns-else-reversed c =
    let found = c.in-Some.ensures.lookup in
    by_new_index_forwards c.args.renumbering.now c.args.index c.in-Some.new_index.now
    (ap (slice_get c.args.renumbering.now) (sym c.index.ensures) ∙ slice_get_read c.args.renumbering.now (length c.args.renumbering.now) c.index.result c.in-Some.new_index.now refl found.3.0 found.1)
    (sym c.reversed.ensures ∙ c.if-reversed.false)

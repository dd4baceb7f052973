use Rattle.std.proofs.Common.{sym, ◌∙◌}
use Rattle.topojson_decoder.proofs.Ends as e
use Rattle.topojson_decoder.proofs.joins.start_of.Goals as goal

pub returns-in_err-get : goal.returns-in_err-get
returns-in_err-get c = c.from_residual.ensures ∙ sym (e.no_start c.args.arcs.now c.args.reference c.index.result c.index.ensures c.in_err-get.ensures.lookup.3)

pub returns-then-reversed : goal.returns-then-reversed
returns-then-reversed c =
    let found = c.in_ok-get.ensures.lookup in
    c.copied.ensures ∙ (c.last.ensures.value ∙ e.start_backward c.args.arcs.now c.args.reference c.index.result c.index.ensures _ found.3.0 found.1 _ c.as_slice-cells.ensures c.reversed.result c.reversed.ensures c.if-reversed.true)

pub returns-else-reversed : goal.returns-else-reversed
returns-else-reversed c =
    let found = c.in_ok-get.ensures.lookup in
    c.copied-else-reversed.ensures ∙ (c.first.ensures.value ∙ e.start_forward c.args.arcs.now c.args.reference c.index.result c.index.ensures _ found.3.0 found.1 _ c.as_slice-cells.ensures c.reversed.result c.reversed.ensures c.if-reversed.false)

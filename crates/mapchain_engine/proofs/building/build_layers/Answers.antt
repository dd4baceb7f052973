use Rattle.std.proofs.Common.{◌∙◌, ap, subst, Err, length, ◌<◌, ◌^◌}
use Rattle.std.proofs.lemmas.Result.{err_from_is_err_and}
use Rattle.json_value.specs.Text.{json_text}
use Rattle.topojson_types.specs.Values.{topology_value}
use Rattle.layer_topology.specs.Levels.{chosen_for}
use Rattle.mapchain_engine.specs.Building.{Sends, left_for, threshold_for, written_for}
use Rattle.mapchain_engine.specs.Simplified.{report_of_left}
use Rattle.mapchain_engine.proofs.Built as built
use Rattle.mapchain_engine.proofs.building.build_layers.Goals as goal

pub returns-in_err-layers-clause-refused : goal.returns-in_err-layers-clause-refused
returns-in_err-layers-clause-refused g c =
    let p = err_from_is_err_and c.from_residual.result c.from_residual.ensures.1 in
    rw (p.1, p.2) (built.not_read c.args.options.now c.args.sources.now c.read_layers.new.sources c.args.sink.now _ c.in_err-layers.ensures)

pub topology_of_layers-requires-clause-taken : goal.topology_of_layers-requires-clause-taken
topology_of_layers-requires-clause-taken g c =
    let r = c.in_ok-layers.ensures in
    built.may_be_made c.building_laws.ensures.layers c.args.options.now c.args.sources.now c.read_layers.new.sources c.in_ok-layers.layers.items r.0 r.1 c.requires.names

pub returns-in_err-left-clause-refused : goal.returns-in_err-left-clause-refused
returns-in_err-left-clause-refused g c =
    let r = c.in_ok-layers.ensures in
    let p = err_from_is_err_and c.from_residual-in_err-left.result c.from_residual-in_err-left.ensures.1 in
    rw (p.1, p.2) (built.no_memory c.args.options.now c.args.sources.now c.read_layers.new.sources c.args.sink.now c.in_ok-layers.layers.items r.0 r.1)

pub returns-in-Err-clause-refused : goal.returns-in-Err-clause-refused
returns-in-Err-clause-refused g c =
    let r = c.in_ok-layers.ensures in
    let o = c.args.options.now in
    let ls = c.in_ok-layers.layers.items in
    let left = c.in_ok-left.ensures.left in
    let few : length (written_for o ls).arcs < 2 ^ 63 = rw left.topology_is at c.in_ok-left.ensures.few in
    built.cut_short c.building_laws.ensures o c.args.sources.now c.read_layers.new.sources ls r.0 r.1
    (built.distinct o.exact c.args.sources.now c.read_layers.new.sources ls r.0 r.1 c.requires.names) (built.names_texts o.exact c.args.sources.now c.read_layers.new.sources ls r.0 r.1 c.requires.texts) few c.args.sink.now c.send-sent.new.sink _
    (subst (λ z. Sends c.args.sink.now c.send-sent.new.sink (json_text (topology_value z)) (Err c.in-Err.fault)) (c.reported-topology.ensures.topology ∙ left.topology_is) (rw c.in-Err.is at c.send-sent.ensures))

pub returns-in-Ok-clause-built : goal.returns-in-Ok-clause-built
returns-in-Ok-clause-built g c =
    let r = c.in_ok-layers.ensures in
    let o = c.args.options.now in
    let ls = c.in_ok-layers.layers.items in
    let left = c.in_ok-left.ensures.left in
    let few : length (written_for o ls).arcs < 2 ^ 63 = rw left.topology_is at c.in_ok-left.ensures.few in
    built.is_built c.building_laws.ensures o c.args.sources.now c.read_layers.new.sources ls r.0 r.1
    (built.distinct o.exact c.args.sources.now c.read_layers.new.sources ls r.0 r.1 c.requires.names) (built.names_texts o.exact c.args.sources.now c.read_layers.new.sources ls r.0 r.1 c.requires.texts) few c.args.sink.now c.send-sent.new.sink _
    (rw (c.in-Ok.is, c.reported-topology.ensures.topology, left.topology_is) at c.send-sent.ensures)
    (c.reported-topology.ensures.report ∙ built.report_is c.in_ok-layers.counts (left_for o ls) _ _ _ _ left ∙ ap (report_of_left c.in_ok-layers.counts (left_for o ls)) c.in_ok-left.ensures.chosen
    ∙ ap (λ n. report_of_left n (left_for o ls) (chosen_for o.level (threshold_for o ls))) r.2)

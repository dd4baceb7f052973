use Rattle.mapchain_engine.proofs.Decided as decided
use Rattle.mapchain_engine.proofs.building.build_watched.Goals as goal

pub returns-clause-decided : goal.returns-clause-decided
returns-clause-decided g c bytes outcome early have comes =
    decided.decides c.args.options.now c.args.sources.now c.build_layers.new.sources c.args.sink.now c.build_layers.new.sink bytes outcome have comes c.build_layers.result c.build_layers.ensures.built c.build_layers.ensures.refused

use Rattle.mapchain_engine.proofs.NeverRefused.{geo_is_never_refused, simplify_is_never_refused, stat_is_never_refused}
use Rattle.mapchain_engine.proofs.laws.built_text_is_never_refused.Goals as goal

pub returns-clause-geo : goal.returns-clause-geo
returns-clause-geo c = geo_is_never_refused

pub returns-clause-stat : goal.returns-clause-stat
returns-clause-stat c = stat_is_never_refused

pub returns-clause-simplify : goal.returns-clause-simplify
returns-clause-simplify c = simplify_is_never_refused

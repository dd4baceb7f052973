use Rattle.mapchain_engine.proofs.FilesDecided.{one_file}
use Rattle.mapchain_engine.proofs.FilesReached.{file_there}
use Rattle.mapchain_engine.specs.SimplifyOutcomes.{simplified}
use Rattle.mapchain_engine.proofs.simplify_laws.simplified_is_one_outcome.Goals as goal

pub returns-clause-there : goal.returns-clause-there
returns-clause-there c = λ guards level limit. file_there (simplified guards level limit)

pub returns-clause-one : goal.returns-clause-one
returns-clause-one c = λ guards level limit. one_file (simplified guards level limit)

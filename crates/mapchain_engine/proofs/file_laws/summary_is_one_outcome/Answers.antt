use Rattle.mapchain_engine.specs.FileOutcomes.{summarised}
use Rattle.mapchain_engine.proofs.FilesDecided.{one_file}
use Rattle.mapchain_engine.proofs.FilesReached.{file_there}
use Rattle.mapchain_engine.proofs.file_laws.summary_is_one_outcome.Goals as goal

pub returns-clause-there : goal.returns-clause-there
returns-clause-there c = file_there summarised

pub returns-clause-one : goal.returns-clause-one
returns-clause-one c = one_file summarised

use Rattle.mapchain_engine.specs.FileOutcomes.{object_text}
use Rattle.mapchain_engine.proofs.FilesDecided.{one_file}
use Rattle.mapchain_engine.proofs.FilesReached.{file_there}
use Rattle.mapchain_engine.proofs.file_laws.features_are_one_outcome.Goals as goal

pub returns-clause-there : goal.returns-clause-there
returns-clause-there c = λ name. file_there (object_text name)

pub returns-clause-one : goal.returns-clause-one
returns-clause-one c = λ name. one_file (object_text name)

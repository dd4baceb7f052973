use Rattle.json_value.proofs.Nesting.{reads_no_deeper}
use Rattle.json_value.proofs.SpelledNumbers.{reads_numbers}
use Rattle.json_value.proofs.laws.read_values_are_bounded.Goals as goal

pub returns-clause-depth : goal.returns-clause-depth
returns-clause-depth c = reads_no_deeper

pub returns-clause-numbers : goal.returns-clause-numbers
returns-clause-numbers c = reads_numbers

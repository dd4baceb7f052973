-- The line that reports a fault.
use Rattle.std.specs.Prelude.{ℕ, List, [], ◌++◌, codes, decimal, Option, None, Some}
use Rattle.inputs.specs.declared.fault.BuildFault.{BuildFault}
use Rattle.inputs.specs.declared.file_fault.FileFault.{FileFault}
use Rattle.reports.specs.FaultRows.{FaultRow, of_build, of_file}

-- a code behind a blank, if there is one
abbrev pub code_text : Option (List ℕ) → List ℕ
code_text None = []
code_text (Some code) = codes " " ++ code

-- these words and the number behind them, if there is one
abbrev pub number_text : List ℕ → Option ℕ → List ℕ
number_text words None = []
number_text words (Some number) = words ++ decimal number

-- a row, in a line of its own
abbrev pub row_line : FaultRow → List ℕ
row_line r = codes "error:" ++ number_text (codes " layer ") r.layer ++ code_text r.code ++ codes " " ++ r.name
    ++ number_text (codes " at ") r.at ++ number_text (codes " feature ") r.feature ++ number_text (codes " sent ") r.sent ++ codes "\n"

-- the line that reports a fault of a build
abbrev pub fault_text : BuildFault → List ℕ
fault_text fault = row_line (of_build fault)

-- the line that reports a fault of the file of a topology
abbrev pub file_fault_text : FileFault → List ℕ
file_fault_text fault = row_line (of_file fault)

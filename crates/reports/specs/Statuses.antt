-- The exit status of a run that is refused.
use Rattle.std.specs.Prelude.{ℕ}
use Rattle.byte_ends.specs.declared.source.ReadFault.{ReadFault}
use Rattle.inputs.specs.declared.fault.BuildFault.{BuildFault}
use Rattle.inputs.specs.declared.file_fault.FileFault.{FileFault}
use Rattle.reports.specs.FaultRows.{of_build, of_file, of_read}
pub use Rattle.reports.specs.FaultRows.{failed, words_refused}

-- where a file isn't read to its end
abbrev pub read_status_of : ReadFault → ℕ
read_status_of fault = (of_read fault).status

-- of a build that ended so
abbrev pub status_of : BuildFault → ℕ
status_of fault = (of_build fault).status

-- of a run over the file of a topology that ended so
abbrev pub file_status_of : FileFault → ℕ
file_status_of fault = (of_file fault).status

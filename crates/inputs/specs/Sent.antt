-- The faults that stand for a text that wasn't written whole.
use Rattle.byte_ends.specs.declared.sink.WriteFault.{WriteFault}
use Rattle.byte_ends.specs.declared.sink.WriteFault.TheVariants as write
use Rattle.inputs.specs.declared.fault.BuildFault.{BuildFault}
use Rattle.inputs.specs.declared.fault.BuildFault.TheVariants as build
use Rattle.inputs.specs.declared.file_fault.FileFault.{FileFault}
use Rattle.inputs.specs.declared.file_fault.FileFault.TheVariants as file

abbrev pub build_fault_of : WriteFault → BuildFault
build_fault_of (write.Write sent) = build.Write sent

abbrev pub file_fault_of : WriteFault → FileFault
file_fault_of (write.Write sent) = file.Write sent

-- Which answers of building follow the outcome of the bytes of the layers.
use Rattle.std.specs.Prelude.{◌≡◌, ◌⊎◌, Result, Ok, Err}
use Rattle.inputs.specs.declared.fault.BuildFault.{BuildFault}
use Rattle.inputs.specs.declared.fault.BuildFault.TheVariants.{Write}
use Rattle.inputs.specs.Outcomes.{Outcome, plain_fault, IsOutsideRead}
use Rattle.reports.specs.declared.report.Report.{Report}
use Rattle.mapchain_engine.specs.Building.{report_of}
use Rattle.mapchain_engine.specs.declared.options.Options.{Options}

-- memory was refused, or a source or the sink failed
abbrev pub IsOutside : BuildFault → Type 0
IsOutside (Write sent) = Unit {0}
IsOutside e = IsOutsideRead e

-- the answer is that of the outcome, unless memory, a source or the sink failed
abbrev pub Follows : Options → Outcome → Result Report BuildFault → Type 0
Follows o (Ok r) (Ok report) = report ≡ report_of o r.0 r.1
Follows o (Ok r) (Err e) = IsOutside e
Follows o (Err f) (Ok report) = ⊥
Follows o (Err f) (Err e) = (plain_fault e ≡ plain_fault f) ⊎ IsOutsideRead e

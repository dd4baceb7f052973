-- The row of each fault: its status, its code, its name, and the numbers that it has.
use Rattle.std.specs.Prelude.{ℕ, List, codes, Option, None, Some, option_map}
use Rattle.byte_ends.specs.declared.source.ReadFault.{ReadFault}
use Rattle.byte_ends.specs.declared.source.ReadFault.TheVariants as read
use Rattle.json_reading.specs.declared.fault.JsonFault.{JsonFault}
use Rattle.json_reading.specs.declared.fault.JsonFault.TheVariants as json
use Rattle.geojson_meaning.specs.declared.fault.GeoFault.{GeoFault}
use Rattle.geojson_meaning.specs.Faults as geo
use Rattle.topojson_meaning.specs.Faults as topo
use Rattle.inputs.specs.declared.fault.BuildFault.{BuildFault}
use Rattle.inputs.specs.declared.fault.BuildFault.TheVariants as build
use Rattle.inputs.specs.declared.file_fault.FileFault.{FileFault}
use Rattle.inputs.specs.declared.file_fault.FileFault.TheVariants as file
use Rattle.reports.specs.declared.fault_row.FaultRow as in_code
use Rattle.reports.specs.declared.run_report.RunFault.{RunFault}
use Rattle.reports.specs.declared.run_report.RunFault.TheVariants.{Words, Build, File, Memory}

-- what a fault has
pub record FaultRow : Type 0 where
  -- the exit status of a run that ends so
  pub status : ℕ
  -- the code, but for a fault that has none
  pub code : Option (List ℕ)
  -- the name, or the words of a fault that has no code
  pub name : List ℕ
  -- the number of the layer that the fault is in, if any
  pub layer : Option ℕ
  -- the number of the feature that the fault is in, if any
  pub feature : Option ℕ
  -- how many bytes in front of the input are UTF-8, where not all are
  pub at : Option ℕ
  -- how many bytes of the output were taken, where writing failed
  pub sent : Option ℕ

-- that in code
abbrev pub row_of : in_code.FaultRow → FaultRow
row_of r = record { status = r.status; code = option_map (λ c. c.now) r.code; name = r.name.now; layer = r.layer; feature = r.feature; at = r.at; sent = r.sent }

-- ---- statuses

-- an input is refused
abbrev pub input_refused : ℕ
input_refused = 1

-- the words of the command line are refused
abbrev pub words_refused : ℕ
words_refused = 2

-- reading, writing or memory failed
abbrev pub failed : ℕ
failed = 3

-- ---- parts of rows

abbrev pub without_numbers : ℕ → Option (List ℕ) → List ℕ → FaultRow
without_numbers status code name = record { status = status; code = code; name = name; layer = None; feature = None; at = None; sent = None }

-- a code and a name, where something failed
abbrev pub plain : List ℕ → List ℕ → FaultRow
plain code name = without_numbers failed (Some code) name

-- the same where an input is refused
abbrev pub refused : FaultRow → FaultRow
refused r = record r { status = input_refused }

abbrev pub in_layer : ℕ → FaultRow → FaultRow
in_layer layer r = record r { layer = Some layer }

-- ---- each fault

-- of a file that isn't read to its end
abbrev pub of_read : ReadFault → FaultRow
of_read read.Read = plain (codes "F1") (codes "Read")
of_read read.TooLong = refused (plain (codes "F2") (codes "TooLong"))
of_read read.Memory = plain (codes "F3") (codes "Memory")

-- of a file that is no JSON text
abbrev pub of_json : JsonFault → FaultRow
of_json fault = refused (elim fault [
  | json.NotUtf8 at ↦ record (plain (codes "J1") (codes "NotUtf8")) { at = Some at }
  | json.Malformed at why ↦ plain (codes "J2") (codes "Malformed")
  | json.Memory ↦ plain (codes "J3") (codes "Memory")
])

-- of a layer that is no GeoJSON that is taken
abbrev pub of_geo : GeoFault → FaultRow
of_geo fault = record (refused (plain (geo.code fault.kind) (geo.name fault.kind))) { feature = fault.feature }

-- of a layer whose name is refused
abbrev pub of_name : ℕ → List ℕ → List ℕ → FaultRow
of_name layer code name = record (in_layer layer (plain code name)) { status = words_refused }

-- of an output that isn't written to its end
abbrev pub of_write : List ℕ → ℕ → FaultRow
of_write code sent = record (plain code (codes "Write")) { sent = Some sent }

-- of a build
abbrev pub of_build : BuildFault → FaultRow
of_build (build.EmptyName layer) = of_name layer (codes "B1") (codes "EmptyName")
of_build (build.DuplicateName layer) = of_name layer (codes "B2") (codes "DuplicateName")
of_build (build.Read layer fault) = in_layer layer (of_read fault)
of_build (build.Json layer fault) = in_layer layer (of_json fault)
of_build (build.Geo layer fault) = in_layer layer (of_geo fault)
of_build (build.Write sent) = of_write (codes "B6") sent
of_build build.Memory = plain (codes "B7") (codes "Memory")

-- of the file of a topology
abbrev pub of_file : FileFault → FaultRow
of_file (file.Read fault) = of_read fault
of_file (file.Json fault) = of_json fault
of_file (file.Topo fault) = refused (plain (topo.code fault) (topo.name fault))
of_file file.NoObject = refused (plain (codes "E4") (codes "NoObject"))
of_file (file.ManyPositions count) = refused (plain (codes "E7") (codes "ManyPositions"))
of_file (file.Write sent) = of_write (codes "E5") sent
of_file file.Memory = plain (codes "E6") (codes "Memory")

-- of a run
abbrev pub of_run : RunFault → FaultRow
of_run (Words words) = without_numbers words_refused None words.now
of_run (Build fault) = of_build fault.now
of_run (File fault) = of_file fault.now
of_run Memory = without_numbers failed None (codes "Memory")

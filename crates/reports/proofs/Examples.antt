-- Lines of faults and reports of runs, computed from their definitions.
use Rattle.std.proofs.Common.{◌≡◌, ℕ, List, [], ◌∷◌, Bor, Some, None, refl}
use Rattle.std.specs.Prelude.{codes, map}
use Rattle.std.specs.Fmt.{digits}
use Rattle.byte_ends.specs.declared.source.ReadFault.TheVariants as read
use Rattle.geojson_meaning.specs.Faults.{code, name}
use Rattle.geojson_meaning.specs.declared.fault.GeoFaultKind.TheVariants.{NotObject, OpenRing}
use Rattle.geometry.specs.declared.address.Cause.TheVariants.{Small}
use Rattle.geometry.specs.declared.address.Dropped.{Dropped}
use Rattle.inputs.specs.declared.fault.BuildFault.{BuildFault}
use Rattle.inputs.specs.declared.fault.BuildFault.TheVariants as build
use Rattle.inputs.specs.declared.file_fault.FileFault.{FileFault}
use Rattle.inputs.specs.declared.file_fault.FileFault.TheVariants as file
use Rattle.json_reading.specs.declared.fault.JsonFault.TheVariants as json
use Rattle.json_reading.specs.declared.fault.Why.TheVariants.{Syntax}
use Rattle.json_value.specs.Text.{escaped_byte}
use Rattle.json_value.proofs.Texts.{texts}
use Rattle.reports.specs.declared.report.Report.{Report}
use Rattle.reports.specs.declared.run_report.RunFault.TheVariants.{Words, Build, File}
use Rattle.reports.specs.declared.run_report.RunReport.{RunReport}
use Rattle.reports.specs.FaultLines.{fault_text, file_fault_text}
use Rattle.reports.specs.Lines.{lines_of}
use Rattle.reports.specs.RunReports.{run_text}
use Rattle.reports.specs.Statuses.{file_status_of, status_of}
use Rattle.topojson_meaning.specs.Faults as topo
use Rattle.topojson_meaning.specs.declared.fault.TopoFault.TheVariants.{Unjoined}

-- a reference to a value, wherever that lies
abbrev following : {A : Type 0} → A → Bor A
following value = record { ref_ptr = (0, 0); now = value }

-- ---- faults

-- faults of a build, the lines that report them, and their statuses
abbrev build_faults : List (BuildFault × List ℕ × ℕ)
build_faults = (build.EmptyName 0, codes "error: layer 0 B1 EmptyName\n", 2)
    ∷ (build.DuplicateName 12, codes "error: layer 12 B2 DuplicateName\n", 2)
    ∷ (build.Read 1 read.Read, codes "error: layer 1 F1 Read\n", 3)
    ∷ (build.Read 1 read.TooLong, codes "error: layer 1 F2 TooLong\n", 1)
    ∷ (build.Read 1 read.Memory, codes "error: layer 1 F3 Memory\n", 3)
    ∷ (build.Json 1 (json.NotUtf8 20), codes "error: layer 1 J1 NotUtf8 at 20\n", 1)
    ∷ (build.Json 1 (json.Malformed 20 Syntax), codes "error: layer 1 J2 Malformed\n", 1)
    ∷ (build.Json 1 json.Memory, codes "error: layer 1 J3 Memory\n", 1)
    ∷ (build.Geo 0 (record { feature = None; kind = NotObject }), codes "error: layer 0 G1 NotObject\n", 1)
    ∷ (build.Geo 0 (record { feature = Some 3; kind = OpenRing }), codes "error: layer 0 G9 OpenRing feature 3\n", 1)
    ∷ (build.Write 34, codes "error: B6 Write sent 34\n", 3)
    ∷ (build.Memory, codes "error: B7 Memory\n", 3)
    ∷ []

all_build_faults : map {B = List ℕ × ℕ} (λ r. (fault_text r.0, status_of r.0)) build_faults ≡ map (λ r. (r.1, r.2)) build_faults
all_build_faults = unfold digits code name in refl

-- the same of the file of a topology
abbrev file_faults : List (FileFault × List ℕ × ℕ)
file_faults = (file.Read read.Read, codes "error: F1 Read\n", 3)
    ∷ (file.Read read.TooLong, codes "error: F2 TooLong\n", 1)
    ∷ (file.Read read.Memory, codes "error: F3 Memory\n", 3)
    ∷ (file.Json (json.NotUtf8 20), codes "error: J1 NotUtf8 at 20\n", 1)
    ∷ (file.Json (json.Malformed 20 Syntax), codes "error: J2 Malformed\n", 1)
    ∷ (file.Json json.Memory, codes "error: J3 Memory\n", 1)
    ∷ (file.Topo Unjoined, codes "error: P8 Unjoined\n", 1)
    ∷ (file.NoObject, codes "error: E4 NoObject\n", 1)
    ∷ (file.ManyPositions 5, codes "error: E7 ManyPositions\n", 1)
    ∷ (file.Write 34, codes "error: E5 Write sent 34\n", 3)
    ∷ (file.Memory, codes "error: E6 Memory\n", 3)
    ∷ []

all_file_faults : map {B = List ℕ × ℕ} (λ r. (file_fault_text r.0, file_status_of r.0)) file_faults ≡ map (λ r. (r.1, r.2)) file_faults
all_file_faults = unfold digits topo.code topo.name in refl

-- ---- lines

no_line : lines_of [] ≡ []
no_line = refl

an_empty_line : lines_of (codes "\n") ≡ [] ∷ []
an_empty_line = refl

three_lines : lines_of (codes "a\n\nbc\n") ≡ codes "a" ∷ [] ∷ codes "bc" ∷ []
three_lines = refl

a_line_that_does_not_end : lines_of (codes "a\nb") ≡ codes "a" ∷ codes "b" ∷ []
a_line_that_does_not_end = refl

-- ---- runs

abbrev dropped : Dropped
dropped = record { address = record { layer = 0; feature = 1; path = 1 ∷ 0 ∷ [] }; cause = Small }

abbrev built : Report
built = record { counts = record { rounded = 0; extra = 0; empty = 0 }; dropped = dropped ∷ []; lost = 1; arcs = 4; kept = 21; removed = 7; chosen = None }

abbrev done : RunReport
done = record { status = 0; fault = None; report = Some (following built); explanation = following (codes "  kept 21 of 28 positions of the arcs, 75.0 %\n") }

what_is_done : run_text done ≡ codes "{\"status\":0,\"fault\":null,\"report\":{\"rounded\":0,\"extra\":0,\"empty\":0,\"dropped\":[{\"layer\":0,\"feature\":1,\"path\":[1,0],\"cause\":\"small\"}],\"lost\":1,\"arcs\":4,\"kept\":21,\"removed\":7,\"chosen\":null},\"explanation\":[\"kept 21 of 28 positions of the arcs, 75.0 %\"]}\n"
what_is_done = unfold escaped_byte digits in simp texts refl

abbrev open_ring : BuildFault
open_ring = build.Geo 0 (record { feature = Some 3; kind = OpenRing })

abbrev refused : RunReport
refused = record { status = 1; fault = Some (Build (following open_ring)); report = None; explanation = following (codes "  layer 0 is \"land\", the file land.json\n") }

what_is_refused : run_text refused ≡ codes "{\"status\":1,\"fault\":{\"code\":\"G9\",\"name\":\"OpenRing\",\"layer\":0,\"feature\":3,\"at\":null,\"sent\":null},\"report\":null,\"explanation\":[\"layer 0 is \\\"land\\\", the file land.json\"]}\n"
what_is_refused = unfold escaped_byte digits code name in simp texts refl

abbrev by_words : RunReport
by_words = record { status = 2; fault = Some (Words (following (codes "bad area"))); report = None; explanation = following [] }

what_words_tell : run_text by_words ≡ codes "{\"status\":2,\"fault\":{\"code\":null,\"name\":\"bad area\",\"layer\":null,\"feature\":null,\"at\":null,\"sent\":null},\"report\":null,\"explanation\":[]}\n"
what_words_tell = unfold escaped_byte digits in simp texts refl

abbrev at_bytes : RunReport
at_bytes = record { status = 1; fault = Some (File (following (file.Json (json.NotUtf8 12)))); report = None; explanation = following [] }

what_bytes_tell : run_text at_bytes ≡ codes "{\"status\":1,\"fault\":{\"code\":\"J1\",\"name\":\"NotUtf8\",\"layer\":null,\"feature\":null,\"at\":12,\"sent\":null},\"report\":null,\"explanation\":[]}\n"
what_bytes_tell = unfold escaped_byte digits in simp texts refl

abbrev cut_short : RunReport
cut_short = record { status = 3; fault = Some (Build (following (build.Write 34))); report = None; explanation = following [] }

what_is_sent : run_text cut_short ≡ codes "{\"status\":3,\"fault\":{\"code\":\"B6\",\"name\":\"Write\",\"layer\":null,\"feature\":null,\"at\":null,\"sent\":34},\"report\":null,\"explanation\":[]}\n"
what_is_sent = unfold escaped_byte digits in simp texts refl

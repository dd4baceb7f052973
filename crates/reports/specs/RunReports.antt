-- The report of a run: a JSON value (RFC 8259), and its text with a line feed at its end.
use Rattle.std.specs.Prelude.{ℕ, List, [], ◌∷◌, ◌++◌, map, codes, Option, None, Some}
use Rattle.std.specs.Borrow.{Bor}
use Rattle.geometry.specs.declared.address.Dropped.{Dropped}
use Rattle.json_value.specs.declared.json.Json.{Json}
use Rattle.json_value.specs.declared.json.Json.TheVariants as j
use Rattle.json_value.specs.Text.{json_text}
use Rattle.reports.specs.Reports.{cause_text}
use Rattle.reports.specs.declared.report.Report.{Report}
use Rattle.reports.specs.FaultRows.{of_run}
use Rattle.reports.specs.Lines.{lines_value}
use Rattle.reports.specs.Values.{number, number_or_null, text_or_null}
use Rattle.reports.specs.declared.run_report.RunFault.{RunFault}
use Rattle.reports.specs.declared.run_report.RunReport.{RunReport}

-- ---- the fault

-- a fault: its code and name, and the numbers that it has
abbrev pub fault_value : RunFault → Json
fault_value f = j.Object (
    (codes "code", text_or_null (of_run f).code)
    ∷ (codes "name", j.Text (of_run f).name)
    ∷ (codes "layer", number_or_null (of_run f).layer)
    ∷ (codes "feature", number_or_null (of_run f).feature)
    ∷ (codes "at", number_or_null (of_run f).at)
    ∷ (codes "sent", number_or_null (of_run f).sent)
    ∷ [])

abbrev pub fault_or_null : Option RunFault → Json
fault_or_null None = j.Null
fault_or_null (Some f) = fault_value f

-- ---- the report

-- a line or ring that isn't written: where it stood, and why
abbrev pub dropped_value : Dropped → Json
dropped_value d = j.Object (
    (codes "layer", number d.address.layer)
    ∷ (codes "feature", number d.address.feature)
    ∷ (codes "path", j.Array (map number d.address.path))
    ∷ (codes "cause", j.Text (cause_text d.cause))
    ∷ [])

-- what was counted
abbrev pub report_value : Report → Json
report_value r = j.Object (
    (codes "rounded", number r.counts.rounded)
    ∷ (codes "extra", number r.counts.extra)
    ∷ (codes "empty", number r.counts.empty)
    ∷ (codes "dropped", j.Array (map dropped_value r.dropped))
    ∷ (codes "lost", number r.lost)
    ∷ (codes "arcs", number r.arcs)
    ∷ (codes "kept", number r.kept)
    ∷ (codes "removed", number r.removed)
    ∷ (codes "chosen", number_or_null r.chosen)
    ∷ [])

abbrev pub report_or_null : Option (Bor Report) → Json
report_or_null None = j.Null
report_or_null (Some r) = report_value r.now

-- ---- the run

abbrev pub run_value : RunReport → Json
run_value run = j.Object (
    (codes "status", number run.status)
    ∷ (codes "fault", fault_or_null run.fault)
    ∷ (codes "report", report_or_null run.report)
    ∷ (codes "explanation", lines_value run.explanation.now)
    ∷ [])

abbrev pub run_text : RunReport → List ℕ
run_text run = json_text (run_value run) ++ codes "\n"

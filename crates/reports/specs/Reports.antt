-- The report of a built topology as a text: a line each, ended by a line feed.
use Rattle.std.specs.Prelude.{ℕ, List, [], ◌∷◌, ◌++◌, Option, None, Some, length, codes, decimal}
use Rattle.geometry.specs.declared.address.Cause.{Cause}
use Rattle.geometry.specs.declared.address.Cause.TheVariants.{Collapsed, Small, Outer}
use Rattle.geometry.specs.declared.address.Dropped.{Dropped}
use Rattle.reports.specs.declared.report.Report.{Report}

-- a word and a number
abbrev pub line_text : List ℕ → ℕ → List ℕ
line_text word n = ((word ++ codes " ") ++ decimal n) ++ codes "\n"

abbrev pub cause_text : Cause → List ℕ
cause_text Collapsed = codes "collapsed"
cause_text Small = codes "small"
cause_text Outer = codes "outer"

-- the numbers after the first, each after these bytes
abbrev pub path_rest : List ℕ → List ℕ → List ℕ
path_rest between [] = []
path_rest between (n ∷ ns) = (between ++ decimal n) ++ path_rest between ns

-- the numbers of a path with these bytes between, or others for the empty path
abbrev pub path_text : List ℕ → List ℕ → List ℕ → List ℕ
path_text between none [] = none
path_text between none (n ∷ ns) = decimal n ++ path_rest between ns

-- where a line or ring stood: layer, feature and path
abbrev pub place_text : Dropped → List ℕ
place_text d = ((((codes "drop " ++ decimal d.address.layer) ++ codes " ") ++ decimal d.address.feature) ++ codes " ") ++ path_text (codes ".") (codes "-") d.address.path

-- the line of a line or ring that isn't written: where it stood, and why
abbrev pub dropped_text : Dropped → List ℕ
dropped_text d = ((place_text d ++ codes " ") ++ cause_text d.cause) ++ codes "\n"

abbrev pub all_dropped_text : List Dropped → List ℕ
all_dropped_text [] = []
all_dropped_text (d ∷ ds) = dropped_text d ++ all_dropped_text ds

-- what was counted in reading, and how many lines and rings aren't written
abbrev pub counts_text : Report → List ℕ
counts_text r =
    ((line_text (codes "rounded") r.counts.rounded ++ line_text (codes "extra") r.counts.extra) ++ line_text (codes "empty") r.counts.empty)
    ++ line_text (codes "dropped") (length r.dropped)

-- the arcs, the positions in them, and those that were removed from them
abbrev pub arcs_text : Report → List ℕ
arcs_text r = (line_text (codes "arcs") r.arcs ++ line_text (codes "kept") r.kept) ++ line_text (codes "removed") r.removed

-- the threshold that was chosen, if one was
abbrev pub chosen_text : Option ℕ → List ℕ
chosen_text None = []
chosen_text (Some threshold) = line_text (codes "chosen") threshold

abbrev pub report_text : Report → List ℕ
report_text r = (counts_text r ++ all_dropped_text r.dropped) ++ (arcs_text r ++ chosen_text r.chosen)

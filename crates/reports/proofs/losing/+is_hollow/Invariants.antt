use Rattle.std.proofs.Common.{◌≡◌, true, take}
use Rattle.std.specs.List.{list_all}
use Rattle.geojson_types.specs.Nesting.{nesting}
use Rattle.reports.specs.Losses.{is_hollow}
use Rattle.reports.proofs.losing.+is_hollow.Given as goal

abbrev pub decreases-is_hollow : goal.decreases-is_hollow
decreases-is_hollow l = nesting l.shape.now

abbrev pub invariant-shapes : goal.invariant-shapes
invariant-shapes l = list_all is_hollow (take l.shape-index l.shape-items) ≡ true

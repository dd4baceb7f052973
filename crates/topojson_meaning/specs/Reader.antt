-- Readers of the parts of a topology: from the counts so far to what is read beside the counts after it, or to the first fault.
use Rattle.geojson_types.specs.declared.counts.Counts.{Counts}
use Rattle.topojson_meaning.specs.declared.fault.TopoFault.{TopoFault}
use Rattle.json_value.specs.Readers.{Counting}
pub use Rattle.json_value.specs.Readers.{and_then, ◌>>=◌, give, fail, pure, or_fail, with_fault, each, if_some, kept}
unfoldable pub use Rattle.json_value.specs.Readers.{gather}

-- a reader of an A
abbrev pub Reader : Type 0 → Type 0
Reader A = Counting Counts TopoFault A

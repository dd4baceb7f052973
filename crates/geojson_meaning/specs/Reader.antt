-- Readers of the parts of a layer: from the counts so far to what is read beside the counts after it, or to the first fault.
use Rattle.std.specs.Prelude.{ℕ, Option}
use Rattle.geojson_types.specs.declared.counts.Counts.{Counts}
use Rattle.geojson_meaning.specs.declared.fault.GeoFault.{GeoFault}
use Rattle.geojson_meaning.specs.declared.fault.GeoFaultKind.{GeoFaultKind}
use Rattle.json_value.specs.Readers as readers
pub use Rattle.json_value.specs.Readers.{and_then, ◌>>=◌, give, fail, pure, or_fail, with_fault, each, if_some, kept}
unfoldable pub use Rattle.json_value.specs.Readers.{gather}

-- a reader of an A whose faults are of this type
abbrev pub Counting : Type 0 → Type 0 → Type 0
Counting E A = readers.Counting Counts E A

-- a reader of a part of a feature, where a fault is of a kind alone
abbrev pub Reader : Type 0 → Type 0
Reader A = Counting GeoFaultKind A

-- a reader of a layer, where a fault has a kind and perhaps the number of a feature
abbrev pub LayerReader : Type 0 → Type 0
LayerReader A = Counting GeoFault A

-- the fault of this kind in the feature of this number, or in none
abbrev pub fault_in : Option ℕ → GeoFaultKind → GeoFault
fault_in n kind = record { feature = n; kind = kind }

-- a part of the feature of this number, or of none
abbrev pub within : {A : Type 0} → Option ℕ → Reader A → LayerReader A
within n read = λ c. with_fault (fault_in n) (read c)

-- How faults are printed.
use Rattle.std.specs.Prelude.{ℕ, List, codes}
use Rattle.topojson_meaning.specs.declared.fault.TopoFault.{TopoFault}
use Rattle.topojson_meaning.specs.declared.fault.TopoFault.TheVariants.{NotTopology, Missing, Duplicate, WrongKind, UnknownType, ShortArc, IndexRange, Unjoined, OpenRing, GridNumber, Range, Memory}

-- the short code of a kind of fault
unfoldable pub code : TopoFault → List ℕ
code NotTopology = codes "P1"
code Missing = codes "P2"
code Duplicate = codes "P3"
code WrongKind = codes "P4"
code UnknownType = codes "P5"
code ShortArc = codes "P6"
code IndexRange = codes "P7"
code Unjoined = codes "P8"
code OpenRing = codes "P9"
code GridNumber = codes "P10"
code Range = codes "P11"
code Memory = codes "P12"

-- the name of a kind of fault
unfoldable pub name : TopoFault → List ℕ
name NotTopology = codes "NotTopology"
name Missing = codes "Missing"
name Duplicate = codes "Duplicate"
name WrongKind = codes "WrongKind"
name UnknownType = codes "UnknownType"
name ShortArc = codes "ShortArc"
name IndexRange = codes "IndexRange"
name Unjoined = codes "Unjoined"
name OpenRing = codes "OpenRing"
name GridNumber = codes "GridNumber"
name Range = codes "Range"
name Memory = codes "Memory"

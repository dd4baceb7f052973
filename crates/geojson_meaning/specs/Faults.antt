-- How faults are printed.
use Rattle.std.specs.Prelude.{ℕ, List, codes}
use Rattle.geojson_meaning.specs.declared.fault.GeoFaultKind.{GeoFaultKind}
use Rattle.geojson_meaning.specs.declared.fault.GeoFaultKind.TheVariants.{NotObject, UnknownType, Missing, Duplicate, WrongKind, ShortPosition, ShortLine, ShortRing, OpenRing, Range, Inexact, Memory}

-- the short code of a kind of fault
unfoldable pub code : GeoFaultKind → List ℕ
code NotObject = codes "G1"
code UnknownType = codes "G2"
code Missing = codes "G3"
code Duplicate = codes "G4"
code WrongKind = codes "G5"
code ShortPosition = codes "G6"
code ShortLine = codes "G7"
code ShortRing = codes "G8"
code OpenRing = codes "G9"
code Range = codes "G10"
code Inexact = codes "G11"
code Memory = codes "G12"

-- the name of a kind of fault
unfoldable pub name : GeoFaultKind → List ℕ
name NotObject = codes "NotObject"
name UnknownType = codes "UnknownType"
name Missing = codes "Missing"
name Duplicate = codes "Duplicate"
name WrongKind = codes "WrongKind"
name ShortPosition = codes "ShortPosition"
name ShortLine = codes "ShortLine"
name ShortRing = codes "ShortRing"
name OpenRing = codes "OpenRing"
name Range = codes "Range"
name Inexact = codes "Inexact"
name Memory = codes "Memory"

-- How what a function answers relates to what a definition gives. Want of memory leaves it open.
use Rattle.std.specs.Prelude.{Result}
use Rattle.geojson_types.specs.declared.counts.Counts.{Counts}
use Rattle.json_value.specs.Answers.{GivesUnless}
pub use Rattle.json_value.specs.Answers.{Finds}
use Rattle.topojson_meaning.specs.declared.fault.TopoFault.{TopoFault}
use Rattle.topojson_meaning.specs.declared.fault.TopoFault.TheVariants.{Memory}
use Rattle.topojson_meaning.specs.Reader.{Reader}

-- the answer, as a clause sees it, and the counts after it are what a reader gives, or its fault is the reader's
abbrev pub Gives : {X Y : Type 0} → (X → Y) → Result X TopoFault → Counts → Result (Y × Counts) TopoFault → Type 0
Gives view answer after read = GivesUnless Memory view answer after read

-- whatever the counts are, the answer is what a reader gives that counts nothing, or its fault is the reader's
abbrev pub Reads : {X Y : Type 0} → (X → Y) → Result X TopoFault → Reader Y → Type 0
Reads view answer read = (counts : Counts) → Gives view answer counts (read counts)

-- What the reader of a whole text answers.
use Rattle.std.specs.Prelude.{◌≡◌, ℕ, List, Result, Ok, Err, IsUtf8}
use Rattle.json_value.specs.declared.json.Json.{Json}
use Rattle.json_value.specs.Grammar.{Reads}
use Rattle.json_value.specs.Limits.{topology_depth}
use Rattle.json_reading.specs.Outcome.{SaysUtf8, SpellsNothing}
use Rattle.geojson_types.specs.declared.counts.Counts.{Counts}
use Rattle.topojson_types.specs.Topologies.{Contents}
use Rattle.topojson_meaning.specs.ArcTexts.{AreArcTexts}
use Rattle.topojson_meaning.specs.Topologies.{topology}
use Rattle.topojson_decoder.specs.Kept.{of_contents}
use Rattle.topojson_decoder.specs.declared.keeping.Keeping.{Keeping}
use Rattle.topojson_decoder.specs.declared.texts.Refusal.{Refusal}
use Rattle.topojson_decoder.specs.declared.texts.Refusal.TheVariants.{Text, Meaning, Memory}
use Rattle.topojson_decoder.specs.declared.texts.SpelledTopology.{SpelledTopology}
use Rattle.topojson_decoder.specs.declared.topologies.Parts.{Parts}

-- The bytes are UTF-8 and spell a value that is read as this topology, or that has this first fault. Or they spell none, for this reason.
-- Or nothing is said.
abbrev pub TextAnswers : List ℕ → Result (Contents × Counts) Refusal → Type 0
TextAnswers bytes (Ok r) = IsUtf8 bytes × (v : Json) × Reads topology_depth bytes v × (topology v ≡ Ok (r.0, r.1))
TextAnswers bytes (Err (Meaning e)) = IsUtf8 bytes × (v : Json) × Reads topology_depth bytes v × (topology v ≡ Err e)
TextAnswers bytes (Err (Text fault)) = SaysUtf8 bytes (Err fault) × SpellsNothing topology_depth bytes (Err fault)
TextAnswers bytes (Err Memory) = Unit {0}

-- The same of a topology beside texts, which are those of its arcs.
abbrev pub SpelledAnswers : List ℕ → Result (SpelledTopology × Counts) Refusal → Type 0
SpelledAnswers bytes (Ok r) = TextAnswers bytes (Ok (r.0.topology, r.1)) × AreArcTexts r.0.topology.transform r.0.topology.arcs r.0.texts.items
SpelledAnswers bytes (Err e) = TextAnswers bytes (Err e)

-- What reading may answer where this much is kept of the topology: its parts are those of the topology, kept so.
abbrev pub PartsAnswer : Keeping → List ℕ → Result (Parts × Counts) Refusal → Type 0
PartsAnswer keeping bytes (Ok r) = (t : Contents) × TextAnswers bytes (Ok (t, r.1)) × (r.0 ≡ of_contents keeping t)
PartsAnswer keeping bytes (Err e) = TextAnswers bytes (Err e)

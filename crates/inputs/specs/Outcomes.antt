-- The outcome of the bytes of all layers.
use Rattle.std.specs.Prelude.{◌≡◌, ℕ, suc, Bool, List, [], ◌∷◌, Some, Result, Ok, Err}
use Rattle.byte_ends.specs.declared.source.ReadFault.TheVariants as read
use Rattle.json_reading.specs.declared.fault.JsonFault.{JsonFault}
use Rattle.json_value.specs.declared.json.Json.{Json}
use Rattle.geojson_types.specs.declared.counts.Counts.{Counts}
use Rattle.geojson_types.specs.Features.{Featured}
use Rattle.geojson_meaning.specs.declared.fault.GeoFault.{GeoFault}
use Rattle.geojson_meaning.specs.Layers.{layer}
use Rattle.inputs.specs.declared.fault.BuildFault.{BuildFault}
use Rattle.inputs.specs.declared.fault.BuildFault.TheVariants.{EmptyName, DuplicateName, Read, Json as Text, Geo, Write, Memory}
use Rattle.inputs.specs.Texts.{BytesHaveOutcome, plain_text_fault}
use Rattle.json_value.specs.Limits.{layer_depth}
use Rattle.inputs.specs.Sources.{Sources, Named}

-- ---- one layer

-- the features and counts of a layer, or the fault that it is refused with
abbrev pub LayerOutcome : Type 0
LayerOutcome = Result (List Featured × Counts) BuildFault

abbrev pub of_layer : ℕ → Result (List Featured × Counts) GeoFault → LayerOutcome
of_layer n (Err fault) = Err (Geo n fault)
of_layer n (Ok r) = Ok r

abbrev pub of_text : ℕ → Bool → Result Json JsonFault → LayerOutcome
of_text n exact (Err fault) = Err (Text n fault)
of_text n exact (Ok v) = of_layer n (layer exact v)

-- the bytes of the layer of this number are too many, or else their text decides
abbrev pub LayerHasOutcome : ℕ → Bool → List ℕ → LayerOutcome → Type 0
LayerHasOutcome n exact bytes outcome = BytesHaveOutcome layer_depth (Read n read.TooLong) (of_text n exact) bytes outcome

-- ---- all layers

-- the bytes of layers under their names
abbrev pub Texts : Type 0
Texts = List (List ℕ × List ℕ)

-- all layers with their counts, or the first fault
abbrev pub Outcome : Type 0
Outcome = Result (Named × List Counts) BuildFault

-- a layer before the others
abbrev pub with_layer : List ℕ → List Featured × Counts → Outcome → Outcome
with_layer name l (Err e) = Err e
with_layer name l (Ok r) = Ok ((name, record { features = l.0 }) ∷ r.0, l.1 ∷ r.1)

-- the first layer's fault, or the outcome of the others after it
abbrev pub Continues : List ℕ → LayerOutcome → (Outcome → Type 0) → Outcome → Type 0
Continues name (Err e) others outcome = outcome ≡ Err e
Continues name (Ok l) others outcome = (rest : Outcome) × others rest × (outcome ≡ with_layer name l rest)

-- the bytes under these names have this outcome, where the first layer has this number
abbrev pub AllHaveOutcome : ℕ → Bool → Texts → Outcome → Type 0
AllHaveOutcome n exact [] outcome = outcome ≡ Ok ([], [])
AllHaveOutcome n exact (b ∷ bs) outcome = (first : LayerOutcome) × LayerHasOutcome n exact b.1 first × Continues b.0 first (AllHaveOutcome (suc n) exact bs) outcome

-- the bytes under these names have this outcome
abbrev pub HasOutcome : Bool → Texts → Outcome → Type 0
HasOutcome exact bs outcome = AllHaveOutcome 0 exact bs outcome

-- ---- faults

-- the fault without the place and the reason in a malformed text, which nothing promises
abbrev pub plain_fault : BuildFault → BuildFault
plain_fault (Text i fault) = Text i (plain_text_fault fault)
plain_fault (EmptyName i) = EmptyName i
plain_fault (DuplicateName i) = DuplicateName i
plain_fault (Read i fault) = Read i fault
plain_fault (Geo i fault) = Geo i fault
plain_fault (Write sent) = Write sent
plain_fault Memory = Memory

-- the outcome with such a fault
abbrev pub plain_outcome : Outcome → Outcome
plain_outcome (Ok r) = Ok r
plain_outcome (Err e) = Err (plain_fault e)

-- memory was refused, or a source failed
abbrev pub IsOutsideRead : BuildFault → Type 0
IsOutsideRead (Read i read.Read) = Unit {0}
IsOutsideRead Memory = Unit {0}
IsOutsideRead e = ⊥

-- ---- sources

-- the sources have these names, and these bytes left
abbrev pub HaveBytes : Sources → Texts → Type 0
HaveBytes [] [] = Unit {0}
HaveBytes (s ∷ ss) (b ∷ bs) = (b.0 ≡ s.0) × (s.1.left ≡ Some b.1) × HaveBytes ss bs
HaveBytes ss bs = ⊥

-- the first sources have these names, and these bytes left
abbrev pub FirstHaveBytes : Sources → Texts → Type 0
FirstHaveBytes [] [] = Unit {0}
FirstHaveBytes [] (b ∷ bs) = ⊥
FirstHaveBytes (s ∷ ss) [] = Unit {0}
FirstHaveBytes (s ∷ ss) (b ∷ bs) = (b.0 ≡ s.0) × (s.1.left ≡ Some b.1) × FirstHaveBytes ss bs

-- All sources have these bytes left. Where these have a fault, it is enough that the first sources have them: nothing need be known
-- of those after the one with the fault.
abbrev pub HaveBytesFor : Outcome → Sources → Texts → Type 0
HaveBytesFor (Ok r) ss bs = HaveBytes ss bs
HaveBytesFor (Err e) ss bs = FirstHaveBytes ss bs

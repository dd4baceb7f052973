-- What is true of the outcomes of the bytes of layers.
use Rattle.std.specs.Prelude.{◌≡◌, Bool, List, Ok}
use Rattle.geojson_types.specs.declared.counts.Counts.{Counts}
use Rattle.inputs.specs.Outcomes.{Texts, Outcome, HasOutcome, HaveBytes, plain_outcome}
use Rattle.inputs.specs.Sources.{Sources, Named, AllRead}

-- any bytes under any names have an outcome
abbrev pub HaveOutcome : Type 0
HaveOutcome = (exact : Bool) (bytes : Texts) → (outcome : Outcome) × HasOutcome exact bytes outcome

-- bytes have only one outcome, but for the place and the reason in a malformed text
abbrev pub HaveOneOutcome : Type 0
HaveOneOutcome = (exact : Bool) (bytes : Texts) (one other : Outcome) → HasOutcome exact bytes one → HasOutcome exact bytes other → plain_outcome one ≡ plain_outcome other

-- the layers that are read of sources, with their counts, are the outcome of their bytes
abbrev pub ReadIsOutcome : Type 0
ReadIsOutcome = (exact : Bool) (olds news : Sources) (layers : Named) (counts : List Counts) (bytes : Texts) → HaveBytes olds bytes
    → AllRead exact olds news layers counts → HasOutcome exact bytes (Ok (layers, counts))

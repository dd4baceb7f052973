-- The bytes of layers have an outcome.
use Rattle.std.proofs.Common.{ℕ, suc, Bool, List, [], ◌∷◌, refl, Ok, Err}
use Rattle.byte_ends.specs.declared.source.ReadFault.TheVariants as read
use Rattle.inputs.specs.declared.fault.BuildFault.TheVariants.{Read}
use Rattle.inputs.proofs.BytesReached.{outcome_there}
use Rattle.inputs.specs.LayerLaws.{HaveOutcome}
use Rattle.inputs.specs.Outcomes.{Texts, LayerOutcome, Outcome, of_text, LayerHasOutcome, with_layer, AllHaveOutcome}
use Rattle.json_value.specs.Limits.{layer_depth}

after_layer : (n : ℕ) (exact : Bool) (b : List ℕ × List ℕ) (bs : Texts) (first : LayerOutcome) → LayerHasOutcome n exact b.1 first → (rest : Outcome) → AllHaveOutcome (suc n) exact bs rest
    → (outcome : Outcome) × AllHaveOutcome n exact (b ∷ bs) outcome
after_layer n exact b bs (Err e) h rest k = (Err e, (Err e, h, refl))
after_layer n exact b bs (Ok l) h rest k = (with_layer b.0 l rest, (Ok l, h, (rest, k, refl)))

all_there : (n : ℕ) (exact : Bool) (bs : Texts) → (outcome : Outcome) × AllHaveOutcome n exact bs outcome
all_there n exact [] = (Ok ([], []), refl)
all_there n exact (b ∷ bs) =
    let first = outcome_there layer_depth (Read n read.TooLong) (of_text n exact) b.1 in
    let rest = all_there (suc n) exact bs in
    after_layer n exact b bs first.0 first.1 rest.0 rest.1

pub have_outcome : HaveOutcome
have_outcome exact bs = all_there 0 exact bs

use Rattle.std.proofs.Common.{◌≢◌, ℕ, List, Option, Some, None, EachIndex, MatchOption, slice_index, Bor, arith}
use Rattle.std.proofs.lemmas.Str.Pattern.{IsSplitOnceResult, split_parts}
use Rattle.command_words.specs.LayerWords.{equals_sign, IsSplit}
use Rattle.command_words.proofs.layer_words.name_and_path.Goals as goal

-- what `split_once` gives at an `=`
split_at_first : (word : List ℕ) (r : Option (Bor (List ℕ) × Bor (List ℕ))) → IsSplitOnceResult equals_sign word r
    → MatchOption r (EachIndex word (λ i. slice_index word i ≢ equals_sign)) (λ x. IsSplit word x.0.now x.1.now)
split_at_first word None h = split_parts equals_sign word None h (omega arith)
split_at_first word (Some x) h =
    let parts = split_parts equals_sign word (Some x) h (omega arith) in
    record { whole = parts.0; first = parts.1 }

pub returns-clause-split : goal.returns-clause-split
returns-clause-split c = split_at_first c.args.word.now c.split_once.result c.split_once.ensures.cases

use Rattle.std.proofs.Common.{rules, tests, ◌∙◌}
use Rattle.std.specs.String.{string_bytes}
use Rattle.std.proofs.lemmas.Iterator.{YieldsList-from_slice}
use Rattle.std.proofs.lemmas.Iterator.Search.{any_from_yields_List}
use Rattle.clap.proofs.WalkLemmas.{list_any-map}
use Rattle.command_words.specs.Joined.{is_explain}
use Rattle.command_words.proofs.joining.has_explain.Goals as goal

pub returns : goal.returns
returns c =
    any_from_yields_List (λ w. is_explain (string_bytes w)) _ _ c.any.result c.any.ensures.ran (YieldsList-from_slice c.args.words.now cc) (λ x b q k. search (rules, tests))
    ∙ list_any-map is_explain string_bytes c.args.words.now

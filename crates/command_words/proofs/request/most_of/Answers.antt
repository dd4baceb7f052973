use Rattle.std.proofs.Common.{◌≡◌, ◌∙◌, ℕ, None, Some, ap, option_map, rules, sym}
use Rattle.command_words.specs.Asked.{entries_of, most_in}
use Rattle.command_words.proofs.Getters.{most_given}
use Rattle.command_words.proofs.request.most_of.Goals as goal

pub returns-in-None : goal.returns-in-None
returns-in-None c = most_given (entries_of c.args.arguments.now) c.given.result None c.given.ensures c.in-None.is

pub returns-in_err-whole_number-in-Some : goal.returns-in_err-whole_number-in-Some
returns-in_err-whole_number-in-Some c =
    let fact : None ≡ most_in (entries_of c.args.arguments.now) =
    ap (option_map (λ (n : ℕ). Some n)) (sym c.in_err-whole_number-in-Some.was ∙ c.whole_number.ensures) ∙ most_given (entries_of c.args.arguments.now) c.given.result (Some c.in-Some.text) c.given.ensures c.in-Some.is in
    search (rules, fact)

pub returns-in_ok-whole_number-in-Some : goal.returns-in_ok-whole_number-in-Some
returns-in_ok-whole_number-in-Some c =
    ap (option_map (λ (n : ℕ). Some n)) (sym c.in_ok-whole_number-in-Some.was ∙ c.whole_number.ensures)
    ∙ most_given (entries_of c.args.arguments.now) c.given.result (Some c.in-Some.text) c.given.ensures c.in-Some.is

use Rattle.std.proofs.Common.{◌∙◌, sym}
use Rattle.command_words.specs.Asked.{entries_of}
use Rattle.command_words.proofs.Getters.{with_area, without_area}
use Rattle.command_words.proofs.request.has_both.Goals as goal

pub returns-then-is_some : goal.returns-then-is_some
returns-then-is_some c =
    let some = sym c.is_some.ensures ∙ c.if-is_some.true in
    c.is_some-then-is_some.ensures ∙ with_area (entries_of c.args.arguments.now) c.given.result c.given-then-is_some.result c.given.ensures c.given-then-is_some.ensures some

pub returns-else-is_some : goal.returns-else-is_some
returns-else-is_some c =
    let none = sym c.is_some.ensures ∙ c.if-is_some.false in
    c.if-is_some.false ∙ without_area (entries_of c.args.arguments.now) c.given.result c.given.ensures none

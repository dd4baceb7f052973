use Rattle.std.proofs.Common.{sym, ◌∙◌}
use Rattle.topojson_types.proofs.WalkPlaces.{long_arcs}
use Rattle.topojson_writer.proofs.LineTexts.{begins}
use Rattle.topojson_writer.proofs.line_source.LineSource.is_of_arcs.Goals as goal

pub returns-then-not-is_closed-clause-begins : goal.returns-then-not-is_closed-clause-begins
returns-then-not-is_closed-clause-begins c = λ _.
    begins c.args.self.now c.args.refs.now c.requires c.transform.result c.transform.ensures.transform (sym c.is_some.ensures ∙ c.if-is_some.false) (long_arcs c.args.self.now c.transform.ensures.valid) (sym (c.if-is_empty-2.ensures))

pub returns-else-not-is_closed-clause-begins : goal.returns-else-not-is_closed-clause-begins
returns-else-not-is_closed-clause-begins c = λ _.
    begins c.args.self.now c.args.refs.now c.requires c.transform.result c.transform.ensures.transform (sym c.is_some.ensures ∙ c.if-is_some.false) (long_arcs c.args.self.now c.transform.ensures.valid) (sym (c.if-is_empty-2.ensures))

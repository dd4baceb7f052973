use Rattle.std.proofs.Common.{drop, map}
use Rattle.std.specs.Prelude.{codes}
use Rattle.json_value.specs.declared.json.Json.TheVariants as j
use Rattle.json_value.specs.Text.{json_text}
use Rattle.json_writer.proofs.Appending.{UpTo}
use Rattle.json_writer.proofs.Lists.{list_left, named_by}
use Rattle.json_writer.proofs.list_writer.put_object.Given as goal

abbrev pub invariant-members : goal.invariant-members
invariant-members g l =
    UpTo g.O.Out.text g.O.Out.good l.fn.out l.out (json_text (j.Object (map (λ m. (m.0, g.P.PutValue.value m.1)) l.members))) (list_left (named_by g.P.PutValue.value) (codes "}") l.is_first (drop l.member-index l.members))

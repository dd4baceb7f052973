use Rattle.std.proofs.Common.{drop}
use Rattle.std.specs.Prelude.{codes}
use Rattle.json_value.specs.Text.{json_text}
use Rattle.json_value.specs.declared.json.Json.TheVariants as j
use Rattle.json_value.proofs.Texts.{one_member}
use Rattle.json_writer.proofs.Lists.{list_left}
use Rattle.json_writer.proofs.Appending.{UpTo}
use Rattle.json_writer.proofs.value_writer.+values.Given as goal

abbrev pub invariant-put_elements-elements : goal.invariant-put_elements-elements
invariant-put_elements-elements g l = UpTo g.O.Out.text g.O.Out.good l.fn.out l.out (json_text (j.Array l.elements)) (list_left json_text (codes "]") l.is_first (drop l.element-index l.elements))

abbrev pub invariant-put_members-members : goal.invariant-put_members-members
invariant-put_members-members g l = UpTo g.O.Out.text g.O.Out.good l.fn.out l.out (json_text (j.Object l.members)) (list_left one_member (codes "}") l.is_first (drop l.member-index l.members))

use Rattle.std.specs.Prelude.{codes}
use Rattle.json_value.specs.Text.{json_text}
use Rattle.json_value.proofs.Texts.{one_member, text-array, text-object}
use Rattle.json_writer.proofs.Appending.{begins, list-goes, list-ends}
use Rattle.json_writer.proofs.value_writer.+values.Goals as goal

pub put_elements-elements-init : goal.put_elements-elements-init
put_elements-elements-init g t c = begins _ (text-array c.args.elements.now) c.put.ensures.text c.put.ensures.kept

pub put_elements-elements-preserved : goal.put_elements-elements-preserved
put_elements-elements-preserved g t c = list-goes json_text (codes "]") _ _ _ c.elements.invariant _ c.elements-test.true c.element-item.is c.put_comma.ensures.text c.put_comma.ensures.kept c.put_json.ensures.text c.put_json.ensures.kept

pub put_elements-returns-clause-text : goal.put_elements-returns-clause-text
put_elements-returns-clause-text g t c = list-ends json_text (codes "]") _ _ _ c.elements.invariant c.elements-test.false c.put-2.ensures.text

pub put_members-members-init : goal.put_members-members-init
put_members-members-init g t c = begins _ (text-object c.args.members.now) c.put.ensures.text c.put.ensures.kept

pub put_members-members-preserved : goal.put_members-members-preserved
put_members-members-preserved g t c = list-goes one_member (codes "}") _ _ _ c.members.invariant _ c.members-test.true c.member-item.is c.put_comma.ensures.text c.put_comma.ensures.kept c.put_member.ensures.text c.put_member.ensures.kept

pub put_members-returns-clause-text : goal.put_members-returns-clause-text
put_members-returns-clause-text g t c = list-ends one_member (codes "}") _ _ _ c.members.invariant c.members-test.false c.put-2.ensures.text

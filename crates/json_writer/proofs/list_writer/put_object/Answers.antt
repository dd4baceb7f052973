use Rattle.std.specs.Prelude.{codes}
use Rattle.json_writer.proofs.Lists.{object-text, named_by}
use Rattle.json_writer.proofs.Appending.{begins, list-goes}
use Rattle.json_writer.proofs.list_writer.put_object.Goals as goal

pub members-init : goal.members-init
members-init g c = begins _ (object-text g.P.PutValue.value c.args.members.now) c.put.ensures.text c.put.ensures.kept

pub members-preserved : goal.members-preserved
members-preserved g c = list-goes (named_by g.P.PutValue.value) (codes "}") _ _ _ c.members.invariant _ c.members-test.true c.member-item.is c.put_comma.ensures.text c.put_comma.ensures.kept c.put_named.ensures.text c.put_named.ensures.kept

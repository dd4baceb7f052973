use Rattle.std.proofs.Common.{drop, map}
use Rattle.std.specs.Prelude.{codes}
use Rattle.json_value.specs.declared.json.Json.TheVariants as j
use Rattle.json_value.specs.Text.{json_text}
use Rattle.json_writer.proofs.Appending.{UpTo}
use Rattle.json_writer.proofs.Lists.{list_left, text_by}
use Rattle.json_writer.proofs.list_writer.put_array.Given as goal

abbrev pub invariant-items : goal.invariant-items
invariant-items g l = UpTo g.O.Out.text g.O.Out.good l.fn.out l.out (json_text (j.Array (map g.P.PutValue.value l.items))) (list_left (text_by g.P.PutValue.value) (codes "]") l.is_first (drop l.item-index l.items))

use Rattle.std.proofs.Common.{◌≡◌, ap, sym, ◌∙◌, None, Some}
use Rattle.std.specs.Option.{option_copied}
use Rattle.json_writer.proofs.Appending.{as_part}
use Rattle.topojson_writer.proofs.Whole.{contents-with}
use Rattle.topojson_writer.proofs.topology_writer.put_contents.Goals as goal

pub returns-in-None-clause-text : goal.returns-in-None-clause-text
returns-in-None-clause-text g c =
    let e : c.args.topology.now.transform ≡ None = sym c.transform.ensures.transform ∙ ap option_copied c.in-None.is in
    as_part _ (contents-with c.args.topology.now None e) c.put_objects_and_arcs.ensures.text

pub returns-in-Some-clause-text : goal.returns-in-Some-clause-text
returns-in-Some-clause-text g c =
    let e : c.args.topology.now.transform ≡ Some c.in-Some.field-0.now = sym c.transform.ensures.transform ∙ ap option_copied c.in-Some.is in
    as_part _ (contents-with c.args.topology.now (Some c.in-Some.field-0.now) e) c.put_objects_and_arcs-in-Some.ensures.text

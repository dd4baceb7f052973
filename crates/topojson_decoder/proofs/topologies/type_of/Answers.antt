use Rattle.std.proofs.Common.{sym}
use Rattle.std.specs.Prelude.{codes}
use Rattle.std.proofs.lemmas.Result.{err_from_is_err_and}
use Rattle.json_value.specs.declared.json.Json.TheVariants as j
use Rattle.json_value.proofs.KindsOf.{text_of-text}
use Rattle.json_cursor.specs.Arrays.{prefix_value}
use Rattle.json_cursor.specs.Names.{name_of}
use Rattle.topojson_decoder.specs.Topologies.{type_in}
use Rattle.topojson_decoder.proofs.TopologyParts as part
use Rattle.topojson_decoder.proofs.topologies.type_of.Goals as goal

pub returns-in-Err : goal.returns-in-Err
returns-in-Err c = λ ms counts h. part.no_type ms counts _ (part.need_fails (codes "type") ms c.args.depth_left _ (c.in-Err.ensures c.args.depth_left _ h))

pub returns-in_err-name : goal.returns-in_err-name
returns-in_err-name c = λ ms counts h.
    let p = err_from_is_err_and c.from_residual.result c.from_residual.ensures.1 in
    let there = c.in-Ok.ensures c.args.depth_left _ h in
    rw (p.1, p.2) (part.no_text_fault (λ x. x) (type_in ms) counts counts (prefix_value c.args.depth_left c.in-Ok.at.now) there.0 there.1 there.3 _ (c.in_err-name.ensures c.args.depth_left))

pub returns-in_default : goal.returns-in_default
returns-in_default c = λ ms counts h.
    let there = c.in-Ok.ensures c.args.depth_left _ h in
    part.no_text ms counts there.0 (part.needed_value (codes "type") ms c.args.depth_left c.in-Ok.at there.0 there.1 there there.3) ((rw c.in_default.is at c.in_ok-name.ensures) c.args.depth_left there.0 there.1 there.3)

pub returns-then-not-is : goal.returns-then-not-is
returns-then-not-is c = λ ms counts h.
    let name = name_of c.in-Some.name in
    part.other_type ms counts (j.Text name) (part.needed_value (codes "type") ms c.args.depth_left c.in-Ok.at _ _ (c.in-Ok.ensures c.args.depth_left _ h) ((rw c.in-Some.is at c.in_ok-name.ensures) c.args.depth_left)) name (text_of-text name) (sym c.if-not-is.ensures)

pub returns : goal.returns
returns c = λ ms counts h.
    let name = name_of c.in-Some.name in
    part.its_type ms counts (j.Text name) (part.needed_value (codes "type") ms c.args.depth_left c.in-Ok.at _ _ (c.in-Ok.ensures c.args.depth_left _ h) ((rw c.in-Some.is at c.in_ok-name.ensures) c.args.depth_left)) name (text_of-text name) (sym c.if-not-is.ensures)

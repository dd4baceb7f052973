use Rattle.std.proofs.Common.{map, ap, sym, subst, ◌∙◌}
use Rattle.std.specs.List.{AllByRecursion}
use Rattle.std.specs.Option.{option_copied}
use Rattle.std.proofs.lemmas.Result.{IfOk-weaker, on_ok_weaker}
use Rattle.geometry.specs.Points.{IsPosition}
use Rattle.geometry.specs.Lists.{map_some}
use Rattle.build_meaning.specs.Protected.{sparing}
use Rattle.topo_model.specs.Along.{objects_along}
use Rattle.topo_model.specs.Drops.{judged_refs, objects_drops}
use Rattle.topojson_types.specs.Decoding.{placed_arcs}
use Rattle.topo_model.proofs.Result.{are_positions}
use Rattle.topo_model.proofs.finishing.leave_out_dropped.Goals as goal

pub leave_out_rebuilt-requires-in-Some-clause-places : goal.leave_out_rebuilt-requires-in-Some-clause-places
leave_out_rebuilt-requires-in-Some-clause-places c =
    subst (AllByRecursion (λ a. AllByRecursion IsPosition a)) (sym (c.deref.ensures.value ∙ c.in_ok-placed-in-Some.ensures)) (are_positions (option_copied c.args.transform) c.args.arcs.now c.requires.places)

pub returns-in-None-clause-objects : goal.returns-in-None-clause-objects
returns-in-None-clause-objects c =
    on_ok_weaker c.leave_out_rebuilt.result
    (λ h. h ∙ ap (λ t. objects_along (sparing (judged_refs (map_some (λ r. r.now) c.args.first) (record { arcs = placed_arcs (option_copied t) c.args.arcs.now; limit = c.args.ring_limit }))) (map (map_some (λ v. v.items)) c.args.ways.now) c.args.objects.now) (sym c.in-None.is))
    c.leave_out_rebuilt.ensures.objects

pub returns-in-None-clause-dropped : goal.returns-in-None-clause-dropped
returns-in-None-clause-dropped c =
    IfOk-weaker c.leave_out_rebuilt.result _ _
    (λ dropped h. h ∙ ap (λ t. objects_drops (record { first = map_some (λ r. r.now) c.args.first; later = record { arcs = placed_arcs (option_copied t) c.args.arcs.now; limit = c.args.ring_limit } }) 0 (map (map_some (λ v. v.items)) c.args.ways.now) c.args.objects.now) (sym c.in-None.is))
    c.leave_out_rebuilt.ensures.dropped

pub returns-in_ok-placed-in-Some-clause-objects : goal.returns-in_ok-placed-in-Some-clause-objects
returns-in_ok-placed-in-Some-clause-objects c =
    on_ok_weaker c.leave_out_rebuilt-in-Some.result
    (λ h. h ∙ ap (λ arcs. objects_along (sparing (judged_refs (map_some (λ r. r.now) c.args.first) (record { arcs = arcs; limit = c.args.ring_limit }))) (map (map_some (λ v. v.items)) c.args.ways.now) c.args.objects.now) (c.deref.ensures.value ∙ c.in_ok-placed-in-Some.ensures))
    c.leave_out_rebuilt-in-Some.ensures.objects

pub returns-in_ok-placed-in-Some-clause-dropped : goal.returns-in_ok-placed-in-Some-clause-dropped
returns-in_ok-placed-in-Some-clause-dropped c =
    IfOk-weaker c.leave_out_rebuilt-in-Some.result _ _
    (λ dropped h. h ∙ ap (λ arcs. objects_drops (record { first = map_some (λ r. r.now) c.args.first; later = record { arcs = arcs; limit = c.args.ring_limit } }) 0 (map (map_some (λ v. v.items)) c.args.ways.now) c.args.objects.now) (c.deref.ensures.value ∙ c.in_ok-placed-in-Some.ensures))
    c.leave_out_rebuilt-in-Some.ensures.dropped

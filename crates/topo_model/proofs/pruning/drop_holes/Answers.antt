use Rattle.std.proofs.Common.{ℤ, ◌+◌, ◌++◌, List, true, map, append-nil, Some, refl, sym, ap, ◌∙◌}
use Rattle.std.proofs.lemmas.List.{drop_all}
use Rattle.geometry.specs.declared.address.Cause.{Cause}
use Rattle.geometry.specs.Addresses.{part_address}
use Rattle.geometry.specs.DropCauses.{here, inner_cause}
use Rattle.geometry.specs.Paths.{Placed, of_parts}
use Rattle.topo_model.specs.Places.{dropped_at}
use Rattle.topo_model.proofs.Reported.{first_part, reported_more}
use Rattle.topo_model.proofs.pruning.drop_holes.Goals as goal

pub holes-init : goal.holes-init
holes-init g c = refl

pub holes-preserved : goal.holes-preserved
holes-preserved g c =
    let a = c.args.place.now in
    let why : List ℤ → List (Placed Cause) = λ h. here (inner_cause c.args.cause (g.K.Keeps.goes c.args.keeps.now true (Some c.args.outer.now, h))) in
    reported_more (λ k h. dropped_at (part_address a k) (why h)) (λ k hs. dropped_at a (of_parts k (map why hs))) (λ k h hs. first_part a k (why h) (map why hs))
    (c.holes.i + 1) c.holes.i c.holes.dropped.items c.add_part.new.dropped.items _ c.args.holes.now c.index-holes-i.result c.holes-test.true c.index-holes-i.is c.holes.invariant
    (c.in_ok-add_part.ensures ∙ ap (λ o. c.holes.dropped.items ++ dropped_at (part_address a (c.holes.i + 1)) (here o)) (c.hole_cause.ensures
    ∙ ap (inner_cause c.args.cause) (c.hole_goes-own.ensures ∙ ap (λ h. g.K.Keeps.goes c.args.keeps.now true (Some c.args.outer.now, h)) c.as_slice.ensures)))

pub returns : goal.returns
returns g c =
    let why : List ℤ → List (Placed Cause) = λ h. here (inner_cause c.args.cause (g.K.Keeps.goes c.args.keeps.now true (Some c.args.outer.now, h))) in
    sym (append-nil c.holes.dropped.items) ∙ sym (ap (λ hs. c.holes.dropped.items ++ dropped_at c.args.place.now (of_parts (c.holes.i + 1) (map why hs))) (drop_all c.holes.i c.args.holes.now c.holes-test.false)) ∙ c.holes.invariant

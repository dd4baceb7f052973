use Rattle.std.proofs.Common.{◌≡◌, Some, length, slice_get, subst, sym, ap, ◌∙◌, rules, refl, arith}
use Rattle.std.proofs.lemmas.Option.{slice_get_read}
use Rattle.topo_model.specs.Passing.{AreSums, is_sum}
use Rattle.topo_model.proofs.Enclosed.{more_sums}
use Rattle.topo_model.proofs.enclosing.SummedArcs.of.Goals as goal

pub arcs-preserved : goal.arcs-preserved
arcs-preserved c =
    let pushed = c.in_ok-push.ensures.items in
    let here : slice_get c.args.arcs.now (length c.arcs.sums.items) ≡ Some c.arc-item.result =
    ap (slice_get c.args.arcs.now) c.arcs.invariant.many ∙ slice_get_read c.args.arcs.now (length c.args.arcs.now) c.arcs.arc-index c.arc-item.result refl (omega (arith, c.arcs-test.true)) c.arc-item.is in
    record {
      many = search rules;
      are = subst (λ sums. AreSums c.args.arcs.now sums) (sym pushed)
          (more_sums c.args.arcs.now c.arcs.sums.items c.arc-item.result c.sum_of.result c.arcs.invariant.are here (subst (λ a. is_sum a c.sum_of.result) c.as_slice.ensures c.sum_of.ensures));
    }

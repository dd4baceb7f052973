use Rattle.std.proofs.Common.{arith, ap, inl, max, ℕ, ◌-◌, ◌++◌, ◌∙◌, set, subst, sym, not, eqb}
use Rattle.std.specs.List.{filter}
use Rattle.effective_area.specs.declared.weight.Weight.TheVariants.{Area}
use Rattle.effective_area.specs.Links.{IsRemoved, RemovesFirst, entry_corner}
use Rattle.geometry.specs.Units.{area_limit}
use Rattle.effective_area.proofs.Stopped.{found, stopped}
use Rattle.effective_area.proofs.Weighed.{AreWeighed, none_weighed, weighed_on, all_weighed, none_over}
use Rattle.effective_area.proofs.weighing.weigh.Goals as goal

pub corners-init : goal.corners-init
corners-init c = grind (arith, none_weighed)

pub corners-preserved : goal.corners-preserved
corners-preserved c =
    let s = c.corners.invariant.state in
    let corner = c.in-Some.corner in
    let items = c.take_first.new.sorted.items ++ c.take_first.new.heap.items in
    let taken : IsRemoved area_limit c.args.arc.now c.take_first.new.links items c.corners.left s.0 corner =
    subst (λ o. RemovesFirst area_limit c.args.arc.now c.take_first.new.links items c.corners.left s.0 o) c.in-Some.is (c.in_ok-corner.ensures.taken c.corners.left s.0 s.1) in
    record {
      sorted = c.in_ok-corner.ensures.sorted;
      order = c.in_ok-corner.ensures.order;
      state = (
        filter (λ v. not (eqb v corner.index)) s.0,
        taken.rest,
        subst (λ (n : ℕ). AreWeighed c.args.arc.now n (c.corners.left - 1) (filter (λ v. not (eqb v corner.index)) s.0) (set c.corners.weights corner.index (Area n))) (sym (c.max-level.ensures ∙ ap (λ n. max c.corners.level n) c.number.ensures))
            (weighed_on c.args.arc.now c.corners.level c.corners.left s.0 c.corners.weights (entry_corner c.args.arc.now corner) s.2 taken.some taken.first taken.present taken.later taken.within),
      );
    }

pub returns-in_default : goal.returns-in_default
returns-in_default c =
    let s = c.corners.invariant.state in
    let items = c.take_first.new.sorted.items ++ c.take_first.new.heap.items in
    let none = subst (λ o. RemovesFirst area_limit c.args.arc.now c.take_first.new.links items c.corners.left s.0 o) c.in_default.is (c.in_ok-corner.ensures.taken c.corners.left s.0 s.1) in
    found c.args.arc.now c.corners.links c.corners.level c.corners.left s.0 c.corners.weights c.requires.two c.requires.within s.1.linked s.1.size s.2 c.args.most
    (inl (all_weighed c.args.arc.now c.corners.level c.corners.left s.0 c.corners.weights s.2 (none_over c.args.arc.now s.0 c.requires.within none.1)))

pub returns : goal.returns
returns c =
    let s = c.corners.invariant.state in
    found c.args.arc.now c.corners.links c.corners.level c.corners.left s.0 c.corners.weights c.requires.two c.requires.within s.1.linked s.1.size s.2 c.args.most
    (stopped c.args.arc.now c.corners.links c.corners.level c.corners.left s.0 c.corners.weights c.requires.two c.requires.within s.1.linked s.1.size s.2 c.args.most s.1.many
    (omega (arith, c.corners-test.false, c.saturating_sub-stop.ensures)))

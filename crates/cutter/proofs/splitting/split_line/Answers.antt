use Rattle.std.proofs.Common.{◌≡◌, ◌≤◌, ◌-◌, ◌++◌, ◌∷◌, [], true, length, min, ap, sym, subst, ◌∙◌, arith}
use Rattle.cutter.proofs.Names.{length-append, is_member, indexes}
use Rattle.cutter.specs.Known.{GoesOnceThroughSecond}
use Rattle.cutter.proofs.Alone.{alone}
use Rattle.cutter.proofs.Known.{known_start}
use Rattle.cutter.proofs.splitting.split_line.Goals.{then-stroke+then-positions-gt1+then-count-min+in_ok-add_ends, else-stroke+in_ok-add_cuts}
use Rattle.cutter.proofs.splitting.split_line.Goals as goal

pub add_cuts-requires : goal.add_cuts-requires
add_cuts-requires c =
    known_start c.args.vertices.now.points (is_member c.args.vertices.now.cuts) c.args.stroke.now c.start_ring-start.new.stroke c.as_slice-positions.result.now c.start_ring-start.ensures.stroke c.as_slice-positions.ensures c.requires.known

pub goes_once_through_second-requires : goal.goes_once_through_second-requires
goes_once_through_second-requires c =
    known_start c.args.vertices.now.points (is_member c.args.vertices.now.cuts) c.args.stroke.now c.start_ring-start.new.stroke c.as_slice-positions.result.now c.start_ring-start.ensures.stroke c.as_slice-positions.ensures c.requires.known

pub returns-then-len-before-eq2-clause-cuts : goal.returns-then-len-before-eq2-clause-cuts
returns-then-len-before-eq2-clause-cuts c =
    let cut = is_member c.args.vertices.now.cuts in
    let s = c.args.stroke.now in
    let t = c.start_ring-start.new.stroke in
    let start = c.start_ring-start.result.0 in
    let count = c.start_ring-start.result.1 in
    elim c.if-stroke.branch [
      | then-stroke+then-positions-gt1+then-count-min+in_ok-add_ends w ↦
          let closed : s.closed ≡ true = sym (ap (λ x. x.closed) c.start_ring-start.ensures.stroke) ∙ w.if-stroke.true in
          let few : count ≤ 2 - min start 1 = omega (arith, w.if-count-min.true, w.min.ensures) in
          let long : 2 ≤ length t.positions = omega (arith, w.if-positions-gt1.true, ap length c.as_slice-positions.ensures) in
          ap (λ v. v.items) w.cuts-is ∙ w.in_ok-add_ends.ensures
          ∙ ap (λ l. c.args.cuts.now.items ++ (0 ∷ ((length l - 1) ∷ []))) c.as_slice-positions.ensures
          ∙ ap (λ l. c.args.cuts.now.items ++ l)
          (sym (alone cut s t start count c.start_ring-start.ensures.stroke closed (c.start_ring-start.ensures.start closed) (c.start_ring-start.ensures.count closed) few c.requires.ends long))
      | else-stroke+in_ok-add_cuts w ↦
          ap (λ v. v.items) w.cuts-is ∙ w.in_ok-add_cuts.ensures ∙ ap (λ l. c.args.cuts.now.items ++ indexes cut 0 l) c.as_slice-positions.ensures
    ]

pub returns-then-len-before-eq2-clause-once : goal.returns-then-len-before-eq2-clause-once
returns-then-len-before-eq2-clause-once c = λ e.
    let ns = indexes (is_member c.args.vertices.now.cuts) 0 c.start_ring-start.new.stroke.positions in
    let added = returns-then-len-before-eq2-clause-cuts c in (
      omega (arith, c.if-len-before-eq2.true, c.len.ensures, c.len-before.ensures, ap length added, length-append c.args.cuts.now.items ns),
      subst (GoesOnceThroughSecond c.args.vertices.now.once) c.as_slice-positions.ensures (c.goes_once_through_second.ensures e),
    )

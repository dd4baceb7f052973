use Rattle.std.proofs.Common.{◌≡◌, ◌-◌, ℕ, length, arith, subst}
use Rattle.effective_area.specs.Links.{HasCorners}
use Rattle.effective_area.proofs.heap_links.first_entries.Goals as goal

pub returns-clause-has : goal.returns-clause-has
returns-clause-has c =
    let e : c.loop-i.i ≡ length c.args.arc.now - 1 = omega (arith, c.loop-i-test.false, c.loop-i.auto.i-end, c.requires.two, c.in_ok-last.ensures) in
    subst (λ (n : ℕ). HasCorners c.args.t c.args.arc.now c.args.links.now c.loop-i.entries.items n) e c.loop-i.invariant.has

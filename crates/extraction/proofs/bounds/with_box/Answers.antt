use Rattle.std.proofs.Common.{rules, ◌≡◌, Some, sym, ap, ◌∙◌}
use Rattle.grid_snap.specs.Bounds.{widened}
use Rattle.extraction.proofs.Bounded.{box_serves, with_box}
use Rattle.extraction.proofs.bounds.with_box.Goals as goal

pub returns-in-None : goal.returns-in-None
returns-in-None c ps e = ap (with_box c.args.bounds) (sym (e ∙ c.in-None.is)) ∙ box_serves c.args.bounds ps

pub returns-in-Some : goal.returns-in-Some
returns-in-Some c ps e =
    let lower : c.widen_to-lower.result ≡ widened c.args.bounds c.in-Some.least = search rules in
    let both : c.widen_to.result ≡ widened (Some c.widen_to-lower.result) c.in-Some.greatest = search rules in
    ap Some (both ∙ ap (λ b. widened (Some b) c.in-Some.greatest) lower) ∙ ap (with_box c.args.bounds) (sym (e ∙ c.in-Some.is)) ∙ box_serves c.args.bounds ps

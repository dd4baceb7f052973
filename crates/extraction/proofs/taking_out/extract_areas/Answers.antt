use Rattle.std.proofs.Common.{true, map, subst, ◌∙◌}
use Rattle.geometry.specs.Lists.{joined}
use Rattle.extraction.specs.Extracts.{TakesApart, no_refs}
use Rattle.extraction.proofs.TakenOut.{joined_more, one_more}
use Rattle.extraction.proofs.taking_out.extract_areas.Goals as goal

pub areas-preserved : goal.areas-preserved
areas-preserved c =
    one_more (λ rss. joined (map (map (λ p. (true, p))) rss)) (map (no_refs true)) c.areas.yielded c.in-Some.rings _ c.args.outlines.now c.areas.outlines c.extract_rings.new.outlines c.areas.made.items
    c.push.new.self.items c.of.result (joined_more (map (λ p. (true, p))) c.areas.yielded c.in-Some.rings) c.areas.invariant
    (subst (λ rs. TakesApart (map (λ p. (true, p)) rs) (map (no_refs true) rs) c.areas.outlines c.of.result c.extract_rings.new.outlines) c.into_inner.ensures
    (c.of.ensures ∙ c.in_ok-rings.ensures.0, c.in_ok-rings.ensures.1))
    c.in_ok-push.ensures.items

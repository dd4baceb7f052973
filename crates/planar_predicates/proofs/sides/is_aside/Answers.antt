use Rattle.std.proofs.Common.{pos, sym, ◌∙◌}
use Rattle.geometry.specs.Areas.{cross}
use Rattle.guarded_meaning.proofs.Box.{lt_denied}
use Rattle.guarded_meaning.proofs.Sides.{side_law}
use Rattle.guarded_meaning.proofs.Tests.{lt_says}
use Rattle.planar_predicates.proofs.Beyond.{off_left, off_right, within_limit, first_beyond_none}
use Rattle.planar_predicates.proofs.sides.is_aside.Goals as goal

pub returns-then-is_right-clause-triangle : goal.returns-then-is_right-clause-triangle
returns-then-is_right-clause-triangle c = λ e q h i.
    let s = c.is_beyond_one.ensures in
    off_right c.args.a c.args.p c.args.c q (lt_says (cross c.args.a c.args.p c.args.c) (pos 0) (sym c.is_right.ensures ∙ c.if-is_right.true)) (side_law c.args.a c.args.p c.args.c q i)
    (s.beyond e q (within_limit c.args.a c.args.p c.args.c q s.third s.second s.first i) h)

pub returns-then-is_right-clause-first : goal.returns-then-is_right-clause-first
returns-then-is_right-clause-first c = λ e h.
    let s = c.is_beyond_one.ensures in
    off_right c.args.a c.args.p c.args.c c.args.a (lt_says (cross c.args.a c.args.p c.args.c) (pos 0) (sym c.is_right.ensures ∙ c.if-is_right.true)) (first_beyond_none c.args.a c.args.p c.args.c)
    (s.beyond e c.args.a s.third h)

pub returns-else-is_right-clause-triangle : goal.returns-else-is_right-clause-triangle
returns-else-is_right-clause-triangle c = λ e q h i.
    let s = c.is_beyond_one-else-is_right.ensures in
    off_left c.args.a c.args.p c.args.c q (lt_denied (cross c.args.a c.args.p c.args.c) (pos 0) (sym c.is_right.ensures ∙ c.if-is_right.false)) (side_law c.args.a c.args.p c.args.c q i)
    (s.beyond e q (within_limit c.args.a c.args.p c.args.c q s.first s.second s.third i) h)

pub returns-else-is_right-clause-first : goal.returns-else-is_right-clause-first
returns-else-is_right-clause-first c = λ e h.
    let s = c.is_beyond_one-else-is_right.ensures in
    off_left c.args.a c.args.p c.args.c c.args.a (lt_denied (cross c.args.a c.args.p c.args.c) (pos 0) (sym c.is_right.ensures ∙ c.if-is_right.false)) (first_beyond_none c.args.a c.args.p c.args.c)
    (s.beyond e c.args.a s.first h)

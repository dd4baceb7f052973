use Rattle.std.proofs.Common.{◌≡◌, suc, List, length, Option, None, Some, ap, subst, arith}
use Rattle.std.specs.Iterator.{MakesProgress, item_count}
use Rattle.geometry.specs.Points.{Point}
use Rattle.topojson_types.proofs.Filled.{filled_up, left}
use Rattle.topojson_types.proofs.Opening.{First}
use Rattle.topojson_types.proofs.line_walk.LineWalkIterator.next.Goals as goal

progress : (can : List Point → Type 0) → ((s : List Point) → can s) → (s t : List Point) (r : Option Point) → First s r t → MakesProgress can (item_count (λ w. w)) s r t
progress can all s t None h = record { on = λ f. tt; keeps = tt; rests = λ f. tt }
progress can all s t (Some x) h = record { on = λ f. (all t, tt, omega (arith, ap length h)); keeps = all t; rests = λ f. tt }

steps : (c : goal.After-result-1) → First c.args.self.now c.self.inside.filler (left c.next.new.self c.self.inside.filler c.in_ok-self-inside.field-0)
steps c =
    let w = c.self.inside in
    let less : w.missing ≡ suc c.in_ok-self-inside.field-0 = omega (arith, c.in_ok-self-inside.ensures) in
    subst (λ s. First s w.filler (left c.next.new.self w.filler c.in_ok-self-inside.field-0)) c.self.view_is
    (filled_up w.walk c.next.new.self w.filler w.missing c.in_ok-self-inside.field-0 c.in_default.ensures.steps less)

pub returns-clause-goes : goal.returns-clause-goes
returns-clause-goes c = progress _ (λ s. tt) _ _ _ (steps c)

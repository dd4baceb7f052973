use Rattle.std.proofs.Common.{ℕ, ◌<◌, ◌≤◌, ◌⊎◌, inl, inr}
use Rattle.std.proofs.lemmas.Bool.{cases_lt}
use Rattle.std.proofs.lemmas.List.Elements.{All-push}
use Rattle.segment_crossings.specs.Lines.{as_segment, line_at}
use Rattle.segment_crossings.specs.Marks.{IsIn}
use Rattle.segment_crossings.specs.Trees.{IsNode}
use Rattle.segment_crossings.proofs.Marks.{wider}
use Rattle.segment_crossings.proofs.tree.+node_over.Goals as goal

pub returns-clause-node : goal.returns-clause-node
returns-clause-node t c = record {
  order = c.requires.order;
  within = c.requires.within;
  holds = λ r a b. on r a b (cases_lt r c.in-Some.middle);
}
  where
    on : (r : ℕ) → c.args.run.first ≤ r → r < c.args.run.end → (r < c.in-Some.middle) ⊎ (c.in-Some.middle ≤ r) → IsIn c.joined.result (as_segment (line_at c.args.lines.now r))
    on r a b (inl h) = let e = c.in_ok-first.ensures.run in wider _ _ _ c.joined.ensures.first (c.in_ok-first.ensures.node.holds r (rw e a) (rw e h))
    on r a b (inr h) = let e = c.in_ok-second.ensures.run in wider _ _ _ c.joined.ensures.second (c.in_ok-second.ensures.node.holds r (rw e h) (rw e b))

pub returns-clause-nodes : goal.returns-clause-nodes
returns-clause-nodes t c = rw c.in_ok-push.ensures.items (All-push (IsNode c.args.lines.now) _ _ c.in_ok-second.ensures.nodes (returns-clause-node t c))

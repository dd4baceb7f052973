use Rattle.guarded_reduction.proofs.Indexes.{made}
use Rattle.guarded_reduction.proofs.index.box_tree.tree_of.Goals as goal

pub returns-clause-index : goal.returns-clause-index
returns-clause-index c = made _ (rw c.deref.ensures.value at c.in_ok-places.ensures) (rw c.deref-2.ensures.value at c.in_ok-ranks.ensures.length) (rw c.deref-2.ensures.value at c.in_ok-ranks.ensures.ranks)
    c.requires (rw c.deref-3.ensures.value at c.in_ok-extents.ensures.few)
    (rw (c.deref-3.ensures.value, c.deref-4.ensures.value, c.deref-5.ensures.value) at c.in_ok-extents.ensures.fitted)

use Rattle.cutter.proofs.SharedCuts.{own_read}
use Rattle.cutter.proofs.cut_indexes.CutIndexes.of_line.Goals as goal

pub between-requires-clause-order : goal.between-requires-clause-order
between-requires-clause-order c =
    let own = own_read c.self.inside.indexes.items c.self.inside.ends.items c.args.self.now c.as_slice-indexes.result.now c.as_slice-ends.result.now c.args.i c.begin_of.result
    c.self.view_is c.self.invariant c.requires c.as_slice-indexes.ensures.value c.as_slice-ends.ensures.value c.begin_of.ensures in
    own.order

pub between-requires-clause-within : goal.between-requires-clause-within
between-requires-clause-within c =
    let own = own_read c.self.inside.indexes.items c.self.inside.ends.items c.args.self.now c.as_slice-indexes.result.now c.as_slice-ends.result.now c.args.i c.begin_of.result
    c.self.view_is c.self.invariant c.requires c.as_slice-indexes.ensures.value c.as_slice-ends.ensures.value c.begin_of.ensures in
    own.within

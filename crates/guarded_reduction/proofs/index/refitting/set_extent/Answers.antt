use Rattle.std.proofs.Common.{get_or-set_same, get_or-set_other}
use Rattle.planar_predicates.specs.Extents.{no_extent}
use Rattle.guarded_reduction.specs.Trees.{extent_at}
use Rattle.guarded_reduction.proofs.index.refitting.set_extent.Goals as goal

pub returns-clause-there : goal.returns-clause-there
unfolding extent_at
returns-clause-there c = get_or-set_same c.args.extents.now c.args.at c.args.e no_extent c.requires

pub returns-clause-others : goal.returns-clause-others
unfolding extent_at
returns-clause-others c = record { same = λ i n. get_or-set_other c.args.extents.now c.args.at i c.args.e no_extent n }

use Rattle.std.proofs.lemmas.List.{get_or_read}
use Rattle.guarded_reduction.specs.Indexes.{origin, point_at}
use Rattle.guarded_reduction.proofs.index.searching.position_of.Goals as goal

pub returns : goal.returns
unfolding point_at
returns c = get_or_read c.args.positions.now c.args.place c.index-positions-place.result c.requires c.index-positions-place.is origin

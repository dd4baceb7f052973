use Rattle.std.proofs.Common.{length, map, refl, arith}
use Rattle.std.proofs.lemmas.List.{length-map}
use Rattle.std.proofs.lemmas.Option.{slice_get-map, slice_get_read}
use Rattle.linework.specs.Outlines.{outline}
use Rattle.linework.proofs.outlines.Outlines.positions_of.Goals as goal

pub returns : goal.returns
returns c = grind (
  arith,
  c.self.view_is,
  c.requires,
  c.index.ensures,
  c.as_slice.ensures,
  length-map c.self.inside.strokes.items outline,
  slice_get-map outline c.self.inside.strokes.items c.args.i,
  slice_get-map (λ b. b.1) (map outline c.self.inside.strokes.items) c.args.i,
  slice_get_read c.self.inside.strokes.items (length c.self.inside.strokes.items) c.args.i c.index.result.now refl,
)

use Rattle.std.proofs.Common.{◌<◌, length, slice_get, refl, ap, sym, ◌∙◌, arith}
use Rattle.std.proofs.lemmas.Option.{slice_get_read}
use Rattle.cutter.specs.Slices.{lines_and_rings}
use Rattle.cutter.proofs.SharedCuts.{as_many_splits, lines_and_rings_of}
use Rattle.cutter.proofs.pieces.Pieces.stroke.Goals as goal

pub returns : goal.returns
returns c =
    let ss = c.self.inside.lines_and_rings.items in
    let h : c.args.i < length ss = omega (arith, c.requires, ap length c.self.view_is, as_many_splits c.self.inside.cuts.items 0 ss c.self.inside.ends.items c.self.invariant.0) in
    ap (λ l. slice_get (lines_and_rings l) c.args.i) (sym c.self.view_is) ∙ ap (λ l. slice_get l c.args.i) (lines_and_rings_of c.self.inside.cuts.items 0 ss c.self.inside.ends.items c.self.invariant.0)
    ∙ slice_get_read ss (length ss) c.args.i c.index.result.now refl h c.index.ensures

use Rattle.std.proofs.Common.{length, ap, sym, ◌∙◌, subst}
use Rattle.cutter.specs.Alone.{AreAlone}
use Rattle.cutter.proofs.Names.{AllRise, cut_lines, lines_and_rings}
use Rattle.cutter.proofs.SharedCuts.{apart, as_many_splits, lines_and_rings_of}
use Rattle.cutter.proofs.pieces.Pieces.into_parts.Goals as goal

pub of-indexes-requires : goal.of-indexes-requires
of-indexes-requires c = (apart c.pieces.inside.cuts.items 0 c.pieces.inside.lines_and_rings.items c.pieces.inside.ends.items c.pieces.invariant.0).ends

pub returns-clause-lines : goal.returns-clause-lines
returns-clause-lines c =
    sym (ap lines_and_rings (sym c.pieces.view_is) ∙ lines_and_rings_of c.pieces.inside.cuts.items 0 c.pieces.inside.lines_and_rings.items c.pieces.inside.ends.items c.pieces.invariant.0)

pub returns-clause-pieces : goal.returns-clause-pieces
returns-clause-pieces c =
    ap (cut_lines c.pieces.inside.lines_and_rings.items) c.of-indexes.ensures
    ∙ (apart c.pieces.inside.cuts.items 0 c.pieces.inside.lines_and_rings.items c.pieces.inside.ends.items c.pieces.invariant.0).lines
    ∙ c.pieces.view_is

pub returns-clause-rising : goal.returns-clause-rising
returns-clause-rising c =
    subst (AllRise c.pieces.inside.lines_and_rings.items) (sym c.of-indexes.ensures)
    (apart c.pieces.inside.cuts.items 0 c.pieces.inside.lines_and_rings.items c.pieces.inside.ends.items c.pieces.invariant.0).rising

pub returns-clause-flags : goal.returns-clause-flags
returns-clause-flags c =
    c.pieces.invariant.4 ∙ sym (as_many_splits c.pieces.inside.cuts.items 0 c.pieces.inside.lines_and_rings.items c.pieces.inside.ends.items c.pieces.invariant.0) ∙ ap length c.pieces.view_is

pub returns-clause-alone : goal.returns-clause-alone
returns-clause-alone c = subst (AreAlone c.pieces.inside.alone.items) c.pieces.view_is c.pieces.invariant.5

use Rattle.std.proofs.Common.{◌≡◌, ap, ◌∙◌, w64}
use Rattle.std.proofs.lemmas.Int.{to_z-of_z}
use Rattle.grid_snap.specs.Axes.{offset, number}
use Rattle.grid_snap.proofs.Settled.{number_of_offset, cast_covered, cast_numbered}
use Rattle.grid_snap.proofs.axis.Axis.number.Goals as goal

pub returns : goal.returns
returns c =
    let d = c.offset.ensures.offset ∙ ap (offset c.args.self) (to_z-of_z w64 c.args.x c.ranges.x) in
    let e : c.quotient.result ≡ number c.args.self c.args.x = c.quotient.ensures ∙ number_of_offset c.args.self c.args.x c.offset.result d in
    record {
      number = cast_covered c.args.self c.args.x c.quotient.result c.requires.axis c.requires.covered e;
      within = cast_numbered c.args.self c.args.x c.quotient.result c.requires.axis c.requires.covered e;
    }

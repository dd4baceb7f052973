use Rattle.std.proofs.Common.{◌≡◌, ◌*◌, ap, ◌∙◌, w64}
use Rattle.std.proofs.lemmas.Int.{to_z-of_z}
use Rattle.grid_snap.specs.Axes.{offset, number}
use Rattle.grid_snap.proofs.Settled.{twice_offset, cast_covered, cast_numbered}
use Rattle.grid_snap.proofs.axis.Axis.number_at.Goals as goal

pub returns : goal.returns
returns c =
    let k = number c.args.self c.args.x in
    let d = c.offset.ensures.offset ∙ ap (offset c.args.self) (to_z-of_z w64 c.args.x c.ranges.x) in
    let e : c.near_quotient.result ≡ k = c.near_quotient.ensures.exact (2 * c.args.self.step) k c.requires.inverse (twice_offset c.args.self c.args.x k c.offset.result c.requires.there d) in
    record {
      number = cast_covered c.args.self c.args.x c.near_quotient.result c.requires.axis c.requires.covered e;
      within = cast_numbered c.args.self c.args.x c.near_quotient.result c.requires.axis c.requires.covered e;
    }

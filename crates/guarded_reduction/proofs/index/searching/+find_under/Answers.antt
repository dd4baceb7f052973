use Rattle.std.proofs.Common.{◌*◌, arith}
use Rattle.guarded_reduction.specs.Blocked.{blocking}
use Rattle.guarded_reduction.specs.Indexes.{NoneMeetsUnder}
use Rattle.guarded_reduction.proofs.Searches.{none_of_both}
use Rattle.guarded_reduction.proofs.index.searching.+find_under.Goals as goal
use Rattle.guarded_reduction.proofs.index.searching.+find_under.Goals.{then-may_hold+in_default, else-may_hold}

pub returns-clause-none : goal.returns-clause-none
returns-clause-none t c =
    let first : NoneMeetsUnder c.args.index.now (2 * c.args.node) (blocking c.args.query.now) = elim c.if-may_hold.branch [
      | then-may_hold+in_default w ↦ w.in_default.ensures.none
      | else-may_hold w ↦ c.may_hold.ensures w.if-may_hold.false
    ] in
    none_of_both c.find_under-2.result c.args.index.now c.args.node (blocking c.args.query.now) (omega arith) first c.find_under-2.ensures.none

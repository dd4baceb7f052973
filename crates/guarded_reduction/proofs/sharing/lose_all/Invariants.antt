use Rattle.std.proofs.Common.{◌≡◌, drop}
use Rattle.guarded_reduction.specs.Sharing.{without_all}
use Rattle.guarded_reduction.proofs.sharing.lose_all.Given as goal

-- the others are ahead
abbrev pub invariant-gone : goal.invariant-gone
invariant-gone l = without_all (drop l.place-index l.gone) l.stays ≡ without_all l.gone l.fn.stays

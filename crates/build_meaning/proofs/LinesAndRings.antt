-- The lines and rings of a shape of which some are left out are among what is given for its lines and rings.
use Rattle.std.proofs.Common.{◌≡◌, Bool, true, List, [], ◌∷◌, map, Option, None, Some, sym, subst, arith}
use Rattle.build_meaning.proofs.Names.{AllByRecursion, map_some, then_some, some_of, prune, lines_and_rings, option_lines_and_rings, Cause, Collapsed, Geometry, DroppableLine, droppable_lines, if_kept}
use Rattle.build_meaning.proofs.DroppableLines.{Matches, all_lines_and_rings, stroke}
use Rattle.build_meaning.proofs.DroppableLines as candidate

module _ {P Q L M : Type 0} (place : P → Q) (kept : Bool → L → Option M) (X : Bool × M → Type 0) where
  -- what is given for it, if something is, has the property
  abbrev pub Gives : Bool × L → Type 0
  Gives b = (m : M) → kept b.0 b.1 ≡ Some m → X (b.0, m)

  -- a ring for which nothing is given is left out
  abbrev cause_of : Option M → Option Cause
  cause_of None = Some Collapsed
  cause_of (Some m) = None

  matching : (o : Option M) → Matches (cause_of o) o
  matching o = grind arith

  abbrev out : L → Option Cause
  out l = cause_of (kept true l)

  abbrev left : DroppableLine L → Option (Bool × M)
  left c = if_kept c.outer (map_some (λ m. (c.closed, m)) (kept c.closed c.line))

  each_left : (cs : List (DroppableLine L)) → AllByRecursion Gives (map stroke cs) → AllByRecursion X (some_of left cs)
  each_left [] h = tt
  each_left (c ∷ cs) h = grind (arith, each_left cs h.1)

  pub lines_and_rings_left : (s : Geometry P L L) → AllByRecursion Gives (lines_and_rings s) → AllByRecursion X (option_lines_and_rings (prune place kept s))
  lines_and_rings_left s h =
      subst (AllByRecursion X) (sym (candidate.lines_and_rings_left place kept out (λ l. matching (kept true l)) s))
      (each_left (droppable_lines out s) (subst (AllByRecursion Gives) (sym (all_lines_and_rings out s)) h))

  -- what is left of a shape that may be null has such lines and rings alone
  pub option_left : (o : Option (Geometry P L L)) → AllByRecursion Gives (option_lines_and_rings o) → AllByRecursion X (option_lines_and_rings (then_some (prune place kept) o))
  option_left o h = grind (arith, lines_and_rings_left)

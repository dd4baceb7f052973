-- What is said of the lines and rings of a shape alone.
use Rattle.std.proofs.Common.{arith, rules, ◌≡◌, Bool, true, List, [], ◌∷◌, map, Option, Some, refl, ap, subst}
use Rattle.std.specs.List.{AllByRecursion}
pub use Rattle.owned_values.proofs.Elements.{all_left, all_right, all_of_map}
use Rattle.owned_values.proofs.Lists.{some_agree}
use Rattle.geometry.specs.declared.shape.Geometry.{Geometry}
use Rattle.geometry.specs.declared.shape.Geometry.TheVariants as g
use Rattle.geometry.specs.Lists.{map_some, some_of, unless_empty, joined}
use Rattle.geometry.specs.Pruning.{area_by, prune, lines_and_rings}
use Rattle.geometry.proofs.Cases.{prune-point, prune-points, prune-line, prune-lines, prune-area, prune-areas, prune-group, lines_and_rings-line, lines_and_rings-lines, lines_and_rings-area, lines_and_rings-areas, lines_and_rings-group}
use Rattle.geometry.proofs.Induction.{by_kinds}

area_agree : {L M : Type 0} (f g : L → Option M) (rs : List L) → AllByRecursion (λ x. f x ≡ g x) rs → area_by f rs ≡ area_by g rs
area_agree f g rs h = grind (arith, some_agree)

module _ {P Q L M : Type 0} (place : P → Q) (one two : Bool → L → Option M) where
  abbrev pub Same : Bool × L → Type 0
  Same b = one b.0 b.1 ≡ two b.0 b.1

  abbrev Agrees : Geometry P L L → Type 0
  Agrees s = AllByRecursion Same (lines_and_rings s) → prune place one s ≡ prune place two s

  at_line : (l : L) → Agrees (g.Line l)
  at_line l h = let k = subst (AllByRecursion Same) (lines_and_rings-line P L l) h in rw (prune-line place one l, prune-line place two l) (ap (map_some g.Line) k.0)

  at_lines : (ls : List L) → Agrees (g.Lines ls)
  at_lines ls h = grind (arith, all_of_map, lines_and_rings-lines, prune-lines, some_agree)

  at_area : (rs : List L) → Agrees (g.Area rs)
  at_area rs h = grind (arith, all_of_map, lines_and_rings-area, prune-area, area_agree)

  each_area : (areas : List (List L)) → AllByRecursion Same (joined (map (map (λ l. (true, l))) areas)) → AllByRecursion (λ rs. area_by (one true) rs ≡ area_by (two true) rs) areas
  each_area [] h = tt
  each_area (rs ∷ areas) h = search (rules, all_of_map, all_left, area_agree, all_right, each_area areas)

  at_areas : (areas : List (List L)) → Agrees (g.Areas areas)
  at_areas areas h = let k = each_area areas (subst (AllByRecursion Same) (lines_and_rings-areas P L areas) h) in
      rw (prune-areas place one areas, prune-areas place two areas) (ap (unless_empty g.Areas) (some_agree (area_by (one true)) (area_by (two true)) areas k))

  members : (ss : List (Geometry P L L)) → AllByRecursion Agrees ss → AllByRecursion Same (joined (map lines_and_rings ss)) → some_of (prune place one) ss ≡ some_of (prune place two) ss
  members [] all h = refl
  members (s ∷ ss) all h = grind (arith, all_left, all_right, members ss all.1 (all_right Same (lines_and_rings s) (joined (map lines_and_rings ss)) h))

  at_group : (ss : List (Geometry P L L)) → AllByRecursion Agrees ss → Agrees (g.Group ss)
  at_group ss all h = rw (prune-group place one ss, prune-group place two ss) (ap (λ ts. Some (g.Group ts)) (members ss all (subst (AllByRecursion Same) (lines_and_rings-group P L ss) h)))

  pub agreed : (s : Geometry P L L) → AllByRecursion Same (lines_and_rings s) → prune place one s ≡ prune place two s
  agreed = grind (arith, by_kinds Agrees, prune-point place one, prune-point place two, prune-points place one, prune-points place two, at_line, at_lines, at_area, at_areas, at_group)

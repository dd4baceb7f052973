-- What is said of dropped lines depends on the lines of the shape alone.
use Rattle.std.proofs.Common.{arith, ◌≡◌, Bool, true, false, List, [], ◌∷◌, map, Option, refl, sym, ap, ◌∙◌, subst}
use Rattle.std.specs.List.{AllByRecursion}
use Rattle.geometry.specs.declared.shape.Geometry.{Geometry}
use Rattle.geometry.specs.declared.shape.Geometry.TheVariants as g
use Rattle.geometry.specs.declared.address.Cause.{Cause}
use Rattle.geometry.specs.Lists.{joined}
use Rattle.geometry.specs.Pruning.{lines_and_rings}
use Rattle.geometry.specs.Paths.{of_parts}
use Rattle.geometry.specs.DropCauses.{here, inner_cause, area_drop_causes, drop_causes}
use Rattle.geometry.proofs.Cases.{lines_and_rings-line, lines_and_rings-lines, lines_and_rings-area, lines_and_rings-areas, lines_and_rings-group, drop_causes_at}
use Rattle.geometry.proofs.Agreement.{all_left, all_right, all_of_map}
use Rattle.geometry.proofs.Induction.{by_kinds}

module _ (P L : Type 0) (one two : Bool → L → Option Cause) where
  abbrev Same : Bool × L → Type 0
  Same b = one b.0 b.1 ≡ two b.0 b.1

  abbrev Ring : L → Type 0
  Ring l = one true l ≡ two true l

  abbrev Agrees : Geometry P L L → Type 0
  Agrees s = AllByRecursion Same (lines_and_rings s) → drop_causes one s ≡ drop_causes two s

  holes_agree : (o : Option Cause) (hs : List L) → AllByRecursion Ring hs → map (λ h. here (inner_cause o (one true h))) hs ≡ map (λ h. here (inner_cause o (two true h))) hs
  holes_agree o [] h = refl
  holes_agree o (x ∷ hs) h = rw (h.0, holes_agree o hs h.1) refl

  area_agree : (rs : List L) → AllByRecursion Ring rs → area_drop_causes (one true) rs ≡ area_drop_causes (two true) rs
  area_agree [] h = refl
  area_agree (o ∷ hs) h = grind (arith, holes_agree (two true o) hs h.1)

  rings : (rs : List L) → AllByRecursion Same (map (λ l. (true, l)) rs) → AllByRecursion Ring rs
  rings rs h = all_of_map Same (λ l. (true, l)) rs h

  lines_agree : (ls : List L) → AllByRecursion (λ l. one false l ≡ two false l) ls → map (λ l. here (one false l)) ls ≡ map (λ l. here (two false l)) ls
  lines_agree [] h = refl
  lines_agree (l ∷ ls) h = rw (h.0, lines_agree ls h.1) refl

  at_line : (l : L) → Agrees (g.Line l)
  at_line l h = let k = subst (AllByRecursion Same) (lines_and_rings-line P L l) h in (drop_causes_at P L one).line l ∙ ap here k.0 ∙ sym ((drop_causes_at P L two).line l)

  at_lines : (ls : List L) → Agrees (g.Lines ls)
  at_lines ls h = let k = all_of_map Same (λ l. (false, l)) ls (subst (AllByRecursion Same) (lines_and_rings-lines P L ls) h) in
      (drop_causes_at P L one).lines ls ∙ ap (of_parts 0) (lines_agree ls k) ∙ sym ((drop_causes_at P L two).lines ls)

  at_area : (rs : List L) → Agrees (g.Area rs)
  at_area rs h = (drop_causes_at P L one).area rs ∙ area_agree rs (rings rs (subst (AllByRecursion Same) (lines_and_rings-area P L rs) h)) ∙ sym ((drop_causes_at P L two).area rs)

  areas_agree : (areas : List (List L)) → AllByRecursion Same (joined (map (map (λ l. (true, l))) areas)) → map (area_drop_causes (one true)) areas ≡ map (area_drop_causes (two true)) areas
  areas_agree [] h = refl
  areas_agree (rs ∷ areas) h = rw (
    area_agree rs (rings rs (all_left Same (map (λ l. (true, l)) rs) (joined (map (map (λ l. (true, l))) areas)) h)),
    areas_agree areas (all_right Same (map (λ l. (true, l)) rs) (joined (map (map (λ l. (true, l))) areas)) h),
  ) refl

  at_areas : (areas : List (List L)) → Agrees (g.Areas areas)
  at_areas areas h = (drop_causes_at P L one).areas areas ∙ ap (of_parts 0) (areas_agree areas (subst (AllByRecursion Same) (lines_and_rings-areas P L areas) h)) ∙ sym ((drop_causes_at P L two).areas areas)

  members : (ss : List (Geometry P L L)) → AllByRecursion Agrees ss → AllByRecursion Same (joined (map lines_and_rings ss)) → map (drop_causes one) ss ≡ map (drop_causes two) ss
  members [] all h = refl
  members (s ∷ ss) all h = rw (all.0 (all_left Same (lines_and_rings s) (joined (map lines_and_rings ss)) h), members ss all.1 (all_right Same (lines_and_rings s) (joined (map lines_and_rings ss)) h)) refl

  at_group : (ss : List (Geometry P L L)) → AllByRecursion Agrees ss → Agrees (g.Group ss)
  at_group ss all h = (drop_causes_at P L one).group ss ∙ ap (of_parts 0) (members ss all (subst (AllByRecursion Same) (lines_and_rings-group P L ss) h)) ∙ sym ((drop_causes_at P L two).group ss)

  pub drop_causes_agree : (s : Geometry P L L) → AllByRecursion Same (lines_and_rings s) → drop_causes one s ≡ drop_causes two s
  drop_causes_agree = grind (arith, by_kinds Agrees, drop_causes_at P L one, drop_causes_at P L two, at_line, at_lines, at_area, at_areas, at_group)

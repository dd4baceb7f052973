-- Leaving out twice is leaving out once.
use Rattle.owned_values.proofs.Elements.{all_of}
use Rattle.owned_values.proofs.Lists.{some_agree}
use Rattle.std.proofs.Common.{arith, ◌≡◌, Bool, true, false, List, [], ◌∷◌, map, Option, Some, refl, sym, ap, ◌∙◌}
use Rattle.std.specs.List.{AllByRecursion}
use Rattle.std.proofs.lemmas.Simd.{map-map}
use Rattle.geometry.specs.declared.shape.Geometry.{Geometry}
use Rattle.geometry.specs.declared.shape.Geometry.TheVariants as g
use Rattle.geometry.specs.Lists.{map_some, then_some, with_some, some_of, unless_empty}
use Rattle.geometry.specs.Pruning.{area_by, prune}
use Rattle.geometry.proofs.Cases.{prune-point, prune-points, prune-line, prune-lines, prune-area, prune-areas, prune-group}
use Rattle.geometry.proofs.Induction.{by_kinds}

with_then : {A B : Type 0} (g : A → Option B) (o : Option A) (xs : List A) → some_of g (with_some o xs) ≡ with_some (then_some g o) (some_of g xs)
with_then g o xs = grind arith

pub some_then : {A B C : Type 0} (f : A → Option B) (g : B → Option C) (xs : List A) → some_of g (some_of f xs) ≡ some_of (λ x. then_some g (f x)) xs
some_then f g [] = refl
some_then f g (x ∷ xs) = with_then g (f x) (some_of f xs) ∙ ap (with_some (then_some g (f x))) (some_then f g xs)

outer_then : {L M N : Type 0} (f : L → Option M) (g : M → Option N) (holes : List L) (o : Option M)
    → then_some (area_by g) (map_some (λ o. o ∷ some_of f holes) o) ≡ map_some (λ o. o ∷ some_of (λ l. then_some g (f l)) holes) (then_some g o)
outer_then f g holes o = grind (arith, some_then)

pub area_then : {L M N : Type 0} (f : L → Option M) (g : M → Option N) (rs : List L) → then_some (area_by g) (area_by f rs) ≡ area_by (λ l. then_some g (f l)) rs
area_then f g [] = refl
area_then f g (o ∷ holes) = outer_then f g holes (f o)

-- a function that agrees at each element
pub some_same : {A B : Type 0} (f g : A → Option B) → ((x : A) → f x ≡ g x) → (xs : List A) → some_of f xs ≡ some_of g xs
some_same f g e xs = some_agree f g xs (all_of (λ x. f x ≡ g x) xs (λ x k. e x))

module _ {P Q U L M N : Type 0} (place : P → Q) (onto : Q → U) (kept : Bool → L → Option M) (next : Bool → M → Option N) where
  abbrev pub both : Bool → L → Option N
  both closed l = then_some (next closed) (kept closed l)

  abbrev second : Geometry Q M M → Option (Geometry U N N)
  second = prune onto next

  abbrev at_once : Geometry P L L → Option (Geometry U N N)
  at_once = prune (λ p. onto (place p)) both

  abbrev Composes : Geometry P L L → Type 0
  Composes s = then_some second (prune place kept s) ≡ at_once s

  line_next : (o : Option M) → then_some second (map_some g.Line o) ≡ map_some g.Line (then_some (next false) o)
  line_next o = grind (arith, prune-line)

  lines_next : (ms : List M) → then_some second (unless_empty g.Lines ms) ≡ unless_empty g.Lines (some_of (next false) ms)
  lines_next ms = grind (arith, prune-lines)

  area_next : (o : Option (List M)) → then_some second (map_some g.Area o) ≡ map_some g.Area (then_some (area_by (next true)) o)
  area_next o = grind (arith, prune-area)

  areas_next : (mss : List (List M)) → then_some second (unless_empty g.Areas mss) ≡ unless_empty g.Areas (some_of (area_by (next true)) mss)
  areas_next mss = grind (arith, prune-areas)

  at_line : (l : L) → Composes (g.Line l)
  at_line l = ap (then_some second) (prune-line place kept l) ∙ line_next (kept false l) ∙ sym (prune-line (λ p. onto (place p)) both l)

  at_lines : (ls : List L) → Composes (g.Lines ls)
  at_lines ls = grind (arith, prune-lines, lines_next, some_then)

  at_area : (rs : List L) → Composes (g.Area rs)
  at_area rs = grind (arith, prune-area place kept rs, area_next (area_by (kept true) rs), area_then (kept true) (next true) rs, prune-area)

  at_areas : (areas : List (List L)) → Composes (g.Areas areas)
  at_areas areas = grind (arith, prune-areas, areas_next, some_then, some_same, area_then)

  members : (ss : List (Geometry P L L)) → AllByRecursion Composes ss → some_of second (some_of (prune place kept) ss) ≡ some_of at_once ss
  members [] all = refl
  members (s ∷ ss) all = with_then second (prune place kept s) (some_of (prune place kept) ss) ∙ rw (all.0, members ss all.1) refl

  at_group : (ss : List (Geometry P L L)) → AllByRecursion Composes ss → Composes (g.Group ss)
  at_group ss all = grind (arith, prune-group, members)

  at_point : (p : P) → Composes (g.Point p)
  at_point p = ap (then_some second) (prune-point place kept p) ∙ prune-point onto next (place p) ∙ sym (prune-point (λ p. onto (place p)) both p)

  at_points : (ps : List P) → Composes (g.MultiPoint ps)
  at_points ps = ap (then_some second) (prune-points place kept ps) ∙ prune-points onto next (map place ps)
      ∙ ap (λ us. Some (g.MultiPoint us)) (map-map onto place ps) ∙ sym (prune-points (λ p. onto (place p)) both ps)

  pub composed : (s : Geometry P L L) → then_some (prune onto next) (prune place kept s) ≡ prune (λ p. onto (place p)) both s
  composed = by_kinds Composes (record { point = at_point; points = at_points; line = at_line; lines = at_lines; area = at_area; areas = at_areas; group = at_group })

-- Shapes over positions, by their kinds: what is decoded, and that it is proper.
use Rattle.std.proofs.Common.{◌≡◌, ℕ, ◌≤◌, ℤ, Bool, true, false, ◌&&◌, List, [], ◌∷◌, map, length, take, Option, Some, refl, ap, sym, ◌∙◌, arith}
use Rattle.std.proofs.lemmas.List.{take_all}
use Rattle.std.specs.List.{AllByRecursion, list_all}
use Rattle.geometry.proofs.MovedShapes.{some_mapped}
use Rattle.owned_values.proofs.Lists.{made_of_some}
use Rattle.geometry.proofs.ByKind.{proper_at, proper-group}
use Rattle.geometry.specs.declared.shape.Geometry.TheVariants as g
use Rattle.geojson_types.specs.Features.{Shape, is_some_list, is_line, is_proper}
use Rattle.geometry.specs.Lists.{map_some, some_of, unless_empty}
use Rattle.geometry.specs.Points.{Point}
use Rattle.geometry.specs.Pruning.{area_by}
use Rattle.geometry.proofs.Cases.{prune-point, prune-points, prune-line, prune-lines, prune-area, prune-areas, prune-group}
use Rattle.topojson_types.specs.Decoding.{decoded_line, decoded_shape, placed_arcs}
use Rattle.topojson_types.specs.Topologies.{TopoShape, Contents}
use Rattle.topojson_types.specs.Transforms.{place}
use Rattle.topojson_types.specs.LinesAndRings.{IsLineOrRing, IsShape}
use Rattle.topojson_types.proofs.Ends.{line_is}
use Rattle.topojson_types.proofs.Standing.{points_full, line_stands, lines_stand, lines_full, area_full, areas_full}

-- ---- lists

some_map : {A B : Type 0} (f : A → B) (xs : List A) → some_of (λ x. Some (f x)) xs ≡ map f xs
some_map f [] = refl
some_map f (x ∷ xs) = ap (λ ys. f x ∷ ys) (some_map f xs)

area_map : {A B : Type 0} (f : A → B) (xs : List A) → is_some_list xs ≡ true → area_by (λ x. Some (f x)) xs ≡ Some (map f xs)
area_map f xs h = grind (arith, some_map)

areas_map : {A B : Type 0} (f : A → B) (xss : List (List A)) → list_all is_some_list xss ≡ true → some_of (area_by (λ x. Some (f x))) xss ≡ map (map f) xss
areas_map f [] h = refl
areas_map f ([] ∷ xss) h = cc
areas_map f ((x ∷ xs) ∷ xss) h = rw (some_map f xs, areas_map f xss h) refl

all_some_mapped : {A B : Type 0} (f : A → B) (xss : List (List A)) → list_all is_some_list (map (map f) xss) ≡ list_all is_some_list xss
all_some_mapped f [] = refl
all_some_mapped f (xs ∷ xss) = rw (some_mapped f xs, all_some_mapped f xss) refl

-- those that are given are what some_of leaves
all_given : {A B : Type 0} (f : A → Option B) (xs : List A) (ys : List B) → map Some ys ≡ map f xs → some_of f xs ≡ ys
all_given f [] [] h = refl
all_given f (x ∷ xs) (y ∷ ys) h = grind (arith, all_given f xs ys)
all_given f xs ys h = cc

-- ---- by kinds

module _ (t : Contents) where
  abbrev pub drawn : Bool → List ℤ → List Point
  drawn closed refs = decoded_line (placed_arcs t.transform t.arcs) closed refs

  abbrev pub shown : TopoShape → Option Shape
  shown s = decoded_shape (place t.transform) (placed_arcs t.transform t.arcs) s

  abbrev lies : Point → Point
  lies = place t.transform

  abbrev kept : Bool → List ℤ → Option (List Point)
  kept closed refs = Some (drawn closed refs)

  -- the shape is decoded to a proper one
  abbrev pub Decodes : TopoShape → Shape → Type 0
  Decodes s d = (shown s ≡ Some d) × (is_proper d ≡ true)

  lines_proper : (ls : List (List ℤ)) → AllByRecursion (λ l. IsLineOrRing t (false, l)) ls → list_all is_line (map (drawn false) ls) ≡ true
  lines_proper [] h = refl
  lines_proper (l ∷ ls) h = rw (line_is t l h.0, lines_proper ls h.1) refl

  module _ (s : TopoShape) (is : IsShape t s) where
    pub point_decodes : (c p : Point) → s ≡ g.Point c → p ≡ place t.transform c → Decodes s (g.Point p)
    point_decodes c p e made = rw (e, made) (prune-point lies kept c, proper_at.point _)

    pub points_decode : (cs ps : List Point) → s ≡ g.MultiPoint cs → ps ≡ map (place t.transform) cs → Decodes s (g.MultiPoint ps)
    points_decode cs ps e made = (
      ap shown e ∙ prune-points lies kept cs ∙ ap (λ qs. Some (g.MultiPoint qs)) (sym made),
      proper_at.points ps ∙ ap is_some_list made ∙ some_mapped lies cs ∙ points_full t s cs e is,
    )

    pub line_decodes : (refs : List ℤ) (ps : List Point) → s ≡ g.Line refs → ps ≡ drawn false refs → Decodes s (g.Line ps)
    line_decodes refs ps e made = (
      ap shown e ∙ prune-line lies kept refs ∙ ap (λ qs. Some (g.Line qs)) (sym made),
      proper_at.line ps ∙ ap is_line made ∙ line_is t refs (line_stands t s refs e is),
    )

    pub lines_decode : (ls : List (List ℤ)) (ps : List (List Point)) → s ≡ g.Lines ls → ps ≡ map (drawn false) ls → Decodes s (g.Lines ps)
    lines_decode ls ps e made =
        let some : is_some_list (map (drawn false) ls) ≡ true = some_mapped (drawn false) ls ∙ lines_full t s ls e is in (
          ap shown e ∙ prune-lines lies kept ls ∙ ap (unless_empty g.Lines) (some_map (drawn false) ls) ∙ made_of_some g.Lines (map (drawn false) ls) some ∙ ap (λ qs. Some (g.Lines qs)) (sym made),
          proper_at.lines ps ∙ ap (λ qs. is_some_list qs && list_all is_line qs) made ∙ rw (some) (lines_proper ls (lines_stand t s ls e is)),
        )

    pub area_decodes : (rs : List (List ℤ)) (ps : List (List Point)) → s ≡ g.Area rs → ps ≡ map (drawn true) rs → Decodes s (g.Area ps)
    area_decodes rs ps e made =
        let some = area_full t s rs e is in (
          ap shown e ∙ prune-area lies kept rs ∙ ap (map_some g.Area) (area_map (drawn true) rs some) ∙ ap (λ qs. Some (g.Area qs)) (sym made),
          proper_at.area ps ∙ ap is_some_list made ∙ some_mapped (drawn true) rs ∙ some,
        )

    pub areas_decode : (areas : List (List (List ℤ))) (ps : List (List (List Point))) → s ≡ g.Areas areas → ps ≡ map (map (drawn true)) areas → Decodes s (g.Areas ps)
    areas_decode areas ps e made =
        let full = areas_full t s areas e is in
        let some : is_some_list (map (map (drawn true)) areas) ≡ true = some_mapped (map (drawn true)) areas ∙ full.0 in (
          ap shown e ∙ prune-areas lies kept areas ∙ ap (unless_empty g.Areas) (areas_map (drawn true) areas full.1)
              ∙ made_of_some g.Areas (map (map (drawn true)) areas) some ∙ ap (λ qs. Some (g.Areas qs)) (sym made),
          proper_at.areas ps ∙ ap (λ qs. is_some_list qs && list_all is_some_list qs) made ∙ rw (some) (all_some_mapped (drawn true) areas ∙ full.1),
        )

  -- ---- the members of a group

  pub record SoFar (ss : List TopoShape) (i : ℕ) (ds : List Shape) : Type 0 where
    pub shown : map Some ds ≡ map shown (take i ss)
    pub proper : list_all is_proper ds ≡ true

  pub group_decodes : (s : TopoShape) (ss : List TopoShape) (i : ℕ) (ds es : List Shape) → s ≡ g.Group ss → length ss ≤ i → SoFar ss i ds → es ≡ ds → Decodes s (g.Group es)
  group_decodes s ss i ds es e h so same = grind (arith, prune-group, all_given, take_all, proper-group)

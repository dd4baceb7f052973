-- Where each line and ring is replaced and none is left out, the lines and rings are those that stand for them.
use Rattle.std.proofs.Common.{arith, ◌≡◌, Bool, true, false, List, [], ◌∷◌, ◌++◌, map, Option, Some, refl, sym, ap, ◌∙◌}
use Rattle.build_meaning.proofs.Names.{map-append, AllByRecursion, prune-point, prune-points, prune-line, prune-lines, prune-area, prune-areas, prune-group, lines_and_rings-point, lines_and_rings-points, lines_and_rings-line, lines_and_rings-lines, lines_and_rings-area, lines_and_rings-areas, lines_and_rings-group, by_kinds, map_some, with_some, some_of, unless_empty, joined, area_by, prune, lines_and_rings, option_lines_and_rings, Geometry}
use Rattle.geometry.specs.declared.shape.Geometry.TheVariants as g

module _ {P Q L M : Type 0} (place : P → Q) (f : L → M) where
  abbrev give : Bool → L → Option M
  give closed l = Some (f l)

  abbrev pub onto : Bool × L → Bool × M
  onto b = (b.0, f b.1)

  abbrev before : Geometry P L L → List (Bool × L)
  before = lines_and_rings

  abbrev within : Geometry Q M M → List (Bool × M)
  within = lines_and_rings

  abbrev after : Option (Geometry Q M M) → List (Bool × M)
  after = option_lines_and_rings

  abbrev run : Geometry P L L → Option (Geometry Q M M)
  run = prune place give

  abbrev Replaced : Geometry P L L → Type 0
  Replaced s = after (run s) ≡ map onto (before s)

  abbrev tagged : {A : Type 0} → Bool → List A → List (Bool × A)
  tagged closed ms = map (λ m. (closed, m)) ms

  -- ---- lists of lines

  some_tagged : (closed : Bool) (ls : List L) → tagged closed (some_of (give closed) ls) ≡ map onto (tagged closed ls)
  some_tagged closed [] = refl
  some_tagged closed (l ∷ ls) = ap (λ ms. (closed, f l) ∷ ms) (some_tagged closed ls)

  lines_after : (ms : List M) → after (unless_empty g.Lines ms) ≡ tagged false ms
  lines_after ms = grind (arith, lines_and_rings-lines)

  area_after : (rs : List L) → after (map_some g.Area (area_by (give true) rs)) ≡ map onto (tagged true rs)
  area_after rs = grind (arith, lines_and_rings-area, some_tagged)

  areas_after : (mss : List (List M)) → after (unless_empty g.Areas mss) ≡ joined (map (map (λ m. (true, m))) mss)
  areas_after mss = grind (arith, lines_and_rings-areas)

  some_areas : (areas : List (List L)) → joined (map (map (λ m. (true, m))) (some_of (area_by (give true)) areas)) ≡ map onto (joined (map (map (λ l. (true, l))) areas))
  some_areas [] = refl
  some_areas ([] ∷ areas) = some_areas areas
  some_areas ((o ∷ holes) ∷ areas) =
      ap (λ ms. ((true, f o) ∷ ms) ++ joined (map (map (λ m. (true, m))) (some_of (area_by (give true)) areas))) (some_tagged true holes)
      ∙ ap (λ ms. map onto (tagged true (o ∷ holes)) ++ ms) (some_areas areas)
      ∙ sym (map-append onto (tagged true (o ∷ holes)) (joined (map (map (λ l. (true, l))) areas)))

  -- ---- groups

  with_member : (o : Option (Geometry Q M M)) (ts : List (Geometry Q M M)) → joined (map within (with_some o ts)) ≡ after o ++ joined (map within ts)
  with_member o ts = grind arith

  members : (ss : List (Geometry P L L)) → AllByRecursion Replaced ss → joined (map within (some_of run ss)) ≡ map onto (joined (map before ss))
  members [] all = refl
  members (s ∷ ss) all = grind (arith, with_member, map-append, members ss all.1)

  -- ---- shapes

  pub lines_and_rings_replaced : (s : Geometry P L L) → option_lines_and_rings (prune place (λ closed l. Some (f l)) s) ≡ map (λ b. (b.0, f b.1)) (lines_and_rings s)
  lines_and_rings_replaced = by_kinds Replaced (record {
    point = λ p. ap after (prune-point place give p) ∙ lines_and_rings-point Q M (place p) ∙ sym (ap (map onto) (lines_and_rings-point P L p));
    points = λ ps. ap after (prune-points place give ps) ∙ lines_and_rings-points Q M (map place ps) ∙ sym (ap (map onto) (lines_and_rings-points P L ps));
    line = λ l. ap after (prune-line place give l) ∙ lines_and_rings-line Q M (f l) ∙ sym (ap (map onto) (lines_and_rings-line P L l));
    lines = λ ls. ap after (prune-lines place give ls) ∙ lines_after (some_of (give false) ls) ∙ some_tagged false ls ∙ sym (ap (map onto) (lines_and_rings-lines P L ls));
    area = λ rs. ap after (prune-area place give rs) ∙ area_after rs ∙ sym (ap (map onto) (lines_and_rings-area P L rs));
    areas = λ areas. ap after (prune-areas place give areas) ∙ areas_after (some_of (area_by (give true)) areas) ∙ some_areas areas ∙ sym (ap (map onto) (lines_and_rings-areas P L areas));
    group = λ ss all. ap after (prune-group place give ss) ∙ lines_and_rings-group Q M (some_of run ss) ∙ members ss all ∙ sym (ap (map onto) (lines_and_rings-group P L ss));
  })

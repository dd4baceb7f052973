-- Outlines of lines whose positions are replaced or cleaned, and of those that have enough positions.
use Rattle.std.proofs.Common.{◌≡◌, List, [], ◌∷◌, map, false, refl, ap, sym, ◌∙◌, arith}
use Rattle.std.proofs.lemmas.Simd.{map-map}
use Rattle.std.specs.List.{AllByRecursion}
use Rattle.geometry.specs.Points.{Point}
use Rattle.junctions.specs.Cleaning.{AllClean, clean}
use Rattle.junctions.specs.Gathering.{is_collapsed, without_collapsed}
use Rattle.junctions.specs.declared.stroke.Stroke.{Stroke}
use Rattle.junctions.proofs.Cleaned.{clean_is_clean}
use Rattle.linework.specs.Outlines.{IsRingIfClosed, Outline, cleaned, is_short_outline, linework_of, outline, over_positions}

pub outlines_over : (f : List Point → List Point) (ss : List Stroke) → map outline (map (over_positions f) ss) ≡ map (λ b. (b.0, f b.1)) (map outline ss)
outlines_over f ss = map-map outline (over_positions f) ss ∙ sym (map-map (λ (b : Outline). (b.0, f b.1)) outline ss)

-- ---- those with enough positions

-- they are cleaned before or after the others are left out
pub long_cleaned : (bs : List Outline) → without_collapsed (map (λ b. cleaned b.0 b.1) bs) ≡ linework_of bs
long_cleaned [] = refl
long_cleaned (b ∷ bs) = grind (arith, long_cleaned bs)

pub long_strokes : (ss : List Stroke) → without_collapsed (map (over_positions clean) ss) ≡ linework_of (map outline ss)
long_strokes ss = ap without_collapsed (sym (map-map (λ (b : Outline). cleaned b.0 b.1) outline ss)) ∙ long_cleaned (map outline ss)

-- those that have too few
pub short_cleaned : (ss : List Stroke) → map is_collapsed (map (over_positions clean) ss) ≡ map is_short_outline (map outline ss)
short_cleaned ss = map-map is_collapsed (over_positions clean) ss ∙ sym (map-map is_short_outline outline ss)

-- they are clean
pub long_clean : (bs : List Outline) → AllByRecursion IsRingIfClosed bs → AllClean (linework_of bs)
long_clean [] all = tt
long_clean (b ∷ bs) all = grind (arith, clean_is_clean, long_clean bs all.1)

-- none has too few
pub long_enough : (bs : List Outline) → AllByRecursion (λ s. is_collapsed s ≡ false) (linework_of bs)
long_enough [] = tt
long_enough (b ∷ bs) = grind (arith, long_enough bs)

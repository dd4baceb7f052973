-- Lines without repeated neighbours are clean.
use Rattle.std.proofs.Common.{◌≡◌, List, [], ◌∷◌, refl, arith}
use Rattle.std.specs.List.{dedup, dedup_from}
use Rattle.geometry.specs.Points.{Point}
use Rattle.geometry.specs.Rings.{same}
use Rattle.geometry.proofs.Points.{same_is}
use Rattle.junctions.specs.Cleaning.{clean, clean_from}
use Rattle.junctions.proofs.Cleaned.{same_sym}

from_first : (p : Point) (ps : List Point) → dedup_from same p ps ≡ clean_from p ps
from_first p [] = refl
from_first p (q ∷ ps) = grind (arith, same_sym, same_is, from_first p ps, from_first q ps)

pub dedup_is_clean : (ps : List Point) → dedup same ps ≡ clean ps
dedup_is_clean [] = refl
dedup_is_clean (p ∷ ps) = from_first p ps

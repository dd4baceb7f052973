-- Counting features that are lost.
use Rattle.std.proofs.Common.{◌≡◌, ◌<◌, ◌^◌, ◌+◌, ℕ, List, [], ◌∷◌, arith, length, sym, ◌∙◌}
use Rattle.std.proofs.Math.Nat.{min-eq_left}
use Rattle.geometry.specs.declared.address.Dropped.{Dropped}
use Rattle.topojson_types.specs.declared.object.TopoObject.{TopoObject}
use Rattle.byte_ends.specs.Ends.{saturated}
use Rattle.reports.specs.Losses.{lost_count}

-- once nothing is left to look at
pub all_counted : (objects : List (List ℕ × TopoObject)) (rest all : List Dropped) (count : ℕ) → length rest < 1 → count < 2 ^ 64
    → saturated (count + lost_count objects rest) ≡ saturated (lost_count objects all) → count ≡ saturated (lost_count objects all)
all_counted objects [] all count none few e =
    let is : saturated (count + 0) ≡ count + 0 = min-eq_left (omega (arith, few)) in
    let same : count + 0 ≡ count = omega arith in
    sym (is ∙ same) ∙ e
all_counted objects (d ∷ ds) all count none few e = absurd (omega (arith, none))

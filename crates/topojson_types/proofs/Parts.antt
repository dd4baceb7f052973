-- The parts of joined lists, and the members of a group.
use Rattle.std.proofs.Common.{◌≡◌, ℕ, zero, suc, ◌<◌, ◌≤◌, List, [], ◌∷◌, map, length, get_or, arith}
use Rattle.std.specs.List.{AllByRecursion}
use Rattle.owned_values.proofs.Elements.{all_left, all_right}
use Rattle.json_value.specs.Depth.{greatest}
use Rattle.geometry.specs.declared.shape.Geometry.TheVariants as g
use Rattle.geometry.specs.Lists.{joined}
use Rattle.geojson_types.specs.Nesting.{nesting}
use Rattle.geojson_types.proofs.Nestings.{nesting-group}
use Rattle.topojson_types.specs.Topologies.{TopoShape}

-- ---- joined lists

-- what holds of all that is joined holds of what each element gives
pub parts_all : {A B : Type 0} (X : B → Type 0) (f : A → List B) (xs : List A) → AllByRecursion X (joined (map f xs)) → AllByRecursion (λ x. AllByRecursion X (f x)) xs
parts_all X f [] h = tt
parts_all X f (x ∷ xs) h = (all_left X (f x) (joined (map f xs)) h, parts_all X f xs (all_right X (f x) (joined (map f xs)) h))

-- ---- groups

nests_below : (ss : List TopoShape) (i : ℕ) (m : TopoShape) → i < length ss → m ≡ get_or ss i m → nesting m ≤ greatest (map nesting ss)
nests_below [] i m h e = absurd (omega (arith, h))
nests_below (s ∷ ss) zero m h e = rw e (omega arith)
nests_below (s ∷ ss) (suc i) m h e = let k = nests_below ss i m (omega (arith, h)) e in omega arith

-- a member of a group nests less deep
pub member_nests : (s : TopoShape) (ss : List TopoShape) (i : ℕ) (m : TopoShape) → s ≡ g.Group ss → i < length ss → m ≡ get_or ss i m → nesting m < nesting s
member_nests s ss i m is h e = grind (arith, nests_below, nesting-group)

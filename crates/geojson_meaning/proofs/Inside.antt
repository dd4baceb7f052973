-- What is inside a value is less deep.
use Rattle.std.proofs.Common.{◌≡◌, ℕ, ◌<◌, List, [], ◌∷◌, map, Option, Some, Ok, arith}
use Rattle.geojson_meaning.proofs.Names.{AllByRecursion, array_of_is, object_of_is, IfThere, depth, greatest, array_of, object_of, Json, lookup_fault, find, need}
use Rattle.json_value.proofs.Depths.{depth-array, depth-object}
use Rattle.json_value.proofs.Parts as p
use Rattle.json_value.specs.Members as members_by

-- ---- depths

-- less deep than n
abbrev pub Shallower : ℕ → Json → Type 0
Shallower n v = depth v < n

-- the value of a member is less deep than n
abbrev pub ShallowerMember : ℕ → List ℕ × Json → Type 0
ShallowerMember n m = depth m.1 < n

under : {A : Type 0} (f : A → ℕ) (n : ℕ) (xs : List A) → greatest (map f xs) < n → AllByRecursion (λ x. f x < n) xs
under f n [] h = tt
under f n (x ∷ xs) h = (omega arith, under f n xs (omega arith))

pub array_shallower : (v : Json) (vs : List Json) → array_of v ≡ Some vs → AllByRecursion (Shallower (depth v)) vs
array_shallower v vs e = under depth (depth v) vs (rw (array_of_is v vs e, depth-array vs) (omega arith))

pub object_shallower : (v : Json) (ms : List (List ℕ × Json)) → object_of v ≡ Some ms → AllByRecursion (ShallowerMember (depth v)) ms
object_shallower v ms e = under (λ m. depth m.1) (depth v) ms (rw (object_of_is v ms e, depth-object ms) (omega arith))

pub array_deep : (v : Json) (vs : List Json) → array_of v ≡ Some vs → 0 < depth v
array_deep v vs e = rw (array_of_is v vs e, depth-array vs) (omega arith)

pub object_deep : (v : Json) (ms : List (List ℕ × Json)) → object_of v ≡ Some ms → 0 < depth v
object_deep v ms e = rw (object_of_is v ms e, depth-object ms) (omega arith)

-- ---- members that are looked up

module _ {V : Type 0} (P : V → Type 0) where
  pub find_part : (name : List ℕ) (ms : List (List ℕ × V)) (o : Option V) → find name ms ≡ Ok o → AllByRecursion (λ m. P m.1) ms → IfThere P o
  find_part name ms o e h = p.find_part P name ms o (p.given lookup_fault (members_by.find name ms) o e) h

  pub need_part : (name : List ℕ) (ms : List (List ℕ × V)) (v : V) → need name ms ≡ Ok v → AllByRecursion (λ m. P m.1) ms → P v
  need_part name ms v e h = unfold need in p.need_part P name ms v (p.given lookup_fault (members_by.need name ms) v e) h

-- What is dropped, listed part by part.
use Rattle.std.proofs.Common.{◌≡◌, ℕ, suc, ◌+◌, ◌<◌, List, [], ◌∷◌, ◌++◌, drop, length, get_or, append_assoc, refl, ap, ◌∙◌, arith}
use Rattle.std.proofs.lemmas.List.{at_drop_more, map-append}
use Rattle.geometry.specs.declared.address.Address.{Address}
use Rattle.geometry.specs.declared.address.Cause.{Cause}
use Rattle.geometry.specs.Paths.{Placed, inside_part, of_parts}
use Rattle.geometry.specs.Addresses.{part_address}
use Rattle.topo_model.specs.Places.{dropped_at}

-- ---- part by part

-- one element more of a list whose elements are listed one after the other
pub reported_more : {X Y : Type 0} (of : ℕ → X → List Y) (all : ℕ → List X → List Y) → ((i : ℕ) (x : X) (xs : List X) → all i (x ∷ xs) ≡ of i x ++ all (suc i) xs) →
    (k i : ℕ) (now new whole : List Y) (xs : List X) (x : X) → i < length xs → x ≡ get_or xs i x →
    now ++ all k (drop i xs) ≡ whole → new ≡ now ++ of k x → new ++ all (k + 1) (drop (i + 1) xs) ≡ whole
reported_more of all some k i now new whole xs x l g h e = grind (arith, append_assoc now (of k x) (all (suc k) (drop (i + 1) xs)), at_drop_more (all k) xs i x l)

inside_at : (a : Address) (i : ℕ) (os : List (Placed Cause)) → dropped_at a (inside_part i os) ≡ dropped_at (part_address a i) os
inside_at a i [] = refl
inside_at a i (o ∷ os) = grind (arith, append_assoc, inside_at a i os)

-- the first of the parts
pub first_part : (a : Address) (k : ℕ) (os : List (Placed Cause)) (more : List (List (Placed Cause))) → dropped_at a (of_parts k (os ∷ more)) ≡ dropped_at (part_address a k) os ++ dropped_at a (of_parts (suc k) more)
first_part a k os more = map-append (λ o. record { address = record { layer = a.layer; feature = a.feature; path = a.path ++ o.path }; cause = o.part }) (inside_part k os) (of_parts (suc k) more)
    ∙ ap (λ ds. ds ++ dropped_at a (of_parts (suc k) more)) (inside_at a k os)

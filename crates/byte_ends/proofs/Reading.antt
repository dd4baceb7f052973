-- What a source gave in one read after others.
use Rattle.std.proofs.Common.{◌≡◌, ℕ, ◌+◌, ◌≤◌, List, ◌++◌, length, take, Option, arith, length-append}
use Rattle.std.proofs.lemmas.List.{length-take-le}
use Rattle.std.proofs.KnownBytes.{Consumes-trans}
use Rattle.std.specs.Io.KnownBytes.{Consumes}

-- all bytes so far, and how many they are
pub one_more : (old mid new : Option (List ℕ)) (bytes buf : List ℕ) (n : ℕ) → Consumes old mid bytes → n ≤ length buf → Consumes mid new (take n buf)
    → (given : List ℕ) × Consumes old new given × (length given ≡ length bytes + n)
one_more old mid new bytes buf n had within more =
    (bytes ++ take n buf, Consumes-trans old mid new bytes (take n buf) had more, omega (arith, length-append bytes (take n buf), length-take-le n buf within))

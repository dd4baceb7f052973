-- The first bytes, looked at together.
use Rattle.std.proofs.Common.{◌≡◌, ℕ, ◌<◌, ◌≤◌, Bool, true, false, not, eqb, List, length, take, get_or, subst, arith}
use Rattle.std.specs.List.{prefix_len}
use Rattle.std.proofs.lemmas.List.{get_or-take, length-take-le}
use Rattle.std.proofs.lemmas.List.Sums.{prefix_len-le-length, prefix_len_passes}

not_so : (b : Bool) → not b ≡ true → b ≡ false
not_so b h = grind arith

module _ (bytes : List ℕ) (enough : 16 ≤ length bytes) where
  pub sixteen : length (take 16 bytes) ≡ 16
  sixteen = length-take-le 16 bytes enough

  module _ (byte n : ℕ) (counted : n ≡ prefix_len (λ x. not (eqb x byte)) (take 16 bytes)) where
    pub within : n ≤ 16
    within = omega (arith, counted, sixteen, prefix_len-le-length (λ x. not (eqb x byte)) (take 16 bytes))

    -- those before it are others
    pub other : (k : ℕ) → k < n → eqb (get_or bytes k 0) byte ≡ false
    other k lt =
        let before : k < prefix_len (λ x. not (eqb x byte)) (take 16 bytes) = omega (arith, counted, lt) in
        let prefix : k < 16 = omega (arith, lt, within) in
        not_so (eqb (get_or bytes k 0) byte) (subst (λ x. not (eqb x byte) ≡ true) (get_or-take 16 bytes k 0 prefix) (prefix_len_passes (λ x. not (eqb x byte)) (take 16 bytes) k 0 before))

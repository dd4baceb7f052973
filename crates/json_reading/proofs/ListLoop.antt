-- Lists, as the loop reads them.
use Rattle.std.proofs.Common.{◌≡◌, ◌≢◌, true, eqb, ℕ, suc, ◌-◌, ◌+◌, ◌≤◌, ◌<◌, List, [], ◌∷◌, ◌++◌, Option, Some, None, refl, sym, ◌∙◌, append_assoc, arith}
use Rattle.json_reading.specs.declared.fault.Fault.{Fault}
use Rattle.json_reading.specs.Gives.{Fails}
use Rattle.json_value.specs.Reading.{Parse, ◌>>=◌, skip, list_after, list_at}
use Rattle.json_reading.proofs.Steps.{not_equal}
use Rattle.json_reading.proofs.StringLoop.{with_prefix}

regroup : {A : Type 0} (prefix : List A) (v : A) (read : Option (List A × List ℕ)) → with_prefix prefix (read >>= λ x. Some (v ∷ x.0, x.1)) ≡ with_prefix (prefix ++ v ∷ []) read
regroup prefix v read = grind (arith, append_assoc)

module _ (A : Type 0) (close : ℕ) (value : Parse A) (prefix : List A) (n i : ℕ) (bs : List ℕ) (total : Option (List A × List ℕ)) (so_far : with_prefix prefix (list_at close value (n - i) bs) ≡ total) where
  pub fails : (e : Fault) → i < n → Fails e (value (skip bs)) → Fails e total
  fails e h k = unfold list_at in grind (arith, with_prefix)

  pub turns_over : n ≤ i → total ≡ None
  turns_over le = unfold list_at in grind (arith, with_prefix prefix)

  module _ (v : A) (after : List ℕ) (lt : i < n) (found : value (skip bs) ≡ Some (v, after)) where
    goes_by : total ≡ with_prefix prefix (list_after close (list_at close value (n - (i + 1))) v (skip after))
    goes_by = unfold list_at in
        let k : n - i ≡ suc (n - (i + 1)) = omega arith in
        let one : with_prefix prefix (list_at close value (n - i) bs) ≡ with_prefix prefix (list_after close (list_at close value (n - (i + 1))) v (skip after)) = rw (k, found) refl in
        sym so_far ∙ one

    pub at_comma : (b : ℕ) (more : List ℕ) → skip after ≡ b ∷ more → b ≡ 44 → with_prefix (prefix ++ v ∷ []) (list_at close value (n - (i + 1)) more) ≡ total
    at_comma b more h e = unfold list_after in sym (goes_by ∙ rw (h, e) (regroup prefix v (list_at close value (n - (i + 1)) more)))

    pub at_end : (b : ℕ) (more : List ℕ) → skip after ≡ b ∷ more → b ≢ 44 → eqb b close ≡ true → total ≡ Some (prefix ++ v ∷ [], more)
    at_end b more h no_comma e = unfold list_after in goes_by ∙ rw (h, not_equal b 44 no_comma, e) refl

    pub at_nothing : skip after ≡ [] → total ≡ None
    at_nothing h = unfold list_after in goes_by ∙ rw h refl

    pub at_other : (b : ℕ) (more : List ℕ) → skip after ≡ b ∷ more → b ≢ close → b ≢ 44 → total ≡ None
    at_other b more h no_end no_comma = unfold list_after in goes_by ∙ rw (h, not_equal b 44 no_comma, not_equal b close no_end) refl

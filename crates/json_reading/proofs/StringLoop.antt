-- Strings, as the loop reads them.
use Rattle.std.proofs.Common.{◌≡◌, ◌≢◌, ℕ, suc, ◌-◌, ◌+◌, ◌≤◌, ◌<◌, Bool, List, [], ◌∷◌, ◌++◌, Option, Some, None, refl, sym, ◌∙◌, append_assoc, arith}
use Rattle.std.specs.Prelude.{IsUtf8, encode_utf8}
use Rattle.std.specs.Str.{is_utf8}
use Rattle.std.proofs.lemmas.Str.{IsUtf8-from_is_utf8, is_utf8-from_IsUtf8}
use Rattle.json_reading.specs.declared.fault.Fault.{Fault}
use Rattle.json_reading.specs.Gives.{Fails}
use Rattle.json_value.specs.Reading.{◌>>=◌, plain_prefix, after_plain, escape_at, chars_after, chars_at, if_text}
use Rattle.json_reading.proofs.Steps.{not_equal}

-- what was read before, and what is still read
abbrev pub with_prefix : {A : Type 0} → List A → Option (List A × List ℕ) → Option (List A × List ℕ)
with_prefix prefix read = read >>= λ x. Some (prefix ++ x.0, x.1)

regroup : (prefix run c : List ℕ) (read : Option (List ℕ × List ℕ)) → with_prefix prefix (read >>= λ x. Some (run ++ (c ++ x.0), x.1)) ≡ with_prefix ((prefix ++ run) ++ c) read
regroup prefix run c read = grind (arith, append_assoc)

module _ (prefix : List ℕ) (n i : ℕ) (bs : List ℕ) (total : Option (List ℕ × List ℕ)) (so_far : with_prefix prefix (chars_at (n - i) bs) ≡ total) where
  pub turns_over : n ≤ i → total ≡ None
  turns_over le = unfold chars_at in grind arith

  module _ (lt : i < n) where
    goes_by : total ≡ with_prefix prefix (chars_after (chars_at (n - (i + 1))) (plain_prefix bs) (after_plain bs))
    goes_by = unfold chars_at in
        let k : n - i ≡ suc (n - (i + 1)) = omega arith in
        let one : with_prefix prefix (chars_at (n - i) bs) ≡ with_prefix prefix (chars_after (chars_at (n - (i + 1))) (plain_prefix bs) (after_plain bs)) = rw k refl in
        sym so_far ∙ one

    pub at_nothing : after_plain bs ≡ [] → total ≡ None
    at_nothing h = unfold chars_after in goes_by ∙ rw h refl

    module _ (b : ℕ) (after : List ℕ) (here : after_plain bs ≡ b ∷ after) where
      pub at_quote : b ≡ 34 → total ≡ Some (prefix ++ plain_prefix bs, after)
      at_quote e = unfold chars_after in goes_by ∙ rw (here, e) refl

      pub at_other : b ≢ 34 → b ≢ 92 → total ≡ None
      at_other q s = unfold chars_after in goes_by ∙ rw (here, not_equal b 34 q, not_equal b 92 s) refl

      pub escape_fails : b ≡ 92 → (e : Fault) → Fails e (escape_at after) → Fails e total
      escape_fails h e k = unfold chars_after in grind (arith, goes_by)

      pub at_escape : b ≡ 92 → (c : ℕ) (more : List ℕ) → escape_at after ≡ Some (c, more)
          → with_prefix ((prefix ++ plain_prefix bs) ++ encode_utf8 c) (chars_at (n - (i + 1)) more) ≡ total
      unfolding chars_after
      at_escape s c more f = sym (goes_by ∙ rw (here, s, f) (regroup prefix (plain_prefix bs) (encode_utf8 c) (chars_at (n - (i + 1)) more)))

-- ---- the text's bytes as a string

pub is_text : (t bs : List ℕ) → IsUtf8 t → if_text is_utf8 t bs ≡ Some (t, bs)
is_text t bs h = unfold if_text in rw (is_utf8-from_IsUtf8 t h) refl

no_text_by : (t bs : List ℕ) → (b : Bool) → is_utf8 t ≡ b → (IsUtf8 t → ⊥) → if_text is_utf8 t bs ≡ None
no_text_by t bs b e h = unfold if_text in grind (arith, IsUtf8-from_is_utf8)

pub no_text : (t bs : List ℕ) → (IsUtf8 t → ⊥) → if_text is_utf8 t bs ≡ None
no_text t bs h = no_text_by t bs (is_utf8 t) refl h

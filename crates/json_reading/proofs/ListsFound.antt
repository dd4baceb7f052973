-- A list is read, up to the byte that closes it.
use Rattle.std.proofs.Common.{◌≡◌, ℕ, suc, ◌<◌, ◌≤◌, true, false, eqb, List, [], ◌∷◌, ◌++◌, length, Some, None, refl, ◌∙◌, append_assoc, length-append, arith}
use Rattle.std.proofs.lemmas.Bool.{eq-eqb}
use Rattle.json_value.specs.Grammar.{is_space, IsSpace}
use Rattle.json_value.specs.Reading.{Parse, skip, after_word, list_after, list_at, closes, items_unless, items_at}
use Rattle.json_reading.proofs.Steps.{turn}
use Rattle.json_reading.proofs.Words.{skip-space}
use Rattle.json_reading.proofs.Ending.{Ends, Ends-space, is_end}
use Rattle.json_reading.proofs.SpellsList.{SpellsList, list_last, list_more}

-- Such bytes begin with no white space and not with the byte that closes, and are read, whatever follows.
pub record Again {A : Type 0} (close : ℕ) (item : Parse A) (t : List ℕ) (x : A) : Type 0 where
  pub starts : (rest : List ℕ) → skip (t ++ rest) ≡ t ++ rest
  pub opens : (rest : List ℕ) → after_word (close ∷ []) (t ++ rest) ≡ None
  pub found : (rest : List ℕ) → Ends rest → item (t ++ rest) ≡ Some (x, rest)

module _ (A : Type 0) (close : ℕ) (no_comma : eqb close 44 ≡ false) (no_space : is_space close ≡ false) (is_last : is_end close ≡ true) (item : Parse A) where
  element_again : (n : ℕ) (w t bs : List ℕ) (x : A) → IsSpace w → Again close item t x → Ends bs
      → list_at close item (suc n) (w ++ (t ++ bs)) ≡ list_after close (list_at close item n) x (skip bs)
  element_again n w t bs x hw again ends = unfold list_at in rw (skip-space w (t ++ bs) hw, again.starts bs, again.found bs ends) refl

  last_after : (more : Parse (List A)) (x : A) (u rest : List ℕ) → IsSpace u → list_after close more x (skip (u ++ (close ∷ rest))) ≡ Some (x ∷ [], rest)
  unfolding list_after skip
  last_after more x u rest h = rw (skip-space u (close ∷ rest) h, no_space, no_comma, eq-eqb close close refl) refl

  fewer : (w t u ts : List ℕ) (k : ℕ) → length (w ++ t ++ u ++ 44 ∷ ts) ≤ k → length ts < k
  fewer w t u ts k h = omega (arith, length-append (w ++ t ++ u) (44 ∷ ts))

  list_again : {ts : List ℕ} {xs : List A} → SpellsList (Again close item) ts xs → (n : ℕ) (rest : List ℕ) → length ts < n → list_at close item n (ts ++ (close ∷ rest)) ≡ Some (xs, rest)
  unfolding list_after skip
  list_again (list_last w t u {x} hw s hu) n rest h =
      let k = turn n _ h in
      rw (append_assoc, append_assoc, k.1)
      (element_again k.0 w t (u ++ (close ∷ rest)) x hw s (Ends-space u close rest hu is_last) ∙ last_after (list_at close item k.0) x u rest hu)
  list_again (list_more w t u ts {x} {xs} hw s hu more) n rest h =
      let k = turn n _ h in
      rw (append_assoc, append_assoc, append_assoc, k.1)
      (element_again k.0 w t (u ++ (44 ∷ (ts ++ (close ∷ rest)))) x hw s (Ends-space u 44 _ hu refl)
      ∙ (rw (skip-space u (44 ∷ (ts ++ (close ∷ rest))) hu, (list_again more k.0 rest (fewer w t u ts k.0 k.2))) refl))

  when_open : (bs rest : List ℕ) (xs : List A) → closes close bs ≡ None → list_at close item (length bs) bs ≡ Some (xs, rest) → items_at close item bs ≡ Some (xs, rest)
  when_open bs rest xs h again = unfold items_at items_unless in rw h again

  pub items_again : {ts : List ℕ} {xs : List A} → SpellsList (Again close item) ts xs → (rest : List ℕ) → items_at close item ((ts ++ close ∷ []) ++ rest) ≡ Some (xs, rest)
  items_again {ts} {xs} s rest = unfold closes in rw append_assoc
      (when_open (ts ++ (close ∷ rest)) rest xs (grind (arith, list_last, append_assoc, skip-space, list_more)) (list_again s (length (ts ++ (close ∷ rest))) rest (omega (arith, length-append ts (close ∷ rest)))))

  pub empty_again : (w rest : List ℕ) → IsSpace w → items_at close item ((w ++ close ∷ []) ++ rest) ≡ Some ([], rest)
  unfolding items_at items_unless closes skip after_word
  empty_again w rest h = rw (append_assoc, skip-space w (close ∷ rest) h, no_space, eq-eqb close close refl) refl

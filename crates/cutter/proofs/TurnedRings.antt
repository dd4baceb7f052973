-- A ring that is turned to another start has the same passages.
use Rattle.cutter.proofs.Names.{drop-append-le, Point, turned}
use Rattle.std.proofs.Common.{◌≡◌, ◌≢◌, ℕ, zero, suc, ◌+◌, ◌≤◌, List, [], ◌∷◌, ◌++◌, take, drop, length, append_assoc, append-nil, ap, sym, ◌∙◌, subst, arith}

module _ (Via : Point → Point → Point → Type 0) where
  -- a walk on from p to q: each two in a row differ, and each three in a row are a passage
  abbrev pub Goes : Point → Point → List Point → Type 0
  Goes p q [] = p ≢ q
  Goes p q (r ∷ ps) = (p ≢ q) × Via p q r × Goes q r ps

  abbrev pub Good : List Point → Type 0
  Good [] = Unit {0}
  Good (p ∷ []) = Unit {0}
  Good (p ∷ (q ∷ ps)) = Goes p q ps

  good_rest : (x : Point) (xs : List Point) → Good (x ∷ xs) → Good xs
  good_rest x xs h = grind arith

  pub good_drop : (k : ℕ) (xs : List Point) → Good xs → Good (drop k xs)
  good_drop zero xs h = h
  good_drop (suc k) [] h = tt
  good_drop (suc k) (x ∷ xs) h = good_drop k xs (good_rest x xs h)

  goes_left : (p q : Point) (xs ys : List Point) → Goes p q (xs ++ ys) → Goes p q xs
  goes_left p q [] [] h = h
  goes_left p q [] (y ∷ ys) h = h.0
  goes_left p q (x ∷ xs) ys h = (h.0, h.1, goes_left q x xs ys h.2)

  pub good_left : (xs ys : List Point) → Good (xs ++ ys) → Good xs
  good_left xs ys h = grind (arith, goes_left)

  goes_take : (p q : Point) (k : ℕ) (ps : List Point) → Goes p q ps → Goes p q (take k ps)
  goes_take p q zero [] h = h
  goes_take p q zero (r ∷ ps) h = h.0
  goes_take p q (suc k) [] h = h
  goes_take p q (suc k) (r ∷ ps) h = (h.0, h.1, goes_take q r k ps h.2)

  goes_on : (p q : Point) (xs : List Point) (a b : Point) (ys : List Point) → Goes p q (xs ++ (a ∷ (b ∷ []))) → Goes a b ys → Goes p q (xs ++ (a ∷ (b ∷ ys)))
  goes_on p q [] a b ys h k = (h.0, h.1, (h.2.0, h.2.1, k))
  goes_on p q (x ∷ xs) a b ys h k = (h.0, h.1, goes_on q x xs a b ys h.2 k)

  pub good_on : (xs : List Point) (a b : Point) (ys : List Point) → Good (xs ++ (a ∷ (b ∷ []))) → Goes a b ys → Good (xs ++ (a ∷ (b ∷ ys)))
  good_on [] a b ys h k = k
  good_on (x ∷ []) a b ys h k = (h.0, h.1, k)
  good_on (x ∷ (y ∷ xs)) a b ys h k = goes_on x y xs a b ys h k

  -- the ring a, b, .. is xs with a at its end
  pub turned_good : (k : ℕ) (a b : Point) (ws xs : List Point) → a ∷ (b ∷ ws) ≡ xs ++ (a ∷ []) → k ≤ length xs → Good ((a ∷ (b ∷ ws)) ++ (b ∷ [])) → Good (turned k (a ∷ (b ∷ ws)))
  turned_good zero a b ws xs e l h = subst (λ zs. Good zs) (sym (append-nil (a ∷ (b ∷ ws)))) (good_left (a ∷ (b ∷ ws)) (b ∷ []) h)
  turned_good (suc j) a b ws xs e l h =
      let n : suc j + 1 ≡ suc (suc j) = omega arith in
      let whole : (a ∷ (b ∷ ws)) ++ (b ∷ []) ≡ xs ++ (a ∷ (b ∷ [])) = ap (λ zs. zs ++ (b ∷ [])) e ∙ append_assoc xs (a ∷ []) (b ∷ []) in
      let back : Good (drop (suc j) xs ++ (a ∷ (b ∷ []))) = subst (λ zs. Good zs) (drop-append-le (suc j) xs (a ∷ (b ∷ [])) l) (good_drop (suc j) (xs ++ (a ∷ (b ∷ []))) (subst (λ zs. Good zs) whole h)) in
      let all_but_last : Goes a b (take j ws) = goes_take a b j ws (good_left (a ∷ (b ∷ ws)) (b ∷ []) h) in
      let shape : turned (suc j) (a ∷ (b ∷ ws)) ≡ drop (suc j) xs ++ (a ∷ (b ∷ take j ws)) =
      ap (λ m. drop (suc j) (a ∷ (b ∷ ws)) ++ drop 1 (take m (a ∷ (b ∷ ws)))) n
      ∙ ap (λ zs. drop (suc j) zs ++ (b ∷ take j ws)) e
      ∙ ap (λ zs. zs ++ (b ∷ take j ws)) (drop-append-le (suc j) xs (a ∷ []) l)
      ∙ append_assoc (drop (suc j) xs) (a ∷ []) (b ∷ take j ws) in
      subst (λ zs. Good zs) (sym shape) (good_on (drop (suc j) xs) a b (take j ws) back all_but_last)

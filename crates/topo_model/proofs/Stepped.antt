-- Loops that replace each element of a list in place, each by what a state makes of it that goes on from element to element.
use Rattle.std.proofs.Common.{◌≡◌, ℕ, suc, ◌+◌, ◌<◌, ◌≤◌, List, [], ◌∷◌, ◌++◌, length, take, drop, get_or, set, append_assoc, append-nil, drop-cons, refl, sym, ap, ◌∙◌, arith}
use Rattle.std.proofs.Math.Seq.{take-suc-set}
use Rattle.std.proofs.lemmas.List.{drop_all, drop-set-lt, length-set, take_all}

module _ {S X : Type 0} (of : S → X → X) (next : S → X → S) where
  -- the elements, each replaced
  abbrev pub all : S → List X → List X
  all s [] = []
  all s (x ∷ xs) = of s x ∷ all (next s x) xs

  -- the state after them
  abbrev pub after : S → List X → S
  after s [] = s
  after s (x ∷ xs) = after (next s x) xs

  -- the elements before the index are replaced, and those from it on still have to be
  pub record Stepped (first : S) (xs : List X) (s : S) (i : ℕ) (ys : List X) : Type 0 where
    pub made : take i ys ++ all s (drop i ys) ≡ all first xs
    pub state : after s (drop i ys) ≡ after first xs
    pub long : length ys ≡ length xs

  pub starts : (s : S) (xs : List X) → Stepped s xs s 0 xs
  starts s xs = record { made = refl; state = refl; long = refl }

  pub turns : (first : S) (xs : List X) (s t : S) (i : ℕ) (ys : List X) (x y : X) → i < length xs → Stepped first xs s i ys → y ≡ of s (get_or ys i x) → t ≡ next s (get_or ys i x) → Stepped first xs t (i + 1) (set ys i y)
  turns first xs s t i ys x y h so is to =
      let within : i < length ys = omega (arith, so.long) in
      let rest : drop (suc i) (set ys i y) ≡ drop (suc i) ys = drop-set-lt (suc i) ys i y (omega arith) in
      let here : drop i ys ≡ get_or ys i x ∷ drop (suc i) ys = drop-cons ys i x within in
      let on : i + 1 ≡ suc i = omega arith in
      rw on (record {
        made = ap (λ zs. take (suc i) (set ys i y) ++ all t zs) rest ∙ ap (λ zs. zs ++ all t (drop (suc i) ys)) (take-suc-set ys i y within) ∙ append_assoc (take i ys) (y ∷ []) (all t (drop (suc i) ys))
            ∙ ap (λ z. take i ys ++ (z ∷ all t (drop (suc i) ys))) is ∙ ap (λ u. take i ys ++ (of s (get_or ys i x) ∷ all u (drop (suc i) ys))) to
            ∙ sym (ap (λ zs. take i ys ++ all s zs) here) ∙ so.made;
        state = ap (after t) rest ∙ ap (λ u. after u (drop (suc i) ys)) to ∙ sym (ap (after s) here) ∙ so.state;
        long = length-set ys i y ∙ so.long;
      })

  pub ends : (first : S) (xs : List X) (s : S) (i : ℕ) (ys : List X) → length xs ≤ i → Stepped first xs s i ys → (ys ≡ all first xs) × (s ≡ after first xs)
  ends first xs s i ys h so =
      let past : length ys ≤ i = omega (arith, so.long) in
      let none : drop i ys ≡ [] = drop_all i ys past in
      (sym (append-nil ys) ∙ ap (λ zs. zs ++ []) (sym (take_all i ys past)) ∙ sym (ap (λ zs. take i ys ++ all s zs) none) ∙ so.made, sym (ap (after s) none) ∙ so.state)

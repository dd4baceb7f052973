-- The greatest threshold at which a share stays.
use Rattle.std.proofs.Common.{◌≡◌, ℕ, zero, suc, ◌+◌, ◌-◌, ◌*◌, ◌<◌, ◌≤◌, max, Bool, true, false, cond, leb, List, [], ◌∷◌, length, get_or, take, drop, refl, ap, sym, ◌∙◌, subst, arith, ◌⊎◌, inl, inr}
use Rattle.std.specs.List.{filter, AllByRecursion, Contains, count_by}
use Rattle.std.specs.List.Sorted.{IsNonDecreasing, IsPermutation}
use Rattle.std.proofs.lemmas.Bool.{le-leb, lt-leb, leb-true, cases_lt}
use Rattle.std.proofs.lemmas.List.{length-drop, length-take, get_or-take, get_or-drop, get_or_default}
use Rattle.std.proofs.lemmas.List.Elements.{recursion_from_All, Contains-append_right, Contains-get_or}
use Rattle.std.proofs.lemmas.List.Sums.{sum_by-cons, sum_by-take-drop, count_by-le-length}
use Rattle.std.proofs.lemmas.List.Sorted.{length_permutation, sum_by-IsPermutation, IsPermutation-sym, All-permutation, Contains-permutation}
use Rattle.std.proofs.lemmas.Nat.{mul-le}
use Rattle.effective_area.specs.Shares.{IsGreatestShare, ShareIsGreatest, count_kept, greatest, keeps_share, share}

-- ---- the greatest that passes a test

abbrev Known : (ℕ → Bool) → List ℕ → ℕ → Type 0
Known f ws t = (t ≡ 0) ⊎ (Contains ws t × (f t ≡ true))

following : (f : ℕ → Bool) (w : ℕ) (ws : List ℕ) (t : ℕ) → Known f ws t → Known f (w ∷ ws) t
following f w ws t (inl e) = inl e
following f w ws t (inr k) = inr (Contains-append_right (w ∷ []) ws t k.0, k.1)

here : (f : ℕ → Bool) (w : ℕ) (ws : List ℕ) → f w ≡ true → Known f (w ∷ ws) w
here f w ws e = inr (Contains-get_or (w ∷ ws) 0 w (omega arith), e)

larger : (f : ℕ → Bool) (ws : List ℕ) (m n : ℕ) → Known f ws m → Known f ws n → Known f ws (max m n)
larger f ws m n h k = on (cases_lt m n)
  where
    on : (m < n) ⊎ (n ≤ m) → Known f ws (max m n)
    on (inl l) = let e : n ≡ max m n = omega arith in subst (λ t. Known f ws t) e k
    on (inr l) = let e : m ≡ max m n = omega arith in subst (λ t. Known f ws t) e h

known_of : (f : ℕ → Bool) (ws : List ℕ) → Known f ws (greatest (filter f ws))
known_of f [] = inl refl
known_of f (w ∷ ws) = on (f w) refl (known_of f ws)
  where
    on : (b : Bool) → f w ≡ b → Known f ws (greatest (filter f ws)) → Known f (w ∷ ws) (greatest (cond (f w) (w ∷ filter f ws) (filter f ws)))
    on true e ih = subst (λ b. Known f (w ∷ ws) (greatest (cond b (w ∷ filter f ws) (filter f ws)))) (sym e)
        (larger f (w ∷ ws) w (greatest (filter f ws)) (here f w ws e) (following f w ws (greatest (filter f ws)) ih))
    on false e ih = subst (λ b. Known f (w ∷ ws) (greatest (cond b (w ∷ filter f ws) (filter f ws)))) (sym e) (following f w ws (greatest (filter f ws)) ih)

under_first : (b : Bool) (n w : ℕ) (ns : List ℕ) → n ≤ greatest ns → n ≤ greatest (cond b (w ∷ ns) ns)
under_first true n w ns h = omega arith
under_first false n w ns h = h

most_at : (f : ℕ → Bool) (ws : List ℕ) (k d : ℕ) → k < length ws → f (get_or ws k d) ≡ true → get_or ws k d ≤ greatest (filter f ws)
most_at f [] k d h e = absurd (omega arith)
most_at f (w ∷ ws) zero d h e = let l : w ≤ max w (greatest (filter f ws)) = omega arith in subst (λ b. w ≤ greatest (cond b (w ∷ filter f ws) (filter f ws))) (sym e) l
most_at f (w ∷ ws) (suc k) d h e = under_first (f w) (get_or ws k d) w (filter f ws) (most_at f ws k d (omega arith) e)

-- ---- counts

pub count_cons : (p : ℕ → Bool) (x : ℕ) (xs : List ℕ) → count_by p (x ∷ xs) ≡ cond (p x) 1 0 + count_by p xs
count_cons p x xs = sum_by-cons (λ y. cond (p y) 1 0) x xs

count_all : (p : ℕ → Bool) (xs : List ℕ) → AllByRecursion (λ x. p x ≡ true) xs → count_by p xs ≡ length xs
count_all p [] h = refl
count_all p (x ∷ xs) h = count_cons p x xs ∙ ap (λ b. cond b 1 0 + count_by p xs) h.0 ∙ omega (arith, count_all p xs h.1)

count_none : (p : ℕ → Bool) (xs : List ℕ) → AllByRecursion (λ x. p x ≡ false) xs → count_by p xs ≡ 0
count_none p [] h = refl
count_none p (x ∷ xs) h = count_cons p x xs ∙ ap (λ b. cond b 1 0 + count_by p xs) h.0 ∙ omega (arith, count_none p xs h.1)

count_zero : (ws : List ℕ) → count_kept 0 ws ≡ length ws
count_zero ws = count_all (λ w. leb 0 w) ws (recursion_from_All (λ w. leb 0 w ≡ true) ws (λ k d h. le-leb 0 (get_or ws k d) (omega arith)))

split_count : (p : ℕ → Bool) (xs : List ℕ) (i : ℕ) → count_by p (take i xs) + count_by p (drop i xs) ≡ count_by p xs
split_count p xs i = sum_by-take-drop (λ x. cond (p x) 1 0) xs i

-- ---- the definition

zero_keeps : (p q : ℕ) (ws : List ℕ) → p ≤ q → p * length ws ≤ q * count_kept 0 ws
zero_keeps p q ws h = subst (λ n. p * length ws ≤ q * n) (sym (count_zero ws)) (mul-le p (length ws) q (length ws) h (omega arith))

abbrev best : ℕ → ℕ → List ℕ → ℕ
best p q ws = greatest (filter (keeps_share p q ws) (0 ∷ ws))

pub share_is_greatest : ShareIsGreatest
unfolding share
share_is_greatest p q ws h = record {
  known = known;
  keeps = keeps (known_of (keeps_share p q ws) (0 ∷ ws));
  fewer_over = λ k d l over. on k d l over (cases_lt (q * count_kept (get_or ws k d) ws) (p * length ws));
}
  where
    zero_passes : keeps_share p q ws 0 ≡ true
    zero_passes = le-leb (p * length ws) (q * count_kept 0 ws) (zero_keeps p q ws h)

    among : best p q ws ≡ greatest (filter (keeps_share p q ws) ws)
    among = ap (λ b. greatest (cond b (0 ∷ filter (keeps_share p q ws) ws) (filter (keeps_share p q ws) ws))) zero_passes ∙ omega arith

    member : (n : ℕ) → Known (keeps_share p q ws) ws n → (n ≡ 0) ⊎ Contains ws n
    member n (inl e) = inl e
    member n (inr k) = inr k.0

    known : (best p q ws ≡ 0) ⊎ Contains ws (best p q ws)
    known = subst (λ n. (n ≡ 0) ⊎ Contains ws n) (sym among) (member (greatest (filter (keeps_share p q ws) ws)) (known_of (keeps_share p q ws) ws))

    keeps : Known (keeps_share p q ws) (0 ∷ ws) (best p q ws) → p * length ws ≤ q * count_kept (best p q ws) ws
    keeps (inl e) = subst (λ n. p * length ws ≤ q * count_kept n ws) (sym e) (zero_keeps p q ws h)
    keeps (inr k) = leb-true (p * length ws) (q * count_kept (best p q ws) ws) k.1

    on : (k d : ℕ) → k < length ws → best p q ws < get_or ws k d → (q * count_kept (get_or ws k d) ws < p * length ws) ⊎ (p * length ws ≤ q * count_kept (get_or ws k d) ws) → q * count_kept (get_or ws k d) ws < p * length ws
    on k d l over (inl less) = less
    on k d l over (inr more) =
        let m = most_at (keeps_share p q ws) ws k d l (le-leb (p * length ws) (q * count_kept (get_or ws k d) ws) more) in
        absurd (omega (arith, m, over, among))

zero_alone : (b : Bool) → 0 ≡ greatest (cond b (0 ∷ []) [])
zero_alone true = refl
zero_alone false = refl

pub share_of_none : (p q : ℕ) (ws : List ℕ) → length ws ≡ 0 → 0 ≡ share p q ws
unfolding share
share_of_none p q [] e = zero_alone (keeps_share p q [] 0)
share_of_none p q (w ∷ ws) e = absurd (omega arith)

-- ---- there is one alone

none_over : (p q : ℕ) (ws : List ℕ) (s t : ℕ) → IsGreatestShare p q ws s → IsGreatestShare p q ws t → s ≤ t
none_over p q ws s t g h = on (cases_lt t s) g.known
  where
    on : (t < s) ⊎ (s ≤ t) → (s ≡ 0) ⊎ Contains ws s → s ≤ t
    on (inr l) k = l
    on (inl l) (inl e) = omega arith
    on (inl l) (inr k) =
        let P : ℕ → Type 0 = λ w. t < w → q * count_kept w ws < p * length ws in
        let less : q * count_kept s ws < p * length ws = subst P k.2 (h.fewer_over k.0 s k.1) l in
        absurd (omega (arith, less, g.keeps))

pub share_is : (p q : ℕ) (ws : List ℕ) (t : ℕ) → p ≤ q → IsGreatestShare p q ws t → t ≡ share p q ws
share_is p q ws t h g =
    let s = share_is_greatest p q ws h in
    omega (arith, none_over p q ws t (share p q ws) g s, none_over p q ws (share p q ws) t s g)

-- ---- in any order

moved : (p q : ℕ) (xs ys : List ℕ) (t : ℕ) → IsPermutation xs ys → IsGreatestShare p q ys t → IsGreatestShare p q xs t
moved p q xs ys t h g = record {
  known = known g.known;
  keeps = rw (← many, ← same t) g.keeps;
  fewer_over = λ k d l over. rw (← many, ← same (get_or xs k d)) (All-permutation (λ w. t < w → q * count_kept w ys < p * length ys) ys xs back g.fewer_over k d l over);
}
  where
    back : IsPermutation ys xs
    back = IsPermutation-sym xs ys h

    many : length ys ≡ length xs
    many = length_permutation xs ys h

    same : (n : ℕ) → count_kept n ys ≡ count_kept n xs
    same n = sum_by-IsPermutation (λ w. cond (leb n w) 1 0) xs ys h

    known : (t ≡ 0) ⊎ Contains ys t → (t ≡ 0) ⊎ Contains xs t
    known (inl e) = inl e
    known (inr k) = inr (Contains-permutation ys xs t back k)

pub share_moved : (p q : ℕ) (xs ys : List ℕ) → p ≤ q → IsPermutation xs ys → share p q ys ≡ share p q xs
share_moved p q xs ys h m = share_is p q xs (share p q ys) h (moved p q xs ys (share p q ys) m (share_is_greatest p q ys h))

-- ---- of rising weights

module _ (xs : List ℕ) (rising : IsNonDecreasing xs) where
  rises : (i j d : ℕ) → i ≤ j → j < length xs → get_or xs i 0 ≤ get_or xs j d
  rises i j d h l = omega (arith, rising i j d h l, get_or_default xs i 0 d (omega arith))

  at_least : (i : ℕ) → i < length xs → length xs - i ≤ count_kept (get_or xs i 0) xs
  at_least i h = omega (arith, split_count (λ w. leb (get_or xs i 0) w) xs i, count_all (λ w. leb (get_or xs i 0) w) (drop i xs) all, length-drop i xs)
    where
      all : AllByRecursion (λ w. leb (get_or xs i 0) w ≡ true) (drop i xs)
      all = recursion_from_All (λ w. leb (get_or xs i 0) w ≡ true) (drop i xs)
          (λ k d l. le-leb (get_or xs i 0) (get_or (drop i xs) k d) (omega (arith, rises i (i + k) d (omega arith) (omega (arith, l, length-drop i xs)), get_or-drop i xs k d)))

  at_most : (i w : ℕ) → i < length xs → get_or xs i 0 < w → count_kept w xs + i < length xs
  at_most i w h over = omega (arith, split_count (λ v. leb w v) xs (i + 1), count_none (λ v. leb w v) (take (i + 1) xs) none, count_by-le-length (λ v. leb w v) (drop (i + 1) xs), length-drop (i + 1) xs)
    where
      under : (k d : ℕ) → k < length (take (i + 1) xs) → get_or (take (i + 1) xs) k d < w
      under k d l = omega (arith, rises k i 0 (omega (arith, l, length-take (i + 1) xs)) h, get_or-take (i + 1) xs k d (omega (arith, l, length-take (i + 1) xs)), get_or_default xs k d 0 (omega (arith, l, length-take (i + 1) xs)))

      none : AllByRecursion (λ v. leb w v ≡ false) (take (i + 1) xs)
      none = recursion_from_All (λ v. leb w v ≡ false) (take (i + 1) xs) (λ k d l. lt-leb w (get_or (take (i + 1) xs) k d) (under k d l))

  module _ (p q least : ℕ) (some : 0 < length xs) (within : least ≤ length xs) (enough : p * length xs ≤ q * least) (fewest : (n : ℕ) → p * length xs ≤ q * n → least ≤ n) where
    abbrev at : ℕ
    at = length xs - max least 1

    inside : at < length xs
    inside = omega arith

    abbrev threshold : ℕ
    threshold = get_or xs at 0

    kept : q * least ≤ q * count_kept threshold xs
    kept = mul-le q least q (count_kept threshold xs) (omega arith) (omega (arith, at_least at inside))

    few : (k d : ℕ) → k < length xs → threshold < get_or xs k d → p * length xs ≤ q * count_kept (get_or xs k d) xs → ⊥
    few k d l over more =
        let one : length xs - k ≤ count_kept (get_or xs k d) xs = subst (λ w. length xs - k ≤ count_kept w xs) (get_or_default xs k 0 d l) (at_least k l) in
        let m = at_most at (get_or xs k d) inside over in
        omega (arith, one, m, fewest (count_kept (get_or xs k d) xs) more)

    on : (k d : ℕ) → k < length xs → threshold < get_or xs k d → (q * count_kept (get_or xs k d) xs < p * length xs) ⊎ (p * length xs ≤ q * count_kept (get_or xs k d) xs) → q * count_kept (get_or xs k d) xs < p * length xs
    on k d l over (inl less) = less
    on k d l over (inr more) = absurd (few k d l over more)

    rising_greatest : IsGreatestShare p q xs threshold
    rising_greatest = record {
      known = inr (Contains-get_or xs at 0 inside);
      keeps = omega (arith, enough, kept);
      fewer_over = λ k d l over. on k d l over (cases_lt (q * count_kept (get_or xs k d) xs) (p * length xs));
    }

    pub rising_share : p ≤ q → get_or xs (length xs - max least 1) 0 ≡ share p q xs
    rising_share h = share_is p q xs threshold h rising_greatest

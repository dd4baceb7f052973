-- Entries in two places: those that are sorted, the first of them last, and those on a heap.
use Rattle.std.proofs.Common.{◌≡◌, ℕ, zero, suc, ◌+◌, ◌-◌, ◌<◌, Bool, true, false, List, [], ◌∷◌, ◌++◌, append_assoc, length, get_or, refl, ap, sym, ◌∙◌, subst, arith, ◌⊎◌, inl, inr, Option, Some, None, IfSome}
use Rattle.std.specs.Option.{option_to_list}
use Rattle.std.specs.BinaryHeap.{IsUpperBound}
use Rattle.std.specs.Cmp.{IsTotalOrder, IsStrictWeakOrder}
use Rattle.std.specs.List.{Contains, AllByRecursion}
use Rattle.std.specs.List.Sorted.{IsPermutation, IsSorted}
use Rattle.std.specs.Ordering.{is_lt}
use Rattle.std.proofs.lemmas.Cmp.{on_total, back_total}
use Rattle.std.proofs.lemmas.List.{get_or_default, get_or_append_left, get_or_push, length-append}
use Rattle.std.proofs.lemmas.List.Elements.{All-contains, All-from_recursion, Contains-append_left, Contains-append_right, Contains-append_cases}
use Rattle.std.proofs.lemmas.List.MinMax.{ranks_by}
use Rattle.std.proofs.lemmas.List.Sorted.{IsPermutation-append_right, IsPermutation-middle, IsPermutation-trans}
use Rattle.owned_values.proofs.Elements.{all_weaker, all_append}
use Rattle.geometry.specs.Points.{Point}
use Rattle.elimination_meaning.proofs.Order.{corner_total}
use Rattle.effective_area.specs.Links.{GoesFirst, IsUnder, PushedFirst, entry_corner, entry_in, queue_cmp}
use Rattle.effective_area.specs.declared.links.Link.{Link}
use Rattle.effective_area.specs.declared.entry.Entry.{Entry}

-- ---- entries that move

each_place : {X : Type 0} (P : X → Type 0) (xs : List X) → ((j : ℕ) (d : X) → j < length xs → P (get_or xs j d)) → AllByRecursion P xs
each_place P [] f = tt
each_place P (x ∷ xs) f = (f 0 x (omega arith), each_place P xs (λ j d h. f (suc j) d (omega (arith, h))))

pub some_also : {X : Type 0} (P Q : X → Type 0) (r : Option X) → ((x : X) → P x → Q x) → IfSome r P → IfSome r Q
some_also P Q None f h = h
some_also P Q (Some x) f h = f x h

pub off_heap : (xs ys ys' : List Entry) (e : Entry) → IsPermutation ys (e ∷ ys') → IsPermutation (xs ++ ys) (e ∷ (xs ++ ys'))
off_heap xs ys ys' e p = IsPermutation-trans (xs ++ ys) (xs ++ (e ∷ ys')) (e ∷ (xs ++ ys')) (IsPermutation-append_right xs ys (e ∷ ys') p) (IsPermutation-middle xs e ys')

pub off_sorted : (xs xs' ys : List Entry) (e : Entry) → xs ≡ xs' ++ (e ∷ []) → IsPermutation (xs ++ ys) (e ∷ (xs' ++ ys))
off_sorted xs xs' ys e p = subst (λ l. IsPermutation l (e ∷ (xs' ++ ys))) (sym (ap (λ l. l ++ ys) p ∙ append_assoc xs' (e ∷ []) ys)) (IsPermutation-middle xs' e ys)

-- what `pop` of a `Vec` leaves
pub popped : (r : Option Entry) (xs xs' ys : List Entry) → xs ≡ xs' ++ option_to_list r → IfSome r (λ e. IsPermutation (xs ++ ys) (e ∷ (xs' ++ ys)))
popped None xs xs' ys p = tt
popped (Some e) xs xs' ys p = off_sorted xs xs' ys e p

-- ---- the order of entries

module _ (ps : List Point) where
  abbrev pub under : Entry → Entry → Bool
  under x y = is_lt (queue_cmp ps x y)

  pub queue_total : IsTotalOrder (queue_cmp ps)
  queue_total = back_total (on_total (entry_corner ps) corner_total)

  pub queue_order : IsStrictWeakOrder under
  queue_order = ranks_by queue_total (λ c. c)

  never_under : (x : Entry) → under x x ≡ false
  never_under x = on (under x x) refl
    where
      on : (b : Bool) → under x x ≡ b → under x x ≡ false
      on true e = queue_order.one_way x x e
      on false e = e

  -- ---- the last of a sorted list

  sorted_far : (xs : List Entry) → IsSorted (queue_cmp ps) xs → (i k : ℕ) (d : Entry) → i + k < length xs → under (get_or xs (i + k) d) (get_or xs i d) ≡ false
  sorted_far xs s i zero d h = let z : i + 0 ≡ i = omega arith in ap (λ n. under (get_or xs n d) (get_or xs i d)) z ∙ never_under (get_or xs i d)
  sorted_far xs s i (suc k) d h =
      let z : i + k + 1 ≡ i + suc k = omega arith in
      queue_order.chain (get_or xs (i + suc k) d) (get_or xs (i + k) d) (get_or xs i d)
      (ap (λ n. under (get_or xs n d) (get_or xs (i + k) d)) (sym z) ∙ s (i + k) d (omega arith) (omega (arith, h)))
      (sorted_far xs s i k d (omega (arith, h)))

  last_bound : (xs : List Entry) (x : Entry) → IsSorted (queue_cmp ps) xs → 0 < length xs → x ≡ get_or xs (length xs - 1) x → IsUpperBound (queue_cmp ps) x xs
  last_bound xs x s n e = each_place (λ y. under x y ≡ false) xs (λ j d h.
      let z : j + (length xs - 1 - j) ≡ length xs - 1 = omega (arith, h) in
      let far = sorted_far xs s j (length xs - 1 - j) d (omega (arith, h)) in
      let ex : x ≡ get_or xs (length xs - 1) d = e ∙ get_or_default xs (length xs - 1) x d (omega (arith, n)) in
      ap (λ y. under y (get_or xs j d)) (ex ∙ ap (λ m. get_or xs m d) (sym z)) ∙ far)

  last_of_sorted : (xs : List Entry) (x : Entry) → IsSorted (queue_cmp ps) (xs ++ (x ∷ [])) → IsUpperBound (queue_cmp ps) x (xs ++ (x ∷ []))
  last_of_sorted xs x s =
      let n : length (xs ++ (x ∷ [])) ≡ length xs + 1 = length-append xs (x ∷ []) in
      let z : length (xs ++ (x ∷ [])) - 1 ≡ length xs = omega (arith, n) in
      last_bound (xs ++ (x ∷ [])) x s (omega (arith, n)) (sym (ap (λ m. get_or (xs ++ (x ∷ [])) m x) z ∙ get_or_push xs x x (length xs) refl))

  pub prefix_sorted : (xs ys : List Entry) → IsSorted (queue_cmp ps) (xs ++ ys) → IsSorted (queue_cmp ps) xs
  prefix_sorted xs ys s = λ k d l h.
      let n : length (xs ++ ys) ≡ length xs + length ys = length-append xs ys in
      ap (λ y. under y (get_or xs k d)) (sym (get_or_append_left xs ys d (k + 1) (omega (arith, h))))
      ∙ ap (λ y. under (get_or (xs ++ ys) (k + 1) d) y) (sym (get_or_append_left xs ys d k (omega (arith, h))))
      ∙ s k d l (omega (arith, h, n))

  -- ---- which of the two goes first

  bound_at : (e : Entry) (xs : List Entry) (x : Entry) → IsUpperBound (queue_cmp ps) e xs → Contains xs x → under e x ≡ false
  bound_at e xs x u m = All-contains (λ y. under e y ≡ false) xs x (All-from_recursion (λ y. under e y ≡ false) xs u) m

  nothing_in : (xs : List Entry) (x : Entry) → Contains xs x → xs ≡ [] → ⊥
  nothing_in xs x m e = let k : Contains [] x = subst (λ (l : List Entry). Contains l x) e m in absurd (omega (arith, k.1))

  pub goes_first : (xs ys : List Entry) (x y : Entry) → Contains xs x → IsUpperBound (queue_cmp ps) y ys → under x y ≡ false → GoesFirst ps xs ys
  goes_first xs ys x y m u h = (
    λ e b. all_weaker (λ z. under y z ≡ false) (λ z. under e z ≡ false) (λ z k. queue_order.chain e y z (queue_order.chain e x y (bound_at e xs x b m) h) k) ys u,
    λ e. absurd (nothing_in xs x m e),
  )

  -- the top of the heap and the last of those that are sorted, compared
  pub top_first : (xs ys : List Entry) (next top : Entry) → IsSorted (queue_cmp ps) xs → 0 < length xs → next ≡ get_or xs (length xs - 1) next →
      Contains ys top → under next top ≡ true → GoesFirst ps ys xs
  top_first xs ys next top s n e m h = goes_first ys xs top next m (last_bound xs next s n e) (queue_order.one_way next top h)

  pub next_first : (xs ys : List Entry) (next top : Entry) → 0 < length xs → next ≡ get_or xs (length xs - 1) next →
      IsUpperBound (queue_cmp ps) top ys → under next top ≡ false → GoesFirst ps xs ys
  next_first xs ys next top n e u h = goes_first xs ys next top (length xs - 1, omega (arith, n), sym e) u h

  -- ---- one is removed

  pub first_on_heap : (xs ys : List Entry) (e : Entry) → GoesFirst ps ys xs → IsUpperBound (queue_cmp ps) e ys → IsUpperBound (queue_cmp ps) e (xs ++ ys)
  first_on_heap xs ys e g u = all_append (λ y. under e y ≡ false) xs ys (g.0 e u) u

  pub first_of_sorted : (xs xs' ys : List Entry) (e : Entry) → IsSorted (queue_cmp ps) xs → xs ≡ xs' ++ (e ∷ []) → GoesFirst ps xs ys → IsUpperBound (queue_cmp ps) e (xs ++ ys)
  first_of_sorted xs xs' ys e s p g = grind (arith, last_of_sorted, all_append)

  pub popped_first : (r : Option Entry) (xs xs' ys : List Entry) → IsSorted (queue_cmp ps) xs → xs ≡ xs' ++ option_to_list r → GoesFirst ps xs ys → IfSome r (λ e. IsUpperBound (queue_cmp ps) e (xs ++ ys))
  popped_first None xs xs' ys s p g = tt
  popped_first (Some e) xs xs' ys s p g = first_of_sorted xs xs' ys e s p g

-- ---- one is pushed

pub pushed_after : (t : ℕ) (ps : List Point) (links : List Link) (xs old new : List Entry) (v w : ℕ) (known : Bool) →
    PushedFirst t ps links old new v w known → PushedFirst t ps links (xs ++ old) (xs ++ new) v w known
pushed_after t ps links xs old new v w known p = record {
  has = λ d h. still d (Contains-append_cases xs old d h);
  inner = λ h k. Contains-append_right xs new (entry_in ps links v) (p.inner h k);
  outer = λ f n h k. Contains-append_right xs new (entry_in ps links w) (p.outer f n h k);
  only = λ d h. alone d (Contains-append_cases xs new d h);
}
  where
    still : (d : Entry) → Contains xs d ⊎ Contains old d → Contains (xs ++ new) d
    still d (inl k) = Contains-append_left xs new d k
    still d (inr k) = Contains-append_right xs new d (p.has d k)

    later : (d : Entry) → Contains old d ⊎ (IsUnder t ps links v d ⊎ IsUnder t ps links w d) → Contains (xs ++ old) d ⊎ (IsUnder t ps links v d ⊎ IsUnder t ps links w d)
    later d (inl k) = inl (Contains-append_right xs old d k)
    later d (inr k) = inr k

    alone : (d : Entry) → Contains xs d ⊎ Contains new d → Contains (xs ++ old) d ⊎ (IsUnder t ps links v d ⊎ IsUnder t ps links w d)
    alone d (inl k) = inl (Contains-append_left xs old d k)
    alone d (inr k) = later d (p.only d k)

-- Corners in two places: those that are sorted, the first of them last, and those on a heap.
use Rattle.std.proofs.Common.{◌≡◌, ◌-◌, ◌<◌, Bool, true, false, List, [], ◌∷◌, ◌++◌, append_assoc, length, get_or, refl, ap, sym, ◌∙◌, subst, arith, Option, Some, None, IfSome}
use Rattle.std.specs.Option.{option_to_list}
use Rattle.std.specs.BinaryHeap.{IsHeap, IsUpperBound, PopsGreatest}
use Rattle.std.specs.Cmp.{IsStrictWeakOrder}
use Rattle.std.specs.List.{Contains}
use Rattle.std.specs.List.Sorted.{IsPermutation, IsSorted}
use Rattle.std.specs.Ordering.{is_lt}
use Rattle.std.specs.declared.cmp.Reverse.{Reverse}
use Rattle.std.proofs.lemmas.Cmp.{on_total, back_total}
use Rattle.std.proofs.lemmas.List.{get_or_default, get_or_push, length-append}
use Rattle.std.proofs.lemmas.List.Elements.{All-contains, All-from_recursion, recursion_from_All}
use Rattle.std.proofs.lemmas.List.MinMax.{ranks_by}
use Rattle.std.proofs.lemmas.List.Sorted.{IsPermutation-append_right, IsPermutation-middle, IsPermutation-sym, IsPermutation-trans, sorted_far}
use Rattle.owned_values.proofs.Elements.{all_append, all_weaker}
use Rattle.guarded_reduction.specs.declared.queue.entry.Entry.{Entry}
use Rattle.guarded_reduction.specs.Entries.{turned_cmp}
use Rattle.guarded_reduction.specs.Queues.{GoesFirst}
use Rattle.guarded_reduction.proofs.Next.{entry_total}

-- ---- the order of entries that are turned

abbrev under : Reverse Entry → Reverse Entry → Bool
under x y = is_lt (turned_cmp x y)

turned_order : IsStrictWeakOrder under
turned_order = ranks_by (back_total (on_total (λ (r : Reverse Entry). r.0) entry_total)) (λ c. c)

bound_at : (e : Reverse Entry) (xs : List (Reverse Entry)) (x : Reverse Entry) → IsUpperBound turned_cmp e xs → Contains xs x → under e x ≡ false
bound_at e xs x u m = All-contains (λ y. under e y ≡ false) xs x (All-from_recursion (λ y. under e y ≡ false) xs u) m

-- ---- the last of a sorted list

pub last_bound : (xs : List (Reverse Entry)) (x : Reverse Entry) → IsSorted turned_cmp xs → 0 < length xs → x ≡ get_or xs (length xs - 1) x → IsUpperBound turned_cmp x xs
last_bound xs x s n e = recursion_from_All (λ y. under x y ≡ false) xs (λ j d h.
    ap (λ y. under y (get_or xs j d)) (e ∙ get_or_default xs (length xs - 1) x d (omega (arith, n))) ∙ sorted_far under turned_order xs s j (length xs - 1) d (omega (arith, h)) (omega (arith, n)))

pub last_of_sorted : (xs : List (Reverse Entry)) (x : Reverse Entry) → IsSorted turned_cmp (xs ++ (x ∷ [])) → IsUpperBound turned_cmp x (xs ++ (x ∷ []))
last_of_sorted xs x s =
    let n = length-append xs (x ∷ []) in
    let z : length (xs ++ (x ∷ [])) - 1 ≡ length xs = omega (arith, n) in
    last_bound (xs ++ (x ∷ [])) x s (omega (arith, n)) (sym (ap (λ m. get_or (xs ++ (x ∷ [])) m x) z ∙ get_or_push xs x x (length xs) refl))

-- ---- which of the two goes first

goes_first : (xs ys : List (Reverse Entry)) (x y : Reverse Entry) → Contains xs x → IsUpperBound turned_cmp y ys → under x y ≡ false → GoesFirst xs ys
goes_first xs ys x y m u h = (
  λ e b. all_weaker (λ z. under y z ≡ false) (λ z. under e z ≡ false) (λ z k. turned_order.chain e y z (turned_order.chain e x y (bound_at e xs x b m) h) k) ys u,
  λ e. let k : Contains [] x = subst (λ l. Contains l x) e m in absurd (omega (arith, k.1)),
)

-- the top of the heap and the last of those that are sorted, compared
pub top_first : (xs ys : List (Reverse Entry)) (last top : Reverse Entry) → IsSorted turned_cmp xs → 0 < length xs → last ≡ get_or xs (length xs - 1) last → Contains ys top → under last top ≡ true → GoesFirst ys xs
top_first xs ys last top s n e m h = goes_first ys xs top last m (last_bound xs last s n e) (turned_order.one_way last top h)

pub last_first : (xs ys : List (Reverse Entry)) (last top : Reverse Entry) → 0 < length xs → last ≡ get_or xs (length xs - 1) last → IsUpperBound turned_cmp top ys → under last top ≡ false → GoesFirst xs ys
last_first xs ys last top n e u h = goes_first xs ys last top (length xs - 1, omega (arith, n), sym e) u h

-- ---- one is removed

pub off_heap : (r : Option (Reverse Entry)) (xs ys ys' all : List (Reverse Entry)) → xs ++ ys ≡ all → IfSome r (λ e. IsPermutation ys (e ∷ ys')) → IfSome r (λ e. IsPermutation all (e ∷ (xs ++ ys')))
off_heap None xs ys ys' all is p = tt
off_heap (Some e) xs ys ys' all is p =
    subst (λ l. IsPermutation l (e ∷ (xs ++ ys'))) is (IsPermutation-trans (xs ++ ys) (xs ++ (e ∷ ys')) (e ∷ (xs ++ ys')) (IsPermutation-append_right xs ys (e ∷ ys') p) (IsPermutation-middle xs e ys'))

pub first_on_heap : (r : Option (Reverse Entry)) (xs ys ys' all : List (Reverse Entry)) → xs ++ ys ≡ all → IsHeap turned_cmp ys → GoesFirst ys xs → IfSome r (λ e. PopsGreatest turned_cmp ys e ys') → IfSome r (λ e. IsUpperBound turned_cmp e all)
first_on_heap None xs ys ys' all is order g p = tt
first_on_heap (Some e) xs ys ys' all is order g p = let u = (p order).1 in subst (IsUpperBound turned_cmp e) is (all_append (λ y. under e y ≡ false) xs ys (g.0 e u) u)

-- what `pop` of a `Vec` leaves
pub off_sorted : (r : Option (Reverse Entry)) (xs xs' ys all : List (Reverse Entry)) → xs ++ ys ≡ all → xs ≡ xs' ++ option_to_list r → IfSome r (λ e. IsPermutation all (e ∷ (xs' ++ ys)))
off_sorted None xs xs' ys all is p = tt
off_sorted (Some e) xs xs' ys all is p = subst (λ l. IsPermutation l (e ∷ (xs' ++ ys))) (sym (sym is ∙ ap (λ l. l ++ ys) p ∙ append_assoc xs' (e ∷ []) ys)) (IsPermutation-middle xs' e ys)

pub first_of_sorted : (r : Option (Reverse Entry)) (xs xs' ys all : List (Reverse Entry)) → xs ++ ys ≡ all → IsSorted turned_cmp xs → GoesFirst xs ys → xs ≡ xs' ++ option_to_list r → IfSome r (λ e. IsUpperBound turned_cmp e all)
first_of_sorted None xs xs' ys all is s g p = tt
first_of_sorted (Some e) xs xs' ys all is s g p =
    let u = subst (IsUpperBound turned_cmp e) (sym p) (last_of_sorted xs' e (subst (IsSorted turned_cmp) p s)) in
    subst (IsUpperBound turned_cmp e) is (all_append (λ y. under e y ≡ false) xs ys u (g.0 e u))

-- ---- one is put on the heap

pub on_heap : (x : Reverse Entry) (xs ys ys' all : List (Reverse Entry)) → xs ++ ys ≡ all → IsPermutation (x ∷ ys) ys' → IsPermutation (x ∷ all) (xs ++ ys')
on_heap x xs ys ys' all is p =
    subst (λ l. IsPermutation (x ∷ l) (xs ++ ys')) is
    (IsPermutation-trans (x ∷ (xs ++ ys)) (xs ++ (x ∷ ys)) (xs ++ ys') (IsPermutation-sym (xs ++ (x ∷ ys)) (x ∷ (xs ++ ys)) (IsPermutation-middle xs x ys)) (IsPermutation-append_right xs (x ∷ ys) ys' p))

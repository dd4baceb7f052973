-- The threshold of a share, found by weights that are reported up to a level only.
use Rattle.std.proofs.Common.{◌≡◌, ℕ, zero, suc, ◌+◌, ◌-◌, ◌*◌, ◌<◌, ◌≤◌, min, Bool, true, false, cond, leb, List, [], ◌∷◌, ◌++◌, length, map, get_or, refl, ap, sym, ◌∙◌, subst, arith, ◌⊎◌, inl, inr}
use Rattle.std.specs.List.{filter, filter_map, range_with_len, AllByRecursion, Contains, count_by}
use Rattle.std.proofs.lemmas.Bool.{le-leb, lt-leb, cases_lt}
use Rattle.std.proofs.lemmas.List.{length-map, length-append}
use Rattle.std.proofs.lemmas.List.Elements.{Contains-append_right, Contains-get_or}
use Rattle.std.proofs.lemmas.List.Sums.{sum_by-append, sum_by-cons, count_by-le-length, get_or-le-sum_by}
use Rattle.std.proofs.lemmas.Nat.{mul-le}
use Rattle.owned_values.proofs.Elements.{all_weaker}
use Rattle.geometry.specs.Lists.{In}
use Rattle.effective_area.specs.Capped.{capped_at, is_within, IsCapped, AreCapped, IsEnough, CappedIsEnough}
use Rattle.effective_area.specs.Shares.{IsGreatestShare, area_of, count_kept, interior_weights, kept_at, share, stays_at}
use Rattle.effective_area.specs.declared.weight.Weight.{Weight}
use Rattle.effective_area.specs.declared.weight.Weight.TheVariants.{End, Area}
use Rattle.effective_area.proofs.KeptWeights.{filter_same}
use Rattle.effective_area.proofs.ShareLaws.{count_cons, share_is, share_is_greatest}

-- ---- lists of weights of which some are lower

-- each is the same, or lower but not under t
abbrev Lowered : ℕ → List ℕ → List ℕ → Type 0
Lowered t [] [] = Unit {0}
Lowered t [] (c ∷ cs) = ⊥
Lowered t (w ∷ ws) [] = ⊥
Lowered t (w ∷ ws) (c ∷ cs) = ((c ≡ w) ⊎ ((t ≤ c) × (c ≤ w))) × Lowered t ws cs

same_lowered : (t : ℕ) (ws : List ℕ) → Lowered t ws ws
same_lowered t [] = tt
same_lowered t (w ∷ ws) = (inl refl, same_lowered t ws)

lowered_append : (t : ℕ) (ws cs vs ds : List ℕ) → Lowered t ws cs → Lowered t vs ds → Lowered t (ws ++ vs) (cs ++ ds)
lowered_append t [] [] vs ds h k = k
lowered_append t [] (c ∷ cs) vs ds h k = elim h [ ]
lowered_append t (w ∷ ws) [] vs ds h k = elim h [ ]
lowered_append t (w ∷ ws) (c ∷ cs) vs ds h k = (h.0, lowered_append t ws cs vs ds h.1 k)

lowered_length : (t : ℕ) (ws cs : List ℕ) → Lowered t ws cs → length cs ≡ length ws
lowered_length t [] [] h = refl
lowered_length t [] (c ∷ cs) h = elim h [ ]
lowered_length t (w ∷ ws) [] h = elim h [ ]
lowered_length t (w ∷ ws) (c ∷ cs) h = ap suc (lowered_length t ws cs h.1)

lowered_at : (t : ℕ) (ws cs : List ℕ) (k d : ℕ) → Lowered t ws cs → k < length ws → (get_or cs k d ≡ get_or ws k d) ⊎ ((t ≤ get_or cs k d) × (get_or cs k d ≤ get_or ws k d))
lowered_at t [] [] k d h l = absurd (omega arith)
lowered_at t [] (c ∷ cs) k d h l = elim h [ ]
lowered_at t (w ∷ ws) [] k d h l = elim h [ ]
lowered_at t (w ∷ ws) (c ∷ cs) zero d h l = h.0
lowered_at t (w ∷ ws) (c ∷ cs) (suc k) d h l = lowered_at t ws cs k d h.1 (omega arith)

same_test : (t n c w : ℕ) → n ≤ t → (c ≡ w) ⊎ ((t ≤ c) × (c ≤ w)) → leb n c ≡ leb n w
same_test t n c w h (inl e) = ap (leb n) e
same_test t n c w h (inr k) = le-leb n c (omega (arith, k.0)) ∙ sym (le-leb n w (omega (arith, k.0, k.1)))

-- at a threshold that isn't over t as many stay
lowered_count : (t n : ℕ) (ws cs : List ℕ) → n ≤ t → Lowered t ws cs → count_kept n cs ≡ count_kept n ws
lowered_count t n [] [] h k = refl
lowered_count t n [] (c ∷ cs) h k = elim k [ ]
lowered_count t n (w ∷ ws) [] h k = elim k [ ]
lowered_count t n (w ∷ ws) (c ∷ cs) h k =
    count_cons (leb n) c cs ∙ ap (λ b. cond b 1 0 + count_kept n cs) (same_test t n c w h k.0) ∙ ap (λ m. cond (leb n w) 1 0 + m) (lowered_count t n ws cs h k.1) ∙ sym (count_cons (leb n) w ws)

less_test : (n c w : ℕ) → c ≤ w → cond (leb n c) 1 0 ≤ cond (leb n w) 1 0
less_test n c w h = on (cases_lt c n)
  where
    on : (c < n) ⊎ (n ≤ c) → cond (leb n c) 1 0 ≤ cond (leb n w) 1 0
    on (inl l) = let e : ◌≡◌ {A = ℕ} (cond (leb n c) 1 0) 0 = ap (λ b. cond b 1 0) (lt-leb n c l) in omega (arith, e)
    on (inr l) = let e : ◌≡◌ {A = ℕ} (cond (leb n c) 1 0) 1 = ap (λ b. cond b 1 0) (le-leb n c l) in let f : ◌≡◌ {A = ℕ} (cond (leb n w) 1 0) 1 = ap (λ b. cond b 1 0) (le-leb n w (omega (arith, h, l))) in omega (arith, e, f)

not_over : (t c w : ℕ) → (c ≡ w) ⊎ ((t ≤ c) × (c ≤ w)) → c ≤ w
not_over t c w (inl e) = omega arith
not_over t c w (inr k) = k.1

-- at any threshold no more stay
lowered_fewer : (t n : ℕ) (ws cs : List ℕ) → Lowered t ws cs → count_kept n cs ≤ count_kept n ws
lowered_fewer t n [] [] k = omega arith
lowered_fewer t n [] (c ∷ cs) k = elim k [ ]
lowered_fewer t n (w ∷ ws) [] k = elim k [ ]
lowered_fewer t n (w ∷ ws) (c ∷ cs) k =
    omega (arith, count_cons (leb n) c cs, count_cons (leb n) w ws, less_test n c w (not_over t c w k.0), lowered_fewer t n ws cs k.1)

-- ---- the least weight that isn't under a number

record Bottom (n : ℕ) (ws : List ℕ) : Type 0 where
  least : ℕ
  member : Contains ws least
  over : n ≤ least
  first : AllByRecursion (λ w. n ≤ w → least ≤ w) ws

bottom : (n : ℕ) (ws : List ℕ) → Bottom n ws ⊎ AllByRecursion (λ w. w < n) ws
bottom n [] = inr tt
bottom n (w ∷ ws) = on (cases_lt w n) (bottom n ws)
  where
    on : (w < n) ⊎ (n ≤ w) → Bottom n ws ⊎ AllByRecursion (λ v. v < n) ws → Bottom n (w ∷ ws) ⊎ AllByRecursion (λ v. v < n) (w ∷ ws)
    on (inl l) (inr h) = inr (l, h)
    on (inl l) (inl b) = inl (record { least = b.least; member = Contains-append_right (w ∷ []) ws b.least b.member; over = b.over; first = ((λ h. absurd (omega (arith, h, l))), b.first) })
    on (inr l) (inr h) = inl (record {
      least = w;
      member = Contains-get_or (w ∷ ws) 0 w (omega arith);
      over = l;
      first = ((λ h. omega arith), all_weaker (λ v. v < n) (λ v. n ≤ v → w ≤ v) (λ v m k. absurd (omega (arith, m, k))) ws h);
    })
    on (inr l) (inl b) = by (cases_lt w b.least)
      where
        by : (w < b.least) ⊎ (b.least ≤ w) → Bottom n (w ∷ ws) ⊎ AllByRecursion (λ v. v < n) (w ∷ ws)
        by (inl m) = inl (record {
          least = w;
          member = Contains-get_or (w ∷ ws) 0 w (omega arith);
          over = l;
          first = ((λ h. omega arith), all_weaker (λ v. n ≤ v → b.least ≤ v) (λ v. n ≤ v → w ≤ v) (λ v k h. omega (arith, k h, m)) ws b.first);
        })
        by (inr m) = inl (record { least = b.least; member = Contains-append_right (w ∷ []) ws b.least b.member; over = b.over; first = ((λ h. m), b.first) })

bottom_count : (n m : ℕ) (ws : List ℕ) → n ≤ m → AllByRecursion (λ w. n ≤ w → m ≤ w) ws → count_kept m ws ≡ count_kept n ws
bottom_count n m [] h k = refl
bottom_count n m (w ∷ ws) h k =
    count_cons (leb m) w ws ∙ ap (λ b. cond b 1 0 + count_kept m ws) (same (cases_lt w n)) ∙ ap (λ i. cond (leb n w) 1 0 + i) (bottom_count n m ws h k.1) ∙ sym (count_cons (leb n) w ws)
  where
    same : (w < n) ⊎ (n ≤ w) → leb m w ≡ leb n w
    same (inl l) = lt-leb m w (omega (arith, l, h)) ∙ sym (lt-leb n w l)
    same (inr l) = le-leb m w (k.0 l) ∙ sym (le-leb n w l)

none_at : (n : ℕ) (ws : List ℕ) (k d : ℕ) → AllByRecursion (λ w. w < n) ws → k < length ws → get_or ws k d < n
none_at n [] k d h l = absurd (omega arith)
none_at n (w ∷ ws) zero d h l = h.0
none_at n (w ∷ ws) (suc k) d h l = none_at n ws k d h.1 (omega arith)

-- over the threshold of a share fewer stay, at a weight and at any number that isn't over all of them
few_over : (p q : ℕ) (ws : List ℕ) (t n k d : ℕ) → IsGreatestShare p q ws t → t < n → k < length ws → n ≤ get_or ws k d → q * count_kept n ws < p * length ws
few_over p q ws t n k d g over l m = on (bottom n ws)
  where
    on : Bottom n ws ⊎ AllByRecursion (λ w. w < n) ws → q * count_kept n ws < p * length ws
    on (inr h) = absurd (omega (arith, m, none_at n ws k d h l))
    on (inl b) =
        let P : ℕ → Type 0 = λ w. t < w → q * count_kept w ws < p * length ws in
        let less : q * count_kept b.least ws < p * length ws = subst P b.member.2 (g.fewer_over b.member.0 b.least b.member.1) (omega (arith, over, b.over)) in
        subst (λ c. q * c < p * length ws) (bottom_count n b.least ws b.over b.first) less

-- ---- the threshold stays

lowered_share : (p q : ℕ) (ws cs : List ℕ) (t : ℕ) → Lowered t ws cs → IsGreatestShare p q ws t → IsGreatestShare p q cs t
lowered_share p q ws cs t h g = record {
  known = known g.known;
  keeps = rw (many, lowered_count t t ws cs (omega arith) h) g.keeps;
  fewer_over = λ k d l over.
      let at = not_over t (get_or cs k d) (get_or ws k d) (lowered_at t ws cs k d h (omega (arith, l, many))) in
      let few = few_over p q ws t (get_or cs k d) k d g over (omega (arith, l, many)) at in
      let fewer = mul-le q (count_kept (get_or cs k d) cs) q (count_kept (get_or cs k d) ws) (omega arith) (lowered_fewer t (get_or cs k d) ws cs h) in
      rw many (omega (arith, few, fewer));
}
  where
    many : length cs ≡ length ws
    many = lowered_length t ws cs h

    here : (k : ℕ) → get_or ws k t ≡ t → (get_or cs k t ≡ get_or ws k t) ⊎ ((t ≤ get_or cs k t) × (get_or cs k t ≤ get_or ws k t)) → get_or cs k t ≡ t
    here k e (inl f) = f ∙ e
    here k e (inr m) = omega (arith, m.0, m.1, e)

    known : (t ≡ 0) ⊎ Contains ws t → (t ≡ 0) ⊎ Contains cs t
    known (inl e) = inl e
    known (inr k) = inr (k.0, omega (arith, k.1, many), here k.0 k.2 (lowered_at t ws cs k.0 t h k.1))

-- ---- lines whose weights are reported up to a level that isn't under t

record IsOver (t : ℕ) (ws reported : List Weight) : Type 0 where
  level : ℕ
  over : t ≤ level
  capped : reported ≡ map (capped_at level) ws

abbrev AreOver : ℕ → List (List Weight) → List (List Weight) → Type 0
AreOver t [] [] = Unit {0}
AreOver t [] (reported ∷ capped) = ⊥
AreOver t (ws ∷ lines) [] = ⊥
AreOver t (ws ∷ lines) (reported ∷ capped) = ((reported ≡ ws) ⊎ IsOver t ws reported) × AreOver t lines capped

lower : (t level area : ℕ) → t ≤ level → (min level area ≡ area) ⊎ ((t ≤ min level area) × (min level area ≤ area))
lower t level area h = on (cases_lt area level)
  where
    on : (area < level) ⊎ (level ≤ area) → (min level area ≡ area) ⊎ ((t ≤ min level area) × (min level area ≤ area))
    on (inl l) = inl (omega arith)
    on (inr l) = inr (omega arith, omega arith)

capped_lowered : (t level : ℕ) (ws : List Weight) → t ≤ level → Lowered t (filter_map area_of ws) (filter_map area_of (map (capped_at level) ws))
capped_lowered t level [] h = tt
capped_lowered t level (End ∷ ws) h = capped_lowered t level ws h
capped_lowered t level (Area area ∷ ws) h = (lower t level area h, capped_lowered t level ws h)

over_lowered : (t : ℕ) (ws reported : List Weight) → (reported ≡ ws) ⊎ IsOver t ws reported → Lowered t (filter_map area_of ws) (filter_map area_of reported)
over_lowered t ws reported (inl e) = subst (λ l. Lowered t (filter_map area_of ws) (filter_map area_of l)) (sym e) (same_lowered t (filter_map area_of ws))
over_lowered t ws reported (inr s) = subst (λ l. Lowered t (filter_map area_of ws) (filter_map area_of l)) (sym s.capped) (capped_lowered t s.level ws s.over)

all_lowered : (t : ℕ) (lines capped : List (List Weight)) → AreOver t lines capped → Lowered t (interior_weights lines) (interior_weights capped)
all_lowered t [] [] h = tt
all_lowered t [] (reported ∷ capped) h = elim h [ ]
all_lowered t (ws ∷ lines) [] h = elim h [ ]
all_lowered t (ws ∷ lines) (reported ∷ capped) h =
    lowered_append t (filter_map area_of ws) (filter_map area_of reported) (interior_weights lines) (interior_weights capped) (over_lowered t ws reported h.0) (all_lowered t lines capped h.1)

-- ---- what stays of them

capped_stays : (t level : ℕ) (w : Weight) → t ≤ level → stays_at t (capped_at level w) ≡ stays_at t w
capped_stays t level End h = refl
capped_stays t level (Area area) h = same_test t t (min level area) area (omega arith) (lower t level area h)

pub get_or_capped : (level : ℕ) (ws : List Weight) (i : ℕ) → get_or (map (capped_at level) ws) i End ≡ capped_at level (get_or ws i End)
get_or_capped level [] i = refl
get_or_capped level (w ∷ ws) zero = refl
get_or_capped level (w ∷ ws) (suc i) = get_or_capped level ws i

capped_kept : (t level : ℕ) (ws : List Weight) → t ≤ level → kept_at t (map (capped_at level) ws) ≡ kept_at t ws
unfolding kept_at
capped_kept t level ws h =
    ap (λ n. filter (λ i. stays_at t (get_or (map (capped_at level) ws) i End)) (range_with_len 0 n)) (length-map ws (capped_at level))
    ∙ filter_same (λ i. stays_at t (get_or (map (capped_at level) ws) i End)) (λ i. stays_at t (get_or ws i End)) (range_with_len 0 (length ws)) (all (range_with_len 0 (length ws)))
  where
    all : (is : List ℕ) → AllByRecursion (λ i. stays_at t (get_or (map (capped_at level) ws) i End) ≡ stays_at t (get_or ws i End)) is
    all [] = tt
    all (i ∷ is) = (ap (stays_at t) (get_or_capped level ws i) ∙ capped_stays t level (get_or ws i End) h, all is)

over_kept : (t : ℕ) (ws reported : List Weight) → (reported ≡ ws) ⊎ IsOver t ws reported → kept_at t reported ≡ kept_at t ws
over_kept t ws reported (inl e) = ap (kept_at t) e
over_kept t ws reported (inr s) = ap (kept_at t) s.capped ∙ capped_kept t s.level ws s.over

all_kept : (t : ℕ) (lines capped : List (List Weight)) → AreOver t lines capped → map (kept_at t) capped ≡ map (kept_at t) lines
all_kept t [] [] h = refl
all_kept t [] (reported ∷ capped) h = elim h [ ]
all_kept t (ws ∷ lines) [] h = elim h [ ]
all_kept t (ws ∷ lines) (reported ∷ capped) h = ap (λ l. l ∷ map (kept_at t) capped) (over_kept t ws reported h.0) ∙ ap (λ ls. kept_at t ws ∷ ls) (all_kept t lines capped h.1)

-- ---- no level is under the threshold

at_most_one : (b : Bool) → cond b 1 0 ≤ 1
at_most_one true = omega arith
at_most_one false = omega arith

-- what isn't over the level doesn't stay at a threshold over it
apart : (t level : ℕ) (ws : List Weight) → level < t → count_by (is_within level) ws + count_kept t (filter_map area_of ws) ≤ length (filter_map area_of ws)
apart t level [] h = omega arith
apart t level (End ∷ ws) h = omega (arith, sum_by-cons (λ w. cond (is_within level w) 1 0) End ws, apart t level ws h)
apart t level (Area area ∷ ws) h =
    omega (arith, sum_by-cons (λ w. cond (is_within level w) 1 0) (Area area) ws, count_cons (leb t) area (filter_map area_of ws), one (cases_lt level area), apart t level ws h)
  where
    one : (level < area) ⊎ (area ≤ level) → cond (leb area level) 1 0 + cond (leb t area) 1 0 ≤ 1
    one (inl l) = let e : ◌≡◌ {A = ℕ} (cond (leb area level) 1 0) 0 = ap (λ b. cond b 1 0) (lt-leb area level l) in omega (arith, e, at_most_one (leb t area))
    one (inr l) = let e : ◌≡◌ {A = ℕ} (cond (leb t area) 1 0) 0 = ap (λ b. cond b 1 0) (lt-leb t area (omega (arith, l, h))) in omega (arith, e, at_most_one (leb area level))

apart_among : (t level : ℕ) (lines : List (List Weight)) (ws : List Weight) → level < t → In ws lines →
    count_by (is_within level) ws + count_kept t (interior_weights lines) ≤ length (interior_weights lines)
apart_among t level [] ws h k = elim k [ ]
apart_among t level (vs ∷ lines) ws h (inl e) =
    let own : count_by (is_within level) ws + count_kept t (filter_map area_of vs) ≤ length (filter_map area_of vs) =
    subst (λ l. count_by (is_within level) ws + count_kept t (filter_map area_of l) ≤ length (filter_map area_of l)) e (apart t level ws h) in
    omega (
      arith,
      own,
      sum_by-append (λ w. cond (leb t w) 1 0) (filter_map area_of vs) (interior_weights lines),
      length-append (filter_map area_of vs) (interior_weights lines),
      count_by-le-length (leb t) (interior_weights lines),
    )
apart_among t level (vs ∷ lines) ws h (inr k) =
    omega (
      arith,
      apart_among t level lines ws h k,
      sum_by-append (λ w. cond (leb t w) 1 0) (filter_map area_of vs) (interior_weights lines),
      length-append (filter_map area_of vs) (interior_weights lines),
      count_by-le-length (leb t) (filter_map area_of vs),
    )

-- what is enough of more weights is enough of fewer
enough_of_fewer : (p q count most total n : ℕ) → p ≤ q → total ≤ count → IsEnough p q count most → 0 < n → p * total ≤ q * n → total < n + most
enough_of_fewer p q count most total n h l enough some keeps =
    let more = count - total in
    let parts : p * count ≡ p * total + p * more = ap (λ m. p * m) (let e : count ≡ total + more = omega arith in e) ∙ grind arith in
    let whole : q * (n + more) ≡ q * n + q * more = grind arith in
    let rest = mul-le p more q more h (omega arith) in
    let k = enough (n + more) (omega arith) (omega (arith, parts, whole, rest, keeps)) in
    omega (arith, k)

module _ (p q count most : ℕ) (lines : List (List Weight)) (part : p ≤ q) (all : length (interior_weights lines) ≤ count) (enough : IsEnough p q count most) where
  abbrev best : ℕ
  best = share p q (interior_weights lines)

  is_best : IsGreatestShare p q (interior_weights lines) best
  is_best = share_is_greatest p q (interior_weights lines) part

  some_kept : (level : ℕ) → level < best → (best ≡ 0) ⊎ Contains (interior_weights lines) best → 0 < count_kept best (interior_weights lines)
  some_kept level l (inl e) = absurd (omega arith)
  some_kept level l (inr k) =
      let one : ◌≡◌ {A = ℕ} (cond (leb best (get_or (interior_weights lines) k.0 best)) 1 0) 1 = ap (λ b. cond b 1 0) (le-leb best (get_or (interior_weights lines) k.0 best) (omega (arith, k.2))) in
      omega (arith, one, get_or-le-sum_by (λ w. cond (leb best w) 1 0) (interior_weights lines) k.0 best k.1)

  level_over : (ws : List Weight) (level : ℕ) → In ws lines → most ≤ count_by (is_within level) ws → best ≤ level
  level_over ws level k m = on (cases_lt level best)
    where
      on : (level < best) ⊎ (best ≤ level) → best ≤ level
      on (inr l) = l
      on (inl l) =
          let few = enough_of_fewer p q count most (length (interior_weights lines)) (count_kept best (interior_weights lines)) part all enough (some_kept level l is_best.known) is_best.keeps in
          absurd (omega (arith, few, m, apart_among best level lines ws l k))

  each_over : (some capped : List (List Weight)) → ((ws : List Weight) → In ws some → In ws lines) → AreCapped most some capped → AreOver best some capped
  each_over [] [] f h = tt
  each_over [] (reported ∷ capped) f h = elim h [ ]
  each_over (ws ∷ some) [] f h = elim h [ ]
  each_over (ws ∷ some) (reported ∷ capped) f h = (on h.0, each_over some capped (λ vs k. f vs (inr k)) h.1)
    where
      on : IsCapped most ws reported → (reported ≡ ws) ⊎ IsOver best ws reported
      on (inl e) = inl e
      on (inr s) = inr (record { level = s.level; over = level_over ws s.level (f ws (inl refl)) s.enough; capped = s.capped })

pub capped_is_enough : CappedIsEnough
capped_is_enough p q count most lines capped part all enough h =
    let t = share p q (interior_weights lines) in
    let over = each_over p q count most lines part all enough lines capped (λ ws k. k) h in (
      sym (share_is p q (interior_weights capped) t part (lowered_share p q (interior_weights lines) (interior_weights capped) t (all_lowered t lines capped over) (share_is_greatest p q (interior_weights lines) part))),
      all_kept t lines capped over,
    )

-- ---- one line more

pub capped_more : (most : ℕ) (lines capped : List (List Weight)) (ws reported : List Weight) → AreCapped most lines capped → IsCapped most ws reported → AreCapped most (lines ++ (ws ∷ [])) (capped ++ (reported ∷ []))
capped_more most [] [] ws reported h k = (k, tt)
capped_more most [] (vs ∷ capped) ws reported h k = elim h [ ]
capped_more most (vs ∷ lines) [] ws reported h k = elim h [ ]
capped_more most (vs ∷ lines) (us ∷ capped) ws reported h k = (h.0, capped_more most lines capped ws reported h.1 k)

-- A scan over the corners of the indexes that are present.
use Rattle.std.proofs.Common.{◌≡◌, ℕ, zero, suc, ◌+◌, ◌-◌, ◌<◌, ◌≤◌, List, [], ◌∷◌, ◌++◌, Option, Some, None, length, map, take, get_or, refl, true, false, cond, not, eqb, ltb, ap, sym, ◌∙◌, arith, append_assoc, subst}
use Rattle.std.proofs.lemmas.List.{take_more, map-append, length-map}
use Rattle.geometry.specs.Areas.{twice_area}
use Rattle.geometry.specs.Points.{Point}
use Rattle.std.specs.List.{filter, range_with_len, All}
use Rattle.std.proofs.lemmas.List.FromFn.{length-range_with_len, get_or-range_with_len}
use Rattle.elimination_meaning.specs.Elimination.{Vertex, Corner, corner_at, corners, lesser, least, without, without_under, next, eliminate, numbered, reduce}
use Rattle.effective_area.specs.Vertices.{origin, vertex_at, vertices}
use Rattle.elimination_meaning.proofs.Enough.{next_shorter}
use Rattle.elimination_meaning.proofs.Order.{least_append}
use Rattle.elimination_meaning.proofs.Steps.{Holds}
use Rattle.elimination_meaning.proofs.Turned.{corners_split, go_on}
use Rattle.std.proofs.lemmas.Bool.Decides.{nat_tests}

-- two more at the end
take_two : (is : List ℕ) (j : ℕ) → j + 1 < length is → take (j + 1 + 1) is ≡ take j is ++ (get_or is j 0 ∷ (get_or is (j + 1) 0 ∷ []))
take_two is j h =
    let l : j < length is = omega arith in
    take_more is (j + 1) 0 h ∙ ap (λ xs. xs ++ (get_or is (j + 1) 0 ∷ [])) (take_more is j 0 l) ∙ append_assoc (take j is) (get_or is j 0 ∷ []) (get_or is (j + 1) 0 ∷ [])

take_three : (is : List ℕ) (j : ℕ) → j + 1 + 1 < length is → take (j + 1 + 1 + 1) is ≡ take j is ++ (get_or is j 0 ∷ (get_or is (j + 1) 0 ∷ (get_or is (j + 1 + 1) 0 ∷ [])))
take_three is j h =
    let l : j + 1 < length is = omega arith in
    take_more is (j + 1 + 1) 0 h ∙ ap (λ xs. xs ++ (get_or is (j + 1 + 1) 0 ∷ [])) (take_two is j l) ∙ append_assoc (take j is) (get_or is j 0 ∷ (get_or is (j + 1) 0 ∷ [])) (get_or is (j + 1 + 1) 0 ∷ [])

corners_more : (ps : List Point) (is : List ℕ) (j : ℕ) → j + 1 + 1 < length is →
    corners (vertices ps (take (j + 1 + 1 + 1) is)) ≡ corners (vertices ps (take (j + 1 + 1) is)) ++ (corner_at (vertex_at ps (get_or is j 0)) (vertex_at ps (get_or is (j + 1) 0)) (vertex_at ps (get_or is (j + 1 + 1) 0)) ∷ [])
corners_more ps is j h =
    let l : j + 1 < length is = omega arith in
    let x = vertex_at ps (get_or is j 0) in
    let y = vertex_at ps (get_or is (j + 1) 0) in
    let z = vertex_at ps (get_or is (j + 1 + 1) 0) in
    let two = ap (vertices ps) (take_two is j l) ∙ map-append (vertex_at ps) (take j is) (get_or is j 0 ∷ (get_or is (j + 1) 0 ∷ [])) in
    let three = ap (vertices ps) (take_three is j h) ∙ map-append (vertex_at ps) (take j is) (get_or is j 0 ∷ (get_or is (j + 1) 0 ∷ (get_or is (j + 1 + 1) 0 ∷ []))) in
    ap corners three ∙ corners_split (vertices ps (take j is)) x y (z ∷ []) ∙ ap (λ vs. corners vs ++ (corner_at x y z ∷ [])) (sym two)

abbrev corner_of : ℕ → Point → ℕ → Corner
corner_of a p i = record { area = a; point = p; index = i }

-- a scan's step
pub scan_step : (ps : List Point) (is : List ℕ) (j i : ℕ) (best : Option Corner) (n : ℕ) (p : Point) (k : ℕ) (r : Corner) →
    i ≡ j + 1 + 1 → i < length is → best ≡ least (corners (vertices ps (take i is))) → Some r ≡ lesser best (Some (corner_of n p k)) →
    n ≡ twice_area (get_or ps (get_or is j 0) origin) p (get_or ps (get_or is i 0) origin) →
    p ≡ get_or ps k origin → k ≡ get_or is (j + 1) 0 → Some r ≡ least (corners (vertices ps (take (i + 1) is)))
scan_step ps is j i best n p k r ei h eb er en ep ek = grind (arith, least_append, corners_more)

lt_test : (m n : ℕ) → m < n → ltb m n ≡ true
lt_test m n h = grind (arith, nat_tests)

ge_test : (m n : ℕ) → n ≤ m → ltb m n ≡ false
ge_test m n h = grind (arith, nat_tests)

-- a corner without_under the threshold is removed
pub step_some : (n t : ℕ) (vs : List Vertex) (c : Corner) → Some c ≡ least (corners vs) → c.area < t → eliminate (suc n) t vs ≡ eliminate n t (without c.index vs)
step_some n t vs c e h = ap (go_on n t vs) (ap (without_under t vs) (sym e) ∙ ap (λ b. cond b (Some (without c.index vs)) None) (lt_test c.area t h))

-- where none is, the list stays
pub step_none : (n t : ℕ) (vs : List Vertex) → None ≡ least (corners vs) → eliminate n t vs ≡ vs
step_none zero t vs e = refl
step_none (suc n) t vs e = ap (go_on n t vs) (ap (without_under t vs) (sym e))

pub step_over : (n t : ℕ) (vs : List Vertex) (c : Corner) → Some c ≡ least (corners vs) → t ≤ c.area → eliminate n t vs ≡ vs
step_over zero t vs c e h = refl
step_over (suc n) t vs c e h = ap (go_on n t vs) (ap (without_under t vs) (sym e) ∙ ap (λ b. cond b (Some (without c.index vs)) None) (ge_test c.area t h))

pub without_vertices : (ps : List Point) (i : ℕ) (is : List ℕ) → without i (vertices ps is) ≡ vertices ps (filter (λ j. not (eqb j i)) is)
without_vertices ps i [] = refl
without_vertices ps i (j ∷ is) = grind (arith, without_vertices ps i is)

all_from : (qs : List Point) (i : ℕ) (ps : List Point) → ((k : ℕ) → k < length ps → get_or qs (i + k) origin ≡ get_or ps k origin) → vertices qs (range_with_len i (length ps)) ≡ numbered i ps
all_from qs i [] h = refl
all_from qs i (p ∷ ps) h =
    let z : i + 0 ≡ i = omega arith in
    let here : get_or qs i origin ≡ p = ap (λ k. get_or qs k origin) (sym z) ∙ h 0 (omega arith) in
    let vertex = λ (q : Point). let r : Vertex = record { index = i; point = q } in r in
    ap (λ q. vertex q ∷ vertices qs (range_with_len (i + 1) (length ps))) here
    ∙ ap (λ l. vertex p ∷ l) (all_from qs (i + 1) ps (λ k l.
    let y : i + 1 + k ≡ i + suc k = omega arith in
    ap (λ m. get_or qs m origin) y ∙ h (suc k) (omega arith)))

pub all_vertices : (ps : List Point) → vertices ps (range_with_len 0 (length ps)) ≡ numbered 0 ps
all_vertices ps = all_from ps 0 ps (λ k l. let z : 0 + k ≡ k = omega arith in ap (λ m. get_or ps m origin) z)

pub indexes_of : (ps : List Point) (is : List ℕ) → map (λ v. v.index) (vertices ps is) ≡ is
indexes_of ps [] = refl
indexes_of ps (i ∷ is) = ap (λ l. i ∷ l) (indexes_of ps is)

-- what is present when nothing more is removed
pub settled : (t : ℕ) (ps : List Point) (is : List ℕ) → vertices ps is ≡ eliminate (length ps) t (numbered 0 ps) → is ≡ reduce t ps
settled t ps is e = unfold reduce in sym (indexes_of ps is) ∙ ap (map (λ v. v.index)) e

range_more : (a n : ℕ) → range_with_len a (n + 1) ≡ range_with_len a n ++ ((a + n) ∷ [])
range_more a zero = let z : a ≡ a + 0 = omega arith in ap (λ k. k ∷ []) z
range_more a (suc n) = grind (arith, range_more (a + 1) n)

pub indexes_more : (i : ℕ) (is js : List ℕ) → is ≡ range_with_len 0 i → js ≡ is ++ (i ∷ []) → js ≡ range_with_len 0 (i + 1)
indexes_more i is js e f = let z : i ≡ 0 + i = omega arith in f ∙ ap (λ l. l ++ (i ∷ [])) e ∙ ap (λ k. range_with_len 0 i ++ (k ∷ [])) z ∙ sym (range_more 0 i)

pub all_inside : (n : ℕ) → All (λ i. i < n) (range_with_len 0 n)
all_inside n = λ k d h. let l : k < n = omega (arith, length-range_with_len 0 n) in rw get_or-range_with_len (omega arith)

-- the loop of a scan: at its start, in a turn, and at its ends
pub start_rest : (t : ℕ) (ps : List Point) (is : List ℕ) → is ≡ range_with_len 0 (length ps) → eliminate (length ps - 0) t (vertices ps is) ≡ eliminate (length ps) t (numbered 0 ps)
start_rest t ps is e = grind (arith, all_vertices)

pub turn_rest : (t turn : ℕ) (ps : List Point) (is ks js : List ℕ) (c : Corner) → turn < length ps → ks ≡ is →
    Some c ≡ least (corners (vertices ps ks)) → c.area < t → js ≡ filter (λ j. not (eqb j c.index)) is →
    eliminate (length ps - turn) t (vertices ps is) ≡ eliminate (length ps) t (numbered 0 ps) →
    eliminate (length ps - (turn + 1)) t (vertices ps js) ≡ eliminate (length ps) t (numbered 0 ps)
turn_rest t turn ps is ks js c h k e u f r =
    let z : length ps - turn ≡ suc (length ps - (turn + 1)) = omega arith in
    let e' : Some c ≡ least (corners (vertices ps is)) = e ∙ ap (λ l. least (corners (vertices ps l))) k in
    ap (λ l. eliminate (length ps - (turn + 1)) t (vertices ps l)) f
    ∙ sym (ap (eliminate (length ps - (turn + 1)) t) (without_vertices ps c.index is))
    ∙ sym (step_some (length ps - (turn + 1)) t (vertices ps is) c e' u)
    ∙ sym (ap (λ n. eliminate n t (vertices ps is)) z)
    ∙ r

-- what is taken out leaves fewer
pub turn_shorter : (t : ℕ) (ps : List Point) (is ks js : List ℕ) (c : Corner) → ks ≡ is →
    Some c ≡ least (corners (vertices ps ks)) → c.area < t → js ≡ filter (λ j. not (eqb j c.index)) is → length js < length is
turn_shorter t ps is ks js c k e u f =
    let vs = vertices ps is in
    let e' : Some c ≡ least (corners vs) = e ∙ ap (λ l. least (corners (vertices ps l))) k in
    let n : next t vs ≡ Some (without c.index vs) = ap (without_under t vs) (sym e') ∙ ap (λ b. cond b (Some (without c.index vs)) None) (lt_test c.area t u) in
    let h : length (without c.index vs) < length vs = subst (Holds (λ ws. length ws < length vs)) n (next_shorter t vs) in
    let m : length (without c.index vs) ≡ length js = ap length (without_vertices ps c.index is) ∙ length-map (filter (λ j. not (eqb j c.index)) is) (vertex_at ps) ∙ sym (ap length f) in
    omega (arith, h, m, length-map is (vertex_at ps))

pub stop_over : (t n : ℕ) (ps : List Point) (is ks : List ℕ) (c : Corner) → ks ≡ is → Some c ≡ least (corners (vertices ps ks)) → t ≤ c.area →
    eliminate n t (vertices ps is) ≡ eliminate (length ps) t (numbered 0 ps) → is ≡ reduce t ps
stop_over t n ps is ks c k e h r = settled t ps is (sym (step_over n t (vertices ps is) c (e ∙ ap (λ l. least (corners (vertices ps l))) k) h) ∙ r)

pub stop_none : (t n : ℕ) (ps : List Point) (is ks : List ℕ) → ks ≡ is → None ≡ least (corners (vertices ps ks)) →
    eliminate n t (vertices ps is) ≡ eliminate (length ps) t (numbered 0 ps) → is ≡ reduce t ps
stop_none t n ps is ks k e r = settled t ps is (sym (step_none n t (vertices ps is) (e ∙ ap (λ l. least (corners (vertices ps l))) k)) ∙ r)

pub stop_end : (t turn : ℕ) (ps : List Point) (is : List ℕ) → length ps ≤ turn →
    eliminate (length ps - turn) t (vertices ps is) ≡ eliminate (length ps) t (numbered 0 ps) → is ≡ reduce t ps
stop_end t turn ps is h r = let z : length ps - turn ≡ 0 = omega arith in settled t ps is (sym (ap (λ n. eliminate n t (vertices ps is)) z) ∙ r)

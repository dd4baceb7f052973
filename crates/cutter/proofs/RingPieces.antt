-- The pieces of a ring.
use Rattle.std.proofs.Common.{drop-cons, ◌≡◌, ◌≢◌, ℕ, zero, suc, ◌<◌, ◌≤◌, true, List, [], ◌∷◌, ◌++◌, take, drop, length, get_or, append-nil, refl, ap, sym, ◌∙◌, subst, arith, inl, inr}
use Rattle.cutter.proofs.Names.{Point, in_flat, Moves, is_cut, Visit, visits, visits_from, all_visits, last, Stroke, pieces_of, split_at, turned, start_in}
use Rattle.geometry.specs.Lists.{all_but_last_of}
use Rattle.cutter.proofs.Junctions.{In, visit, Via}
use Rattle.cutter.proofs.Splits.{Steps, AllWalks, all_walks}
use Rattle.cutter.proofs.TurnedRings.{Goes, Good, turned_good}
use Rattle.cutter.proofs.Starts.{ring_start, line}

steps_from : (ls : List Stroke) (p q : Point) (ps : List Point) → Goes (Via ls) p q ps → Steps (is_cut ls) (Via ls) p q ps
steps_from ls p q [] h = tt
steps_from ls p q (r ∷ ps) h = (h.1, steps_from ls q r ps h.2)

moves_from : (ls : List Stroke) (p q : Point) (ps : List Point) → Goes (Via ls) p q ps → Moves p (q ∷ ps)
moves_from ls p q [] h = (h, tt)
moves_from ls p q (r ∷ ps) h = (h.0, moves_from ls q r ps h.2)

goes_from : (ls : List Stroke) (p q : Point) (ps : List Point) → ((v : Visit) → In v (visits_from p q ps) → In v (all_visits ls)) → Moves p (q ∷ ps) → Goes (Via ls) p q ps
goes_from ls p q [] f m = m.0
goes_from ls p q (r ∷ ps) f m = (m.0, record { seen = inl (f (visit p q r) (inl refl)); comes = m.0; goes = m.1.0 }, goes_from ls q r ps (λ v k. f v (inr k)) m.1)

-- one more move at the end
pub moves_more : (ls : List Stroke) (p : Point) (ps : List Point) (q : Point) → Moves p ps → last p ps ≢ q → Moves p (ps ++ (q ∷ []))
moves_more ls p [] q m n = (n, tt)
moves_more ls p (r ∷ ps) q m n = (m.0, moves_more ls r ps q m.1 n)

pub all_but_last_last : (p : Point) (ps : List Point) → p ∷ ps ≡ all_but_last_of p ps ++ (last p ps ∷ [])
all_but_last_last p [] = refl
all_but_last_last p (q ∷ ps) = ap (λ l. p ∷ l) (all_but_last_last q ps)

pub all_but_last_length : (p : Point) (ps : List Point) → length (all_but_last_of p ps) ≡ length ps
all_but_last_length p [] = refl
all_but_last_length p (q ∷ ps) = ap suc (all_but_last_length q ps)

-- a list from the same cut position to it, all good, splits into walks
split_good : (ls : List Stroke) (xs : List Point) (g : Point) → (ys : List Point) → xs ≡ g ∷ ys → Good (Via ls) xs → is_cut ls g ≡ true → is_cut ls (last g ys) ≡ true → AllWalks (is_cut ls) (Via ls) (split_at (is_cut ls) xs)
split_good ls xs g [] e h c d = subst (λ l. AllWalks (is_cut ls) (Via ls) (split_at (is_cut ls) l)) (sym e) tt
split_good ls xs g (y ∷ ys) e h c d = grind (arith, all_walks (is_cut ls) (Via ls) g y ys c, steps_from ls g y ys, moves_from ls g y ys)

last_take : (q d : Point) (j : ℕ) (ps : List Point) → j ≤ length ps → last q (take j ps) ≡ get_or (q ∷ ps) j d
last_take q d zero ps h = refl
last_take q d (suc j) [] h = absurd (omega arith)
last_take q d (suc j) (r ∷ ps) h = last_take r d j ps (omega arith)

last_append : (p : Point) (xs : List Point) (q : Point) (ys : List Point) → last p (xs ++ (q ∷ ys)) ≡ last q ys
last_append p [] q ys = refl
last_append p (x ∷ xs) q ys = last_append x xs q ys

-- a turned ring begins and ends at its start
pub turned_is : (d p q : Point) (ps : List Point) → last q ps ≡ p → (k : ℕ) → k < length (p ∷ (q ∷ ps)) →
    (ys : List Point) × (turned k (p ∷ (q ∷ ps)) ≡ get_or (p ∷ (q ∷ ps)) k d ∷ ys) × (last (get_or (p ∷ (q ∷ ps)) k d) ys ≡ get_or (p ∷ (q ∷ ps)) k d)
turned_is d p q ps e zero l = (q ∷ ps, append-nil (p ∷ (q ∷ ps)), e)
turned_is d p q ps e (suc j) l = grind (arith, drop-cons (p ∷ (q ∷ ps)) (suc j) d l, last_append (get_or (q ∷ ps) j d) (drop j ps) q (take j ps), last_take q d j ps (omega arith))

pub ring_pieces : (ls : List Stroke) (p q : Point) (ps : List Point) → In (line true (p ∷ (q ∷ ps))) ls → last q ps ≡ p → Moves p (q ∷ ps) →
    AllWalks (is_cut ls) (Via ls) (pieces_of ls (line true (p ∷ (q ∷ ps))))
ring_pieces ls p q ps k e m =
    let s = ring_start ls p (q ∷ ps) k in
    let t = turned_is p p q ps e (start_in (is_cut ls) (p ∷ (q ∷ ps))) s.0 in
    let more : Moves p (q ∷ (ps ++ (q ∷ []))) = moves_more ls p (q ∷ ps) q m (λ z. m.0 (sym e ∙ z)) in
    let good : Good (Via ls) ((p ∷ (q ∷ ps)) ++ (q ∷ [])) = goes_from ls p q (ps ++ (q ∷ [])) (λ v h. in_flat visits (line true (p ∷ (q ∷ ps))) v ls k h) more in
    let ended : p ∷ (q ∷ ps) ≡ all_but_last_of p (q ∷ ps) ++ (p ∷ []) = all_but_last_last p (q ∷ ps) ∙ ap (λ z. all_but_last_of p (q ∷ ps) ++ (z ∷ [])) e in
    split_good ls (turned (start_in (is_cut ls) (p ∷ (q ∷ ps))) (p ∷ (q ∷ ps))) (get_or (p ∷ (q ∷ ps)) (start_in (is_cut ls) (p ∷ (q ∷ ps))) p) t.0 t.1
    (turned_good (Via ls) (start_in (is_cut ls) (p ∷ (q ∷ ps))) p q ps (all_but_last_of p (q ∷ ps)) ended (omega (arith, s.0, all_but_last_length p (q ∷ ps))) good)
    s.1 (ap (is_cut ls) t.2 ∙ s.1)

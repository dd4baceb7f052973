-- Each ring has a cut position, and starts at one.
use Rattle.std.proofs.Common.{◌≡◌, ◌<◌, Bool, true, false, not, ◌&&◌, ◌||◌, List, [], ◌∷◌, length, get_or, refl, ap, sym, ◌∙◌, subst, arith, inl}
use Rattle.cutter.proofs.Names.{or-true, filter, list_any, list_all, any_from_in, same_is, same_self, least_of, is_least, Point, same, in_filter, from_filter, starts_free_ring, is_cut, is_junction, Stroke, first_at, start_in}
use Rattle.cutter.proofs.Junctions.{In}

least_in : (p : Point) (qs : List Point) → In (least_of p qs) (p ∷ qs)
least_in p [] = inl refl
least_in p (q ∷ qs) = grind (arith, least_in q qs, least_in p qs)

pub first_passes : (t : Point → Bool) (x d : Point) (xs : List Point) → In x xs → t x ≡ true → (first_at t xs < length xs) × (t (get_or xs (first_at t xs) d) ≡ true)
first_passes t x d [] k h = elim k [ ]
first_passes t x d (y ∷ ys) k h = grind (arith, first_passes t x d ys)

least_is_in : (p : Point) (xs : List Point) → is_least p xs ≡ true → In p xs
least_is_in p [] h = cc
least_is_in p (q ∷ qs) h = subst (λ x. In x (q ∷ qs)) (sym (same_is p (least_of q qs) h)) (least_in q qs)

-- a list with a cut position starts at one
start_cut : (cut : Point → Bool) (q d : Point) (ps : List Point) → In q ps → cut q ≡ true →
    (start_in cut ps < length ps) × (cut (get_or ps (start_in cut ps) d) ≡ true)
start_cut cut q d ps k h = on (filter cut ps) refl (in_filter cut q ps k h)
  where
    on : (fs : List Point) → filter cut ps ≡ fs → In q fs → (start_in cut ps < length ps) × (cut (get_or ps (start_in cut ps) d) ≡ true)
    on [] e m = elim m [ ]
    on (f ∷ fs) e m =
        let y = least_of f fs in
        let inside : In (least_of f fs) (filter cut ps) = subst (λ l. In (least_of f fs) l) (sym e) (least_in f fs) in
        let there = from_filter cut (least_of f fs) ps inside in
        let passes : is_least (least_of f fs) (filter cut ps) ≡ true = subst (λ l. is_least (least_of f fs) l ≡ true) (sym e) (same_self (least_of f fs)) in
        let r = first_passes (λ p. is_least p (filter cut ps)) (least_of f fs) d ps there.0 passes in
        (r.0, (from_filter cut (get_or ps (start_in cut ps) d) ps (least_is_in (get_or ps (start_in cut ps) d) (filter cut ps) r.1)).1)

not_all : (t : Point → Bool) (xs : List Point) → list_all (λ q. not (t q)) xs ≡ false → (x : Point) × In x xs × (t x ≡ true)
not_all t [] h = cc
not_all t (y ∷ ys) h = grind (arith, not_all t ys)

-- a line of its parts
abbrev pub line : Bool → List Point → Stroke
line closed ps = record { closed = closed; positions = ps }

-- a ring has a cut position ..
ring_cut : (ls : List Stroke) (a : Point) (as' : List Point) → In (line true (a ∷ as')) ls → (q : Point) × In q (a ∷ as') × (is_cut ls q ≡ true)
ring_cut ls a as' k = on (list_all (λ q. not (is_junction ls q)) (a ∷ as')) refl
  where
    on : (b : Bool) → list_all (λ q. not (is_junction ls q)) (a ∷ as') ≡ b → (q : Point) × In q (a ∷ as') × (is_cut ls q ≡ true)
    on true e =
        let m = least_of a as' in
        let loose : starts_free_ring ls (least_of a as') (line true (a ∷ as')) ≡ true = ap (λ b. b && same (least_of a as') (least_of a as')) e ∙ same_self (least_of a as') in
        (least_of a as', least_in a as', ap (λ b. is_junction ls (least_of a as') || b) (any_from_in (starts_free_ring ls (least_of a as')) (line true (a ∷ as')) ls k loose) ∙ or-true (is_junction ls (least_of a as')))
    on false e = let j = not_all (is_junction ls) (a ∷ as') e in (j.0, j.1, ap (λ b. b || list_any (starts_free_ring ls j.0) ls) j.2)

-- .. and starts at one
pub ring_start : (ls : List Stroke) (a : Point) (as' : List Point) → In (line true (a ∷ as')) ls →
    (start_in (is_cut ls) (a ∷ as') < length (a ∷ as')) × (is_cut ls (get_or (a ∷ as') (start_in (is_cut ls) (a ∷ as')) a) ≡ true)
ring_start ls a as' k = let c = ring_cut ls a as' k in start_cut (is_cut ls) c.0 a (a ∷ as') c.1 c.2

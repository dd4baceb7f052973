-- What is kept of one position, with one visit more.
use Rattle.std.proofs.Common.{◌≡◌, ℕ, ◌≤◌, Bool, true, false, cond, ◌==◌, not, ◌||◌, List, [], ◌∷◌, ◌++◌, map, length, nat_eq, nat_le, slice_get, Some, ◌⊎◌, inl, inr, refl, ap, sym, ◌∙◌, subst, arith}
use Rattle.junctions.proofs.Names.{or-true, nat_tests, length-append, map-append, list_any, AreDistinct, same_is, same_self, Point, same, at_cut, at_junction, at_once, kept_of, passed, with_number, AreNumbers, Represents, with_position, with_positions, distinct, Vertex, Unvisited, Once, Between, Junction, RingStart}
use Rattle.junctions.proofs.Cleaned.{same_sym}
use Rattle.junctions.proofs.Counting.{as_many_distinct}
use Rattle.junctions.proofs.FirstSeen.{positions_append, seen_member}
use Rattle.junctions.proofs.Numbers.{as_many, same_number}

-- these numbers are those of different positions, or there are three or more of both
abbrev ListsThree : List Point → List ℕ → List Point → Type 0
ListsThree ks xs ps = AreNumbers ks xs ps ⊎ ((3 ≤ length xs) × (3 ≤ length ps))

-- a number is one of them where its position is
any_number : (ks : List Point) (xs : List ℕ) (ps : List Point) (n : ℕ) (p : Point) → AreDistinct ks → AreNumbers ks xs ps → slice_get ks n ≡ Some p → list_any (λ m. nat_eq m n) xs ≡ list_any (same p) ps
any_number ks [] [] n p d are e = refl
any_number ks [] (q ∷ ps) n p d are e = cc
any_number ks (x ∷ xs) [] n p d are e = cc
any_number ks (x ∷ xs) (q ∷ ps) n p d are e =
    let t : map (slice_get ks) xs ≡ map Some ps = cc in
    let f : slice_get ks x ≡ Some q = cc in
    ap (λ b. b || list_any (λ m. nat_eq m n) xs) (same_number ks x n q p d f e ∙ same_sym q p) ∙ ap (λ b. same p q || b) (any_number ks xs ps n p d t e)

longer : (ps : List Point) (p : Point) → 3 ≤ length ps → 3 ≤ length (with_position ps p)
longer ps p h = on (list_any (same p) ps)
  where
    on : (b : Bool) → 3 ≤ length (cond b ps (ps ++ (p ∷ [])))
    on true = h
    on false = omega (arith, length-append ps (p ∷ []))

-- one neighbor more
one_more : (ks : List Point) (xs : List ℕ) (ps : List Point) (n : ℕ) (p : Point) → AreDistinct ks → slice_get ks n ≡ Some p → ListsThree ks xs ps → ListsThree ks (with_number xs n) (with_position ps p)
one_more ks xs ps n p d e (inr h) = inr (grind (arith, nat_tests, h.0), longer ps p h.1)
one_more ks xs ps n p d e (inl are) = on (nat_le 3 (length xs)) refl (list_any (same p) ps) refl
  where
    m : length xs ≡ length ps
    m = as_many ks xs ps are

    on : (b : Bool) → nat_le 3 (length xs) ≡ b → (a : Bool) → list_any (same p) ps ≡ a → ListsThree ks (cond (nat_le 3 (length xs) || list_any (λ m. nat_eq m n) xs) xs (xs ++ (n ∷ []))) (cond (list_any (same p) ps) ps (ps ++ (p ∷ [])))
    on true f a g =
        let three : 3 ≤ length xs = grind (arith, nat_tests) in
        subst (λ b. ListsThree ks (cond (b || list_any (λ m. nat_eq m n) xs) xs (xs ++ (n ∷ []))) (with_position ps p)) (sym f) (inr (three, longer ps p (omega (arith, m, three))))
    on false f true g =
        subst (λ b. ListsThree ks (cond b xs (xs ++ (n ∷ []))) (cond (list_any (same p) ps) ps (ps ++ (p ∷ [])))) (sym (ap (λ b. b || list_any (λ m. nat_eq m n) xs) f ∙ any_number ks xs ps n p d are e ∙ g))
        (subst (λ b. ListsThree ks xs (cond b ps (ps ++ (p ∷ [])))) (sym g) (inl are))
    on false f false g =
        subst (λ b. ListsThree ks (cond b xs (xs ++ (n ∷ []))) (cond (list_any (same p) ps) ps (ps ++ (p ∷ [])))) (sym (ap (λ b. b || list_any (λ m. nat_eq m n) xs) f ∙ any_number ks xs ps n p d are e ∙ g))
        (subst (λ b. ListsThree ks (xs ++ (n ∷ [])) (cond b ps (ps ++ (p ∷ [])))) (sym g)
        (inl (map-append (slice_get ks) xs (n ∷ []) ∙ ap (λ l. l ++ (slice_get ks n ∷ [])) are ∙ ap (λ x. map Some ps ++ (x ∷ [])) e ∙ sym (map-append Some ps (p ∷ [])))))

-- what the numbers of the neighbors leave, where these two are among them
says_kept : (ks : List Point) (xs : List ℕ) (ns : List Point) (p q : Point) → ListsThree ks xs (with_positions [] ns) → list_any (same p) (with_positions [] ns) ≡ true → list_any (same q) (with_positions [] ns) ≡ true →
    Represents ks (kept_of (same p q) xs) ns (same p q) false
says_kept ks xs ns p q three one other = on xs (with_positions [] ns) refl three one other (same p q) refl
  where
    alike : (r : Point) → (same p r || false) ≡ true → (same q r || false) ≡ true → same p q ≡ true
    alike r a b = grind (arith, same_is p r, same_is q r, same_self q)

    on : (xs : List ℕ) (ms : List Point) → with_positions [] ns ≡ ms → ListsThree ks xs ms → list_any (same p) ms ≡ true → list_any (same q) ms ≡ true → (s : Bool) → same p q ≡ s → Represents ks (kept_of s xs) ns s false
    on [] [] is h a b s e = cc
    on [] (m ∷ ms) is (inl are) a b s e = cc
    on [] (m ∷ ms) is (inr h) a b s e = absurd (omega (arith, h.0))
    on (x ∷ []) [] is h a b s e = cc
    on (x ∷ []) (m ∷ []) is h a b true e = refl
    on (x ∷ []) (m ∷ []) is h a b false e = absurd (let z : true ≡ false = sym (alike m a b) ∙ e in cc)
    on (x ∷ []) (m ∷ (k ∷ ms)) is (inl are) a b s e = cc
    on (x ∷ []) (m ∷ (k ∷ ms)) is (inr h) a b s e = absurd (omega (arith, h.0))
    on (x ∷ (y ∷ [])) ms is h a b true e = refl
    on (x ∷ (y ∷ [])) ms is (inl are) a b false e = (subst (AreNumbers ks (x ∷ (y ∷ []))) (sym is) are, refl, refl)
    on (x ∷ (y ∷ [])) ms is (inr h) a b false e = absurd (omega (arith, h.0))
    on (x ∷ (y ∷ (z ∷ xs))) ms is h a b s e = grind (arith, nat_tests, many h, ap length is, or-true)
      where
        many : ListsThree ks (x ∷ (y ∷ (z ∷ xs))) ms → 3 ≤ length ms
        many (inl are) = omega (arith, as_many ks (x ∷ (y ∷ (z ∷ xs))) ms are)
        many (inr h) = h.1

-- the neighbors before a visit, and its two
after_visit : (ns : List Point) (p q : Point) → with_position (with_position (with_positions [] ns) p) q ≡ with_positions [] (ns ++ (p ∷ (q ∷ [])))
after_visit ns p q = positions_append [] ns (p ∷ (q ∷ []))

among : (ns : List Point) (p q r : Point) → list_any (same r) (p ∷ (q ∷ [])) ≡ true → list_any (same r) (with_positions [] (ns ++ (p ∷ (q ∷ [])))) ≡ true
among ns p q r h =
    ap (list_any (same r)) (sym (positions_append [] ns (p ∷ (q ∷ [])))) ∙ seen_member (with_positions [] ns) (p ∷ (q ∷ [])) r ∙ ap (λ b. list_any (same r) (with_positions [] ns) || b) h ∙ or-true (list_any (same r) (with_positions [] ns))

-- a visit of a position of which these are the neighbors so far, where nothing settles the matter yet
says_visit : (ks : List Point) (xs : List ℕ) (ns : List Point) (a b : ℕ) (p q : Point) → AreDistinct ks → slice_get ks a ≡ Some p → slice_get ks b ≡ Some q → AreNumbers ks xs (with_positions [] ns) →
    Represents ks (kept_of (nat_eq a b) (with_number (with_number xs a) b)) (ns ++ (p ∷ (q ∷ []))) (same p q) false
says_visit ks xs ns a b p q d e f are =
    subst (λ s. Represents ks (kept_of s (with_number (with_number xs a) b)) (ns ++ (p ∷ (q ∷ []))) (same p q) false) (sym (same_number ks a b p q d e f))
    (says_kept ks (with_number (with_number xs a) b) (ns ++ (p ∷ (q ∷ []))) p q
    (subst (ListsThree ks (with_number (with_number xs a) b)) (after_visit ns p q)
    (one_more ks (with_number xs a) (with_position (with_positions [] ns) p) b q d f (one_more ks xs (with_positions [] ns) a p d e (inl are))))
    (among ns p q p (grind (arith, same_self p))) (among ns p q q (grind (arith, same_self q, or-true))))

-- the first visit of a position
says_first : (ks : List Point) (a b : ℕ) (p q : Point) → AreDistinct ks → slice_get ks a ≡ Some p → slice_get ks b ≡ Some q → Represents ks (passed Unvisited a b) (p ∷ (q ∷ [])) (same p q) false
says_first ks a b p q d e f = subst (λ s. Represents ks (cond s Junction (Once a b)) (p ∷ (q ∷ [])) (same p q) false) (sym (same_number ks a b p q d e f)) (on (same p q) refl)
  where
    on : (s : Bool) → same p q ≡ s → Represents ks (cond s Junction (Once a b)) (p ∷ (q ∷ [])) s false
    on true g = refl
    on false g =
        let two : with_positions [] (p ∷ (q ∷ [])) ≡ p ∷ (q ∷ []) = ap (λ t. cond (t || false) (p ∷ []) (p ∷ (q ∷ []))) (same_sym q p ∙ g) in
        let are : AreNumbers ks (a ∷ (b ∷ [])) (p ∷ (q ∷ [])) = cc in
        (refl, subst (AreNumbers ks (a ∷ (b ∷ []))) (sym two) are, refl, refl)

-- one visit more of a position that was visited between two
says_again : (ks : List Point) (c k : ℕ) (ns : List Point) (turns ends : Bool) (a b : ℕ) (p q : Point) → AreDistinct ks → slice_get ks a ≡ Some p → slice_get ks b ≡ Some q →
    AreNumbers ks (c ∷ (k ∷ [])) (with_positions [] ns) → turns ≡ false → ends ≡ false → Represents ks (passed (Between c k) a b) (ns ++ (p ∷ (q ∷ []))) (turns || same p q) ends
says_again ks c k ns turns ends a b p q d e f are t z =
    subst (λ t. Represents ks (passed (Between c k) a b) (ns ++ (p ∷ (q ∷ []))) (t || same p q) ends) (sym t)
    (subst (Represents ks (passed (Between c k) a b) (ns ++ (p ∷ (q ∷ []))) (same p q)) (sym z)
    (says_visit ks (c ∷ (k ∷ [])) ns a b p q d e f are))

-- ---- what is kept

-- one visit more
pub says_pass : (ks : List Point) (v : Vertex) (ns : List Point) (turns ends : Bool) (a b : ℕ) (p q : Point) → AreDistinct ks → slice_get ks a ≡ Some p → slice_get ks b ≡ Some q → Represents ks v ns turns ends →
    Represents ks (passed v a b) (ns ++ (p ∷ (q ∷ []))) (turns || same p q) ends
says_pass ks Unvisited ns turns ends a b p q d e f (n, t, z) =
    subst (λ t. Represents ks (passed Unvisited a b) (ns ++ (p ∷ (q ∷ []))) (t || same p q) ends) (sym t)
    (subst (Represents ks (passed Unvisited a b) (ns ++ (p ∷ (q ∷ []))) (same p q)) (sym z)
    (subst (λ l. Represents ks (passed Unvisited a b) (l ++ (p ∷ (q ∷ []))) (same p q) false) (sym n)
    (says_first ks a b p q d e f)))
says_pass ks (Once c k) ns turns ends a b p q d e f (two, are, t, z) = says_again ks c k ns turns ends a b p q d e f are t z
says_pass ks (Between c k) ns turns ends a b p q d e f (are, t, z) = says_again ks c k ns turns ends a b p q d e f are t z
says_pass ks Junction ns turns ends a b p q d e f s = on ends turns s
  where
    more : 3 ≤ length (with_positions [] ns) → 3 ≤ length (with_positions [] (ns ++ (p ∷ (q ∷ []))))
    more h = subst (λ l. 3 ≤ length l) (after_visit ns p q) (longer (with_position (with_positions [] ns) p) q (longer (with_positions [] ns) p h))

    on : (e t : Bool) → (e || (t || nat_le 3 (length (with_positions [] ns)))) ≡ true → (e || ((t || same p q) || nat_le 3 (length (with_positions [] (ns ++ (p ∷ (q ∷ []))))))) ≡ true
    on true t s = refl
    on false true s = refl
    on false false s = grind (arith, nat_tests, more, or-true)
says_pass ks RingStart ns turns ends a b p q d e f s = absurd s

-- when all lines were read
pub junction_kept : (ks : List Point) (v : Vertex) (ns : List Point) (turns ends : Bool) → Represents ks v ns turns ends →
    (at_junction v ≡ (ends || (turns || not (length (distinct ns) == 2)))) × (at_cut v ≡ (ends || (turns || not (length (distinct ns) == 2))))
junction_kept ks v ns turns ends h = on v (length (distinct ns)) (as_many_distinct ns) h
  where
    on : (v : Vertex) (n : ℕ) → length (with_positions [] ns) ≡ n → Represents ks v ns turns ends → (at_junction v ≡ (ends || (turns || not (n == 2)))) × (at_cut v ≡ (ends || (turns || not (n == 2))))
    on Unvisited n m (e, t, z) = let none : 0 ≡ n = sym (ap (λ l. length (with_positions [] l)) e) ∙ m in grind (arith, nat_tests, none, or-true)
    on (Once a b) n m (l, are, t, z) = let two : 2 ≡ n = as_many ks (a ∷ (b ∷ [])) (with_positions [] ns) are ∙ m in grind (arith, nat_tests, two)
    on (Between a b) n m (are, t, z) = let two : 2 ≡ n = as_many ks (a ∷ (b ∷ [])) (with_positions [] ns) are ∙ m in grind (arith, nat_tests, two)
    on Junction n m s = both ends turns s
      where
        both : (e t : Bool) → (e || (t || nat_le 3 (length (with_positions [] ns)))) ≡ true → (true ≡ (e || (t || not (n == 2)))) × (true ≡ (e || (t || not (n == 2))))
        both true t s = (refl, refl)
        both false true s = (refl, refl)
        both false false s = grind (arith, nat_tests, m)
    on RingStart n m s = absurd s

-- what is kept as visited once has two neighbors
pub once_kept : (ks : List Point) (v : Vertex) (ns : List Point) (turns ends : Bool) → Represents ks v ns turns ends → at_once v ≡ true → length ns ≡ 2
once_kept ks (Once a b) ns turns ends (two, are, t, z) h = two
once_kept ks Unvisited ns turns ends s h = cc
once_kept ks (Between a b) ns turns ends s h = cc
once_kept ks Junction ns turns ends s h = cc
once_kept ks RingStart ns turns ends s h = cc

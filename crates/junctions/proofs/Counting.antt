-- How many different positions a list has.
use Rattle.std.proofs.Common.{◌≡◌, ◌≢◌, suc, Bool, true, false, cond, not, ◌||◌, List, [], ◌∷◌, length, refl, ap, sym, ◌∙◌, ◌⊎◌, inl, inr, subst, arith}
use Rattle.junctions.proofs.Names.{AllByRecursion, filter, list_any, in_from_any, AreDistinct, same_is, Point, same, In, with_positions, distinct, first_seen}
use Rattle.junctions.proofs.FirstSeen.{seen_in_order, seen_member}
use Rattle.junctions.proofs.Numbers.{distinct_seen}

pub in_distinct : (x : Point) (xs : List Point) → In x xs → In x (distinct xs)
in_distinct x [] k = k
in_distinct x (y ∷ ys) k = grind (arith, in_distinct x ys, in_from_any (same y) (distinct ys), same_is y)

pub of_two : (ds : List Point) (a d e : Point) → length ds ≡ 2 → In a ds → In d ds → In e ds → d ≢ e → (a ≡ d) ⊎ (a ≡ e)
of_two [] a d e h x y z n = elim x [ ]
of_two (u ∷ []) a d e h x y z n = absurd (omega arith)
of_two (u ∷ (v ∷ (w ∷ ws))) a d e h x y z n = absurd (omega arith)
of_two (u ∷ (v ∷ [])) a d e h (inl x) (inl y) z n = inl (x ∙ sym y)
of_two (u ∷ (v ∷ [])) a d e h (inl x) (inr (inl y)) (inl z) n = inr (x ∙ sym z)
of_two (u ∷ (v ∷ [])) a d e h (inl x) (inr (inl y)) (inr (inl z)) n = absurd (n (y ∙ sym z))
of_two (u ∷ (v ∷ [])) a d e h (inl x) (inr (inl y)) (inr (inr z)) n = elim z [ ]
of_two (u ∷ (v ∷ [])) a d e h (inl x) (inr (inr y)) z n = elim y [ ]
of_two (u ∷ (v ∷ [])) a d e h (inr (inl x)) (inr (inl y)) z n = inl (x ∙ sym y)
of_two (u ∷ (v ∷ [])) a d e h (inr (inl x)) (inl y) (inl z) n = absurd (n (y ∙ sym z))
of_two (u ∷ (v ∷ [])) a d e h (inr (inl x)) (inl y) (inr (inl z)) n = inr (x ∙ sym z)
of_two (u ∷ (v ∷ [])) a d e h (inr (inl x)) (inl y) (inr (inr z)) n = elim z [ ]
of_two (u ∷ (v ∷ [])) a d e h (inr (inl x)) (inr (inr y)) z n = elim y [ ]
of_two (u ∷ (v ∷ [])) a d e h (inr (inr x)) y z n = elim x [ ]

-- ---- each counts once, whichever of its places is kept

distinct_member : (p : Point) (ps : List Point) → list_any (same p) (distinct ps) ≡ list_any (same p) ps
distinct_member p [] = refl
distinct_member p (q ∷ qs) = grind (arith, distinct_member p qs, distinct_member q qs, same_is p q)

member_seen : (p : Point) (ps : List Point) → list_any (same p) (first_seen ps) ≡ list_any (same p) ps
member_seen p ps = ap (list_any (same p)) (sym (seen_in_order ps)) ∙ seen_member [] ps p

-- without a position of which each of them differs there are as many
none_less : (p : Point) (ps : List Point) → list_any (same p) ps ≡ false → filter (λ q. not (same p q)) ps ≡ ps
none_less p [] h = refl
none_less p (q ∷ qs) h = grind (arith, none_less p qs)

-- one that differs from all of them is none of them
apart_none : (p : Point) (ps : List Point) → AllByRecursion (λ q. p ≢ q) ps → list_any (same p) ps ≡ false
apart_none p [] h = refl
apart_none p (q ∷ qs) h = on (same p q) refl (apart_none p qs h.1)
  where
    on : (b : Bool) → same p q ≡ b → list_any (same p) qs ≡ false → (b || list_any (same p) qs) ≡ false
    on true e r = absurd (h.0 (same_is p q e))
    on false e r = r

-- without one of them, where all differ, there is one less
one_less : (p : Point) (ps : List Point) → AreDistinct ps → list_any (same p) ps ≡ true → suc (length (filter (λ q. not (same p q)) ps)) ≡ length ps
one_less p [] d h = cc
one_less p (q ∷ qs) d h = on (same p q) refl (one_less p qs d.1)
  where
    on : (b : Bool) → same p q ≡ b → (list_any (same p) qs ≡ true → suc (length (filter (λ q. not (same p q)) qs)) ≡ length qs) → suc (length (cond (not b) (q ∷ filter (λ q. not (same p q)) qs) (filter (λ q. not (same p q)) qs))) ≡ suc (length qs)
    on true e r = ap suc (ap length (none_less p qs (subst (λ x. list_any (same x) qs ≡ false) (sym (same_is p q e)) (apart_none q qs d.0))))
    on false e r = ap suc (r (sym (ap (λ b. b || list_any (same p) qs) e) ∙ h))

as_many_seen : (ps : List Point) → length (first_seen ps) ≡ length (distinct ps)
as_many_seen [] = refl
as_many_seen (p ∷ ps) = on (list_any (same p) ps) refl (as_many_seen ps)
  where
    on : (b : Bool) → list_any (same p) ps ≡ b → length (first_seen ps) ≡ length (distinct ps) →
        suc (length (filter (λ q. not (same p q)) (first_seen ps))) ≡ length (cond (list_any (same p) (distinct ps)) (distinct ps) (p ∷ distinct ps))
    on true e r = one_less p (first_seen ps) (distinct_seen ps) (member_seen p ps ∙ e) ∙ r ∙ ap (λ b. length (cond b (distinct ps) (p ∷ distinct ps))) (sym (distinct_member p ps ∙ e))
    on false e r = ap suc (ap length (none_less p (first_seen ps) (member_seen p ps ∙ e)) ∙ r) ∙ ap (λ b. length (cond b (distinct ps) (p ∷ distinct ps))) (sym (distinct_member p ps ∙ e))

pub as_many_distinct : (ps : List Point) → length (with_positions [] ps) ≡ length (distinct ps)
as_many_distinct ps = ap length (seen_in_order ps) ∙ as_many_seen ps

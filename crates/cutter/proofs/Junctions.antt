-- What holds where no junction is.
use Rattle.std.proofs.Common.{◌≡◌, ◌≢◌, ℕ, false, not, eqb, ◌||◌, List, [], ◌∷◌, length, refl, ap, sym, ◌∙◌, arith, ◌⊎◌, inl, inr}
use Rattle.cutter.proofs.Names.{or_parts, flat_map, list_any, same_self, Point, same, in_filter, none_of, is_cut, starts_free_ring, Visit, all_visits, visits_at, neighbors, distinct, ends_open, is_junction, Stroke}
use Rattle.std.proofs.lemmas.Bool.Decides.{nat_tests}
pub use Rattle.cutter.specs.Places.{In}
use Rattle.junctions.proofs.Counting.{in_distinct, of_two}

pub both_in : (v : Visit) (vs : List Visit) → In v vs → In v.before (flat_map (λ v. v.before ∷ (v.after ∷ [])) vs) × In v.after (flat_map (λ v. v.before ∷ (v.after ∷ [])) vs)
both_in v [] k = elim k [ ]
both_in v (w ∷ vs) (inl e) = (inl (ap (λ x. x.before) e), inr (inl (ap (λ x. x.after) e)))
both_in v (w ∷ vs) (inr k) = let b = both_in v vs k in (inr (inr b.0), inr (inr b.1))

two_test : (n : ℕ) → not (eqb n 2) ≡ false → n ≡ 2
two_test n h = grind (arith, nat_tests)

module _ (ls : List Stroke) (b : Point) (free : is_cut ls b ≡ false) where
  plain : is_junction ls b ≡ false
  plain = (or_parts (is_junction ls b) (list_any (starts_free_ring ls b) ls) free).0

  later_parts : ((list_any (λ v. same v.before v.after) (visits_at ls b)) || not (eqb (length (distinct (neighbors ls b))) 2)) ≡ false
  later_parts = (or_parts (ends_open ls b) _ plain).1

  -- no visit turns
  pub no_turn : (v : Visit) → In v (visits_at ls b) → v.before ≡ v.after → ⊥
  no_turn v k e = grind (arith, none_of, or_parts, later_parts, same_self)

  -- all visits have the same two neighbors
  pub two_neighbors : (v w : Visit) → In v (visits_at ls b) → In w (visits_at ls b) → (x : Point) → (x ≡ v.before) ⊎ (x ≡ v.after) → (x ≡ w.before) ⊎ (x ≡ w.after)
  two_neighbors v w k m x o = grind (arith, later_parts, of_two, two_test, or_parts, in_distinct x, in_distinct w.before, in_distinct w.after, both_in v, both_in w, no_turn w m)

abbrev pub visit : Point → Point → Point → Visit
visit a b c = record { before = a; here = b; after = c }

-- a line visits b between a and c, in either direction, and moves there
pub record Via (ls : List Stroke) (a b c : Point) : Type 0 where
  pub seen : In (visit a b c) (all_visits ls) ⊎ In (visit c b a) (all_visits ls)
  pub comes : a ≢ b
  pub goes : b ≢ c

pub via_back : (ls : List Stroke) (a b c : Point) → Via ls a b c → Via ls c b a
via_back ls a b c v = grind arith

-- the visit of a passage, in the direction that it has
pub visit_of : (ls : List Stroke) (a b c : Point) → Via ls a b c → (v : Visit) × In v (visits_at ls b) × (((v.before ≡ a) × (v.after ≡ c)) ⊎ ((v.before ≡ c) × (v.after ≡ a)))
visit_of ls a b c v = elim v.seen [
  | inl k ↦ (visit a b c, in_filter (λ v. same v.here b) (visit a b c) (all_visits ls) k (same_self b), inl (refl, refl))
  | inr k ↦ (visit c b a, in_filter (λ v. same v.here b) (visit c b a) (all_visits ls) k (same_self b), inr (refl, refl))
]

pub via_turn : (ls : List Stroke) (a b : Point) → is_cut ls b ≡ false → Via ls a b a → ⊥
via_turn ls a b free v =
    let w = visit_of ls a b a v in
    no_turn ls b free w.0 w.1 (elim w.2 [ inl e ↦ e.0 ∙ sym e.1 | inr e ↦ e.0 ∙ sym e.1 ])

pub via_two : (ls : List Stroke) (a b c d e : Point) → is_cut ls b ≡ false → Via ls a b c → Via ls d b e → (a ≡ d) ⊎ (a ≡ e)
via_two ls a b c d e free v w =
    let x = visit_of ls a b c v in
    let y = visit_of ls d b e w in
    on x.0 y.0 y.2 (two_neighbors ls b free x.0 y.0 x.1 y.1 a (elim x.2 [ inl e ↦ inl (sym e.0) | inr e ↦ inr (sym e.1) ]))
  where
    on : (x y : Visit) → ((y.before ≡ d) × (y.after ≡ e)) ⊎ ((y.before ≡ e) × (y.after ≡ d)) → (a ≡ y.before) ⊎ (a ≡ y.after) → (a ≡ d) ⊎ (a ≡ e)
    on x y h k = grind arith

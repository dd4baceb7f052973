-- Trees of boxes.
use Rattle.std.proofs.Common.{◌≡◌, ℕ, ◌+◌, ◌-◌, ◌*◌, ◌<◌, ◌≤◌, ◌/◌, ◌%◌, zero, suc, Bool, true, List, length, slice_index, refl, sym, ap, subst, ◌∙◌, arith, ◌⊎◌, inl, inr}
use Rattle.std.proofs.lemmas.Bool.{cases_eq, cases_order}
use Rattle.geometry.specs.Points.{Point}
use Rattle.guarded_reduction.specs.Indexes.{HoldsLeft, is_left_at, point_at}
use Rattle.planar_predicates.specs.declared.extent.Extent.{Extent}
use Rattle.planar_predicates.specs.Extents.{HoldsPoint, LiesIn}
use Rattle.guarded_reduction.specs.Trees.{Under, at_node, by_left, by_right}
use Rattle.planar_predicates.proofs.Boxes.{holds_in}

-- ---- what is under a node

pub under_least : (i j : ℕ) → Under i j → i ≤ j
under_least i _ at_node = omega arith
under_least i j (by_left u) = let h : 2 * i ≤ j = under_least (2 * i) j u in omega arith
under_least i j (by_right u) = let h : 2 * i + 1 ≤ j = under_least (2 * i + 1) j u in omega arith

pub under_left : (i j : ℕ) → Under i j → Under i (2 * j)
under_left i _ at_node = by_left at_node
under_left i j (by_left u) = by_left (under_left (2 * i) j u)
under_left i j (by_right u) = by_right (under_left (2 * i + 1) j u)

pub under_right : (i j : ℕ) → Under i j → Under i (2 * j + 1)
under_right i _ at_node = by_right at_node
under_right i j (by_left u) = by_left (under_right (2 * i) j u)
under_right i j (by_right u) = by_right (under_right (2 * i + 1) j u)

half_or : (j : ℕ) → (j ≡ 2 * (j / 2)) ⊎ (j ≡ 2 * (j / 2) + 1)
half_or j = one (cases_eq (j % 2) 0)
  where
    one : (j % 2 ≡ 0) ⊎ (j % 2 ≡ 0 → ⊥) → (j ≡ 2 * (j / 2)) ⊎ (j ≡ 2 * (j / 2) + 1)
    one (inl e) = inl (omega arith)
    one (inr n) = inr (omega arith)

-- all is under the first
pub under_first : (fuel j : ℕ) → 0 < j → j ≤ fuel → Under 1 j
under_first zero j p q = absurd (omega arith)
under_first (suc n) j p q = one (cases_order j 1) (λ g. under_first n (j / 2) (omega arith) (omega arith))
  where
    two : (j ≡ 2 * (j / 2)) ⊎ (j ≡ 2 * (j / 2) + 1) → Under 1 (j / 2) → Under 1 j
    two (inl e) u = subst (λ (k : ℕ). Under 1 k) (sym e) (under_left 1 (j / 2) u)
    two (inr e) u = subst (λ (k : ℕ). Under 1 k) (sym e) (under_right 1 (j / 2) u)

    one : (j ≡ 1) ⊎ ((j < 1) ⊎ (1 < j)) → (1 < j → Under 1 (j / 2)) → Under 1 j
    one (inl e) u = subst (λ (k : ℕ). Under 1 k) (sym e) at_node
    one (inr (inl l)) u = absurd (omega arith)
    one (inr (inr g)) u = two (half_or j) (u g)

-- what is under a node is it, or under one of its children
pub under_cases : (i j : ℕ) → Under i j → (i ≡ j) ⊎ (Under (2 * i) j ⊎ Under (2 * i + 1) j)
under_cases i _ at_node = inl refl
under_cases i j (by_left u) = inr (inl u)
under_cases i j (by_right u) = inr (inr u)

-- what is under a leaf is the leaf
pub under_leaf : (leaves i j : ℕ) → leaves ≤ i → j < 2 * leaves → Under i j → j ≡ i
under_leaf leaves i _ p q at_node = refl
under_leaf leaves i j p q (by_left u) = let h : 2 * i ≤ j = under_least (2 * i) j u in absurd (omega arith)
under_leaf leaves i j p q (by_right u) = let h : 2 * i + 1 ≤ j = under_least (2 * i + 1) j u in absurd (omega arith)

-- ---- what is left under a node

-- at a leaf, where the box holds its place's position if that is left
pub leaf_holds : (ps : List Point) (bs : List Bool) (zs : List ℕ) (leaf place : ℕ) (e : Extent) → length ps ≤ leaf → place ≡ slice_index zs (leaf - length ps) →
    (is_left_at bs place ≡ true → HoldsPoint e (point_at ps place)) → HoldsLeft ps bs zs leaf e
leaf_holds ps bs zs leaf place e p q h = record {
  holds = λ r w l u.
      let j : length ps + r ≡ leaf = under_leaf (length ps) leaf (length ps + r) p (omega arith) u in
      let d : leaf - length ps ≡ r = omega arith in
      let s : place ≡ slice_index zs r = q ∙ ap (λ (n : ℕ). slice_index zs n) d in
      subst (λ (z : ℕ). HoldsPoint e (point_at ps z)) s (h (subst (λ (z : ℕ). is_left_at bs z ≡ true) (sym s) l));
}

-- at a node, where the box holds those of its children
pub both_hold : (ps : List Point) (bs : List Bool) (zs : List ℕ) (node : ℕ) (d e f : Extent) → node < length ps → HoldsLeft ps bs zs (2 * node) d → HoldsLeft ps bs zs (2 * node + 1) e → LiesIn d f → LiesIn e f →
    HoldsLeft ps bs zs node f
both_hold ps bs zs node d e f p l r dl er = record { holds = λ k w b u. by k w b (under_cases node (length ps + k) u) }
  where
    by : (k : ℕ) → k < length ps → is_left_at bs (slice_index zs k) ≡ true → (node ≡ length ps + k) ⊎ (Under (2 * node) (length ps + k) ⊎ Under (2 * node + 1) (length ps + k)) → HoldsPoint f (point_at ps (slice_index zs k))
    by k w b (inl q) = absurd (omega arith)
    by k w b (inr (inl u)) = holds_in d f _ dl (l.holds k w b u)
    by k w b (inr (inr u)) = holds_in e f _ er (r.holds k w b u)

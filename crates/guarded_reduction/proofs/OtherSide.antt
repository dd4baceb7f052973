-- What blocks a corner, seen from its other side.
use Rattle.std.proofs.Common.{◌≡◌, ◌≢◌, ℕ, ◌<◌, Bool, true, false, not, ◌||◌, List, length, slice_index, slice_index_or, refl, ap, sym, ◌∙◌, subst, ◌⊎◌, inl, inr, arith}
use Rattle.std.proofs.lemmas.Bool.{both_ways, false_from_ne_true, or_parts}
use Rattle.std.proofs.lemmas.List.{get_or_default}
use Rattle.junctions.proofs.Cleaned.{differs}
use Rattle.geometry.specs.Points.{Point}
use Rattle.geometry.specs.Rings.{same}
use Rattle.geometry.proofs.Points.{same_is, same_self}
use Rattle.guarded_meaning.specs.Triangles.{in_triangle, is_clear}
use Rattle.guarded_meaning.proofs.Turned.{either_way}
use Rattle.planar_predicates.specs.declared.extent.Extent.{Extent}
use Rattle.guarded_reduction.specs.declared.index.corner.Corner.{Corner}
use Rattle.planar_predicates.specs.Extents.{HoldsPoint}
use Rattle.guarded_reduction.specs.Blocking.{is_blocked_by, joins_ends, leads_on, turned_corner}
use Rattle.guarded_reduction.specs.Indexes.{Meets, NoneMeets, is_left_at, point_at}
use Rattle.guarded_reduction.specs.Linking.{Linked, IsChained, IsWhole}
use Rattle.guarded_reduction.specs.Tests.{IsOutside, is_held_by}
use Rattle.guarded_reduction.proofs.Free.{blocked_across, blocked_inside, ends, joined_after, joined_before, leads}
use Rattle.guarded_reduction.proofs.Joining.{blocked_cases}
use Rattle.guarded_reduction.proofs.NotFree.{held, joined, joined_parts, leads_parts}

-- ---- the triangle

either : (x y z : Bool) → ((x || y) || z) ≡ ((y || x) || z)
either true true z = refl
either true false z = refl
either false true z = refl
either false false z = refl

clear_turned : (a p c q : Point) → is_clear c p a q ≡ is_clear a p c q
clear_turned a p c q = ap (λ t. (same c q || same a q) || not t) (either_way a p c q) ∙ either (same c q) (same a q) (not (in_triangle a p c q))

held_turned : (c : Corner) (z : ℕ) (p : Point) → is_held_by c z p ≡ true → is_held_by (turned_corner c) z p ≡ true
unfolding is_held_by
held_turned c z p h = rw (clear_turned c.before c.at c.after p) h

-- ---- the segment between its ends

same_turned : (p q : Point) → same p q ≡ false → same q p ≡ false
same_turned p q h = false_from_ne_true _ (λ k. differs p q h (sym (same_is q p k)))

module _ (s : Linked) (whole : IsWhole s) (chained : IsChained s) where
  abbrev Blocks : Corner → ℕ → Type 0
  Blocks c z = Meets s.positions s.left (is_blocked_by s.positions s.befores s.afters c) z

  abbrev NoneBlocks : Corner → Type 0
  NoneBlocks c = NoneMeets s.positions s.left (is_blocked_by s.positions s.befores s.afters c)

  -- a neighbour of the place blocks the corner
  record ByNeighbour (c : Corner) (y : ℕ) : Type 0 where
    holder : ℕ
    neighbour : (holder ≡ slice_index s.befores y) ⊎ (holder ≡ slice_index s.afters y)
    blocks : Blocks c holder

  module _ (c : Corner) (y : ℕ) (within : y < length s.positions) (left : is_left_at s.left y ≡ true) (two : same c.before c.after ≡ false) (at_before : same c.before (point_at s.positions y) ≡ true) (other : y ≢ c.place) where
    -- where the neighbour is at the other end, it is another place
    apart : (z : ℕ) → same c.after (point_at s.positions z) ≡ true → z ≢ y
    apart z h e = differs c.before c.after two (same_is c.before (point_at s.positions y) at_before ∙ ap (point_at s.positions) (sym e) ∙ sym (same_is c.after (point_at s.positions z) h))

    leads_back : leads_on s.positions c.before c.place y ≡ true
    leads_back = leads s.positions c.before c.place y (point_at s.positions y) within other refl at_before

    by_before : leads_on s.positions c.after c.place (slice_index s.befores y) ≡ true → ByNeighbour (turned_corner c) y
    by_before h =
        let z = slice_index s.befores y in
        let l = leads_parts s.positions c.after c.place z h in
        let k = chained.before y within left (apart z l.1) in
        let n : z < length s.positions = whole.before y within in
        let e : slice_index_or s.afters z c.place ≡ y = get_or_default s.afters z c.place 0 (omega (arith, n, whole.afters)) ∙ k.1 in
        record {
          holder = z;
          neighbour = inl refl;
          blocks = record {
            within = n;
            left = k.0;
            meets = blocked_across s.positions s.befores s.afters (turned_corner c) z (point_at s.positions z) (ends s.positions s.befores s.afters (turned_corner c) z (point_at s.positions z) (same_turned c.before c.after two)
                (joined_after s.positions s.befores s.afters c.after c.before c.place z y (point_at s.positions z) l.1 l.0 e leads_back));
          };
        }

    by_after : leads_on s.positions c.after c.place (slice_index s.afters y) ≡ true → ByNeighbour (turned_corner c) y
    by_after h =
        let z = slice_index s.afters y in
        let l = leads_parts s.positions c.after c.place z h in
        let k = chained.after y within left (apart z l.1) in
        let n : z < length s.positions = whole.after y within in
        let e : slice_index_or s.befores z c.place ≡ y = get_or_default s.befores z c.place 0 (omega (arith, n, whole.befores)) ∙ k.1 in
        record {
          holder = z;
          neighbour = inr refl;
          blocks = record {
            within = n;
            left = k.0;
            meets = blocked_across s.positions s.befores s.afters (turned_corner c) z (point_at s.positions z) (ends s.positions s.befores s.afters (turned_corner c) z (point_at s.positions z) (same_turned c.before c.after two)
                (joined_before s.positions s.befores s.afters c.after c.before c.place z y (point_at s.positions z) l.1 l.0 e leads_back));
          };
        }

  by_neighbour : (c : Corner) (y : ℕ) → y < length s.positions → is_left_at s.left y ≡ true → joins_ends s.positions s.befores s.afters c y (point_at s.positions y) ≡ true → ByNeighbour (turned_corner c) y
  by_neighbour c y w l h =
      let j = joined s.positions s.befores s.afters c y (point_at s.positions y) h in
      let k = joined_parts s.positions s.befores s.afters c.before c.after c.place y (point_at s.positions y) j.1 in
      on k.0 k.1 j.0 k.2
    where
      on : same c.before (point_at s.positions y) ≡ true → y ≢ c.place → same c.before c.after ≡ false →
          (leads_on s.positions c.after c.place (slice_index_or s.befores y c.place) ≡ true) ⊎ (leads_on s.positions c.after c.place (slice_index_or s.afters y c.place) ≡ true) → ByNeighbour (turned_corner c) y
      on p n d (inl k) = by_before c y w l d p n (subst (λ z. leads_on s.positions c.after c.place z ≡ true) (get_or_default s.befores y c.place 0 (omega (arith, w, whole.befores))) k)
      on p n d (inr k) = by_after c y w l d p n (subst (λ z. leads_on s.positions c.after c.place z ≡ true) (get_or_default s.afters y c.place 0 (omega (arith, w, whole.afters))) k)

  -- a place that blocks a corner blocks it from the other side too, or one of its neighbours does
  from_other : (c : Corner) (y : ℕ) → Blocks c y → Blocks (turned_corner c) y ⊎ ByNeighbour (turned_corner c) y
  from_other c y b = on (blocked_cases s.positions s.befores s.afters c y (point_at s.positions y) b.meets)
    where
      on : (is_held_by c y (point_at s.positions y) ≡ true) ⊎ (joins_ends s.positions s.befores s.afters c y (point_at s.positions y) ≡ true) → Blocks (turned_corner c) y ⊎ ByNeighbour (turned_corner c) y
      on (inl h) = inl (record { within = b.within; left = b.left; meets = blocked_inside s.positions s.befores s.afters (turned_corner c) y (point_at s.positions y) (held_turned c y (point_at s.positions y) h) })
      on (inr h) = inr (by_neighbour c y b.within b.left h)

  pub none_from_other : (c : Corner) → NoneBlocks (turned_corner c) → NoneBlocks c
  none_from_other c n = record { fails = λ z w l. false_from_ne_true _ (λ h. on (from_other c z (record { within = w; left = l; meets = h }))) }
    where
      never : (z : ℕ) → Blocks (turned_corner c) z → ⊥
      never z b = both_ways _ (n.fails z b.within b.left) b.meets

      on : {z : ℕ} → Blocks (turned_corner c) z ⊎ ByNeighbour (turned_corner c) z → ⊥
      on {z = z} (inl b) = never z b
      on (inr b) = never b.holder b.blocks

  -- it does not itself, and the place before it does not, so the one after it does
  pub last_of_three : (c : Corner) (z : ℕ) → Blocks (turned_corner c) z → (Blocks c z → ⊥) → (Blocks c (slice_index s.befores z) → ⊥) → Blocks c (slice_index s.afters z)
  last_of_three c z b n m = on (from_other (turned_corner c) z b)
    where
      on : Blocks c z ⊎ ByNeighbour c z → Blocks c (slice_index s.afters z)
      on (inl k) = absurd (n k)
      on (inr k) = by k.holder k.neighbour k.blocks
        where
          by : (y : ℕ) → (y ≡ slice_index s.befores z) ⊎ (y ≡ slice_index s.afters z) → Blocks c y → Blocks c (slice_index s.afters z)
          by y (inl e) j = absurd (m (subst (Blocks c) e j))
          by y (inr e) j = subst (Blocks c) e j

-- ---- at the position after it

-- a box that holds the position after a corner alone holds nothing that blocks it
pub after_outside : (e : Extent) (ps : List Point) (befores afters : List ℕ) (c : Corner) → ((p : Point) → HoldsPoint e p → p ≡ c.after) → IsOutside e (is_blocked_by ps befores afters c)
after_outside e ps befores afters c one = record { fails = λ z p h b. never z p (one p h) (blocked_cases ps befores afters c z p b) }
  where
    never : (z : ℕ) (p : Point) → p ≡ c.after → (is_held_by c z p ≡ true) ⊎ (joins_ends ps befores afters c z p ≡ true) → ⊥
    never z p e (inl k) = both_ways _ (or_parts _ _ (or_parts _ _ (held c z p k).1).0).1 (subst (λ (q : Point). same c.after q ≡ true) (sym e) (same_self c.after))
    never z p e (inr k) =
        let j = joined ps befores afters c z p k in
        let i = joined_parts ps befores afters c.before c.after c.place z p j.1 in
        differs c.before c.after j.0 (same_is c.before p i.0 ∙ e)

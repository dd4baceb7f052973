-- What joins two positions is at the first.
use Rattle.std.proofs.Common.{◌≡◌, ℕ, true, List, sym, subst, ◌⊎◌, inl, inr}
use Rattle.std.proofs.lemmas.Bool.{and_parts, or_cases}
use Rattle.geometry.specs.Points.{Point}
use Rattle.geometry.specs.Rings.{same}
use Rattle.geometry.proofs.Points.{same_is}
use Rattle.guarded_reduction.specs.declared.index.corner.Corner.{Corner}
use Rattle.planar_predicates.specs.declared.extent.Extent.{Extent}
use Rattle.planar_predicates.specs.Extents.{HoldsPoint}
use Rattle.guarded_reduction.specs.Blocking.{is_blocked_by, is_joined_at, joins_ends}
use Rattle.guarded_reduction.specs.Tests.{Reaches, IsOutside, is_held_by}

at_first : (ps : List Point) (befores afters : List ℕ) (a c : Point) (w z : ℕ) (p : Point) → is_joined_at ps befores afters a c w z p ≡ true → same a p ≡ true
unfolding is_joined_at
at_first ps befores afters a c w z p h = (and_parts _ _ h).0

pub blocked_cases : (ps : List Point) (befores afters : List ℕ) (c : Corner) (z : ℕ) (p : Point) → is_blocked_by ps befores afters c z p ≡ true → (is_held_by c z p ≡ true) ⊎ (joins_ends ps befores afters c z p ≡ true)
unfolding is_blocked_by
blocked_cases ps befores afters c z p h = or_cases _ _ h

joins_at_first : (ps : List Point) (befores afters : List ℕ) (c : Corner) (z : ℕ) (p : Point) → joins_ends ps befores afters c z p ≡ true → same c.before p ≡ true
unfolding joins_ends
joins_at_first ps befores afters c z p h = at_first ps befores afters c.before c.after c.place z p (and_parts _ _ h).1

pub blocked_reach : (e : Extent) (ps : List Point) (befores afters : List ℕ) (c : Corner) → Reaches e (is_held_by c) → HoldsPoint e c.before → Reaches e (is_blocked_by ps befores afters c)
blocked_reach e ps befores afters c r h = record { holds = λ z p b. by z p (blocked_cases ps befores afters c z p b) }
  where
    by : (z : ℕ) (p : Point) → (is_held_by c z p ≡ true) ⊎ (joins_ends ps befores afters c z p ≡ true) → HoldsPoint e p
    by z p (inl k) = r.holds z p k
    by z p (inr j) = subst (λ (q : Point). HoldsPoint e q) (same_is c.before p (joins_at_first ps befores afters c z p j)) h

pub blocked_outside : (e : Extent) (ps : List Point) (befores afters : List ℕ) (c : Corner) → (HoldsPoint e c.before → ⊥) → IsOutside e (is_held_by c) → IsOutside e (is_blocked_by ps befores afters c)
blocked_outside e ps befores afters c n o = record { fails = λ z p h b. by z p h (blocked_cases ps befores afters c z p b) }
  where
    by : (z : ℕ) (p : Point) → HoldsPoint e p → (is_held_by c z p ≡ true) ⊎ (joins_ends ps befores afters c z p ≡ true) → ⊥
    by z p h (inl k) = o.fails z p h k
    by z p h (inr k) = n (subst (λ (q : Point). HoldsPoint e q) (sym (same_is c.before p (joins_at_first ps befores afters c z p k))) h)

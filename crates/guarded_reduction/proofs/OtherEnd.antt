-- The other end of a segment that blocks a corner.
use Rattle.std.proofs.Common.{◌≡◌, ℕ, true, false, slice_index, slice_index_or, sym, ◌∙◌, subst, ◌⊎◌, inl, inr, arith}
use Rattle.std.proofs.lemmas.Bool.{both_ways}
use Rattle.std.proofs.lemmas.List.{get_or_default}
use Rattle.guarded_reduction.specs.declared.index.corner.Corner.{Corner}
use Rattle.guarded_reduction.specs.Blocking.{is_blocked_by, is_joined_at, joins_ends, leads_on}
use Rattle.guarded_reduction.specs.Indexes.{Meets, point_at}
use Rattle.guarded_reduction.specs.Linking.{Linked, IsWhole}
use Rattle.guarded_reduction.specs.States.{IsOtherEnd}
use Rattle.guarded_reduction.specs.Tests.{is_held_by}
use Rattle.guarded_reduction.proofs.Free.{blocked_across, ends, joined_after, joined_before}
use Rattle.guarded_reduction.proofs.Joining.{blocked_cases}
use Rattle.guarded_reduction.proofs.NotFree.{joined, joined_parts}

-- the segment blocks the corner
pub end_blocks : (s : Linked) (c : Corner) (z y : ℕ) → IsOtherEnd s c z y → is_blocked_by s.positions s.befores s.afters c z (point_at s.positions z) ≡ true
end_blocks s c z y j = blocked_across s.positions s.befores s.afters c z (point_at s.positions z) (ends s.positions s.befores s.afters c z (point_at s.positions z) j.apart (by j.beside))
  where
    by : (slice_index_or s.befores z c.place ≡ y) ⊎ (slice_index_or s.afters z c.place ≡ y) → is_joined_at s.positions s.befores s.afters c.before c.after c.place z (point_at s.positions z) ≡ true
    by (inl e) = joined_before s.positions s.befores s.afters c.before c.after c.place z y (point_at s.positions z) j.at j.other e j.leads
    by (inr e) = joined_after s.positions s.befores s.afters c.before c.after c.place z y (point_at s.positions z) j.at j.other e j.leads

-- a place blocks the corner, in whose triangle it isn't
module _ (s : Linked) (c : Corner) (z : ℕ) (whole : IsWhole s) (blocks : Meets s.positions s.left (is_blocked_by s.positions s.befores s.afters c) z) (outside : is_held_by c z (point_at s.positions z) ≡ false) where
  before_read : slice_index_or s.befores z c.place ≡ slice_index s.befores z
  before_read = get_or_default s.befores z c.place 0 (omega (arith, blocks.within, whole.befores))

  after_read : slice_index_or s.afters z c.place ≡ slice_index s.afters z
  after_read = get_or_default s.afters z c.place 0 (omega (arith, blocks.within, whole.afters))

  across : joins_ends s.positions s.befores s.afters c z (point_at s.positions z) ≡ true
  across = on (blocked_cases s.positions s.befores s.afters c z (point_at s.positions z) blocks.meets)
    where
      on : (is_held_by c z (point_at s.positions z) ≡ true) ⊎ (joins_ends s.positions s.befores s.afters c z (point_at s.positions z) ≡ true) → joins_ends s.positions s.befores s.afters c z (point_at s.positions z) ≡ true
      on (inl k) = absurd (both_ways _ outside k)
      on (inr k) = k

  -- the place before it is the other end if it leads on
  pub end_before : (y : ℕ) → y ≡ slice_index s.befores z → leads_on s.positions c.after c.place y ≡ true → IsOtherEnd s c z y
  end_before y e l =
      let j = joined s.positions s.befores s.afters c z (point_at s.positions z) across in
      let k = joined_parts s.positions s.befores s.afters c.before c.after c.place z (point_at s.positions z) j.1 in
      record { apart = j.0; at = k.0; other = k.1; leads = l; beside = inl (before_read ∙ sym e) }

  -- and else the place after it
  pub end_after : (x y : ℕ) → x ≡ slice_index s.befores z → leads_on s.positions c.after c.place x ≡ false → y ≡ slice_index s.afters z → IsOtherEnd s c z y
  end_after x y d n e =
      let j = joined s.positions s.befores s.afters c z (point_at s.positions z) across in
      let k = joined_parts s.positions s.befores s.afters c.before c.after c.place z (point_at s.positions z) j.1 in
      record { apart = j.0; at = k.0; other = k.1; leads = on k.2; beside = inr (after_read ∙ sym e) }
    where
      on : (leads_on s.positions c.after c.place (slice_index_or s.befores z c.place) ≡ true) ⊎ (leads_on s.positions c.after c.place (slice_index_or s.afters z c.place) ≡ true) → leads_on s.positions c.after c.place y ≡ true
      on (inl k) = absurd (both_ways _ n (subst (λ i. leads_on s.positions c.after c.place i ≡ true) (before_read ∙ sym d) k))
      on (inr k) = subst (λ i. leads_on s.positions c.after c.place i ≡ true) (after_read ∙ sym e) k

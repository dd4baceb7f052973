-- A heap of entries, some of them stale.
use Rattle.std.proofs.Common.{◌≡◌, ◌≤◌, ℕ, suc, zero, Bool, true, false, List, [], ◌∷◌, ◌++◌, Option, Some, None, refl, ap, sym, ◌∙◌, subst, arith, ◌⊎◌, inl, inr}
use Rattle.std.specs.List.{Contains}
use Rattle.std.specs.List.Sorted.{IsPermutation}
use Rattle.std.specs.Ordering.{is_lt}
use Rattle.std.specs.BinaryHeap.{IsUpperBound}
use Rattle.std.proofs.lemmas.List.Elements.{All-contains, All-from_recursion, Contains-append_cases, Contains-append_left, Contains-append_right}
use Rattle.std.proofs.lemmas.List.Sorted.{Contains-permutation, IsPermutation-sym}
use Rattle.effective_area.specs.declared.links.Link.{Link}
use Rattle.effective_area.specs.declared.entry.Entry.{Entry}
use Rattle.geometry.specs.Points.{Point}
use Rattle.elimination_meaning.specs.Elimination.{Corner, is_before}
use Rattle.elimination_meaning.proofs.Order.{one_corner}
use Rattle.effective_area.specs.Links.{DropsStale, IsCurrent, IsReady, IsUnder, IsDue, LeavesCurrent, HasCorners, area_in, entry_corner, queue_cmp, entry_in, before_in, after_in, cached, Pushed, PushedFirst}

pub contains_cases : {X : Type 0} (e : X) (ys : List X) (x : X) → Contains (e ∷ ys) x → (x ≡ e) ⊎ Contains ys x
contains_cases e ys x (zero, h, k) = inl (sym k)
contains_cases e ys x (suc j, h, k) = inr (j, omega arith, k)

pub contains_later : {X : Type 0} (e : X) (ys : List X) (x : X) → Contains ys x → Contains (e ∷ ys) x
contains_later e ys x (k, h, p) = (suc k, omega arith, p)

pub contains_here : {X : Type 0} (e : X) (ys : List X) → Contains (e ∷ ys) e
contains_here e ys = (0, omega arith, refl)

module _ (ps : List Point) (links : List Link) (old mid new : List Entry) (e : Entry)
    (left : LeavesCurrent ps links old None mid) (perm : IsPermutation mid (e ∷ new)) where
  split : (d : Entry) → Contains mid d → (d ≡ e) ⊎ Contains new d
  split d h = contains_cases e new d (Contains-permutation mid (e ∷ new) d perm h)

  stay : (d : Entry) → Contains old d → IsCurrent links d → Contains mid d
  stay d h k = grind arith

  kept : (d : Entry) → Contains new d → Contains old d
  kept d h = left.rest d (Contains-permutation (e ∷ new) mid d (IsPermutation-sym mid (e ∷ new) perm) (contains_later e new d h))

  pub takes_current : IsUpperBound (queue_cmp ps) e mid → LeavesCurrent ps links old (Some e) new
  takes_current upper = record {
    first = λ x d p h k.
        let q : is_before (entry_corner ps d) (entry_corner ps e) ≡ false = unfold is_before in All-contains (λ (y : Entry). is_lt (queue_cmp ps e y) ≡ false) mid d (All-from_recursion (λ (y : Entry). is_lt (queue_cmp ps e y) ≡ false) mid upper) (stay d h k) in
        let s : e ≡ x = cc in
        subst (λ z. is_before (entry_corner ps d) (entry_corner ps z) ≡ false) s q;
    stays = λ d h k. elim (split d (stay d h k)) [ inl p ↦ inl (ap (λ z. Some z) (sym p)) | inr p ↦ inr p ];
    rest = kept;
    member = λ x p.
        let s : e ≡ x = cc in
        let here : Contains mid e = Contains-permutation (e ∷ new) mid e (IsPermutation-sym mid (e ∷ new) perm) (contains_here e new) in
        subst (λ z. Contains old z) s (left.rest e here);
  }

  pub drops_stale : (IsCurrent links e → ⊥) → LeavesCurrent ps links old None new
  drops_stale stale = record {
    first = λ x d p h k. absurd (cc);
    stays = λ d h k. elim (split d (stay d h k)) [ inl p ↦ absurd (stale (subst (λ z. IsCurrent links z) p k)) | inr p ↦ inr p ];
    rest = kept;
    member = λ x p. absurd (cc);
  }

-- those that are dropped from the end are stale
pub ends_dropped : (ps : List Point) (links : List Link) (old xs ys zs : List Entry) (taken : Option Entry) → DropsStale links xs ys → LeavesCurrent ps links old taken (xs ++ zs) → LeavesCurrent ps links old taken (ys ++ zs)
ends_dropped ps links old xs ys zs taken p l = record {
  first = l.first;
  stays = λ d h k. elim (l.stays d h k) [ inl e ↦ inl e | inr m ↦ inr (on d k (Contains-append_cases xs zs d m)) ];
  rest = λ d h. l.rest d (back d (Contains-append_cases ys zs d h));
  member = l.member;
}
  where
    near : (d : Entry) → IsCurrent links d → Contains ys d ⊎ Contains p.ends d → Contains (ys ++ zs) d
    near d k (inl m) = Contains-append_left ys zs d m
    near d k (inr m) = absurd (p.stale d m k)

    on : (d : Entry) → IsCurrent links d → Contains xs d ⊎ Contains zs d → Contains (ys ++ zs) d
    on d k (inl m) = near d k (Contains-append_cases ys p.ends d (subst (λ (l : List Entry). Contains l d) p.split m))
    on d k (inr m) = Contains-append_right ys zs d m

    back : (d : Entry) → Contains ys d ⊎ Contains zs d → Contains (xs ++ zs) d
    back d (inl m) = Contains-append_left xs zs d (subst (λ (l : List Entry). Contains l d) (sym p.split) (Contains-append_left ys p.ends d m))
    back d (inr m) = Contains-append_right xs zs d m

-- one that is alone
pub alone_stale : (links : List Link) (e : Entry) → (IsCurrent links e → ⊥) → (d : Entry) → Contains (e ∷ []) d → IsCurrent links d → ⊥
alone_stale links e n d h k = on (contains_cases e [] d h)
  where
    on : (d ≡ e) ⊎ Contains [] d → ⊥
    on (inl m) = n (subst (IsCurrent links) m k)
    on (inr m) = absurd (omega (arith, m.1))

pub none_in : (d : Entry) → Contains [] d → ⊥
none_in d h = absurd (omega (arith, h.1))

pub pushed : (t : ℕ) (ps : List Point) (links : List Link) (old new : List Entry) (v : ℕ) (e : Entry) →
    IsPermutation (e ∷ old) new → IsUnder t ps links v e → Pushed t ps links old new v
pushed t ps links old new v e perm u = record {
  has = λ d h. Contains-permutation (e ∷ old) new d perm (contains_later e old d h);
  here = λ _. subst (λ x. Contains new x) u.2 (Contains-permutation (e ∷ old) new e perm (contains_here e old));
  only = λ d h. on d (contains_cases e old d (Contains-permutation new (e ∷ old) d (IsPermutation-sym (e ∷ old) new perm) h));
}
  where
    on : (d : Entry) → (d ≡ e) ⊎ Contains old d → Contains old d ⊎ IsUnder t ps links v d
    on d (inl k) = inr (subst (λ x. IsUnder t ps links v x) (sym k) u)
    on d (inr k) = inl k

pub corners_moved : (t : ℕ) (ps : List Point) (links : List Link) (xs ys : List Entry) (n : ℕ) → IsPermutation xs ys → HasCorners t ps links xs n → HasCorners t ps links ys n
corners_moved t ps links xs ys n p h = record {
  has = λ v a w. Contains-permutation xs ys (entry_in ps links v) p (h.has v a w);
  only = λ d k. h.only d (Contains-permutation ys xs d (IsPermutation-sym xs ys p) k);
}

index_of : (ps : List Point) (links : List Link) (v w : ℕ) → cached ps links v ≡ cached ps links w → v ≡ w
index_of ps links v w e = unfold cached in ap (λ (c : Corner). c.index) e

-- a neighbour doesn't go before a corner that is due
neighbour_after : (t : ℕ) (ps : List Point) (links : List Link) (u v : ℕ) → IsDue t ps links v → (before_in links v ≡ u) ⊎ (after_in links v ≡ u) → is_before (cached ps links u) (cached ps links v) ≡ false
neighbour_after t ps links u v h (inl e) = subst (λ x. is_before (cached ps links x) (cached ps links v) ≡ false) e h.before
neighbour_after t ps links u v h (inr e) = subst (λ x. is_before (cached ps links x) (cached ps links v) ≡ false) e h.after

-- the one of two neighbours that goes first is pushed
pub inner_pushed : (t : ℕ) (ps : List Point) (links : List Link) (old new : List Entry) (v w : ℕ) (known : Bool) →
    is_before (cached ps links w) (cached ps links v) ≡ false → Pushed t ps links old new v → PushedFirst t ps links old new v w known
inner_pushed t ps links old new v w known b p = record {
  has = p.has;
  inner = λ h _. p.here h;
  outer = λ _ n h k. absurd (n (index_of ps links v w (one_corner (cached ps links v) (cached ps links w) (neighbour_after t ps links v w h k) b)));
  only = λ d h. elim (p.only d h) [ inl x ↦ inl x | inr x ↦ inr (inl x) ];
}

pub outer_pushed : (t : ℕ) (ps : List Point) (links : List Link) (old new : List Entry) (v w : ℕ) (known : Bool) →
    is_before (cached ps links w) (cached ps links v) ≡ true → Pushed t ps links old new w → PushedFirst t ps links old new v w known
outer_pushed t ps links old new v w known b p = record {
  has = p.has;
  inner = λ h k. let f : false ≡ true = sym (neighbour_after t ps links w v h k) ∙ b in absurd (cc);
  outer = λ _ _ h _. p.here h;
  only = λ d h. elim (p.only d h) [ inl x ↦ inl x | inr x ↦ inr (inr x) ];
}

-- where neither is under the threshold, none is due
pub none_due : (t : ℕ) (ps : List Point) (links : List Link) (items : List Entry) (v w : ℕ) (known : Bool) →
    IsReady ps links v → IsReady ps links w → t ≤ area_in links v → t ≤ area_in links w → PushedFirst t ps links items items v w known
none_due t ps links items v w known r s p q = record {
  has = λ d h. h;
  inner = λ h _. absurd (over v r p h);
  outer = λ _ _ h _. absurd (over w s q h);
  only = λ d h. inl h;
}
  where
    over : (u : ℕ) → IsReady ps links u → t ≤ area_in links u → IsDue t ps links u → ⊥
    over u k l h = omega (arith, l, h.under, k.cached h.later h.inside)

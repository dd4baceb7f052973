-- Which corner is the next to go.
use Rattle.std.proofs.Common.{ℕ, ◌≡◌, Bool, true, false, List, [], ◌∷◌, Option, Some, None, inl, inr, refl, ap, ◌∙◌, subst, if◌then◌else◌, arith}
use Rattle.guarded_meaning.proofs.Names.{false_from_ne_true, both_ways, filter, in_filter, from_filter, ordering_reverse, is_lt, Equal, all_of, In, map_some, Vertex, NextLaw, NoNextLaw, ArcCorner, all_corners, without_at, left_by, earlier, first_corner, Guard, arc_corner_cmp, goes_before, goes, next_corner, next_arcs}
use Rattle.std.specs.declared.cmp.Ordering.{Ordering}
use Rattle.std.proofs.lemmas.Map.Lookups.{exact_unsigned}
use Rattle.geometry.proofs.Points.{point_exact, then_equal}
use Rattle.guarded_meaning.proofs.Lists.{none_passes}
use Rattle.guarded_meaning.proofs.Order.{arc_corner_total, goes_order}

abbrev pub Alike : ArcCorner → ArcCorner → Type 0
Alike c d = (c.arc ≡ d.arc) × (c.corner ≡ d.corner)

arc_exact : (c d : ArcCorner) → arc_corner_cmp c d ≡ Equal → Alike c d
arc_exact c d h = grind (
  arith,
  then_equal,
  exact_unsigned c.corner.area d.corner.area,
  exact_unsigned c.corner.index d.corner.index,
  exact_unsigned c.arc d.arc,
  point_exact c.corner.point d.corner.point,
)

-- two of which neither goes before the other are one corner
neither : (p q : Ordering) → p ≡ ordering_reverse q → is_lt p ≡ false → is_lt q ≡ false → p ≡ Equal
neither p q e h k = grind arith

pub tied : (c d : ArcCorner) → goes_before c d ≡ false → goes_before d c ≡ false → Alike c d
unfolding goes_before
tied c d h k = arc_exact c d (neither (arc_corner_cmp c d) (arc_corner_cmp d c) (arc_corner_total.antisymm c d) h k)

not_itself : (c : ArcCorner) → goes_before c c ≡ false
not_itself c = grind (arith, goes_order.one_way)

-- it goes first of them
abbrev IsFirst : List ArcCorner → Option ArcCorner → Type 0
IsFirst cs None = cs ≡ []
IsFirst cs (Some c) = In c cs × ((d : ArcCorner) → In d cs → goes_before d c ≡ false)

one_is_first : (c d : ArcCorner) (cs : List ArcCorner) (b : Bool) → goes_before d c ≡ b → IsFirst cs (Some d) → IsFirst (c ∷ cs) (Some (if b then d else c))
one_is_first c d cs true e k = (inr k.0, λ x m. elim m [ inl i ↦ ap (λ y. goes_before y d) i ∙ (grind (arith, goes_order.one_way)) | inr n ↦ k.1 x n ])
one_is_first c d cs false e k = (inl refl, λ x m. elim m [ inl i ↦ ap (λ y. goes_before y c) i ∙ not_itself c | inr n ↦ goes_order.chain x d c (k.1 x n) e ])

first_step : (c : ArcCorner) (cs : List ArcCorner) (o : Option ArcCorner) → IsFirst cs o → IsFirst (c ∷ cs) (earlier (Some c) o)
first_step c cs None h = (inl refl, λ x m. elim m [ inl i ↦ ap (λ y. goes_before y c) i ∙ not_itself c | inr n ↦ elim (subst (In x) h n) [ ] ])
first_step c cs (Some d) h = one_is_first c d cs (goes_before d c) refl h

first_is : (cs : List ArcCorner) → IsFirst cs (first_corner cs)
first_is [] = refl
first_is (c ∷ cs) = first_step c cs (first_corner cs) (first_is cs)

-- ---- the next one

-- the corner that goes first of those that pass
pub record IsNext (passes : Guard) (arcs : List (List Vertex)) (c : ArcCorner) : Type 0 where
  pub among : In c (all_corners 0 arcs)
  pub passed : passes arcs c ≡ true
  pub none_before : (d : ArcCorner) → In d (all_corners 0 arcs) → passes arcs d ≡ true → goes_before d c ≡ false

pub next_is : (passes : Guard) (arcs : List (List Vertex)) (c : ArcCorner) → next_corner passes arcs ≡ Some c → IsNext passes arcs c
next_is passes arcs c h =
    let f = subst (IsFirst (filter (passes arcs) (all_corners 0 arcs))) h (first_is (filter (passes arcs) (all_corners 0 arcs))) in
    let w = from_filter (passes arcs) c (all_corners 0 arcs) f.0 in
    record { among = w.0; passed = w.1; none_before = λ d k g. f.1 d (in_filter (passes arcs) d (all_corners 0 arcs) k g) }

pub none_is_next : (passes : Guard) (arcs : List (List Vertex)) → next_corner passes arcs ≡ None → (d : ArcCorner) → In d (all_corners 0 arcs) → passes arcs d ≡ false
none_is_next passes arcs h d k =
    let e : filter (passes arcs) (all_corners 0 arcs) ≡ [] = subst (IsFirst (filter (passes arcs) (all_corners 0 arcs))) h (first_is (filter (passes arcs) (all_corners 0 arcs))) in
    false_from_ne_true (passes arcs d) (λ g. elim (subst (In d) e (in_filter (passes arcs) d (all_corners 0 arcs) k g)) [ ])

pub no_next_law : NoNextLaw
no_next_law guard t arcs h = ap (λ cs. map_some (left_by arcs) (first_corner cs)) (none_passes (goes guard t arcs) (all_corners 0 arcs) (all_of (λ d. goes guard t arcs d ≡ false) (all_corners 0 arcs) h))

pub next_law : NextLaw
next_law guard t arcs c k g h = on (next_corner (goes guard t) arcs) refl
  where
    on : (o : Option ArcCorner) → next_corner (goes guard t) arcs ≡ o → map_some (left_by arcs) o ≡ Some (left_by arcs c)
    on None e = absurd (both_ways (goes guard t arcs c) (none_is_next (goes guard t) arcs e c k) g)
    on (Some d) e =
        let n = next_is (goes guard t) arcs d e in
        let a = tied d c (h d n.among n.passed) (n.none_before c k g) in
        ap (λ m. Some (without_at m d.corner.index arcs)) a.0 ∙ ap (λ x. Some (without_at c.arc x.index arcs)) a.1

-- the corner that goes next, and what it leaves
pub next_says : (guard : Guard) (t : ℕ) (arcs left : List (List Vertex)) → next_arcs guard t arcs ≡ Some left → (c : ArcCorner) × IsNext (goes guard t) arcs c × (left_by arcs c ≡ left)
next_says guard t arcs left h = on (next_corner (goes guard t) arcs) refl h
  where
    on : (o : Option ArcCorner) → next_corner (goes guard t) arcs ≡ o → map_some (left_by arcs) o ≡ Some left → (c : ArcCorner) × IsNext (goes guard t) arcs c × (left_by arcs c ≡ left)
    on None e k = absurd cc
    on (Some c) e k = (c, next_is (goes guard t) arcs c e, cc)

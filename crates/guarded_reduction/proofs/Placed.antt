-- The places and neighbours of whole arcs.
use Rattle.std.proofs.Common.{◌≡◌, ℕ, zero, suc, ◌+◌, ◌<◌, Bool, true, false, List, [], ◌∷◌, ◌++◌, length, map, slice_index_or, refl, ap, sym, ◌∙◌, subst, arith, ◌⊎◌, inl, inr, if◌then◌else◌}
use Rattle.std.specs.List.{AllByRecursion, filter}
use Rattle.std.proofs.lemmas.List.{get_or_append_left, get_or-append-add}
use Rattle.owned_values.proofs.Elements.{all_append}
use Rattle.owned_values.proofs.Members.{in_left, in_right, in_append}
use Rattle.junctions.proofs.Members.{in_map, from_map}
use Rattle.geometry.specs.Lists.{In, joined}
use Rattle.geometry.specs.Points.{Point}
use Rattle.elimination_meaning.specs.Elimination.{Vertex, numbered}
use Rattle.guarded_meaning.specs.Arcs.{Place, place_at, places, Neighbours, neighbours_at, neighbours_from, neighbours, all_neighbours}
use Rattle.guarded_meaning.specs.Weights.{passing}
use Rattle.guarded_reduction.specs.Indexes.{origin, point_at}
use Rattle.guarded_reduction.specs.Numbers.{number, HasPlace}

-- the vertex of this index in the arc of this number
abbrev pub vertex_of : List (List Point) → ℕ → ℕ → Vertex
vertex_of arcs k i = record { index = i; point = point_at (joined arcs) (number arcs k i) }

-- ---- positions

pub point_here : (ps : List Point) (arcs : List (List Point)) (i : ℕ) → i < length ps → point_at (ps ++ joined arcs) i ≡ slice_index_or ps i origin
unfolding point_at
point_here ps arcs i h = get_or_append_left ps (joined arcs) origin i h

pub point_later : (ps : List Point) (arcs : List (List Point)) (n : ℕ) → point_at (ps ++ joined arcs) (length ps + n) ≡ point_at (joined arcs) n
unfolding point_at
point_later ps arcs n = get_or-append-add ps (joined arcs) n origin

-- ---- places of an arc

record IsNumbered (o : ℕ) (ps : List Point) (v : Vertex) : Type 0 where
  i : ℕ
  index : v.index ≡ o + i
  within : i < length ps
  point : v.point ≡ slice_index_or ps i origin

of_numbered : (o : ℕ) (ps : List Point) (v : Vertex) → In v (numbered o ps) → IsNumbered o ps v
of_numbered o [] v m = elim m [ ]
of_numbered o (p ∷ ps) v (inl e) = record { i = 0; index = ap (λ (w : Vertex). w.index) e ∙ omega arith; within = omega arith; point = ap (λ (w : Vertex). w.point) e }
of_numbered o (p ∷ ps) v (inr m) = let r = of_numbered (o + 1) ps v m in record { i = suc r.i; index = omega (arith, r.index); within = omega (arith, r.within); point = r.point }

in_numbered : (o : ℕ) (ps : List Point) (i n : ℕ) → i < length ps → n ≡ o + i → In (record { index = n; point = slice_index_or ps i origin }) (numbered o ps)
in_numbered o [] i n h e = absurd (omega (arith, h))
in_numbered o (p ∷ ps) zero n h e = inl (ap (λ m. vertex m p) (e ∙ omega arith))
  where
    vertex : ℕ → Point → Vertex
    vertex m q = record { index = m; point = q }
in_numbered o (p ∷ ps) (suc i) n h e = inr (in_numbered (o + 1) ps i n (omega (arith, h)) (omega (arith, e)))

-- ---- places of arcs

pub record IsPlaced (k : ℕ) (arcs : List (List Point)) (x : Place) : Type 0 where
  pub m : ℕ
  pub arc : x.arc ≡ k + m
  pub there : HasPlace arcs m x.vertex.index
  pub point : x.vertex.point ≡ point_at (joined arcs) (number arcs m x.vertex.index)

placed_here : (k : ℕ) (ps : List Point) (arcs : List (List Point)) (x : Place) → (v : Vertex) × In v (numbered 0 ps) × (x ≡ place_at k v) → IsPlaced k (ps ∷ arcs) x
placed_here k ps arcs x (v, m, e) =
    let r = of_numbered 0 ps v m in
    let z : v.index ≡ r.i = omega (arith, r.index) in
    let iv : x.vertex.index ≡ r.i = ap (λ (y : Place). y.vertex.index) e ∙ z in
    record {
      m = 0;
      arc = ap (λ (y : Place). y.arc) e ∙ omega arith;
      there = omega (arith, iv, r.within);
      point = ap (λ (y : Place). y.vertex.point) e ∙ r.point ∙ sym (point_here ps arcs r.i r.within) ∙ ap (point_at (ps ++ joined arcs)) (sym iv);
    }

pub placed : (k : ℕ) (arcs : List (List Point)) (x : Place) → In x (places k (map (numbered 0) arcs)) → IsPlaced k arcs x
placed k [] x m = elim m [ ]
placed k (ps ∷ arcs) x m = on (in_append x (map (place_at k) (numbered 0 ps)) (places (suc k) (map (numbered 0) arcs)) m) (λ n. placed (suc k) arcs x n)
  where
    on : In x (map (place_at k) (numbered 0 ps)) ⊎ In x (places (suc k) (map (numbered 0) arcs)) → (In x (places (suc k) (map (numbered 0) arcs)) → IsPlaced (suc k) arcs x) → IsPlaced k (ps ∷ arcs) x
    on (inl n) f = placed_here k ps arcs x (from_map (place_at k) x (numbered 0 ps) n)
    on (inr n) f = let r = f n in record { m = suc r.m; arc = omega (arith, r.arc); there = r.there; point = r.point ∙ sym (point_later ps arcs (number arcs r.m x.vertex.index)) }

pub in_places : (k : ℕ) (arcs : List (List Point)) (m i n : ℕ) → n ≡ k + m → HasPlace arcs m i → In (place_at n (vertex_of arcs m i)) (places k (map (numbered 0) arcs))
in_places k [] m i n e h = elim h [ ]
in_places k (ps ∷ arcs) zero i n e h =
    let z : n ≡ k = omega (arith, e) in
    let at : i ≡ 0 + i = omega arith in
    in_left (place_at n (vertex_of (ps ∷ arcs) 0 i)) (map (place_at k) (numbered 0 ps)) (places (suc k) (map (numbered 0) arcs))
    (subst (λ (j : ℕ). In (place_at j (vertex_of (ps ∷ arcs) 0 i)) (map (place_at k) (numbered 0 ps))) (sym z)
    (in_map (place_at k) (vertex_of (ps ∷ arcs) 0 i) (numbered 0 ps)
    (subst (λ (p : Point). In (vertex i p) (numbered 0 ps)) (sym (point_here ps arcs i h)) (in_numbered 0 ps i i h at))))
  where
    vertex : ℕ → Point → Vertex
    vertex j q = record { index = j; point = q }
in_places k (ps ∷ arcs) (suc m) i n e h =
    in_right (place_at n (vertex_of (ps ∷ arcs) (suc m) i)) (map (place_at k) (numbered 0 ps)) (places (suc k) (map (numbered 0) arcs))
    (subst (λ (p : Point). In (place p) (places (suc k) (map (numbered 0) arcs))) (sym (point_later ps arcs (number arcs m i))) (in_places (suc k) arcs m i n (omega (arith, e)) h))
  where
    place : Point → Place
    place q = record { arc = n; vertex = record { index = i; point = q } }

-- ---- neighbours

from_successive : (k o : ℕ) (a : Vertex) (ps : List Point) → o ≡ a.index + 1 → AllByRecursion (λ j. j.to.index ≡ j.from.index + 1) (neighbours_from k a (numbered o ps))
from_successive k o a [] e = tt
from_successive k o a (p ∷ ps) e = (e, from_successive k (o + 1) (record { index = o; point = p }) ps refl)

in_successive : (k : ℕ) (ps : List Point) → AllByRecursion (λ j. j.to.index ≡ j.from.index + 1) (neighbours k (numbered 0 ps))
in_successive k [] = tt
in_successive k (p ∷ ps) = from_successive k (0 + 1) (record { index = 0; point = p }) ps refl

-- the indexes of neighbours follow one another
pub successive : (k : ℕ) (arcs : List (List Point)) → AllByRecursion (λ j. j.to.index ≡ j.from.index + 1) (all_neighbours k (map (numbered 0) arcs))
successive k [] = tt
successive k (ps ∷ arcs) = all_append (λ j. j.to.index ≡ j.from.index + 1) (neighbours k (numbered 0 ps)) (all_neighbours (suc k) (map (numbered 0) arcs)) (in_successive k ps) (successive (suc k) arcs)

-- an element and the next, with their indexes
in_from : (k o : ℕ) (a : Vertex) (ps : List Point) (i : ℕ) → i < length ps → a.index + 1 ≡ o →
    In (neighbours_at k (record { index = a.index + i; point = slice_index_or (a.point ∷ ps) i origin }) (record { index = o + i; point = slice_index_or ps i origin })) (neighbours_from k a (numbered o ps))
in_from k o a [] i h e = absurd (omega (arith, h))
in_from k o a (p ∷ ps) zero h e = inl (let u : a.index + 0 ≡ a.index = omega arith in let w : o + 0 ≡ o = omega arith in ap (λ m. pair m (o + 0)) u ∙ ap (λ m. pair a.index m) w)
  where
    pair : ℕ → ℕ → Neighbours
    pair m n = neighbours_at k (record { index = m; point = a.point }) (record { index = n; point = p })
in_from k o a (p ∷ ps) (suc i) h e =
    let u : o + i ≡ a.index + suc i = omega (arith, e) in
    let w : (o + 1) + i ≡ o + suc i = omega arith in
    inr (subst (λ m. In (pair m (o + suc i)) (neighbours_from k (record { index = o; point = p }) (numbered (o + 1) ps))) u
    (subst (λ m. In (pair (o + i) m) (neighbours_from k (record { index = o; point = p }) (numbered (o + 1) ps))) w (in_from k (o + 1) (record { index = o; point = p }) ps i (omega (arith, h)) refl)))
  where
    pair : ℕ → ℕ → Neighbours
    pair m n = neighbours_at k (record { index = m; point = slice_index_or (p ∷ ps) i origin }) (record { index = n; point = slice_index_or ps i origin })

in_arc : (k : ℕ) (ps : List Point) (i : ℕ) → suc i < length ps →
    In (neighbours_at k (record { index = i; point = slice_index_or ps i origin }) (record { index = suc i; point = slice_index_or ps (suc i) origin })) (neighbours k (numbered 0 ps))
in_arc k [] i h = absurd (omega (arith, h))
in_arc k (p ∷ ps) i h =
    let u : 0 + i ≡ i = omega arith in
    let w : (0 + 1) + i ≡ suc i = omega arith in
    subst (λ m. In (pair m (suc i)) (neighbours k (numbered 0 (p ∷ ps)))) u (subst (λ m. In (pair (0 + i) m) (neighbours k (numbered 0 (p ∷ ps)))) w (in_from k (0 + 1) (record { index = 0; point = p }) ps i (omega (arith, h)) refl))
  where
    pair : ℕ → ℕ → Neighbours
    pair m n = neighbours_at k (record { index = m; point = slice_index_or (p ∷ ps) i origin }) (record { index = n; point = slice_index_or ps i origin })

pub in_neighbours : (k : ℕ) (arcs : List (List Point)) (m i n : ℕ) → n ≡ k + m → HasPlace arcs m (suc i) →
    In (neighbours_at n (vertex_of arcs m i) (vertex_of arcs m (suc i))) (all_neighbours k (map (numbered 0) arcs))
in_neighbours k [] m i n e h = elim h [ ]
in_neighbours k (ps ∷ arcs) zero i n e h =
    let z : n ≡ k = omega (arith, e) in
    in_left (pair n (point_at (ps ++ joined arcs) i) (point_at (ps ++ joined arcs) (suc i))) (neighbours k (numbered 0 ps)) (all_neighbours (suc k) (map (numbered 0) arcs))
    (subst (λ j. In (pair j (point_at (ps ++ joined arcs) i) (point_at (ps ++ joined arcs) (suc i))) (neighbours k (numbered 0 ps))) (sym z)
    (subst (λ p. In (pair k p (point_at (ps ++ joined arcs) (suc i))) (neighbours k (numbered 0 ps))) (sym (point_here ps arcs i (omega (arith, h))))
    (subst (λ p. In (pair k (slice_index_or ps i origin) p) (neighbours k (numbered 0 ps))) (sym (point_here ps arcs (suc i) h)) (in_arc k ps i h))))
  where
    pair : ℕ → Point → Point → Neighbours
    pair j p q = neighbours_at j (record { index = i; point = p }) (record { index = suc i; point = q })
in_neighbours k (ps ∷ arcs) (suc m) i n e h =
    in_right (pair (point_at (ps ++ joined arcs) (length ps + number arcs m i)) (point_at (ps ++ joined arcs) (length ps + number arcs m (suc i)))) (neighbours k (numbered 0 ps)) (all_neighbours (suc k) (map (numbered 0) arcs))
    (subst (λ p. In (pair p (point_at (ps ++ joined arcs) (length ps + number arcs m (suc i)))) (all_neighbours (suc k) (map (numbered 0) arcs))) (sym (point_later ps arcs (number arcs m i)))
    (subst (λ p. In (pair (point_at (joined arcs) (number arcs m i)) p) (all_neighbours (suc k) (map (numbered 0) arcs))) (sym (point_later ps arcs (number arcs m (suc i)))) (in_neighbours (suc k) arcs m i n (omega (arith, e)) h)))
  where
    pair : Point → Point → Neighbours
    pair p q = neighbours_at n (record { index = i; point = p }) (record { index = suc i; point = q })

-- ---- all pass

filter_when : {X : Type 0} (p : X → Bool) (xs : List X) → AllByRecursion (λ x. p x ≡ true) xs → filter p xs ≡ xs
filter_when p [] h = refl
filter_when p (x ∷ xs) h = ap (λ b. if b then x ∷ filter p xs else filter p xs) h.0 ∙ ap (λ l. x ∷ l) (filter_when p xs h.1)

-- where all places pass, nothing is left out
pub passing_when : (p : Place → Bool) (k : ℕ) (arcs : List (List Vertex)) → ((x : Place) → In x (places k arcs) → p x ≡ true) → passing p k arcs ≡ arcs
passing_when p k [] h = refl
passing_when p k (vs ∷ arcs) h =
    ap (λ ws. ws ∷ passing p (suc k) arcs) (filter_when (λ v. p (place_at k v)) vs (each vs (λ v m. h (place_at k v) (in_left (place_at k v) (map (place_at k) vs) (places (suc k) arcs) (in_map (place_at k) v vs m)))))
    ∙ ap (λ more. vs ∷ more) (passing_when p (suc k) arcs (λ x m. h x (in_right x (map (place_at k) vs) (places (suc k) arcs) m)))
  where
    each : (ws : List Vertex) → ((v : Vertex) → In v ws → p (place_at k v) ≡ true) → AllByRecursion (λ v. p (place_at k v) ≡ true) ws
    each [] f = tt
    each (w ∷ ws) f = (f w (inl refl), each ws (λ v m. f v (inr m)))

filter_where : {X : Type 0} (p q r : X → Bool) (xs : List X) → ((x : X) → In x xs → r x ≡ (if p x then q x else false)) → filter r xs ≡ filter q (filter p xs)
filter_where p q r [] h = refl
filter_where p q r (x ∷ xs) h = grind (arith, filter_where p q r xs (λ y m. h y (inr m)), h x (inl refl))

-- where of all places those pass that pass two tests, they are left out one after the other
pub passing_where : (p q r : Place → Bool) (k : ℕ) (arcs : List (List Vertex)) → ((x : Place) → In x (places k arcs) → r x ≡ (if p x then q x else false)) → passing r k arcs ≡ passing q k (passing p k arcs)
passing_where p q r k [] h = refl
passing_where p q r k (vs ∷ arcs) h =
    ap (λ ws. ws ∷ passing r (suc k) arcs) (filter_where (λ v. p (place_at k v)) (λ v. q (place_at k v)) (λ v. r (place_at k v)) vs (λ v m. h (place_at k v) (in_left (place_at k v) (map (place_at k) vs) (places (suc k) arcs) (in_map (place_at k) v vs m))))
    ∙ ap (λ more. filter (λ v. q (place_at k v)) (filter (λ v. p (place_at k v)) vs) ∷ more) (passing_where p q r (suc k) arcs (λ x m. h x (in_right x (map (place_at k) vs) (places (suc k) arcs) m)))

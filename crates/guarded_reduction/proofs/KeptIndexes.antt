-- The indexes of the places that are left.
use Rattle.std.proofs.Common.{◌≡◌, ℕ, suc, ◌+◌, Bool, true, false, List, [], ◌∷◌, length, map, refl, ap, sym, ◌∙◌, arith, if◌then◌else◌}
use Rattle.std.specs.List.{filter, range_with_len}
use Rattle.geometry.specs.Points.{Point}
use Rattle.elimination_meaning.specs.Elimination.{Vertex, numbered}
use Rattle.guarded_meaning.specs.Arcs.{Place, place_at}
use Rattle.guarded_meaning.specs.Weights.{passing}
use Rattle.guarded_reduction.specs.Indexes.{is_left_at}
use Rattle.guarded_reduction.specs.Numbers.{all_kept_indexes, kept_indexes, left_arcs, number}

kept_step : (p : Vertex → Bool) (q : ℕ → Bool) (v : Vertex) (vs : List Vertex) (is : List ℕ) (b : Bool) → p v ≡ b → q v.index ≡ b → map (λ u. u.index) (filter p vs) ≡ filter q is → map (λ u. u.index) (filter p (v ∷ vs)) ≡ filter q (v.index ∷ is)
kept_step p q v vs is true e f h = ap (λ c. map (λ (u : Vertex). u.index) (if c then v ∷ filter p vs else filter p vs)) e ∙ ap (λ l. v.index ∷ l) h ∙ sym (ap (λ c. if c then v.index ∷ filter q is else filter q is) f)
kept_step p q v vs is false e f h = ap (λ c. map (λ (u : Vertex). u.index) (if c then v ∷ filter p vs else filter p vs)) e ∙ h ∙ sym (ap (λ c. if c then v.index ∷ filter q is else filter q is) f)

kept_in : (p : Vertex → Bool) (q : ℕ → Bool) (j : ℕ) (ps : List Point) → ((v : Vertex) → p v ≡ q v.index) → map (λ u. u.index) (filter p (numbered j ps)) ≡ filter q (range_with_len j (length ps))
kept_in p q j [] f = refl
kept_in p q j (x ∷ ps) f = kept_step p q (record { index = j; point = x }) (numbered (j + 1) ps) (range_with_len (j + 1) (length ps)) (q j) (f (record { index = j; point = x })) refl (kept_in p q (j + 1) ps f)

kept_by : (bs : List Bool) (p : Place → Bool) (k o : ℕ) (arcs : List (List Point)) → ((m : ℕ) (x : Place) → x.arc ≡ k + m → p x ≡ is_left_at bs (o + number arcs m x.vertex.index)) →
    map (map (λ v. v.index)) (passing p k (map (numbered 0) arcs)) ≡ all_kept_indexes bs o arcs
kept_by bs p k o [] f = refl
kept_by bs p k o (ps ∷ arcs) f =
    ap (λ l. l ∷ map (map (λ v. v.index)) (passing p (suc k) (map (numbered 0) arcs))) (kept_in (λ v. p (place_at k v)) (λ i. is_left_at bs (o + i)) 0 ps (λ v. f 0 (place_at k v) (omega arith)))
    ∙ ap (λ l. kept_indexes bs o (length ps) ∷ l) (kept_by bs p (suc k) (o + length ps) arcs (λ m x e. let z : o + (length ps + number arcs m x.vertex.index) ≡ (o + length ps) + number arcs m x.vertex.index = omega arith in
    f (suc m) x (omega (arith, e)) ∙ ap (is_left_at bs) z))

pub left_indexes : (bs : List Bool) (arcs : List (List Point)) → all_kept_indexes bs 0 arcs ≡ map (map (λ v. v.index)) (left_arcs arcs bs)
left_indexes bs arcs = sym (kept_by bs (λ x. is_left_at bs (number arcs x.arc x.vertex.index)) 0 0 arcs (λ m x e.
    let z : x.arc ≡ m = omega (arith, e) in
    let n : number arcs m x.vertex.index ≡ 0 + number arcs m x.vertex.index = omega arith in
    ap (λ k. is_left_at bs (number arcs k x.vertex.index)) z ∙ ap (is_left_at bs) n))

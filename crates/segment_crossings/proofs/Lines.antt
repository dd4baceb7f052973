-- The segments of arcs, and those that are left to be counted.
use Rattle.std.proofs.Common.{◌≡◌, false, ℕ, ◌+◌, ◌-◌, ◌<◌, ◌≤◌, ◌⊎◌, inl, inr, suc, zero, List, ◌∷◌, length, map, drop, ap, sym, subst, ◌∙◌, add-one, arith}
use Rattle.std.proofs.lemmas.Bool.{cases_lt}
use Rattle.std.proofs.Math.Seq.{drop-cons}
use Rattle.std.proofs.lemmas.List.{drop_all}
use Rattle.guarded_meaning.specs.Segments.{Segment, meets_badly, bad_pairs}
use Rattle.segment_crossings.specs.declared.line.Line.{Line}
use Rattle.segment_crossings.specs.Lines.{Each, as_segment, bad_among, bad_from, line_at, no_line}
use Rattle.segment_crossings.proofs.Counts.{one, bad_more}

-- the segment doesn't meet it badly
abbrev pub IsClear : Line → Segment → Type 0
IsClear l t = meets_badly (as_segment l) t ≡ false

pub ahead : (ls : List Line) (r : ℕ) → r < length ls → drop r ls ≡ line_at ls r ∷ drop (r + 1) ls
unfolding line_at
ahead ls r h = drop-cons ls r no_line h ∙ ap (λ n. line_at ls r ∷ drop n ls) (sym (add-one r))

pub one_ahead : (ls : List Line) (l : Line) (r : ℕ) → r < length ls → bad_from ls l r ≡ one (meets_badly (as_segment l) (as_segment (line_at ls r))) + bad_from ls l (r + 1)
one_ahead ls l r h = ap (λ ks. bad_among (as_segment l) (map as_segment ks)) (ahead ls r h) ∙ bad_more (as_segment l) (as_segment (line_at ls r)) (map as_segment (drop (r + 1) ls))

pub none_ahead : (ls : List Line) (l : Line) (r : ℕ) → length ls ≤ r → bad_from ls l r ≡ 0
none_ahead ls l r h = ap (λ ks. bad_among (as_segment l) (map as_segment ks)) (drop_all r ls h)

-- none of the next k meets it badly
skip_many : (ls : List Line) (l : Line) (k r : ℕ) → Each (IsClear l) ls r (r + k) → bad_from ls l r ≡ bad_from ls l (r + k)
skip_many ls l zero r h = ap (bad_from ls l) (omega arith)
skip_many ls l (suc k) r h = on (skip_many ls l k (r + 1) rest) (cases_lt r (length ls))
  where
    rest : Each (IsClear l) ls (r + 1) (r + 1 + k)
    rest q a b = h q (omega (arith, a)) (omega (arith, b))

    on : bad_from ls l (r + 1) ≡ bad_from ls l (r + 1 + k) → (r < length ls) ⊎ (length ls ≤ r) → bad_from ls l r ≡ bad_from ls l (r + suc k)
    on g (inl w) =
        let e = one_ahead ls l r w in
        let f = ap one (h r (omega arith) (omega arith)) in
        let i : bad_from ls l (r + 1 + k) ≡ bad_from ls l (r + suc k) = ap (bad_from ls l) (omega arith) in
        omega (arith, e, f, g, i)
    on g (inr w) = none_ahead ls l r w ∙ sym (none_ahead ls l (r + suc k) (omega (arith, w)))

pub skipped : (ls : List Line) (l : Line) (r e : ℕ) → r ≤ e → Each (IsClear l) ls r e → bad_from ls l r ≡ bad_from ls l e
skipped ls l r e h n =
    let f : r + (e - r) ≡ e = omega (arith, h) in
    skip_many ls l (e - r) r (subst (Each (IsClear l) ls r) (sym f) n) ∙ ap (bad_from ls l) f

one_fewer : (ls : List Line) (l : Line) (r : ℕ) → bad_from ls l (r + 1) ≤ bad_from ls l r
one_fewer ls l r = on (cases_lt r (length ls))
  where
    on : (r < length ls) ⊎ (length ls ≤ r) → bad_from ls l (r + 1) ≤ bad_from ls l r
    on (inl h) = let e = one_ahead ls l r h in omega (arith, e)
    on (inr h) = let e = none_ahead ls l (r + 1) (omega (arith, h)) in omega (arith, e)

some_fewer : (ls : List Line) (l : Line) (k r : ℕ) → bad_from ls l (r + k) ≤ bad_from ls l r
some_fewer ls l zero r = let e : bad_from ls l (r + zero) ≡ bad_from ls l r = ap (bad_from ls l) (omega arith) in omega (arith, e)
some_fewer ls l (suc k) r =
    let e : bad_from ls l (r + suc k) ≡ bad_from ls l (r + 1 + k) = ap (bad_from ls l) (omega arith) in
    let f = some_fewer ls l k (r + 1) in
    let g = one_fewer ls l r in
    omega (arith, e, f, g)

-- no more from a later rank on
pub later_fewer : (ls : List Line) (l : Line) (r e : ℕ) → r ≤ e → bad_from ls l e ≤ bad_from ls l r
later_fewer ls l r e h =
    let f : r + (e - r) ≡ e = omega (arith, h) in
    let g = some_fewer ls l (e - r) r in
    let i = ap (bad_from ls l) f in
    omega (arith, g, i)

-- the pairs from this rank on
pub pairs_ahead : (ls : List Line) (r : ℕ) → r < length ls → bad_pairs (map as_segment (drop r ls)) ≡ bad_from ls (line_at ls r) (r + 1) + bad_pairs (map as_segment (drop (r + 1) ls))
pairs_ahead ls r h = ap (λ ks. bad_pairs (map as_segment ks)) (ahead ls r h)

pub no_pairs_ahead : (ls : List Line) (r : ℕ) → length ls ≤ r → bad_pairs (map as_segment (drop r ls)) ≡ 0
no_pairs_ahead ls r h = ap (λ ks. bad_pairs (map as_segment ks)) (drop_all r ls h)

-- what holds of each up to a rank, and of the one of the rank
pub one_more : (P : Segment → Type 0) (ls : List Line) (first rank : ℕ) (l : Line) → l ≡ line_at ls rank → Each P ls first rank → P (as_segment l) → Each P ls first (rank + 1)
one_more P ls first rank l e before here r a b = on (cases_lt r rank)
  where
    on : (r < rank) ⊎ (rank ≤ r) → P (as_segment (line_at ls r))
    on (inl h) = before r a h
    on (inr h) = let same : rank ≡ r = omega (arith, b, h) in subst (λ n. P (as_segment (line_at ls n))) same (subst (λ (k : Line). P (as_segment k)) e here)

-- Pairs of one of some segments and one further on.
use Rattle.std.proofs.Common.{◌≡◌, ℕ, zero, suc, ◌+◌, ◌-◌, ◌<◌, ◌≤◌, List, length, map, drop, refl, ap, arith}
use Rattle.guarded_meaning.specs.Segments.{bad_pairs}
use Rattle.segment_crossings.specs.declared.line.Line.{Line}
use Rattle.segment_crossings.specs.Lines.{Each, as_segment, bad_across, bad_from, bad_inside, line_at}
use Rattle.segment_crossings.proofs.Lines.{IsClear, later_fewer, none_ahead, pairs_ahead, skipped}

-- no more from a later rank on
pub across_fewer : (ls : List Line) (n r o e : ℕ) → o ≤ e → bad_across ls r n e ≤ bad_across ls r n o
across_fewer ls zero r o e h = omega arith
across_fewer ls (suc n) r o e h =
    let f = later_fewer ls (line_at ls r) o e h in
    let g = across_fewer ls n (r + 1) o e h in
    omega (arith, f, g)

pub across_skipped : (ls : List Line) (n r o e : ℕ) → o ≤ e → ((i : ℕ) → r ≤ i → i < r + n → Each (IsClear (line_at ls i)) ls o e) → bad_across ls r n o ≡ bad_across ls r n e
across_skipped ls zero r o e h none = refl
across_skipped ls (suc n) r o e h none =
    let f = skipped ls (line_at ls r) o e h (none r (omega arith) (omega arith)) in
    let g = across_skipped ls n (r + 1) o e h (λ i a b. none i (omega (arith, a)) (omega (arith, b))) in
    omega (arith, f, g)

pub across_ahead : (ls : List Line) (r end o : ℕ) → r < end → bad_across ls r (end - r) o ≡ bad_from ls (line_at ls r) o + bad_across ls (r + 1) (end - (r + 1)) o
across_ahead ls r end o h =
    let n : end - r ≡ suc (end - (r + 1)) = omega (arith, h) in
    ap (λ n. bad_across ls r n o) n

pub across_none : (ls : List Line) (r end o : ℕ) → end ≤ r → bad_across ls r (end - r) o ≡ 0
across_none ls r end o h =
    let n : end - r ≡ 0 = omega (arith, h) in
    ap (λ n. bad_across ls r n o) n

pub inside_ahead : (ls : List Line) (r end : ℕ) → r < end → bad_inside ls r (end - r) end ≡ (bad_from ls (line_at ls r) (r + 1) - bad_from ls (line_at ls r) end) + bad_inside ls (r + 1) (end - (r + 1)) end
inside_ahead ls r end h =
    let n : end - r ≡ suc (end - (r + 1)) = omega (arith, h) in
    ap (λ n. bad_inside ls r n end) n

pub inside_none : (ls : List Line) (r end : ℕ) → end ≤ r → bad_inside ls r (end - r) end ≡ 0
inside_none ls r end h =
    let n : end - r ≡ 0 = omega (arith, h) in
    ap (λ n. bad_inside ls r n end) n

-- all pairs from a rank on: inside a run, across its end, and behind it
pub pairs_split : (ls : List Line) (n r e : ℕ) → r + n ≡ e → e ≤ length ls → bad_pairs (map as_segment (drop r ls)) ≡ bad_inside ls r n e + (bad_across ls r n e + bad_pairs (map as_segment (drop e ls)))
pairs_split ls zero r e h w =
    let f : r ≡ e = omega (arith, h) in
    let g = ap (λ k. bad_pairs (map as_segment (drop k ls))) f in
    omega (arith, g)
pairs_split ls (suc n) r e h w =
    let f = pairs_ahead ls r (omega (arith, h, w)) in
    let g = pairs_split ls n (r + 1) e (omega (arith, h)) w in
    let k = later_fewer ls (line_at ls r) (r + 1) e (omega (arith, h)) in
    omega (arith, f, g, k)

-- ---- some of them, and the others

across_split : (ls : List Line) (n m r o : ℕ) → bad_across ls r (n + m) o ≡ bad_across ls r n o + bad_across ls (r + n) m o
across_split ls zero m r o =
    let e : bad_across ls r (zero + m) o ≡ bad_across ls r m o = ap (λ k. bad_across ls r k o) (omega arith) in
    let f : bad_across ls r m o ≡ bad_across ls (r + zero) m o = ap (λ k. bad_across ls k m o) (omega arith) in
    omega (arith, e, f)
across_split ls (suc n) m r o =
    let i : suc n + m ≡ suc (n + m) = omega arith in
    let e = ap (λ k. bad_across ls r k o) i in
    let f = across_split ls n m (r + 1) o in
    let g : bad_across ls (r + 1 + n) m o ≡ bad_across ls (r + suc n) m o = ap (λ k. bad_across ls k m o) (omega arith) in
    omega (arith, e, f, g)

-- those up to a rank, and those from there on
pub across_cut : (ls : List Line) (r c e o : ℕ) → r ≤ c → c ≤ e → bad_across ls r (e - r) o ≡ bad_across ls r (c - r) o + bad_across ls c (e - c) o
across_cut ls r c e o h k =
    let f = across_split ls (c - r) (e - c) r o in
    let g : bad_across ls r (c - r + (e - c)) o ≡ bad_across ls r (e - r) o = ap (λ n. bad_across ls r n o) (omega (arith, h, k)) in
    let i : bad_across ls (r + (c - r)) (e - c) o ≡ bad_across ls c (e - c) o = ap (λ n. bad_across ls n (e - c) o) (omega (arith, h)) in
    omega (arith, f, g, i)

inside_split : (ls : List Line) (n m r c e : ℕ) → r + n ≡ c → c + m ≡ e → bad_inside ls r (n + m) e ≡ bad_inside ls r n c + ((bad_across ls r n c - bad_across ls r n e) + bad_inside ls c m e)
inside_split ls zero m r c e h k =
    let f : bad_inside ls r (zero + m) e ≡ bad_inside ls r m e = ap (λ i. bad_inside ls r i e) (omega arith) in
    let g : bad_inside ls r m e ≡ bad_inside ls c m e = ap (λ i. bad_inside ls i m e) (omega (arith, h)) in
    omega (arith, f, g)
inside_split ls (suc n) m r c e h k =
    let s : suc n + m ≡ suc (n + m) = omega arith in
    let f = ap (λ i. bad_inside ls r i e) s in
    let g = inside_split ls n m (r + 1) c e (omega (arith, h)) k in
    let i = later_fewer ls (line_at ls r) (r + 1) c (omega (arith, h)) in
    let j = later_fewer ls (line_at ls r) c e (omega (arith, k)) in
    let l = across_fewer ls n (r + 1) c e (omega (arith, k)) in
    omega (arith, f, g, i, j, l)

pub inside_cut : (ls : List Line) (r c e : ℕ) → r ≤ c → c ≤ e → bad_inside ls r (e - r) e ≡ bad_inside ls r (c - r) c + ((bad_across ls r (c - r) c - bad_across ls r (c - r) e) + bad_inside ls c (e - c) e)
inside_cut ls r c e h k =
    let f = inside_split ls (c - r) (e - c) r c e (omega (arith, h)) (omega (arith, k)) in
    let g : bad_inside ls r (c - r + (e - c)) e ≡ bad_inside ls r (e - r) e = ap (λ n. bad_inside ls r n e) (omega (arith, h, k)) in
    omega (arith, f, g)

-- ---- past the last

pub across_past : (ls : List Line) (n r o : ℕ) → length ls ≤ o → bad_across ls r n o ≡ 0
across_past ls zero r o h = refl
across_past ls (suc n) r o h =
    let e = none_ahead ls (line_at ls r) o h in
    let f = across_past ls n (r + 1) o h in
    omega (arith, e, f)

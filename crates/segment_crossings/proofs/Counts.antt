-- How many pairs of segments meet badly, in whatever order they stand.
use Rattle.std.proofs.Common.{◌≡◌, ℕ, ◌+◌, ◌*◌, Bool, true, false, List, [], ◌∷◌, length, refl, ap, sym, ◌∙◌, sum_by, if◌then◌else◌, arith}
use Rattle.std.specs.List.{filter}
use Rattle.std.proofs.lemmas.Bool.{or_left}
use Rattle.std.proofs.lemmas.List.Sums.{sum_by-cons}
use Rattle.guarded_meaning.specs.Segments.{Segment, same_ends, meets_badly, bad_pairs}
use Rattle.guarded_meaning.proofs.Step.{bad_back, ends_self}
use Rattle.segment_crossings.specs.Gathering.{AreSame}
use Rattle.segment_crossings.specs.Lines.{bad_among}

abbrev pub one : Bool → ℕ
one true = 1
one false = 0

both_or_none : (b c : Bool) → (b ≡ true → c ≡ true) → (c ≡ true → b ≡ true) → b ≡ c
both_or_none true c f g = sym (f refl)
both_or_none false true f g = g refl
both_or_none false false f g = refl

back : (s t : Segment) → meets_badly s t ≡ meets_badly t s
back s t = both_or_none (meets_badly s t) (meets_badly t s) (bad_back t s) (bad_back s t)

pub itself : (s : Segment) → meets_badly s s ≡ true
unfolding meets_badly
itself s = or_left (same_ends s s) _ (ends_self s)

longer : (b : Bool) (s : Segment) (ss : List Segment) → length (if b then s ∷ ss else ss) ≡ one b + length ss
longer true s ss = omega arith
longer false s ss = omega arith

pub bad_more : (s t : Segment) (ts : List Segment) → bad_among s (t ∷ ts) ≡ one (meets_badly s t) + bad_among s ts
bad_more s t ts = longer (meets_badly s t) t (filter (meets_badly s) ts)

-- how many of the second list the segments of the first meet badly
abbrev bad_between : List Segment → List Segment → ℕ
bad_between ss ts = sum_by (λ s. bad_among s ts) ss

as_sum : (s : Segment) (ts : List Segment) → bad_among s ts ≡ sum_by (λ t. one (meets_badly s t)) ts
as_sum s [] = refl
as_sum s (t ∷ ts) = bad_more s t ts ∙ ap (λ n. one (meets_badly s t) + n) (as_sum s ts) ∙ sym (sum_by-cons (λ u. one (meets_badly s u)) t ts)

one_more : (t : Segment) (ss ts : List Segment) → bad_between ss (t ∷ ts) ≡ bad_among t ss + bad_between ss ts
one_more t [] ts = refl
one_more t (s ∷ ss) ts =
    let e = one_more t ss ts in
    let f = bad_more s t ts in
    let g = bad_more t s ss in
    let h = ap one (back s t) in
    omega (arith, e, f, g, h, sum_by-cons (λ u. bad_among u (t ∷ ts)) s ss, sum_by-cons (λ u. bad_among u ts) s ss)

-- each pair is there twice, and each segment with itself
twice : (ss : List Segment) → bad_between ss ss ≡ 2 * bad_pairs ss + length ss
twice [] = refl
twice (s ∷ ss) =
    let e = twice ss in
    let f = bad_more s s ss in
    let g = one_more s ss ss in
    let h = ap one (itself s) in
    omega (arith, e, f, g, h, sum_by-cons (λ u. bad_among u (s ∷ ss)) s ss)

same_sums : (f g : Segment → ℕ) → ((s : Segment) → f s ≡ g s) → (ss : List Segment) → sum_by f ss ≡ sum_by g ss
same_sums f g h [] = refl
same_sums f g h (s ∷ ss) = let e = same_sums f g h ss in let k = h s in omega (arith, e, k, sum_by-cons f s ss, sum_by-cons g s ss)

pub among_same : (s : Segment) (ts us : List Segment) → AreSame ts us → bad_among s us ≡ bad_among s ts
among_same s ts us h = as_sum s us ∙ h.sums (λ t. one (meets_badly s t)) ∙ sym (as_sum s ts)

each_once : (ss : List Segment) → sum_by (λ s. 1) ss ≡ length ss
each_once [] = refl
each_once (s ∷ ss) = let e = each_once ss in omega (arith, e, sum_by-cons (λ (u : Segment). 1) s ss)

pub pairs_same : (ss ts : List Segment) → AreSame ss ts → bad_pairs ts ≡ bad_pairs ss
pairs_same ss ts h =
    let e = twice ss in
    let f = twice ts in
    let g : bad_between ts ts ≡ bad_between ss ss = same_sums (λ s. bad_among s ts) (λ s. bad_among s ss) (λ s. among_same s ss ts h) ts ∙ h.sums (λ s. bad_among s ss) in
    let n = each_once ss in
    let m = each_once ts in
    omega (arith, e, f, g, n, m, h.sums (λ s. 1))

-- What is written into the room of a text, behind what stands in front.
use Rattle.std.proofs.Common.{◌≡◌, ℕ, zero, suc, ◌+◌, ◌-◌, ◌<◌, ◌≤◌, List, [], ◌∷◌, ◌++◌, length, take, drop, set, arith, ap, sym, ◌∙◌}
use Rattle.std.proofs.lemmas.List.{append_assoc, length-set, length-take-le, take-append-drop, take-append-le, take-take, drop-take, take_at, drop_at, take-set, take_more_set, drop-set, drop_more}

-- up to a place behind: what stands in front, and so much of what follows
up_to : (at count : ℕ) (xs : List ℕ) → take (at + count) xs ≡ take at xs ++ take count (drop at xs)
up_to at count xs = sym (take-append-drop at (take (at + count) xs)) ∙ rw (take-take at (at + count) xs (omega arith), drop-take at count xs)

-- a part that was written there
pub part_written : (at count : ℕ) (old new part rest : List ℕ) → take at new ≡ take at old → drop at new ≡ part ++ rest → length part ≡ count
    → take (at + count) new ≡ take at old ++ part
part_written at count old new part rest e f long = up_to at count new ∙ rw (e, f, take_at part rest count long)

-- what is found there, up to its end
pub part_found : (at end : ℕ) (xs part rest : List ℕ) → drop at xs ≡ part ++ rest → at + length part ≡ end → take (end - at) (drop at xs) ≡ part
part_found at end xs part rest e long = ap (take (end - at)) e ∙ take_at part rest (end - at) (omega arith)

-- two bytes, one behind the other
pub two_written : (at : ℕ) (xs : List ℕ) (a b : ℕ) → at + 1 < length xs → take (at + 2) (set (set xs at a) (at + 1) b) ≡ take at xs ++ a ∷ b ∷ []
two_written at xs a b within =
    let place : at + 2 ≡ at + 1 + 1 = omega arith in
    ap (λ n. take n (set (set xs at a) (at + 1) b)) place ∙ take_more_set (set xs at a) (at + 1) b (omega (arith, length-set xs at a))
    ∙ ap (λ t. t ++ b ∷ []) (take_more_set xs at a (omega arith)) ∙ append_assoc (take at xs) (a ∷ []) (b ∷ [])

-- a byte in place of the first of some digits, of which so many stay
pub first_replaced : (at count byte : ℕ) (old now digits rest : List ℕ) → take at now ≡ take at old → drop at now ≡ digits ++ rest → 0 < count → count ≤ length digits
    → at < length now → take (at + count) (set now at byte) ≡ take at old ++ (byte ∷ drop 1 (take count digits))
first_replaced at zero byte old now digits rest e f some short within = absurd (omega arith)
first_replaced at (suc c) byte old now digits rest e f some short within =
    let following : take c (drop (at + 1) now) ≡ drop 1 (take (suc c) digits) =
    ap (λ t. drop 1 (take (suc c) t)) (sym (drop_more now at 0 within) ∙ f) ∙ ap (drop 1) (take-append-le (suc c) digits rest short) in
    up_to at (suc c) (set now at byte) ∙ rw (take-set now at byte, drop-set now at byte within, e, following)

-- a part that was written there, without its end
pub cut_short : (at count end : ℕ) (old now part : List ℕ) → take end now ≡ take at old ++ part → at + count ≤ end → at ≤ length old
    → take (at + count) now ≡ take at old ++ take count part
cut_short at count end old now part e short within =
    let front = length-take-le at old within in
    sym (take-take (at + count) end now short) ∙ ap (take (at + count)) e ∙ up_to at count (take at old ++ part)
    ∙ rw (take_at (take at old) part at front, drop_at (take at old) part at front)

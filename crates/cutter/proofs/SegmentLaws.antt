-- The segments of the pieces are those of the lines.
use Rattle.std.proofs.Common.{drop-cons, ◌≡◌, ℕ, zero, suc, ◌≤◌, Bool, List, [], ◌∷◌, ◌++◌, take, drop, length, refl, ap, ◌∙◌, arith}
use Rattle.cutter.proofs.Names.{flat_map, Point, last, joined, pieces, pieces_from, split_at, turned, segments, segments_from}

-- the first piece begins at p
abbrev StartsAt : Point → List (List Point) → Type 0
StartsAt p [] = Unit {0}
StartsAt p ([] ∷ pieces) = ⊥
StartsAt p ((q ∷ ps) ∷ pieces) = q ≡ p

joined_starts : (b : Bool) (p q : Point) (pieces : List (List Point)) → StartsAt p (joined b p q pieces)
joined_starts b p q pieces = grind arith

starts : (cut : Point → Bool) (p : Point) (ps : List Point) → StartsAt p (pieces_from cut p ps)
starts cut p [] = tt
starts cut p (q ∷ ps) = joined_starts (cut q) p q (pieces_from cut q ps)

joined_segments : (b : Bool) (p q : Point) (pieces : List (List Point)) → StartsAt q pieces → flat_map segments (joined b p q pieces) ≡ record { from = p; to = q } ∷ flat_map segments pieces
joined_segments b p q pieces h = grind arith

-- a split keeps the segments
pub split_segments : (cut : Point → Bool) (p : Point) (ps : List Point) → flat_map segments (pieces_from cut p ps) ≡ segments_from p ps
split_segments cut p [] = refl
split_segments cut p (q ∷ ps) = joined_segments (cut q) p q (pieces_from cut q ps) (starts cut q ps) ∙ ap (λ l. record { from = p; to = q } ∷ l) (split_segments cut q ps)

pub split_at_segments : (cut : Point → Bool) (ps : List Point) → flat_map segments (split_at cut ps) ≡ segments ps
split_at_segments cut ps = grind (arith, split_segments)

pub segments_append : (p : Point) (ps qs : List Point) → segments_from p (ps ++ qs) ≡ segments_from p ps ++ segments_from (last p ps) qs
segments_append p [] qs = refl
segments_append p (q ∷ ps) qs = ap (λ l. record { from = p; to = q } ∷ l) (segments_append q ps qs)

-- at any place the segments fall into those before and those after
pub segments_split : (k : ℕ) (p : Point) (ps : List Point) → k ≤ length ps → segments_from p ps ≡ segments_from p (take k ps) ++ segments (drop k (p ∷ ps))
segments_split zero p ps h = refl
segments_split (suc k) p [] h = absurd (omega arith)
segments_split (suc k) p (q ∷ ps) h = ap (λ l. record { from = p; to = q } ∷ l) (segments_split k q ps (omega arith))

last_drop : (k : ℕ) (p : Point) (ps : List Point) (g : Point) (ys : List Point) → drop k (p ∷ ps) ≡ g ∷ ys → last g ys ≡ last p ps
last_drop zero p ps g ys e = grind arith
last_drop (suc k) p [] g ys e = absurd (no k e)
  where
    no : (k : ℕ) → drop k [] ≡ g ∷ ys → ⊥
    no k e = grind arith
last_drop (suc k) p (q ∷ ps) g ys e = last_drop k q ps g ys e

-- a ring from another start has the same segments, those after the start first
pub turned_segments : (k : ℕ) (p : Point) (ps : List Point) → last p ps ≡ p → k ≤ length ps →
    segments (turned k (p ∷ ps)) ≡ segments (drop k (p ∷ ps)) ++ segments_from p (take k ps)
turned_segments k p ps e h = grind (arith, drop-cons (p ∷ ps) k p (omega (arith, h)), last_drop k p ps, segments_append)

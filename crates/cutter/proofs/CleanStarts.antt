-- A line from its start is clean, as the line is.
use Rattle.std.proofs.Common.{◌≡◌, ℕ, ◌<◌, ◌≤◌, Bool, true, false, List, [], ◌∷◌, ◌++◌, length, map, refl, ap, sym, ◌∙◌, arith}
use Rattle.owned_values.proofs.Elements.{all_made, all_map}
use Rattle.cutter.proofs.Structured.{clean_in}
use Rattle.cutter.proofs.Names.{Point, Moves, IsCleanList, IsClean, AllClean, is_cut, last, Stroke, start_in, turned, In, started, split_of, lines_and_rings}
use Rattle.geometry.specs.Lists.{all_but_last_of}
use Rattle.cutter.proofs.Joins.{turned_length}
use Rattle.cutter.proofs.RingPieces.{moves_more, all_but_last_last, all_but_last_length, turned_is}
use Rattle.cutter.proofs.Starts.{ring_start, line}
use Rattle.cutter.proofs.TurnedRings.{Goes, Good, turned_good}

-- any three positions are a passage here, so that only moves count
abbrev Any : Point → Point → Point → Type 0
Any a b c = Unit {0}

goes_any : (p q : Point) (ps : List Point) → Moves p (q ∷ ps) → Goes Any p q ps
goes_any p q [] m = m.0
goes_any p q (r ∷ ps) m = (m.0, tt, goes_any q r ps m.1)

moves_any : (p q : Point) (ps : List Point) → Goes Any p q ps → Moves p (q ∷ ps)
moves_any p q [] h = (h, tt)
moves_any p q (r ∷ ps) h = (h.0, moves_any q r ps h.2)

clean_of : (zs : List Point) (g : Point) (ys : List Point) → zs ≡ g ∷ ys → last g ys ≡ g → 2 ≤ length zs → Good Any zs → IsCleanList true zs
clean_of zs g ys h k m e = grind (arith, moves_any)

-- a ring that is turned to another start is clean
clean_turned : (ls : List Stroke) (p q : Point) (ps : List Point) → last q ps ≡ p → Moves p (q ∷ ps) → (k : ℕ) → k < length (p ∷ (q ∷ ps)) → IsCleanList true (turned k (p ∷ (q ∷ ps)))
clean_turned ls p q ps e m k n =
    let more : Moves p (q ∷ (ps ++ (q ∷ []))) = moves_more ls p (q ∷ ps) q m (λ z. m.0 (sym e ∙ z)) in
    let good : Good Any ((p ∷ (q ∷ ps)) ++ (q ∷ [])) = goes_any p q (ps ++ (q ∷ [])) more in
    let ended : p ∷ (q ∷ ps) ≡ all_but_last_of p (q ∷ ps) ++ (p ∷ []) = all_but_last_last p (q ∷ ps) ∙ ap (λ z. all_but_last_of p (q ∷ ps) ++ (z ∷ [])) e in
    let t = turned_is p p q ps e k n in
    clean_of (turned k (p ∷ (q ∷ ps))) _ t.0 t.1 t.2 (omega (arith, turned_length k (p ∷ (q ∷ ps)) n))
    (turned_good Any k p q ps (all_but_last_of p (q ∷ ps)) ended (omega (arith, n, all_but_last_length p (q ∷ ps))) good)

-- a line from its start is clean
pub clean_start : (ls : List Stroke) (c : Bool) (ps : List Point) → In (line c ps) ls → IsClean (line c ps) → IsClean (started (is_cut ls) (line c ps))
clean_start ls c [] k h = elim h [ ]
clean_start ls c (p ∷ []) k h = elim h [ ]
clean_start ls false (p ∷ (q ∷ ps)) k h = h
clean_start ls true (p ∷ (q ∷ ps)) k h =
    clean_turned ls p q ps (h.1 refl) h.0 (start_in (is_cut ls) (p ∷ (q ∷ ps))) (ring_start ls p (q ∷ ps) k).0

-- the lines that are left of clean ones, each turned to its start, are clean
pub clean_starts : (ls : List Stroke) → AllClean ls → AllClean (lines_and_rings (map (split_of ls) ls))
clean_starts ls h = all_map IsClean (λ s. s.stroke) (map (split_of ls) ls) (all_made (λ r. IsClean r.stroke) (split_of ls) ls (λ s k. clean_start ls s.closed s.positions k (clean_in s ls h k)))

-- The pieces of an open line.
use Rattle.std.proofs.Common.{◌≡◌, true, false, not, ◌&&◌, ◌||◌, List, ◌∷◌, append-nil, ap, sym, ◌∙◌, subst, arith}
use Rattle.cutter.proofs.Names.{or-true, any_from_in, same_self, Point, same, Moves, is_cut, visits, visits_from, last, is_end, Stroke, pieces_of}
pub use Rattle.junctions.proofs.Members.{in_flat}
use Rattle.cutter.proofs.Junctions.{In, Via}
use Rattle.cutter.proofs.Splits.{AllWalks}
use Rattle.cutter.proofs.PieceLaws.{pieces_hold}
use Rattle.cutter.proofs.Starts.{line}

-- an end of an open line is a cut position
pub end_cut : (ls : List Stroke) (s : Stroke) (x : Point) → In s ls → (not s.closed && is_end x s.positions) ≡ true → is_cut ls x ≡ true
end_cut ls s x k h = grind (arith, any_from_in)

pub open_pieces : (ls : List Stroke) (p q : Point) (ps : List Point) → In (line false (p ∷ (q ∷ ps))) ls → Moves p (q ∷ ps) →
    AllWalks (is_cut ls) (Via ls) (pieces_of ls (line false (p ∷ (q ∷ ps))))
open_pieces ls p q ps k m = pieces_hold ls p q ps
    (end_cut ls (line false (p ∷ (q ∷ ps))) p k (ap (λ b. b || same p (last q ps)) (same_self p)))
    (end_cut ls (line false (p ∷ (q ∷ ps))) (last q ps) k (ap (λ b. same (last q ps) p || b) (same_self (last q ps)) ∙ or-true (same (last q ps) p)))
    m (λ v h. in_flat visits (line false (p ∷ (q ∷ ps))) v ls k (subst (λ l. In v (visits_from p q l)) (sym (append-nil ps)) h))

-- Calls of a reducer, one after another.
use Rattle.std.proofs.Common.{◌≡◌, ◌∙◌, ◌++◌, ℕ, List, [], ◌∷◌, ap, append_assoc, sym}
use Rattle.std.proofs.lemmas.List.{map_push}
use Rattle.geometry.specs.Points.{Point}
use Rattle.effective_area.specs.Calls.{Call, call_at, calls_for}

-- one line more
pub one_called : (t : ℕ) (first before after : List Call) (lines : List (List Point)) (line : List Point) → before ≡ first ++ calls_for t lines
    → after ≡ before ++ call_at t line ∷ [] → after ≡ first ++ calls_for t (lines ++ line ∷ [])
one_called t first before after lines line so_far one =
    one ∙ ap (λ calls. calls ++ call_at t line ∷ []) so_far ∙ append_assoc first (calls_for t lines) (call_at t line ∷ [])
    ∙ ap (λ calls. first ++ calls) (sym (map_push (call_at t) lines line))

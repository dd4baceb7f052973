-- An explanation in brief, one run of lines after another.
use Rattle.std.specs.Prelude.{◌≡◌, ◌<◌, ◌^◌, ℕ, false, List, [], ◌∷◌, ◌++◌, length, take, None, Some}
use Rattle.std.specs.List.{AllByRecursion}
use Rattle.explanations.specs.Brief.{are_same, brief_after, kind_of, line_text, more_text, most, start}
use Rattle.explanations.specs.declared.brief.LineKind.{LineKind}

-- these lines, whole
abbrev pub whole : List (List ℕ) → List ℕ
whole [] = []
whole (line ∷ lines) = line_text line ++ whole lines

-- the next line, if there is one, is of another kind
abbrev pub EndsRun : LineKind → List (List ℕ) → Type 0
EndsRun k [] = Unit {0}
EndsRun k (line ∷ lines) = are_same (Some k) (kind_of line) ≡ false

-- lines of no kind stand as they are
abbrev pub OthersStand : Type 0
OthersStand = (others rest : List (List ℕ)) → AllByRecursion (λ line. kind_of line ≡ None) others → brief_after start (others ++ rest) ≡ whole others ++ brief_after start rest

-- Of lines of one kind beside each other the first ten stand, and how many more there are.
abbrev pub KindInBrief : Type 0
KindInBrief = (k : LineKind) (lines rest : List (List ℕ)) → AllByRecursion (λ line. kind_of line ≡ Some k) lines → length lines < 2 ^ 64 → EndsRun k rest →
    brief_after start (lines ++ rest) ≡ whole (take most lines) ++ (more_text (length lines) ++ brief_after start rest)

-- How an explanation in brief goes on, line by line.
use Rattle.std.proofs.Common.{◌≡◌, ◌==◌, ◌∙◌, ℕ, List, [], ◌∷◌, ◌++◌, arith, ap, false, length, refl, Option, Some, None, Bor}
use Rattle.std.proofs.lemmas.Bool.{true≢false}
use Rattle.std.proofs.lemmas.Str.Pattern.{IsSplitOnceResult, split_parts}
use Rattle.reports.specs.Lines.{lines_of, one_line}
use Rattle.reports.proofs.Lines.{first-line, last-line}
use Rattle.explanations.specs.Brief.{brief_after, more_text, run_after, text_after}
use Rattle.explanations.specs.declared.brief.Run.{Run}

-- in front of a line feed
pub next-line : (run : Run) (text : List ℕ) (r : Option (Bor (List ℕ) × Bor (List ℕ))) (line following : Bor (List ℕ)) → r ≡ Some (line, following) → IsSplitOnceResult 10 text r
    → brief_after run (lines_of text) ≡ text_after run line.now ++ brief_after (run_after run line.now) (lines_of following.now)
next-line run text r line following is split =
    let parts = split_parts 10 text (Some (line, following)) (rw is at split) (omega arith) in
    ap (λ z. brief_after run (lines_of z)) parts.0 ∙ ap (brief_after run) (first-line line.now following.now parts.1)

-- after the last line feed
pub no-further-line : (run : Run) (text : List ℕ) (r : Option (Bor (List ℕ) × Bor (List ℕ))) → r ≡ None → IsSplitOnceResult 10 text r
    → brief_after run (lines_of text) ≡ brief_after run (one_line text)
no-further-line run text r is split = ap (brief_after run) (last-line text (split_parts 10 text None (rw is at split) (omega arith)))

-- what stands after it, if anything does
pub rest-some : (run : Run) (text : List ℕ) → (length text == 0) ≡ false → brief_after run (one_line text) ≡ text_after run text ++ more_text (run_after run text).count
rest-some run [] e = absurd (true≢false e)
rest-some run (b ∷ text) e = refl

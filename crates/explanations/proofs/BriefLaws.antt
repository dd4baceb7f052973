-- An explanation in brief, one run of lines after another.
use Rattle.std.proofs.Common.{◌≡◌, ◌∙◌, ◌<◌, ◌^◌, ◌+◌, ◌-◌, ℕ, zero, suc, Bool, true, false, cond, List, [], ◌∷◌, ◌++◌, None, Some, arith, ap, refl, sym, length, take, nat_lt, append_assoc, append-nil}
use Rattle.std.proofs.lemmas.Bool.Decides.{nat_tests}
use Rattle.std.proofs.Math.Nat.{min-eq_left}
use Rattle.std.specs.List.{AllByRecursion}
use Rattle.geojson_types.specs.Counting.{one_more}
use Rattle.explanations.specs.Brief.{are_same, brief_after, is_same, kind_of, line_text, more_text, most, start}
use Rattle.explanations.specs.BriefLaws.{whole, EndsRun, OthersStand, KindInBrief}
use Rattle.explanations.specs.declared.brief.LineKind.{LineKind}
use Rattle.explanations.specs.declared.brief.LineKind.TheVariants.{Loss, Bare, Unread, System, Swapped, Object}
use Rattle.explanations.specs.declared.brief.Run.{Run}

-- a kind is the same as itself
same : (k : LineKind) → is_same k k ≡ true
same Loss = refl
same Bare = refl
same Unread = refl
same System = refl
same Swapped = refl
same Object = refl

-- a run of a kind
abbrev of : LineKind → ℕ → Run
of k n = record { kind = Some k; count = n }

-- one line of no kind, or any that ends a run, stands after how many more there are
apart : (r : Run) (line : List ℕ) (lines : List (List ℕ)) → are_same r.kind (kind_of line) ≡ false → brief_after r (line ∷ lines) ≡ more_text r.count ++ brief_after start (line ∷ lines)
apart r line lines e = rw e (append_assoc (more_text r.count) (line_text line) (brief_after (record { kind = kind_of line; count = 1 }) lines))

-- a run of one line of no kind, or of none, is as if no line stood in front
plain : (lines : List (List ℕ)) → brief_after (record { kind = None; count = 1 }) lines ≡ brief_after start lines
plain [] = refl
plain (line ∷ lines) = refl

pub others_stand : OthersStand
others_stand [] rest h = refl
others_stand (line ∷ others) rest h =
    rw h.0 (ap (λ text. line_text line ++ text) (plain (others ++ rest) ∙ others_stand others rest h.1) ∙ sym (append_assoc (line_text line) (whole others) (brief_after start rest)))

-- after a run of so many lines of a kind
run_ends : (k : LineKind) (n : ℕ) (rest : List (List ℕ)) → EndsRun k rest → brief_after (of k n) rest ≡ more_text n ++ brief_after start rest
run_ends k n [] h = sym (append-nil (more_text n))
run_ends k n (line ∷ lines) h = apart (of k n) line lines h

-- the first of a run is told where fewer than ten were
module _ (n : ℕ) (line : List ℕ) (run : List (List ℕ)) (text : List ℕ) where
  first_by : (b : Bool) → nat_lt n most ≡ b → cond b (line_text line) [] ++ (whole (take (most - (n + 1)) run) ++ text) ≡ whole (take (most - n) (line ∷ run)) ++ text
  first_by true e =
      let left : most - n ≡ suc (most - (n + 1)) = grind (arith, nat_tests) in
      rw left (sym (append_assoc (line_text line) (whole (take (most - (n + 1)) run)) text))
  first_by false e =
      let none : most - n ≡ 0 = grind (arith, nat_tests) in
      let no_more : most - (n + 1) ≡ 0 = grind (arith, nat_tests) in
      rw none (rw no_more refl)

none_told : (n : ℕ) → whole (take n []) ≡ []
none_told zero = refl
none_told (suc n) = refl

-- so many of a run are told
run_from : (k : LineKind) (n : ℕ) (run rest : List (List ℕ)) → AllByRecursion (λ line. kind_of line ≡ Some k) run → n + length run < 2 ^ 64 → EndsRun k rest →
    brief_after (of k n) (run ++ rest) ≡ whole (take (most - n) run) ++ (more_text (n + length run) ++ brief_after start rest)
run_from k n [] rest h short ends = let all : n + 0 ≡ n = omega arith in rw all (rw (none_told (most - n)) (run_ends k n rest ends))
run_from k n (line ∷ run) rest h short ends =
    let next : one_more n ≡ n + 1 = min-eq_left (omega arith) in
    let count : (n + 1) + length run ≡ n + suc (length run) = omega arith in
    let told = run_from k (n + 1) run rest h.1 (omega arith) ends in
    rw h.0 (rw (same k) (rw next (rw told (rw count (first_by n line run (more_text (n + suc (length run)) ++ brief_after start rest) (nat_lt n most) refl)))))

pub kind_in_brief : KindInBrief
kind_in_brief k [] rest h short ends = refl
kind_in_brief k (line ∷ run) rest h short ends =
    let count : 1 + length run ≡ suc (length run) = omega arith in
    let told = rw count at (run_from k 1 run rest h.1 (omega (arith, short)) ends) in
    rw h.0 (rw told (sym (append_assoc (line_text line) (whole (take 9 run)) (more_text (suc (length run)) ++ brief_after start rest))))

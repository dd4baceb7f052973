-- Positions that are passed one after the other, until there are enough.
use Rattle.std.proofs.Common.{◌≡◌, ℕ, zero, suc, ℤ, slice_get, ◌+◌, ◌-◌, ◌<◌, ◌≤◌, min, nat_lt, Bool, true, false, cond, List, [], ◌∷◌, ◌++◌, map, drop, length, get_or, append_assoc, append-nil, Option, None, Some, refl, subst, sym, ap, ◌∙◌, arith}
use Rattle.std.proofs.lemmas.List.{drop_all, get_or-reverse, length-reverse}
use Rattle.geometry.specs.Joins.{number_of, is_reversed, at, arc_at, joined_after_first}
use Rattle.geometry.specs.Points.{Point}
use Rattle.guarded_meaning.specs.Lists.{last_after}
use Rattle.junctions.specs.Cleaning.{clean, is_short}
use Rattle.owned_values.specs.Lists.{tail}
use Rattle.owned_values.proofs.Lists.{drop_here}
use Rattle.topo_model.specs.Passing.{Need, unpassed, counted, new_after, missing_after, PassesBy, Passes, directed}
use Rattle.topo_model.proofs.Short.{as_many_back, left_after, left_from, new_on, no_step, nothing_new, some_left, step, step_most, step_on}

-- ---- the arcs after the first, each without its first position

tail_is : (xs : List Point) → tail xs ≡ drop 1 xs
tail_is xs = grind arith

abbrev pub later_left : List (List Point) → List ℤ → List Point
later_left arcs refs = joined_after_first (map (arc_at arcs) refs)

-- ---- lists

-- where none is missing, none is missing after whatever comes
pub none_missing : (n : Need) (ps : List Point) → n.missing ≡ 0 → missing_after n ps ≡ 0
none_missing n ps h = omega (arith, h)

module _ {S V : Type 0} (value : S → List Point → V) where
  -- these are still to be passed of all
  abbrev pub Open : List Point → List Point → S → S → Type 0
  Open left all old now = (following : List Point) → value now (left ++ following) ≡ value old (all ++ following)

  -- a run of them is passed
  pub run_passed : (run left all : List Point) (old now new : S) → Open (run ++ left) all old now → PassesBy value run now new → Open left all old new
  run_passed run left all old now new so_far pass following = pass (left ++ following) ∙ ap (value now) (sym (append_assoc run left following)) ∙ so_far following

  -- the next of them is passed
  pub one_passed : (xs all : List Point) (i : ℕ) (x : Point) (old now new : S) → i < length xs → x ≡ get_or xs i x → Open (drop i xs) all old now → PassesBy value (x ∷ []) now new → Open (drop (i + 1) xs) all old new
  one_passed xs all i x old now new lt is so_far pass =
      run_passed (x ∷ []) (drop (i + 1) xs) all old now new (λ b. ap (λ l. value now (l ++ b)) (sym (drop_here xs i x lt is)) ∙ so_far b) pass

  pub past_passed : (from : ℕ) (arc : List Point) (n : S) → length arc ≤ from → PassesBy value (drop from arc) n n
  past_passed from arc n le following = sym (ap (λ ps. value n (ps ++ following)) (drop_all from arc le))

  pub nothing_passed : (from : ℕ) (arc : List Point) (n : S) → arc ≡ [] → PassesBy value (drop from arc) n n
  nothing_passed from arc n e = past_passed from arc n (omega (arith, ap length e))

  -- of the arcs after the first, each without its first position, one more is passed
  pub later_passed : (arcs : List (List Point)) (later : List ℤ) (i : ℕ) (r : ℤ) (all : List Point) (old now new : S) → i < length later → r ≡ get_or later i r
      → Open (later_left arcs (drop i later)) all old now → PassesBy value (drop 1 (arc_at arcs r)) now new → Open (later_left arcs (drop (i + 1) later)) all old new
  later_passed arcs later i r all old now new lt is so_far pass =
      let left : List Point = later_left arcs (drop (i + 1) later) in
      let e : later_left arcs (drop i later) ≡ drop 1 (arc_at arcs r) ++ left = ap (later_left arcs) (drop_here later i r lt is) ∙ ap (λ t. t ++ left) (tail_is (arc_at arcs r)) in
      run_passed (drop 1 (arc_at arcs r)) left all old now new (λ b. ap (λ l. value now (l ++ b)) (sym e) ∙ so_far b) pass

  pub later_all : (arcs : List (List Point)) (later : List ℤ) (i : ℕ) (all : List Point) (old now : S) → length later ≤ i → Open (later_left arcs (drop i later)) all old now → PassesBy value all old now
  later_all arcs later i all old now le so_far b = ap (λ rs. value now (later_left arcs rs ++ b)) (sym (drop_all i later le)) ∙ so_far b

-- ---- arcs in one direction or the other

pub directed_length : (reversed : Bool) (arc : List Point) → length (directed reversed arc) ≡ length arc
directed_length true arc = length-reverse arc
directed_length false arc = refl

pub directed_at : (reversed : Bool) (arc : List Point) (k i : ℕ) (x : Point) → k < length arc → i ≡ cond reversed (length arc - 1 - k) k → x ≡ get_or arc i x → x ≡ get_or (directed reversed arc) k x
directed_at true arc k i x lt e is = is ∙ ap (λ j. get_or arc j x) e ∙ sym (get_or-reverse arc k x lt)
directed_at false arc k i x lt e is = is ∙ ap (λ j. get_or arc j x) e

pub at_got : {X : Type 0} (xs : List X) (i : ℕ) → at xs i ≡ slice_get xs i
at_got [] i = refl
at_got (x ∷ xs) zero = refl
at_got (x ∷ xs) (suc i) = at_got xs i

-- the arc that an index names
pub arc_named : (arcs : List (List Point)) (r : ℤ) (n : ℕ) (reversed : Bool) (arc : List Point) → n ≡ number_of r → reversed ≡ is_reversed r → slice_get arcs n ≡ Some arc → directed reversed arc ≡ arc_at arcs r
unfolding number_of is_reversed
arc_named arcs r n reversed arc e b got = grind (arith, at_got)

pub no_arc_named : (arcs : List (List Point)) (r : ℤ) (n : ℕ) → n ≡ number_of r → slice_get arcs n ≡ None → arc_at arcs r ≡ []
unfolding number_of
no_arc_named arcs r n e got = grind (arith, at_got)

-- ---- an arc at once

abbrev pub need : Option Point → ℕ → Need
need last missing = record { last = last; missing = missing }

-- of these positions all from this one on are passed, which is the first or the second: the next, the rest, and the last of all
pub record IsPassed (ps : List Point) (from : ℕ) (first next end : Point) : Type 0 where
  pub rest : List Point
  pub left : drop from ps ≡ next ∷ rest
  pub count : length (clean ps) ≡ step first next + left_from next rest
  pub end_is : end ≡ last_after next rest

of_first : (p : Point) (ps : List Point) → length (clean (p ∷ ps)) ≡ step p p + left_from p ps
of_first p ps = let none = no_step p in omega (arith, none)

end_after : (p : Point) (ps : List Point) (end : Point) → end ≡ get_or (p ∷ ps) (length ps) end → end ≡ last_after p ps
end_after p [] end is = is
end_after p (q ∷ ps) end is = end_after q ps end is

is_passed : (ps : List Point) (from : ℕ) (first next end : Point) → from ≤ 1 → from < length ps → first ≡ get_or ps 0 first → next ≡ get_or ps from next
    → end ≡ get_or ps (length ps - 1) end → IsPassed ps from first next end
is_passed [] from first next end few lt f n l = absurd (omega (arith, lt))
is_passed (p ∷ ps) zero first next end few lt f n l =
    let last : length (p ∷ ps) - 1 ≡ length ps = omega arith in
    record {
      rest = ps;
      left = ap (λ x. x ∷ ps) (sym n);
      count = of_first p ps ∙ ap (λ x. step x p + left_from p ps) (sym f) ∙ ap (λ x. step first x + left_from x ps) (sym n);
      end_is = end_after p ps end (l ∙ ap (λ k. get_or (p ∷ ps) k end) last) ∙ ap (λ x. last_after x ps) (sym n);
    }
is_passed (p ∷ []) (suc k) first next end few lt f n l = absurd (omega (arith, lt))
is_passed (p ∷ (q ∷ ps)) (suc zero) first next end few lt f n l =
    let last : length (p ∷ (q ∷ ps)) - 1 ≡ length (q ∷ ps) = omega arith in
    record {
      rest = ps;
      left = ap (λ x. x ∷ ps) (sym n);
      count = step_on p q ps ∙ ap (λ x. step x q + left_from q ps) (sym f) ∙ ap (λ x. step first x + left_from x ps) (sym n);
      end_is = end_after p (q ∷ ps) end (l ∙ ap (λ k. get_or (p ∷ (q ∷ ps)) k end) last) ∙ ap (λ x. last_after x ps) (sym n);
    }
is_passed (p ∷ (q ∷ ps)) (suc (suc k)) first next end few lt f n l = absurd (omega (arith, few))

pub arc_is_passed : (reversed : Bool) (arc : List Point) (from : ℕ) (first next end : Point) → from ≤ 1 → from < length arc → first ≡ get_or (directed reversed arc) 0 first
    → next ≡ get_or (directed reversed arc) from next → end ≡ get_or (directed reversed arc) (length arc - 1) end → IsPassed (directed reversed arc) from first next end
arc_is_passed reversed arc from first next end few lt f n l =
    let long = directed_length reversed arc in
    is_passed (directed reversed arc) from first next end few (omega (arith, lt, long)) f n (l ∙ ap (λ k. get_or (directed reversed arc) (k - 1) end) (sym long))

pub enough_counted : (ps : List Point) (from count : ℕ) (first next end : Point) → count ≡ counted ps → IsPassed ps from first next end → suc (step first next) ≤ count
enough_counted ps from count first next end is passed =
    let all = passed.count in let most = step_most first next in let some = some_left next passed.rest in omega (arith, is, all, most, some)

-- no more than four are missing, so a count of six is enough without the first and the step before the next
at_most_six : (missing before here rest more both all count positions : ℕ) → missing ≤ 4 → before ≤ 1 → 1 ≤ rest → 1 ≤ more → count ≡ min positions 6 → positions ≡ before + rest
    → suc both ≡ rest + more → suc all ≡ here + both → (missing - (here + (count - (1 + before)))) - (more - 1) ≡ missing - all
at_most_six missing before here rest more both all count positions few most some others is total joined sum = omega arith

pub passed_at_once : (n : Need) (ps : List Point) (from count before here missing : ℕ) (first next end : Point) → n.missing ≤ 4 → count ≡ counted ps → IsPassed ps from first next end
    → before ≡ step first next → here ≡ new_after n.last (next ∷ []) → missing ≡ n.missing - (here + (count - (1 + before))) → Passes (drop from ps) n (need (Some end) missing)
passed_at_once n ps from count before here missing first next end few is passed b h m following =
    let joined : suc (left_from next (passed.rest ++ following)) ≡ left_from next passed.rest + left_from end following =
    left_after next passed.rest following ∙ ap (λ x. left_from next passed.rest + left_from x following) (sym passed.end_is) in
    ap (λ k. k - new_after (Some end) following) m
    ∙ at_most_six n.missing before here (left_from next passed.rest) (left_from end following) (left_from next (passed.rest ++ following)) (new_after n.last (next ∷ (passed.rest ++ following)))
    count (length (clean ps)) few (subst (λ k. k ≤ 1) (sym b) (step_most first next)) (some_left next passed.rest) (some_left end following) is
    (passed.count ∙ ap (λ k. k + left_from next passed.rest) (sym b)) joined
    (new_on n.last next (passed.rest ++ following) ∙ ap (λ k. k + left_from next (passed.rest ++ following)) (sym h))
    ∙ ap (λ l. missing_after n (l ++ following)) (sym passed.left)

-- ---- how many positions an arc is left with

pub counted_directed : (reversed : Bool) (arc : List Point) → counted (directed reversed arc) ≡ counted arc
counted_directed true arc = ap (λ n. min n 6) (as_many_back arc)
counted_directed false arc = refl

counts_at : (arcs : List (List Point)) (i : ℕ) (arc : List Point) → slice_get arcs i ≡ Some arc → get_or (map counted arcs) i 0 ≡ counted arc
counts_at [] i arc got = grind arith
counts_at (a ∷ arcs) zero arc got = grind arith
counts_at (a ∷ arcs) (suc i) arc got = counts_at arcs i arc got

pub counted_at : (arcs : List (List Point)) (counts : List ℕ) (i : ℕ) (arc : List Point) → counts ≡ map counted arcs → slice_get arcs i ≡ Some arc → get_or counts i 0 ≡ counted arc
counted_at arcs counts i arc e got = ap (λ (ns : List ℕ). get_or ns i 0) e ∙ counts_at arcs i arc got

-- one more of the positions is counted
pub counted_on : (last : Option Point) (ps : List Point) (i : ℕ) (p : Point) (count here all : ℕ) → i < length ps → p ≡ get_or ps i p → here ≡ new_after last (p ∷ [])
    → count + new_after last (drop i ps) ≡ all → (count + here) + new_after (Some p) (drop (i + 1) ps) ≡ all
counted_on last ps i p count here all lt is h so_far =
    let now : new_after last (drop i ps) ≡ new_after last (p ∷ drop (i + 1) ps) = ap (new_after last) (drop_here ps i p lt is) in
    let one = new_on last p (drop (i + 1) ps) in let some = some_left p (drop (i + 1) ps) in
    omega (arith, so_far, h, now, one, some)

pub counted_all : (last : Option Point) (ps : List Point) (i count : ℕ) → length ps ≤ i → count ≤ 6 → count + new_after last (drop i ps) ≡ length (clean ps) → count ≡ counted ps
counted_all last ps i count le few so_far = let none : new_after last (drop i ps) ≡ 0 = ap (new_after last) (drop_all i ps le) ∙ nothing_new last in omega (arith, so_far, none, few)

-- ---- whether there are enough

pub missing_at_end : (closed : Bool) (all left : List Point) (now : Need) → Open missing_after left all (unpassed closed) now → missing_after now left ≡ (unpassed closed).missing - length (clean all)
missing_at_end closed all left now so_far = grind (arith, append-nil left, append-nil all)

pub enough_seen : (closed : Bool) (all left : List Point) (now : Need) → now.missing ≡ 0 → Open missing_after left all (unpassed closed) now → false ≡ is_short closed (clean all)
enough_seen closed all left now none so_far = grind (arith, none_missing now left none, missing_at_end closed all left now so_far)

pub all_seen : (closed : Bool) (all : List Point) (now : Need) (result : Bool) → result ≡ nat_lt 0 now.missing → Passes all (unpassed closed) now → result ≡ is_short closed (clean all)
all_seen closed all now result is pass = grind (arith, nothing_new now.last, missing_at_end closed all [] now pass)

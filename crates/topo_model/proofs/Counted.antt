-- How many positions arcs have.
use Rattle.std.proofs.Common.{◌≡◌, ℕ, ◌+◌, ◌*◌, ◌^◌, ◌<◌, ◌≤◌, List, [], ◌∷◌, take, length, map, sum, get_or, sym, ap, ◌∙◌, arith}
use Rattle.std.proofs.lemmas.List.{map-append}
use Rattle.std.proofs.lemmas.List.Sums.{sum_by_push}
use Rattle.owned_values.proofs.Lists.{take_here}

-- so many have the arcs before this one
pub record CountedTo {X : Type 0} (arcs : List (List X)) (i total : ℕ) : Type 0 where
  pub total_is : total ≡ sum (map length (take i arcs))
  pub small : total ≤ i * 2 ^ 64

pub counted_more : {X : Type 0} (arcs : List (List X)) (i total new : ℕ) (x : List X) → i < length arcs → x ≡ get_or arcs i x → new ≡ total + length x → length x < 2 ^ 64 → CountedTo arcs i total
    → CountedTo arcs (i + 1) new
counted_more arcs i total new x lt is n low so = record {
  total_is = n ∙ ap (λ m. m + length x) so.total_is
      ∙ sym (ap (λ xs. sum (map length xs)) (take_here arcs i x lt is) ∙ ap sum (map-append length (take i arcs) (x ∷ [])) ∙ sum_by_push (λ n. n) (map length (take i arcs)) (length x));
  small = let s = so.small in omega (arith, s, n, low);
}

-- one more fits
pub fits : (count i n : ℕ) → count ≤ i * 2 ^ 64 → i < 2 ^ 64 → n < 2 ^ 64 → count + n < 2 ^ 128
fits count i n c l m = omega (arith, c, l, m)

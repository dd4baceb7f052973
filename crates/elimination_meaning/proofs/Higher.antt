-- Reduction at a higher threshold goes on from what is left at a lower one.
use Rattle.std.proofs.Common.{◌≡◌, ℕ, zero, suc, ◌+◌, ◌<◌, ◌≤◌, Bool, false, List, [], ◌∷◌, Option, Some, None, length, map, refl, ap, sym, ◌∙◌, subst, arith, if◌then◌else◌}
use Rattle.std.proofs.lemmas.Bool.Decides.{nat_tests}
use Rattle.elimination_meaning.specs.Elimination.{Vertex, Corner, corners, least, without, without_under, next, eliminate, numbered, remaining, reduce}
use Rattle.elimination_meaning.specs.Laws.{HigherKeepsFewer}
use Rattle.elimination_meaning.specs.Sublists.{Sublist, none, keep, skip}
use Rattle.elimination_meaning.proofs.Enough.{next_shorter, length_numbered}
use Rattle.elimination_meaning.proofs.Steps.{Holds, eliminate_sub}
use Rattle.elimination_meaning.proofs.Sublists.{sub_map}
use Rattle.elimination_meaning.proofs.Turned.{go_on}

pub sub_length : {X : Type 0} {xs ys : List X} → Sublist xs ys → length xs ≤ length ys
sub_length none = omega arith
sub_length (keep s) = omega (arith, sub_length s)
sub_length (skip s) = omega (arith, sub_length s)

-- ---- one step more than there are vertices changes nothing

go_more : (n u : ℕ) (vs : List Vertex) → length vs ≤ n + 1 → ((ws : List Vertex) → length ws ≤ n → eliminate (suc n) u ws ≡ eliminate n u ws) →
    (o : Option (List Vertex)) → Holds (λ ws. length ws < length vs) o → go_on (suc n) u vs o ≡ go_on n u vs o
go_more n u vs m ih o h = grind arith

one_more : (n u : ℕ) (vs : List Vertex) → length vs ≤ n → eliminate (suc n) u vs ≡ eliminate n u vs
one_more zero u [] m = refl
one_more zero u (v ∷ vs) m = absurd (omega (arith, m))
one_more (suc n) u vs m = go_more n u vs (omega (arith, m)) (λ ws k. one_more n u ws k) (next u vs) (next_shorter u vs)

-- ---- what is under the lower threshold is under the higher one

next_higher : (t u : ℕ) (vs : List Vertex) → t ≤ u → (o : Option Corner) → (ws : List Vertex) → without_under t vs o ≡ Some ws → without_under u vs o ≡ Some ws
next_higher t u vs h o ws e = grind (arith, nat_tests)

eliminate_higher : (n t u : ℕ) (vs : List Vertex) → t ≤ u → length vs ≤ n → eliminate n u vs ≡ eliminate n u (eliminate n t vs)
eliminate_higher zero t u vs h m = refl
eliminate_higher (suc n) t u vs h m = grind (
  arith,
  sub_length,
  eliminate_sub,
  one_more,
  next_higher t u vs h (least (corners vs)),
  next_shorter t vs,
  eliminate_higher n t u,
)

pub higher_keeps_fewer : HigherKeepsFewer
unfolding reduce
higher_keeps_fewer t u ps h = grind (arith, length_numbered 0 ps, eliminate_higher (length ps) t u (numbered 0 ps) h, sub_map, eliminate_sub (length ps) u (remaining t ps))

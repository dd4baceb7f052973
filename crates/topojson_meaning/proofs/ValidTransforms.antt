-- The transform that is read has numbers within their limit.
use Rattle.std.proofs.Common.{◌≡◌, ℕ, ℤ, List, Option, Some, None, Ok, subst, arith}
use Rattle.topojson_meaning.proofs.Names.{Json, Json-F, out-Json, transform_value, IsTransformNumber, IsTransformed, Members, need_as, texts, limited, transform_number, transform_pair, transform_members, transform_in, transform_if}
use Rattle.topojson_meaning.proofs.ValidYields.{Yields, then_yields, give_yields, fail_yields, pure_then}

limited_is : (s t : List ℕ) (o : Option ℤ) → transform_value s ≡ o → limited s o ≡ Ok t → IsTransformNumber t
limited_is s t None is e = absurd cc
limited_is s t (Some n) is e = let k : s ≡ t = cc in subst IsTransformNumber k (n, is)

abbrev ArePair : List ℕ × List ℕ → Type 0
ArePair p = IsTransformNumber p.0 × IsTransformNumber p.1

transform_pair_yields : (ts : List ℕ × List ℕ) → Yields ArePair (transform_pair ts)
unfolding transform_pair transform_number
transform_pair_yields ts = grind (arith, pure_then, give_yields, limited_is)

-- of each pair of texts
texts_yield : (name : List ℕ) (ms : Members) → Yields (λ ts. Unit {0}) (need_as name texts ms)
texts_yield name ms c d ts e = tt

transform_in_yields : (x : Json-F Json) → Yields IsTransformed (transform_in x)
unfolding transform_members
transform_in_yields x = grind (arith, give_yields, then_yields, texts_yield, transform_pair_yields, fail_yields)

pub transform_if_yields : (o : Option Json) → Yields IsTransformed (transform_if o)
unfolding transform_if
transform_if_yields None = give_yields IsTransformed None tt
transform_if_yields (Some v) = transform_in_yields (out-Json v)

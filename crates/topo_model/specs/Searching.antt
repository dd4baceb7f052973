-- The search for the protected ring of a shape: of the outer rings that were met so far the one that encloses most.
use Rattle.std.specs.Prelude.{◌++◌, ℕ, ℤ, nat_lt, Bool, true, ◌&&◌, List, [], ◌∷◌, Option, None, Some, map, unsigned_abs, if◌then◌else◌}
use Rattle.geometry.specs.Areas.{shoelace}
use Rattle.geometry.specs.Joins.{arc_at, stitched}
use Rattle.geometry.specs.Paths.{Placed}
use Rattle.geometry.specs.Points.{Point}
use Rattle.guarded_meaning.specs.Guards.{is_long}

-- a ring with the way to its polygon, and what the positions of its arcs add up to
pub record Found : Type 0 where
  pub ring : Placed (List ℤ)
  pub sum : ℤ

abbrev pub sum_of : List (List Point) → List ℤ → ℤ
sum_of arcs refs = shoelace (stitched (map (arc_at arcs) refs))

abbrev pub summed : List (List Point) → Placed (List ℤ) → Found
summed arcs x = record { ring = x; sum = sum_of arcs x.part }

-- there is none yet, or it encloses less than a ring with this sum
abbrev pub encloses_less : Option Found → ℤ → Bool
encloses_less None sum = true
encloses_less (Some x) sum = nat_lt (unsigned_abs x.sum) (unsigned_abs sum)

-- one more is met: it takes the place of the one that encloses less, where it has four positions or more
abbrev pub met : List (List Point) → Option Found → Placed (List ℤ) → Option Found
met arcs best x = if is_long arcs x.part && encloses_less best (sum_of arcs x.part) then Some (summed arcs x) else best

-- these are, one after the other
abbrev pub all_met : List (List Point) → Option Found → List (Placed (List ℤ)) → Option Found
all_met arcs best [] = best
all_met arcs best (x ∷ xs) = all_met arcs (met arcs best x) xs

-- of what stands at the end of this way
abbrev pub at_way : {A : Type 0} → List ℕ → List (Placed A) → List (Placed A)
at_way way xs = map (λ x. record { path = way ++ x.path; part = x.part }) xs

-- what was found for features in reading order: the way of each, if it has a protected ring, and the arc indexes of these rings
pub record Protecting : Type 0 where
  pub ways : List (Option (List ℕ))
  pub rings : List (List ℤ)

-- What is true of segments and of guarded elimination.
use Rattle.std.specs.Prelude.{◌≡◌, ◌≢◌, ◌⊎◌, ℕ, ℤ, pos, ◌≤ℤ◌, ◌*◌, ◌≤◌, Bool, true, false, List, [], length, map, Option, None}
use Rattle.std.specs.List.{AllByRecursion}
use Rattle.geometry.specs.Areas.{cross}
use Rattle.geometry.specs.Lists.{In}
use Rattle.geometry.specs.Points.{Point}
use Rattle.elimination_meaning.specs.Elimination.{reduce, reduced, numbered}
use Rattle.elimination_meaning.specs.Weights.{is_kept_at}
use Rattle.elimination_meaning.specs.Rising.{RisesOver}
use Rattle.elimination_meaning.specs.Sublists.{Sublist}
use Rattle.guarded_meaning.specs.Arcs.{Neighbours, segment_of, arc_segments, crossings}
use Rattle.guarded_meaning.specs.Elimination.{Guard, next_arcs, remaining_arcs, reduce_arcs, reduced_arcs}
use Rattle.guarded_meaning.specs.Guards.{is_long, guarded_by}
use Rattle.guarded_meaning.specs.Lists.{EachTo, IsThinned}
use Rattle.guarded_meaning.specs.Origins.{MetBefore}
use Rattle.guarded_meaning.specs.Segments.{Segment, segment, same_ends, meets_badly}
use Rattle.guarded_meaning.specs.Shares.{count_kept, share, chosen, IsGreatestShare}
use Rattle.guarded_meaning.specs.Triangles.{in_triangle, is_clear}
use Rattle.guarded_meaning.specs.Weights.{weight, passing, interior_weights, interior_count}

-- ---- one corner and its triangle

-- Where p goes from between a and c, and another segment has no end in their triangle but a and c, and doesn't join these: if the new
-- segment meets it badly, one of the two before it did.
abbrev pub StepLaw : Type 0
StepLaw = (a p c : Point) (s : Segment) → is_clear a p c s.from ≡ true → is_clear a p c s.to ≡ true → same_ends (segment a c) s ≡ false →
    meets_badly (segment a c) s ≡ true → (meets_badly (segment a p) s ≡ true) ⊎ (meets_badly (segment p c) s ≡ true)

-- where three positions are on one side of an upright or a level line, so is what their triangle holds
pub record IsInBox (a p c q : Point) : Type 0 where
  pub left : (k : ℤ) → (k ≤ℤ a.x) → (k ≤ℤ p.x) → (k ≤ℤ c.x) → (k ≤ℤ q.x)
  pub right : (k : ℤ) → (a.x ≤ℤ k) → (p.x ≤ℤ k) → (c.x ≤ℤ k) → (q.x ≤ℤ k)
  pub below : (k : ℤ) → (k ≤ℤ a.y) → (k ≤ℤ p.y) → (k ≤ℤ c.y) → (k ≤ℤ q.y)
  pub above : (k : ℤ) → (a.y ≤ℤ k) → (p.y ≤ℤ k) → (c.y ≤ℤ k) → (q.y ≤ℤ k)

abbrev pub BoxLaw : Type 0
BoxLaw = (a p c q : Point) → in_triangle a p c q ≡ true → IsInBox a p c q

-- of a triangle that turns left what it holds is to the right of no side, and of one that turns right to the left of none
pub record IsBeyondNone (a p c q : Point) : Type 0 where
  pub left : (pos 0 ≤ℤ cross a p c) → (pos 0 ≤ℤ cross a p q) × (pos 0 ≤ℤ cross p c q) × (pos 0 ≤ℤ cross c a q)
  pub right : (cross a p c ≤ℤ pos 0) → (cross a p q ≤ℤ pos 0) × (cross p c q ≤ℤ pos 0) × (cross c a q ≤ℤ pos 0)

abbrev pub SideLaw : Type 0
SideLaw = (a p c q : Point) → in_triangle a p c q ≡ true → IsBeyondNone a p c q

-- it holds the same in either direction
abbrev pub EitherWay : Type 0
EitherWay = (a p c q : Point) → in_triangle c p a q ≡ in_triangle a p c q

-- ---- no crossings

-- Each two segments of the reduced arcs that meet badly come of two that met badly: of the old segments between the ends of the one in
-- its arc, and the old segments between the ends of the other in its arc, one of each meet badly.
abbrev pub NoCrossingsLaw : Type 0
NoCrossingsLaw = (rings : List (List ℤ)) (t : ℕ) (arcs : List (List Point)) (new other : Neighbours) →
    In new (arc_segments (remaining_arcs (guarded_by true rings) t arcs)) → In other (arc_segments (remaining_arcs (guarded_by true rings) t arcs)) → new ≢ other →
    meets_badly (segment_of new) (segment_of other) ≡ true → MetBefore (arc_segments (map (numbered 0) arcs)) new other

-- no more pairs of segments meet badly in the reduced arcs than in the arcs
abbrev pub CrossingsNeverRise : Type 0
CrossingsNeverRise = (rings : List (List ℤ)) (t : ℕ) (arcs : List (List Point)) → crossings (reduced_arcs (guarded_by true rings) t arcs) ≤ crossings arcs

-- where no two segments of the arcs meet badly, no two of the reduced arcs do
abbrev pub NoneStaysNone : Type 0
NoneStaysNone = (rings : List (List ℤ)) (t : ℕ) (arcs : List (List Point)) → crossings arcs ≡ 0 → crossings (reduced_arcs (guarded_by true rings) t arcs) ≡ 0

-- no more pairs meet badly where some of the arcs are left out
abbrev pub FewerArcsLaw : Type 0
FewerArcsLaw = (few arcs : List (List Point)) → Sublist few arcs → crossings few ≤ crossings arcs

-- ---- rings that stay

-- rings of four positions or more keep as many, whether crossings are to be avoided or not
abbrev pub RingsStay : Type 0
RingsStay = (no_crossings : Bool) (rings : List (List ℤ)) (t : ℕ) (arcs : List (List Point)) →
    AllByRecursion (λ refs. is_long arcs refs ≡ true) rings → AllByRecursion (λ refs. is_long (reduced_arcs (guarded_by no_crossings rings) t arcs) refs ≡ true) rings

-- ---- without a guard

-- each arc is reduced by itself
abbrev pub UnguardedLaw : Type 0
UnguardedLaw = (t : ℕ) (arcs : List (List Point)) → reduced_arcs (guarded_by false []) t arcs ≡ map (reduced t) arcs

abbrev pub UnguardedIndexLaw : Type 0
UnguardedIndexLaw = (t : ℕ) (arcs : List (List Point)) → reduce_arcs (guarded_by false []) t arcs ≡ map (reduce t) arcs

-- ---- with any guard

-- the arcs stay as many, each with its ends, and no position is new
abbrev pub ThinnedLaw : Type 0
ThinnedLaw = (guard : Guard) (t : ℕ) (arcs : List (List Point)) → EachTo IsThinned (reduced_arcs guard t arcs) arcs

-- the indexes that stay rise from the first to the last of each arc
abbrev pub ArcsRise : Type 0
ArcsRise = (guard : Guard) (t : ℕ) (arcs : List (List Point)) → EachTo (λ is ps. 2 ≤ length ps → RisesOver (length ps) is) (reduce_arcs guard t arcs) arcs

-- no corner that is left is under the threshold and may go: there are steps enough
abbrev pub NoneGoes : Type 0
NoneGoes = (guard : Guard) (t : ℕ) (arcs : List (List Point)) → next_arcs guard t (remaining_arcs guard t arcs) ≡ None

-- what stays at a higher threshold stays at a lower one, and more
abbrev pub HigherKeepsFewer : Type 0
HigherKeepsFewer = (guard : Guard) (t u : ℕ) (arcs : List (List Point)) → t ≤ u → EachTo IsThinned (reduce_arcs guard u arcs) (reduce_arcs guard t arcs)

-- ---- weights and shares

-- the vertices that stay at a threshold are the ends, those that never go, and those whose weight isn't under it
abbrev pub KeptByWeight : Type 0
KeptByWeight = (guard : Guard) (t : ℕ) (arcs : List (List Point)) → remaining_arcs guard t arcs ≡ passing (λ x. is_kept_at t (weight guard arcs x)) 0 (map (numbered 0) arcs)

-- the positions between the ends of the reduced arcs are as many as the weights say
abbrev pub CountedByWeight : Type 0
CountedByWeight = (guard : Guard) (t : ℕ) (arcs : List (List Point)) → count_kept t (interior_weights guard arcs) ≡ interior_count (reduced_arcs guard t arcs)

-- of these weights the threshold of a share is the greatest, or zero
abbrev pub ShareIsGreatest : Type 0
ShareIsGreatest = (p q : ℕ) (ws : List (Option ℕ)) → p ≤ q → IsGreatestShare p q ws (share p q ws)

-- at the threshold that is chosen for it the share of the positions between the ends stays
abbrev pub ShareStays : Type 0
ShareStays = (p q : ℕ) (guard : Guard) (arcs : List (List Point)) → p ≤ q → p * interior_count arcs ≤ q * interior_count (reduced_arcs guard (chosen p q guard arcs) arcs)

-- Segments in stretches, one after another.
use Rattle.std.proofs.Common.{◌≡◌, ℕ, ◌+◌, ◌-◌, ◌<◌, ◌≤◌, List, [], ◌∷◌, ◌++◌, length, drop, refl, ap, sym, ◌∙◌, append_assoc, sum_by, arith}
use Rattle.std.specs.Prelude.{flat_map, slice_range}
use Rattle.std.specs.List.Sorted.{IsPermutation}
use Rattle.std.proofs.lemmas.List.{append-nil}
use Rattle.std.proofs.lemmas.List.Concat.{flat_map-append}
use Rattle.std.proofs.lemmas.List.Sorted.{sum_by-IsPermutation}
use Rattle.std.proofs.lemmas.List.Sums.{sum_by-append, sum_by-cons}
use Rattle.geometry.specs.Points.{Point}
use Rattle.guarded_meaning.specs.Segments.{Segment}
use Rattle.segment_crossings.specs.declared.gathering.Stretch.{Stretch}
use Rattle.segment_crossings.specs.Gathering.{AreSame, arc_lines, lines_in}
use Rattle.segment_crossings.proofs.Gathered.{arc_parted}

sum_of_parts : (f : Segment → ℕ) (ss : List Stretch) → sum_by f (flat_map lines_in ss) ≡ sum_by (λ s. sum_by f (lines_in s)) ss
sum_of_parts f [] = refl
sum_of_parts f (s ∷ ss) =
    let e = sum_of_parts f ss in
    omega (arith, e, sum_by-append f (lines_in s) (flat_map lines_in ss), sum_by-cons (λ t. sum_by f (lines_in t)) s ss)

pub stretches_permuted : (ss ts : List Stretch) → IsPermutation ss ts → AreSame (flat_map lines_in ss) (flat_map lines_in ts)
stretches_permuted ss ts p = record { sums = λ f. sum_of_parts f ts ∙ sum_by-IsPermutation (λ s. sum_by f (lines_in s)) ss ts p ∙ sym (sum_of_parts f ss) }

-- one stretch more
pub stretch_cut : (ps : List Point) (ss ts : List Stretch) (s : Stretch) (first end : ℕ) (all : List Segment) → s.positions.now ≡ slice_range ps first end → first + 1 < end → end ≤ length ps → ts ≡ ss ++ s ∷ []
    → flat_map lines_in ss ++ arc_lines (drop first ps) ≡ all → flat_map lines_in ts ++ arc_lines (drop (end - 1) ps) ≡ all
stretch_cut ps ss ts s first end all is h w e was =
    let rest = arc_lines (drop (end - 1) ps) in
    ap (λ xs. flat_map lines_in xs ++ rest) e
    ∙ ap (λ xs. xs ++ rest) (flat_map-append lines_in ss (s ∷ []) ∙ ap (λ xs. flat_map lines_in ss ++ xs) (append-nil (lines_in s)))
    ∙ append_assoc (flat_map lines_in ss) (lines_in s) rest
    ∙ ap (λ xs. flat_map lines_in ss ++ xs) (ap (λ qs. arc_lines qs ++ rest) is ∙ sym (arc_parted ps first end h w)) ∙ was

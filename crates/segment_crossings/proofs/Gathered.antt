-- The segments of arcs, one after another.
use Rattle.std.proofs.Common.{◌≡◌, ℕ, zero, suc, ◌+◌, ◌-◌, ◌<◌, ◌≤◌, Bool, true, false, not, List, [], ◌∷◌, ◌++◌, length, map, take, drop, slice_index_or, refl, ap, sym, subst, ◌∙◌, ◌⊎◌, inl, inr, append_assoc, length-drop, if◌then◌else◌, arith}
use Rattle.std.specs.List.{filter, slice_range}
use Rattle.std.proofs.lemmas.Bool.{cases_lt}
use Rattle.std.proofs.lemmas.List.{append-nil, drop-drop, drop_all, get_or_default, map-append}
use Rattle.std.proofs.lemmas.List.Elements.{filter-append}
use Rattle.owned_values.proofs.Lists.{drop_here}
use Rattle.geometry.specs.Points.{Point}
use Rattle.geometry.specs.Rings.{same}
use Rattle.guarded_meaning.specs.Arcs.{segments}
use Rattle.guarded_meaning.specs.Segments.{Segment, segment, segments_from, line_segments, has_length}
use Rattle.guarded_meaning.proofs.Counts.{segments_by_points}
use Rattle.guarded_meaning.proofs.Neighbours.{all_segments}
use Rattle.segment_crossings.specs.declared.line.Line.{Line}
use Rattle.segment_crossings.specs.Gathering.{arc_lines}
use Rattle.segment_crossings.specs.Lines.{as_segment}

-- ---- an arc

-- the next two positions, and the segments ahead
two_ahead : (ps : List Point) (n : ℕ) (p q : Point) → n + 1 < length ps → p ≡ slice_index_or ps n p → q ≡ slice_index_or ps (n + 1) q →
    line_segments (drop n ps) ≡ segment p q ∷ line_segments (drop (n + 1) ps)
two_ahead ps n p q h e f =
    let first = drop_here ps n p (omega (arith, h)) e in
    let second = drop_here ps (n + 1) q h f in
    ap line_segments (first ∙ ap (λ rs. p ∷ rs) second) ∙ ap (λ rs. segment p q ∷ line_segments rs) (sym second)

-- there is at most one position ahead
none_ahead : (ps : List Point) (n : ℕ) → length ps ≤ n + 1 → line_segments (drop n ps) ≡ []
none_ahead [] n h = ap line_segments (drop_all n [] (omega arith))
none_ahead (p ∷ ps) n h = on (cases_lt n (length (p ∷ ps)))
  where
    on : (n < length (p ∷ ps)) ⊎ (length (p ∷ ps) ≤ n) → line_segments (drop n (p ∷ ps)) ≡ []
    on (inl w) =
        let q = slice_index_or (p ∷ ps) n p in
        ap line_segments (drop_here (p ∷ ps) n q w (get_or_default (p ∷ ps) n p q w) ∙ ap (λ rs. q ∷ rs) (drop_all (n + 1) (p ∷ ps) h))
    on (inr w) = ap line_segments (drop_all n (p ∷ ps) w)

kept_or_not : (s : Segment) (ss : List Segment) (b : Bool) → has_length s ≡ b → filter has_length (s ∷ ss) ≡ (if b then s ∷ filter has_length ss else filter has_length ss)
kept_or_not s ss b h = ap (λ c. if c then s ∷ filter has_length ss else filter has_length ss) h

module _ (ls : List Line) (ps : List Point) (n : ℕ) (p q : Point) (all : List Segment) (positive : 0 < n) (within : n < length ps) (e : p ≡ slice_index_or ps (n - 1) p) (f : q ≡ slice_index_or ps n q)
    (was : map as_segment ls ++ filter has_length (line_segments (drop (n - 1) ps)) ≡ all) where
  ahead : line_segments (drop (n - 1) ps) ≡ segment p q ∷ line_segments (drop n ps)
  ahead =
      let one : n - 1 + 1 ≡ n = omega (arith, positive) in
      two_ahead ps (n - 1) p q (omega (arith, one, within)) e (subst (λ m. q ≡ slice_index_or ps m q) (sym one) f) ∙ ap (λ m. segment p q ∷ line_segments (drop m ps)) one

  pub line_put : (ks : List Line) (l : Line) → same p q ≡ false → l.from ≡ p → l.to ≡ q → ks ≡ ls ++ l ∷ [] → map as_segment ks ++ filter has_length (line_segments (drop (n + 1 - 1) ps)) ≡ all
  line_put ks l d g h is =
      let next : n + 1 - 1 ≡ n = omega arith in
      let seg : as_segment l ≡ segment p q = ap (λ x. segment x l.to) g ∙ ap (λ y. segment p y) h in
      ap (λ m. map as_segment ks ++ filter has_length (line_segments (drop m ps))) next ∙ ap (λ rs. map as_segment rs ++ filter has_length (line_segments (drop n ps))) is
      ∙ ap (λ ss. ss ++ filter has_length (line_segments (drop n ps))) (map-append as_segment ls (l ∷ []))
      ∙ append_assoc (map as_segment ls) (as_segment l ∷ []) (filter has_length (line_segments (drop n ps)))
      ∙ ap (λ s. map as_segment ls ++ s ∷ filter has_length (line_segments (drop n ps))) seg
      ∙ ap (λ ss. map as_segment ls ++ ss) (sym (ap (filter has_length) ahead ∙ kept_or_not (segment p q) (line_segments (drop n ps)) true (ap not d))) ∙ was

  pub line_left_out : (ks : List Line) → same p q ≡ true → ks ≡ ls → map as_segment ks ++ filter has_length (line_segments (drop (n + 1 - 1) ps)) ≡ all
  line_left_out ks d is =
      let next : n + 1 - 1 ≡ n = omega arith in
      ap (λ m. map as_segment ks ++ filter has_length (line_segments (drop m ps))) next ∙ ap (λ rs. map as_segment rs ++ filter has_length (line_segments (drop n ps))) is
      ∙ ap (λ ss. map as_segment ls ++ ss) (sym (ap (filter has_length) ahead ∙ kept_or_not (segment p q) (line_segments (drop n ps)) false (ap not d))) ∙ was

pub arc_put : (ss : List Segment) (ps : List Point) (n : ℕ) (all : List Segment) → length ps ≤ n + 1 → ss ++ arc_lines (drop n ps) ≡ all → ss ≡ all
arc_put ss ps n all h was = sym (append-nil ss) ∙ ap (λ ts. ss ++ ts) (sym (ap (filter has_length) (none_ahead ps n h))) ∙ was

-- ---- an arc in parts

-- up to a position, and from it on
from_parted : (p : Point) (ps : List Point) (k : ℕ) → k ≤ length ps → segments_from p ps ≡ line_segments (take (suc k) (p ∷ ps)) ++ line_segments (drop k (p ∷ ps))
from_parted p ps zero h = refl
from_parted p [] (suc k) h = absurd (omega (arith, h))
from_parted p (q ∷ ps) (suc k) h = ap (λ ss. segment p q ∷ ss) (from_parted q ps k (omega (arith, h)))

lines_parted : (ps : List Point) (k : ℕ) → k < length ps → line_segments ps ≡ line_segments (take (suc k) ps) ++ line_segments (drop k ps)
lines_parted [] k h = absurd (omega (arith, h))
lines_parted (p ∷ ps) k h = from_parted p ps k (omega (arith, h))

pub arc_parted : (ps : List Point) (first end : ℕ) → first + 1 < end → end ≤ length ps → arc_lines (drop first ps) ≡ arc_lines (slice_range ps first end) ++ arc_lines (drop (end - 1) ps)
arc_parted ps first end h w =
    let k = end - 1 - first in
    let up : suc k ≡ end - first = omega (arith, h) in
    let on : first + k ≡ end - 1 = omega (arith, h) in
    let few : k < length (drop first ps) = omega (arith, length-drop first ps, h, w) in
    ap (filter has_length) (lines_parted (drop first ps) k few)
    ∙ filter-append has_length (line_segments (take (suc k) (drop first ps))) (line_segments (drop k (drop first ps)))
    ∙ ap (λ n. arc_lines (take n (drop first ps)) ++ arc_lines (drop k (drop first ps))) up
    ∙ ap (λ qs. arc_lines (slice_range ps first end) ++ arc_lines qs) (drop-drop k first ps ∙ ap (λ n. drop n ps) on)

-- ---- all arcs

pub all_put : (arcs : List (List Point)) (i : ℕ) (ss : List Segment) → length arcs ≤ i → ss ++ filter has_length (all_segments (drop i arcs)) ≡ filter has_length (all_segments arcs) → ss ≡ segments arcs
all_put arcs i ss h was = sym (append-nil ss) ∙ ap (λ ts. ss ++ ts) (sym (ap (λ rs. filter has_length (all_segments rs)) (drop_all i arcs h))) ∙ was ∙ sym (segments_by_points arcs)

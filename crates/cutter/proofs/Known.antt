-- What is known of lines by their vertices.
use Rattle.cutter.proofs.Names.{or-true, flat_map, any_from_in, same_self, Point, same, get_in, Answers, is_member, AnswersFor, AllClean, IsClean, is_cut, Stroke, AllKnown, IsReady, start_in, from_start, pieces_of, In, IsStructured, slices, indexes, SplitLine, split_by, split_of, started, all_pieces, EndsPass}
use Rattle.std.proofs.Common.{◌≡◌, ℕ, ◌<◌, Bool, true, false, List, [], ◌∷◌, ◌++◌, length, map, get_or, refl, ap, sym, ◌∙◌, subst, arith}
use Rattle.cutter.proofs.Agreement.{in_start, start_agree, by_agree, ends_agree, split}
use Rattle.cutter.proofs.OpenPieces.{end_cut}
use Rattle.cutter.proofs.RingPieces.{turned_is}
use Rattle.cutter.proofs.SliceLaws.{slices_are}
use Rattle.cutter.proofs.Starts.{ring_start, line}
use Rattle.cutter.proofs.Structured.{clean_in, structured}

-- the answers are those of the lines
pub cuts_known : (ls : List Stroke) (v : Answers) → AnswersFor ls v → (s : Stroke) → In s ls → (x : Point) → In x s.positions → is_member v.cuts x ≡ is_cut ls x
cuts_known ls v k s m x i = k.cuts x (k.points x ∙ any_from_in (λ t. is_member t.positions x) s ls m (any_from_in (same x) x s.positions i (same_self x)))

-- the vertices of lines know each position of them
pub line_or_ring_known : (ls : List Stroke) (v : Answers) → AnswersFor ls v → (s : Stroke) → In s ls → AllKnown v.points s.positions
line_or_ring_known ls v k s m x i = k.points x ∙ any_from_in (λ t. is_member t.positions x) s ls m (any_from_in (same x) x s.positions i (same_self x))

-- they know the element of the list that is read
pub known_at : (known ps : List Point) (i : ℕ) (x : Point) → AllKnown known ps → i < length ps → x ≡ get_or ps i x → is_member known x ≡ true
known_at known ps i x h k e = h x (get_in ps i x k e)

-- a line from its start has no other positions than the line
pub known_start : (known : List Point) (cut : Point → Bool) (s t : Stroke) (ps : List Point) → t ≡ started cut s → ps ≡ t.positions → AllKnown known s.positions → AllKnown known ps
known_start known cut s t ps et ep h = λ x i. h x (in_start cut s.closed s.positions x (subst (In x) (ep ∙ ap (λ z. z.positions) et) i))

-- each line begins and ends at cut positions, from its start
ends : (ls : List Stroke) (c : Bool) (ps : List Point) → In (line c ps) ls → IsClean (line c ps) → EndsPass (is_cut ls) (from_start (is_cut ls) (line c ps))
ends ls c [] m h = elim h [ ]
ends ls c (p ∷ []) m h = elim h [ ]
ends ls false (p ∷ (q ∷ ps)) m h = grind (arith, end_cut, same_self, or-true)
ends ls true (p ∷ (q ∷ ps)) m h =
    let s = ring_start ls p (q ∷ ps) m in
    let t = turned_is p p q ps (h.1 refl) (start_in (is_cut ls) (p ∷ (q ∷ ps))) s.0 in
    subst (λ l. EndsPass (is_cut ls) l) (sym t.1) (s.1, ap (is_cut ls) t.2 ∙ s.1)

-- the start of a ring is one of its indexes
starts : (ls : List Stroke) (c : Bool) (ps : List Point) → In (line c ps) ls → IsClean (line c ps) → c ≡ true → start_in (is_cut ls) ps < length ps
starts ls c [] m h e = elim h [ ]
starts ls c (p ∷ ps) m h e = (ring_start ls p ps (subst (λ b. In (line b (p ∷ ps)) ls) e m)).0

module _ (ls : List Stroke) (v : Answers) (known : AnswersFor ls v) (s : Stroke) (m : In s ls) where
  -- the start by the vertices is that by the lines
  pub start_known : start_in (is_member v.cuts) s.positions ≡ start_in (is_cut ls) s.positions
  start_known = start_agree (is_member v.cuts) (is_cut ls) s.positions (cuts_known ls v known s m)

  pub starts_known : AllClean ls → s.closed ≡ true → start_in (is_member v.cuts) s.positions < length s.positions
  starts_known clean e = subst (λ k. k < length s.positions) (sym start_known) (starts ls s.closed s.positions m (clean_in s ls clean m) e)

  -- the line can be split by the vertices ..
  pub ready : AllClean ls → IsReady v s
  ready clean = record {
    known = line_or_ring_known ls v known s m;
    starts = starts_known clean;
    ends = ends_agree (is_member v.cuts) (is_cut ls) s (cuts_known ls v known s m) (ends ls s.closed s.positions m (clean_in s ls clean m));
  }

  -- .. and is split as the lines say
  pub split_known : split_by (is_member v.cuts) s ≡ split_of ls s
  split_known = by_agree (is_member v.cuts) (is_cut ls) s (cuts_known ls v known s m)

pub flat_split : (ls ms : List Stroke) → all_pieces (map (split_of ls) ms) ≡ flat_map (pieces_of ls) ms
flat_split ls [] = refl
flat_split ls (s ∷ ms) = ap (λ l. pieces_of ls s ++ l) (flat_split ls ms)

pub structured_splits : (ls : List Stroke) (ss : List SplitLine) → AllClean ls → ss ≡ map (split_of ls) ls → IsStructured (all_pieces ss)
structured_splits ls ss clean e = subst (λ z. IsStructured z) (sym (ap all_pieces e ∙ flat_split ls ls)) (structured ls clean)

-- a line from its start with its cut indexes is a split line
pub split_view : (cut : Point → Bool) (s : Stroke) (t : Stroke) (is : List ℕ) → t ≡ line s.closed (from_start cut s) → is ≡ indexes cut 0 t.positions → EndsPass cut (from_start cut s) →
    split t.closed t.positions (slices t.positions is) ≡ split_by cut s
split_view cut s t is et ei h = grind (arith, split, slices_are)

-- Lines that share one list of cut indexes: one line more, and each of them.
use Rattle.std.proofs.Common.{◌≡◌, ℕ, zero, suc, ◌+◌, ◌-◌, ◌<◌, ◌≤◌, Bool, List, [], ◌∷◌, ◌++◌, take, drop, length, map, get_or, slice_get, Some, refl, ap, sym, ◌∙◌, subst, arith}
use Rattle.cutter.proofs.Names.{get_or-append_right, get_or-drop, length-append, length-drop, length-map, length-take-le, map-append, take-append-le, take_all, take_more, slice_range, Replaced, ends, Point, is_cut, Stroke, from_start, stitched, AllRise, AreCutIndexes, AreEnds, cut_lines, own_indexes, split_lines_and_rings, SplitLine, AllSplit, slices, indexes, started, split_by, split_of, EndsPass, IsRising, piece_lists, lines_and_rings}
use Rattle.cutter.proofs.Known.{split_view}
use Rattle.cutter.proofs.SliceLaws.{indexes_rise}

drop_all_but_last : (a : ℕ) (cuts more : List ℕ) → a ≤ length cuts → drop a (cuts ++ more) ≡ drop a cuts ++ more
drop_all_but_last zero cuts more h = refl
drop_all_but_last (suc a) [] more h = absurd (omega arith)
drop_all_but_last (suc a) (c ∷ cuts) more h = drop_all_but_last a cuts more (omega arith)

drop_whole : (cuts more : List ℕ) → drop (length cuts) (cuts ++ more) ≡ more
drop_whole [] more = refl
drop_whole (c ∷ cuts) more = drop_whole cuts more

take_whole : (more : List ℕ) → take (length more) more ≡ more
take_whole [] = refl
take_whole (c ∷ more) = ap (λ l. c ∷ l) (take_whole more)

-- the indexes of a line stay the same when more are added after them
range_all_but_last : (cuts more : List ℕ) (a b : ℕ) → a ≤ b → b ≤ length cuts → slice_range (cuts ++ more) a b ≡ slice_range cuts a b
range_all_but_last cuts more a b h k =
    let n : b - a ≤ length (drop a cuts) = omega (arith, length-drop a cuts) in
    ap (take (b - a)) (drop_all_but_last a cuts more (omega arith)) ∙ take-append-le (b - a) (drop a cuts) more n

-- the indexes that were added
range_back : (cuts more : List ℕ) (a : ℕ) → a ≡ length cuts → slice_range (cuts ++ more) a (length (cuts ++ more)) ≡ more
range_back cuts more a e =
    let n : length (cuts ++ more) - length cuts ≡ length more = omega (arith, length-append cuts more) in
    ap (λ k. take (length (cuts ++ more) - k) (drop k (cuts ++ more))) e ∙ ap (take (length (cuts ++ more) - length cuts)) (drop_whole cuts more)
    ∙ ap (λ k. take k more) n ∙ take_whole more

-- a line with the pieces between these indexes
abbrev pub with_pieces : Stroke → List ℕ → SplitLine
with_pieces s is = record { stroke = s; pieces = slices s.positions is }

-- the pieces with one line more
pub split_more : (cuts more : List ℕ) (from : ℕ) (ss : List Stroke) (es : List ℕ) (s : Stroke) → AreCutIndexes cuts from ss es →
    split_lines_and_rings (cuts ++ more) from (ss ++ (s ∷ [])) (es ++ (length (cuts ++ more) ∷ [])) ≡ split_lines_and_rings cuts from ss es ++ (with_pieces s more ∷ [])
split_more cuts more from [] [] s h = ap (λ is. with_pieces s is ∷ []) (range_back cuts more from h)
split_more cuts more from [] (e ∷ es) s h = elim h [ ]
split_more cuts more from (t ∷ ss) [] s h = elim h [ ]
split_more cuts more from (t ∷ ss) (e ∷ es) s h =
    ap (λ is. with_pieces t is ∷ split_lines_and_rings (cuts ++ more) e (ss ++ (s ∷ [])) (es ++ (length (cuts ++ more) ∷ []))) (range_all_but_last cuts more from e h.0 h.1)
    ∙ ap (λ l. with_pieces t (slice_range cuts from e) ∷ l) (split_more cuts more e ss es s h.3)

pub indexes_more : (cuts more : List ℕ) (from : ℕ) (ss : List Stroke) (es : List ℕ) (s : Stroke) → AreCutIndexes cuts from ss es → IsRising (length s.positions) more →
    AreCutIndexes (cuts ++ more) from (ss ++ (s ∷ [])) (es ++ (length (cuts ++ more) ∷ []))
indexes_more cuts more from [] [] s h r =
    (omega (arith, h, length-append cuts more), omega arith, subst (IsRising (length s.positions)) (sym (range_back cuts more from h)) r, refl)
indexes_more cuts more from [] (e ∷ es) s h r = elim h [ ]
indexes_more cuts more from (t ∷ ss) [] s h r = elim h [ ]
indexes_more cuts more from (t ∷ ss) (e ∷ es) s h r =
    (h.0, omega (arith, h.1, length-append cuts more), subst (IsRising (length t.positions)) (sym (range_all_but_last cuts more from e h.0 h.1)) h.2, indexes_more cuts more e ss es s h.3 r)

-- the lines that are split are those lines
pub lines_and_rings_of : (cuts : List ℕ) (from : ℕ) (ss : List Stroke) (es : List ℕ) → AreCutIndexes cuts from ss es → lines_and_rings (split_lines_and_rings cuts from ss es) ≡ ss
lines_and_rings_of cuts from [] [] h = refl
lines_and_rings_of cuts from [] (e ∷ es) h = elim h [ ]
lines_and_rings_of cuts from (s ∷ ss) [] h = elim h [ ]
lines_and_rings_of cuts from (s ∷ ss) (e ∷ es) h = ap (λ l. s ∷ l) (lines_and_rings_of cuts e ss es h.3)

pub as_many_splits : (cuts : List ℕ) (from : ℕ) (ss : List Stroke) (es : List ℕ) → AreCutIndexes cuts from ss es → length (split_lines_and_rings cuts from ss es) ≡ length ss
as_many_splits cuts from [] [] h = refl
as_many_splits cuts from [] (e ∷ es) h = elim h [ ]
as_many_splits cuts from (s ∷ ss) [] h = elim h [ ]
as_many_splits cuts from (s ∷ ss) (e ∷ es) h = ap suc (as_many_splits cuts e ss es h.3)

-- the lines and the indexes of each, apart
pub record AreApart (cuts : List ℕ) (from : ℕ) (ss : List Stroke) (es : List ℕ) : Type 0 where
  pub ends : AreEnds cuts from es
  pub rising : AllRise ss (own_indexes cuts from es)
  pub lines : cut_lines ss (own_indexes cuts from es) ≡ split_lines_and_rings cuts from ss es

pub apart : (cuts : List ℕ) (from : ℕ) (ss : List Stroke) (es : List ℕ) → AreCutIndexes cuts from ss es → AreApart cuts from ss es
apart cuts from [] [] h = record { ends = tt; rising = tt; lines = refl }
apart cuts from [] (e ∷ es) h = elim h [ ]
apart cuts from (s ∷ ss) [] h = elim h [ ]
apart cuts from (s ∷ ss) (e ∷ es) h =
    let r = apart cuts e ss es h.3 in
    record { ends = (h.0, h.1, r.ends); rising = (h.2, r.rising); lines = ap (λ l. with_pieces s (slice_range cuts from e) ∷ l) r.lines }

-- ---- the indexes of one of the lines

pub as_many_own : (cuts : List ℕ) (from : ℕ) (es : List ℕ) → length (own_indexes cuts from es) ≡ length es
as_many_own cuts from [] = refl
as_many_own cuts from (e ∷ es) = ap suc (as_many_own cuts e es)

pub record IsOwn (cuts : List ℕ) (from : ℕ) (es : List ℕ) (i : ℕ) : Type 0 where
  pub order : get_or (from ∷ es) i 0 ≤ get_or es i 0
  pub within : get_or es i 0 ≤ length cuts
  pub got : slice_get (own_indexes cuts from es) i ≡ Some (slice_range cuts (get_or (from ∷ es) i 0) (get_or es i 0))

at_place : (cuts : List ℕ) (from : ℕ) (es : List ℕ) (i : ℕ) → AreEnds cuts from es → i < length es → IsOwn cuts from es i
at_place cuts from [] i h k = absurd (omega arith)
at_place cuts from (e ∷ es) zero h k = record { order = h.0; within = h.1; got = refl }
at_place cuts from (e ∷ es) (suc i) h k =
    let r = at_place cuts e es i h.2 (omega arith) in
    record { order = r.order; within = r.within; got = r.got }

-- what a place says of the indexes that are read there
pub record IsRead (all : List (List ℕ)) (cs : List ℕ) (first end i : ℕ) : Type 0 where
  pub order : first ≤ end
  pub within : end ≤ length cs
  pub got : slice_get all i ≡ Some (slice_range cs first end)

pub has_own : (cuts es : List ℕ) (all : List (List ℕ)) (ns : List ℕ) (i : ℕ) → own_indexes cuts 0 es ≡ all → i < length all → ns ≡ es → i < length ns
has_own cuts es all ns i view k en = omega (arith, k, ap length view, as_many_own cuts 0 es, ap length en)

pub own_read : (cuts es : List ℕ) (all : List (List ℕ)) (cs ns : List ℕ) (i first : ℕ) → own_indexes cuts 0 es ≡ all → AreEnds cuts 0 es →
    i < length all → cs ≡ cuts → ns ≡ es → first ≡ get_or (0 ∷ ns) i 0 → IsRead all cs first (get_or ns i 0) i
own_read cuts es all cs ns i first view h k ec en ef =
    let r = at_place cuts 0 es i h (has_own cuts es all es i view k refl) in
    subst (λ w. IsRead all w first (get_or ns i 0) i) (sym ec)
    (subst (λ n. IsRead all cuts n (get_or ns i 0) i) (sym ef)
    (subst (λ w. IsRead all cuts (get_or (0 ∷ w) i 0) (get_or w i 0) i) (sym en)
    (subst (λ w. IsRead w cuts (get_or (0 ∷ es) i 0) (get_or es i 0) i) view (record { order = r.order; within = r.within; got = r.got }))))

-- ---- one of the lines that are cut at indexes of their own

-- its indexes rise
own_rise : (ss : List Stroke) (own : List (List ℕ)) (i : ℕ) (s : Stroke) (is : List ℕ) → AllRise ss own → i < length ss → s ≡ get_or ss i s → slice_get own i ≡ Some is →
    IsRising (length s.positions) is
own_rise [] own i s is h k e f = absurd (omega arith)
own_rise (t ∷ ss) [] i s is h k e f = elim h [ ]
own_rise (t ∷ ss) (js ∷ own) zero s is h k e f =
    let g : js ≡ is = cc in
    subst (λ x. IsRising (length x.positions) is) (sym e) (subst (IsRising (length t.positions)) g h.0)
own_rise (t ∷ ss) (js ∷ own) (suc i) s is h k e f = own_rise ss own i s is h.1 (omega arith) e f

-- its pieces stand between them
own_pieces : (ss : List Stroke) (own : List (List ℕ)) (i : ℕ) (s : Stroke) (is : List ℕ) → i < length ss → s ≡ get_or ss i s → slice_get own i ≡ Some is →
    slice_get (piece_lists (cut_lines ss own)) i ≡ Some (slices s.positions is)
own_pieces [] own i s is k e f = absurd (omega arith)
own_pieces (t ∷ ss) [] i s is k e f = cc
own_pieces (t ∷ ss) (js ∷ own) zero s is k e f =
    let g : js ≡ is = cc in
    ap (λ x. Some (slices x.positions js)) (sym e) ∙ ap (λ ks. Some (slices s.positions ks)) g
own_pieces (t ∷ ss) (js ∷ own) (suc i) s is k e f = own_pieces ss own i s is (omega arith) e f

-- its pieces, joined again, are the line
own_joined : (ss : List Stroke) (own : List (List ℕ)) (i : ℕ) (s : Stroke) (is : List ℕ) → AllSplit (cut_lines ss own) → i < length ss → s ≡ get_or ss i s → slice_get own i ≡ Some is →
    stitched (slices s.positions is) ≡ s.positions
own_joined [] own i s is h k e f = absurd (omega arith)
own_joined (t ∷ ss) [] i s is h k e f = cc
own_joined (t ∷ ss) (js ∷ own) zero s is h k e f =
    let g : js ≡ is = cc in
    subst (λ x. stitched (slices x.positions is) ≡ x.positions) (sym e) (subst (λ ks. stitched (slices t.positions ks) ≡ t.positions) g h.0.joins)
own_joined (t ∷ ss) (js ∷ own) (suc i) s is h k e f = own_joined ss own i s is h.1 (omega arith) e f

-- what is known of one of the lines and of the indexes at which it is cut
pub record IsCutLine (all : List SplitLine) (i : ℕ) (s : Stroke) (is : List ℕ) : Type 0 where
  pub rising : IsRising (length s.positions) is
  pub joined : stitched (slices s.positions is) ≡ s.positions
  pub pieces : slice_get (piece_lists all) i ≡ Some (slices s.positions is)

pub cut_line : (ss : List Stroke) (own : List (List ℕ)) (all : List SplitLine) (i : ℕ) (s : Stroke) (is : List ℕ) → cut_lines ss own ≡ all → AllRise ss own → AllSplit all →
    i < length ss → s ≡ get_or ss i s → slice_get own i ≡ Some is → IsCutLine all i s is
cut_line ss own all i s is view rise split k e f = record {
  rising = own_rise ss own i s is rise k e f;
  joined = own_joined ss own i s is (subst AllSplit (sym view) split) k e f;
  pieces = ap (λ l. slice_get (piece_lists l) i) (sym view) ∙ own_pieces ss own i s is k e f;
}

-- as many lines as lists of indexes
pub as_many_lines : (ss : List Stroke) (own : List (List ℕ)) → AllRise ss own → length own ≡ length ss
as_many_lines [] [] h = refl
as_many_lines [] (is ∷ own) h = elim h [ ]
as_many_lines (s ∷ ss) [] h = elim h [ ]
as_many_lines (s ∷ ss) (is ∷ own) h = ap suc (as_many_lines ss own h.1)

-- the lines before this place, rings from their starts
abbrev pub started_before : List Stroke → ℕ → List Stroke
started_before ls i = map (started (is_cut ls)) (take i ls)

-- the lines before this place are split at the cut indexes
pub record AreSplit (ls : List Stroke) (i : ℕ) (cuts ends : List ℕ) : Type 0 where
  pub within : AreCutIndexes cuts 0 (started_before ls i) ends
  pub split : split_lines_and_rings cuts 0 (started_before ls i) ends ≡ map (split_of ls) (take i ls)

map_more : {Y : Type 0} (f : Stroke → Y) (ls : List Stroke) (i : ℕ) (s : Stroke) → i < length ls → s ≡ get_or ls i s → map f (take (i + 1) ls) ≡ map f (take i ls) ++ (f s ∷ [])
map_more f ls i s h e = ap (map f) (take_more ls i s h ∙ ap (λ z. take i ls ++ (z ∷ [])) (sym e)) ∙ map-append f (take i ls) (s ∷ [])

-- one line more is split
pub line_more : (ls : List Stroke) (i : ℕ) (s t : Stroke) (cut : Point → Bool) (cuts new ends : List ℕ) → i < length ls → s ≡ get_or ls i s → t ≡ started cut s →
    split_by cut s ≡ split_of ls s → EndsPass cut (from_start cut s) → new ≡ cuts ++ indexes cut 0 t.positions → AreSplit ls i cuts ends → AreSplit ls (i + 1) new (ends ++ (length new ∷ []))
line_more ls i s t cut cuts new ends h e st by pass en so =
    let more = indexes cut 0 t.positions in
    let same : started (is_cut ls) s ≡ t = sym (ap (λ x. x.stroke) by) ∙ sym st in
    let lines : started_before ls (i + 1) ≡ started_before ls i ++ (t ∷ []) = map_more (started (is_cut ls)) ls i s h e ∙ ap (λ z. started_before ls i ++ (z ∷ [])) same in
    let rise : IsRising (length t.positions) more = indexes_rise cut (length t.positions) 0 t.positions (omega arith) in
    let one : with_pieces t more ≡ split_of ls s = split_view cut s t more st refl pass ∙ by in
    subst (λ n. AreSplit ls (i + 1) n (ends ++ (length n ∷ []))) (sym en) (record {
      within = subst (λ l. AreCutIndexes (cuts ++ more) 0 l (ends ++ (length (cuts ++ more) ∷ []))) (sym lines) (indexes_more cuts more 0 (started_before ls i) ends t so.within rise);
      split = ap (λ l. split_lines_and_rings (cuts ++ more) 0 l (ends ++ (length (cuts ++ more) ∷ []))) lines
          ∙ split_more cuts more 0 (started_before ls i) ends t so.within
          ∙ ap (λ l. l ++ (with_pieces t more ∷ [])) so.split
          ∙ ap (λ z. map (split_of ls) (take i ls) ++ (z ∷ [])) one
          ∙ sym (map_more (split_of ls) ls i s h e);
    })

-- the line at the place is that of all lines
pub next_line : (ls ss : List Stroke) (i : ℕ) (s : Stroke) → i < length ls → Replaced (started (is_cut ls)) ls i ss → s ≡ get_or ss i s → s ≡ get_or ls i s
next_line ls ss i s h so e =
    let n : length (started_before ls i) ≡ i = length-map (take i ls) (started (is_cut ls)) ∙ length-take-le i ls (omega arith) in
    let here : i + (i - i) ≡ i = omega arith in
    e ∙ ap (λ l. get_or l i s) so.made ∙ get_or-append_right (started_before ls i) (drop i ls) i i s n (omega arith) ∙ get_or-drop i ls (i - i) s ∙ ap (λ k. get_or ls k s) here

-- all lines are split
pub all_lines : (ls ss : List Stroke) (i : ℕ) (cuts es : List ℕ) → length ls ≤ i → Replaced (started (is_cut ls)) ls i ss → AreSplit ls i cuts es →
    AreCutIndexes cuts 0 ss es × (split_lines_and_rings cuts 0 ss es ≡ map (split_of ls) ls)
all_lines ls ss i cuts es h so split =
    let whole : take i ls ≡ ls = take_all i ls h in
    let lines : started_before ls i ≡ ss = ap (map (started (is_cut ls))) whole ∙ sym (ends (started (is_cut ls)) ls i ss h so) in (
      subst (λ l. AreCutIndexes cuts 0 l es) lines split.within,
      ap (λ l. split_lines_and_rings cuts 0 l es) (sym lines) ∙ split.split ∙ ap (map (split_of ls)) whole,
    )

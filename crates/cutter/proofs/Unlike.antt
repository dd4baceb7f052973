-- Lines of one piece that is alike no other.
use Rattle.std.proofs.Common.{◌≡◌, ◌≢◌, ℕ, suc, ◌+◌, ◌<◌, ◌≤◌, Bool, true, false, cond, List, [], ◌∷◌, ◌++◌, take, length, map, get_or, reverse, slice_get, Some, append-nil, refl, ap, sym, ◌∙◌, subst, arith, inl, inr}
use Rattle.std.proofs.lemmas.List.Elements.{filter-append}
use Rattle.owned_values.proofs.Elements.{all_reverse}
use Rattle.owned_values.proofs.Members.{in_left, in_right}
use Rattle.junctions.proofs.Members.{from_map, from_flat}
use Rattle.cutter.proofs.Names.{length-append, length-map, take_all, take_more, Replaced, ends, started, map-append, in_append, all_of, each_of, or-true, same_self, Point, same, IsClean, AllClean, is_cut, Visit, visits, visits_from, all_visits, visits_at, last, is_end, filter, Stroke, joined, pieces_from, split_at, pieces_of, from_start, In, SplitLine, split_of, Answers, AnswersFor, is_member, EndsPass, indexes, slices, stitched}
use Rattle.cutter.proofs.Agreement.{in_start, last_in}
use Rattle.cutter.proofs.Joins.{line_or_ring_split}
use Rattle.cutter.proofs.Known.{cuts_known, ready, split_known, split_view}
use Rattle.cutter.proofs.OpenPieces.{end_cut}
use Rattle.cutter.proofs.SliceLaws.{some_place, whole_slice}
use Rattle.cutter.proofs.Starts.{line}
use Rattle.cutter.proofs.Structured.{clean_in}
use Rattle.cutter.specs.Alone.{AreAlone}
use Rattle.cutter.specs.Known.{GoesOnceThroughSecond}

-- ---- lines visit the positions of their pieces

-- how often a position is visited
abbrev times_at : Point → List Visit → ℕ
times_at q vs = length (filter (λ v. same v.here q) vs)

-- each position of a list that goes on is visited, but for the first
visited_on : (q a b : Point) (ps : List Point) (z : Point) → In q (b ∷ ps) → 1 ≤ times_at q (visits_from a b (ps ++ (z ∷ [])))
visited_on q a b [] z k = grind (arith, same_self)
visited_on q a b (c ∷ ps) z k = grind (arith, same_self, visited_on q b c ps z)

-- .. and of one that ends there each but the last
visited_between : (q a b : Point) (ps : List Point) → In q (b ∷ ps) → q ≢ last b ps → 1 ≤ times_at q (visits_from a b ps)
visited_between q a b [] k n = grind arith
visited_between q a b (c ∷ ps) k n = grind (arith, same_self, visited_between q b c ps)

-- a line visits each of its positions at which it isn't cut
visited : (ls : List Stroke) (c : Bool) (ps : List Point) (q : Point) → In (line c ps) ls → IsClean (line c ps) → is_cut ls q ≡ false → In q ps → 1 ≤ times_at q (visits (line c ps))
visited ls c [] q m h f k = elim h [ ]
visited ls c (p ∷ []) q m h f k = elim h [ ]
visited ls false (p ∷ (r ∷ ps)) q m h f k =
    let no : is_end q (p ∷ (r ∷ ps)) ≡ true → ⊥ = λ e. (let bad : true ≡ false = sym (end_cut ls (line false (p ∷ (r ∷ ps))) q m e) ∙ f in cc) in
    subst (λ l. 1 ≤ times_at q (visits_from p r l)) (sym (append-nil ps))
    (visited_between q p r ps
    (elim k [ inl e ↦ absurd (no (grind (arith, same_self, e))) | inr i ↦ i ])
    (λ e. no (grind (arith, same_self, or-true, e))))
visited ls true (p ∷ (r ∷ ps)) q m h f k =
    visited_on q p r ps r (elim k [ inl e ↦ subst (λ x. In x (r ∷ ps)) (h.1 refl ∙ sym e) (last_in r ps) | inr i ↦ i ])

-- pieces have no other positions than what is split
in_joined : (b : Bool) (p q : Point) (pieces : List (List Point)) (ps x : List Point) (z : Point) → ((y : List Point) → In y pieces → In z y → In z (q ∷ ps)) → In x (joined b p q pieces) → In z x → In z (p ∷ (q ∷ ps))
in_joined b p q pieces ps x z h m k = grind arith

in_pieces : (cut : Point → Bool) (p : Point) (ps x : List Point) (z : Point) → In x (pieces_from cut p ps) → In z x → In z (p ∷ ps)
in_pieces cut p [] x z m k = elim m [ ]
in_pieces cut p (q ∷ ps) x z m k = in_joined (cut q) p q (pieces_from cut q ps) ps x z (λ y. in_pieces cut q ps y z) m k

in_split : (cut : Point → Bool) (ps x : List Point) (z : Point) → In x (split_at cut ps) → In z x → In z ps
in_split cut [] x z m k = elim m [ ]
in_split cut (p ∷ ps) x z m k = in_pieces cut p ps x z m k

-- a line visits each position of its pieces at which it isn't cut
has_visit : (ls : List Stroke) → AllClean ls → (q : Point) → is_cut ls q ≡ false → (s : Stroke) (x : List Point) → In s ls → In x (pieces_of ls s) → In q x → 1 ≤ times_at q (visits s)
has_visit ls clean q free s x m i k =
    visited ls s.closed s.positions q m (clean_in s ls clean m) free
    (in_start (is_cut ls) s.closed s.positions q (in_split (is_cut ls) (from_start (is_cut ls) s) x q i k))

-- ---- two lines visit it twice

more_visits : (q : Point) (s : Stroke) (ms : List Stroke) → times_at q (all_visits (s ∷ ms)) ≡ times_at q (visits s) + times_at q (all_visits ms)
more_visits q s ms = ap length (filter-append (λ v. same v.here q) (visits s) (all_visits ms)) ∙ length-append (filter (λ v. same v.here q) (visits s)) (filter (λ v. same v.here q) (all_visits ms))

seen : (q : Point) (s : Stroke) (ms : List Stroke) → In s ms → 1 ≤ times_at q (visits s) → 1 ≤ times_at q (all_visits ms)
seen q s [] m h = elim m [ ]
seen q s (t ∷ ms) (inl e) h = omega (arith, more_visits q t ms, subst (λ r. 1 ≤ times_at q (visits r)) e h)
seen q s (t ∷ ms) (inr m) h = omega (arith, more_visits q t ms, seen q s ms m h)

seen_twice : (q : Point) (before after : List Stroke) (s t : Stroke) → In t (before ++ after) → 1 ≤ times_at q (visits s) → 1 ≤ times_at q (visits t) → 2 ≤ times_at q (all_visits (before ++ (s ∷ after)))
seen_twice q [] after s t m h k = omega (arith, more_visits q s after, h, seen q t after m k)
seen_twice q (r ∷ before) after s t (inl e) h k =
    omega (arith, more_visits q r (before ++ (s ∷ after)), subst (λ x. 1 ≤ times_at q (visits x)) e k, seen q s (before ++ (s ∷ after)) (in_right s before (s ∷ after) (inl refl)) h)
seen_twice q (r ∷ before) after s t (inr m) h k = omega (arith, more_visits q r (before ++ (s ∷ after)), seen_twice q before after s t m h k)

-- ---- flags

-- the piece has a position that is no cut position and is visited once at most
pub record IsMarked (ls : List Stroke) (x : List Point) : Type 0 where
  pub q : Point
  pub has : In q x
  pub free : is_cut ls q ≡ false
  pub once : length (visits_at ls q) ≤ 1

-- there is a flag for each line, and the pieces of one whose flag is set have such a position
abbrev pub AreMarked : List Stroke → List Stroke → List Bool → Type 0
AreMarked ls [] [] = Unit {0}
AreMarked ls [] (b ∷ flags) = ⊥
AreMarked ls (s ∷ ms) [] = ⊥
AreMarked ls (s ∷ ms) (b ∷ flags) = (b ≡ true → (x : List Point) → In x (pieces_of ls s) → IsMarked ls x) × AreMarked ls ms flags

as_many_flags : (ls ms : List Stroke) (flags : List Bool) → AreMarked ls ms flags → length flags ≡ length ms
as_many_flags ls [] [] h = refl
as_many_flags ls [] (b ∷ flags) h = elim h [ ]
as_many_flags ls (s ∷ ms) [] h = elim h [ ]
as_many_flags ls (s ∷ ms) (b ∷ flags) h = ap suc (as_many_flags ls ms flags h.1)

-- one line more
flag_more : (ls ms : List Stroke) (flags : List Bool) (s : Stroke) (b : Bool) → AreMarked ls ms flags → (b ≡ true → (x : List Point) → In x (pieces_of ls s) → IsMarked ls x) → AreMarked ls (ms ++ (s ∷ [])) (flags ++ (b ∷ []))
flag_more ls [] [] s b h k = (k, tt)
flag_more ls [] (c ∷ flags) s b h k = elim h [ ]
flag_more ls (t ∷ ms) [] s b h k = elim h [ ]
flag_more ls (t ∷ ms) (c ∷ flags) s b h k = (h.0, flag_more ls ms flags s b h.1 k)

pub flag_next : (ls : List Stroke) (i : ℕ) (flags : List Bool) (s : Stroke) (b : Bool) → i < length ls → s ≡ get_or ls i s → AreMarked ls (take i ls) flags → (b ≡ true → (x : List Point) → In x (pieces_of ls s) → IsMarked ls x) →
    AreMarked ls (take (i + 1) ls) (flags ++ (b ∷ []))
flag_next ls i flags s b h e so k = subst (λ l. AreMarked ls l (flags ++ (b ∷ []))) (sym (take_more ls i s h ∙ ap (λ z. take i ls ++ (z ∷ [])) (sym e))) (flag_more ls (take i ls) flags s b so k)

-- the lines before and after the one at a place
record IsBetween (f : Stroke → SplitLine) (ls : List Stroke) (before after : List SplitLine) (s : SplitLine) : Type 0 where
  first : List Stroke
  here : Stroke
  rest : List Stroke
  whole : ls ≡ first ++ (here ∷ rest)
  before_is : before ≡ map f first
  here_is : s ≡ f here
  after_is : after ≡ map f rest

between : (f : Stroke → SplitLine) (ls : List Stroke) (before after : List SplitLine) (s : SplitLine) → map f ls ≡ before ++ (s ∷ after) → IsBetween f ls before after s
between f [] [] after s e = cc
between f [] (b ∷ before) after s e = cc
between f (l ∷ ls) [] after s e = record { first = []; here = l; rest = ls; whole = refl; before_is = refl; here_is = cc; after_is = cc }
between f (l ∷ ls) (b ∷ before) after s e =
    let head : b ≡ f l = cc in
    let tails : map f ls ≡ before ++ (s ∷ after) = cc in
    behind (between f ls before after s tails) head
  where
    behind : IsBetween f ls before after s → b ≡ f l → IsBetween f (l ∷ ls) (b ∷ before) after s
    behind r head = record {
      first = l ∷ r.first;
      here = r.here;
      rest = r.rest;
      whole = ap (λ z. l ∷ z) r.whole;
      before_is = ap (λ z. z ∷ before) head ∙ ap (λ z. f l ∷ z) r.before_is;
      here_is = r.here_is;
      after_is = r.after_is;
    }

flag_here : (ls : List Stroke) (first rest : List Stroke) (s : Stroke) (flags : List Bool) → AreMarked ls (first ++ (s ∷ rest)) flags → slice_get flags (length first) ≡ Some true → (x : List Point) → In x (pieces_of ls s) → IsMarked ls x
flag_here ls [] rest s [] h e = elim h [ ]
flag_here ls [] rest s (b ∷ flags) h e = h.0 cc
flag_here ls (t ∷ first) rest s [] h e = elim h [ ]
flag_here ls (t ∷ first) rest s (b ∷ flags) h e = flag_here ls first rest s flags h.1 e

in_reverse : (z : Point) (y : List Point) → In z (reverse y) → In z y
in_reverse z y k = each_of (λ p. In p y) (reverse y) z (all_reverse (λ p. In p y) y (all_of (λ p. In p y) y (λ p m. m))) k

-- a line whose flag is set is alike no other: where it were, both lines would visit the position
marked_alone : (ls : List Stroke) (flags : List Bool) → AllClean ls → AreMarked ls ls flags → AreAlone flags (map (split_of ls) ls)
marked_alone ls flags clean marked before after s e f x m y k =
    let r = between (split_of ls) ls before after s e in
    let i : In x (pieces_of ls r.here) = subst (λ l. In x l.pieces) r.here_is m in
    let n : length before ≡ length r.first = ap length r.before_is ∙ length-map r.first (split_of ls) in
    let w = flag_here ls r.first r.rest r.here flags (subst (λ l. AreMarked ls l flags) r.whole marked) (ap (slice_get flags) (sym n) ∙ f) x i in
    let others : before ++ after ≡ map (split_of ls) (r.first ++ r.rest) = ap (λ l. l ++ after) r.before_is ∙ ap (λ l. map (split_of ls) r.first ++ l) r.after_is ∙ sym (map-append (split_of ls) r.first r.rest) in
    let u = from_flat (λ t. t.pieces) y (before ++ after) k in
    let t = from_map (split_of ls) u.0 (r.first ++ r.rest) (subst (λ l. In u.0 l) others u.1) in
    let j : In y (pieces_of ls t.0) = subst (λ l. In y l.pieces) t.2 u.2 in
    let here : In r.here ls = subst (In r.here) (sym r.whole) (in_right r.here r.first (r.here ∷ r.rest) (inl refl)) in
    let there : In t.0 ls = subst (In t.0) (sym r.whole) (elim (in_append t.0 r.first r.rest t.1) [ inl z ↦ in_left t.0 r.first (r.here ∷ r.rest) z | inr z ↦ in_right t.0 r.first (r.here ∷ r.rest) (inr z) ]) in
    let no : In w.q y → ⊥ = λ z.
    absurd (omega (
      arith,
      w.once,
      subst (λ l. 2 ≤ times_at w.q (all_visits l)) (sym r.whole)
          (seen_twice w.q r.first r.rest r.here t.0 t.1 (has_visit ls clean w.q w.free r.here x here i w.has) (has_visit ls clean w.q w.free t.0 y there j z)),
    )) in
    (λ same. no (subst (In w.q) same w.has), λ back. no (in_reverse w.q y (subst (In w.q) back w.has)))

-- all flags are there
pub flags_alone : (ls ss : List Stroke) (i : ℕ) (flags : List Bool) → length ls ≤ i → AllClean ls → Replaced (started (is_cut ls)) ls i ss → AreMarked ls (take i ls) flags →
    (length flags ≡ length ss) × AreAlone flags (map (split_of ls) ls)
flags_alone ls ss i flags h clean so marked =
    let all : AreMarked ls ls flags = subst (λ l. AreMarked ls l flags) (take_all i ls h) marked in
    (as_many_flags ls ls flags all ∙ sym (ap length (ends (started (is_cut ls)) ls i ss h so) ∙ length-map ls (started (is_cut ls))), marked_alone ls flags clean all)

-- ---- what vertices know of the pieces of a line

-- of a list that is cut at its ends alone the second position is no cut position
second_free : (cut : Point → Bool) (p q r : Point) (ps : List Point) → cut p ≡ true → cut (last r ps) ≡ true → length (indexes cut 0 (p ∷ (q ∷ (r ∷ ps)))) ≡ 2 → cut q ≡ false
second_free cut p q r ps h k n = on (cut q) (indexes cut 2 (r ∷ ps)) refl (some_place cut 2 r ps k) (sym (ap (λ b. length (cond b (0 ∷ indexes cut 1 (q ∷ (r ∷ ps))) (indexes cut 1 (q ∷ (r ∷ ps))))) h) ∙ n)
  where
    on : (b : Bool) (is : List ℕ) → cut q ≡ b → is ≢ [] → suc (length (cond b (1 ∷ is) is)) ≡ 2 → cut q ≡ false
    on false is e m n = e
    on true [] e m n = absurd (m refl)
    on true (i ∷ is) e m n = absurd (omega (arith, n))

-- a line that is cut at its ends alone and goes once through its second position has one piece, in which that stands
pub second_marks : (ls : List Stroke) (v : Answers) → AnswersFor ls v → AllClean ls → (s t : Stroke) → In s ls → t ≡ started (is_member v.cuts) s → length (indexes (is_member v.cuts) 0 t.positions) ≡ 2 → GoesOnceThroughSecond v.once t.positions →
    (x : List Point) → In x (pieces_of ls s) → IsMarked ls x
second_marks ls v known clean s t m st n goes x i =
    let cut = is_member v.cuts in
    let is = indexes cut 0 t.positions in
    let by = split_known ls v known s m in
    let pass = (ready ls v known s m clean).ends in
    let made : slices t.positions is ≡ pieces_of ls s = ap (λ z. z.pieces) (split_view cut s t is st refl pass ∙ by) in
    let from : t.positions ≡ from_start (is_cut ls) s = ap (λ z. z.positions) st ∙ ap (λ z. z.stroke.positions) by in
    let joins = ap stitched made ∙ (line_or_ring_split ls s m (clean_in s ls clean m)).joins ∙ sym from in
    let whole : pieces_of ls s ≡ t.positions ∷ [] = sym made ∙ whole_slice t.positions is joins n in
    let is_all : x ≡ t.positions = elim (subst (In x) whole i) [ inl e ↦ e | inr j ↦ elim j [ ] ] in
    subst (IsMarked ls) (sym is_all)
    (on t.positions n goes (subst (EndsPass cut) (sym (ap (λ z. z.positions) st)) pass)
    (λ q j. cuts_known ls v known s m q (in_start (is_cut ls) s.closed s.positions q (subst (In q) from j))))
  where
    on : (ps : List Point) → length (indexes (is_member v.cuts) 0 ps) ≡ 2 → GoesOnceThroughSecond v.once ps → EndsPass (is_member v.cuts) ps → ((q : Point) → In q ps → is_member v.cuts q ≡ is_cut ls q) → IsMarked ls ps
    on [] n g h same = elim g [ ]
    on (p ∷ []) n g h same = elim g [ ]
    on (p ∷ (q ∷ [])) n g h same = elim g [ ]
    on (p ∷ (q ∷ (r ∷ ps))) n g h same = record {
      q = q;
      has = inr (inl refl);
      free = sym (same q (inr (inl refl))) ∙ second_free (is_member v.cuts) p q r ps h.0 h.1 n;
      once = known.once q g;
    }

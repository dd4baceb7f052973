-- A heap of entries.
use Rattle.std.proofs.Common.{◌≡◌, ℕ, ◌+◌, ◌*◌, ◌<◌, Bool, not, List, arith, length, get_or, sym, subst, ◌∙◌}
use mir.Val.{bool_byte}
use Rattle.std.specs.BinaryHeap.{IsHeap, lt_by_cmp}
use Rattle.std.specs.BinaryHeap.Sift.{ComparesAt, IsGreaterChild, RestoresHeap, SiftsDown}
use Rattle.std.specs.Ordering.{is_lt}
use Rattle.std.specs.Slice.Heapsort.{IsHeapWithin}
use Rattle.std.proofs.HeapSift as sifts
use Rattle.std.proofs.lemmas.List.{get_or_default}
use Rattle.geometry.specs.Points.{Point}
use Rattle.elimination_meaning.specs.Elimination.{corner_cmp, is_before}
use Rattle.effective_area.specs.Links.{entry_corner, queue_cmp}
use Rattle.effective_area.specs.declared.entry.Entry.{Entry}
use Rattle.effective_area.proofs.Queues.{queue_total}

-- what a test of two places says
pub compares : (ps : List Point) (xs : List Entry) (a b : ℕ) (x y : Entry) (r : Bool) → a < length xs → b < length xs → x ≡ get_or xs a x → y ≡ get_or xs b y
    → r ≡ is_before (entry_corner ps x) (entry_corner ps y) → ComparesAt (queue_cmp ps) xs b a r
compares ps xs a b x y r ha hb ex ey er = unfold is_before in λ d.
    let fx : get_or xs a d ≡ x = sym (ex ∙ get_or_default xs a x d ha) in
    let fy : get_or xs b d ≡ y = sym (ey ∙ get_or_default xs b y d hb) in
    (λ i. is_lt (corner_cmp (entry_corner ps (fx i)) (entry_corner ps (fy i)))) ∙ sym er

-- of two below a place, the one that goes first
pub first_of_two : (ps : List Point) (xs : List Entry) (at : ℕ) (x y : Entry) (r : Bool) → 2 * at + 2 < length xs → x ≡ get_or xs (2 * at + 1) x → y ≡ get_or xs (2 * at + 1 + 1) y
    → r ≡ is_before (entry_corner ps x) (entry_corner ps y) → IsGreaterChild (queue_cmp ps) xs at (2 * at + 1 + bool_byte (not r)) (length xs)
first_of_two ps xs at x y r h ex ey er = (sifts.either_child (queue_cmp ps) (queue_total ps) xs at (2 * at + 1) (length xs) r (omega arith) (compares ps xs (2 * at + 1) (2 * at + 1 + 1) x y r (omega (arith, h)) (omega (arith, h)) ex ey er)).1

-- the top was moved down
pub restored : (ps : List Point) (xs ys : List Entry) → length ys ≡ length xs → SiftsDown (queue_cmp ps) xs 0 (length xs) ys → RestoresHeap (queue_cmp ps) xs 1 (length xs) ys
unfolding SiftsDown RestoresHeap IsHeap
restored ps xs ys e sinks = λ h. subst (IsHeapWithin (lt_by_cmp (queue_cmp ps)) ys 0) (sym e) (sinks.1 h)

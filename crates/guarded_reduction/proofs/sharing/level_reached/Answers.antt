use Rattle.std.proofs.Common.{◌≡◌, ℕ, ◌+◌, ◌-◌, ◌<◌, List, Bool, true, false, replicate, suc, ap, length, map, slice_set, sym, subst, ◌∙◌, arith}
use Rattle.elimination_meaning.specs.Elimination.{numbered}
use Rattle.geometry.specs.Lists.{joined}
use Rattle.guarded_meaning.specs.Elimination.{eliminate_arcs, remaining_arcs}
use Rattle.guarded_meaning.specs.Guards.{guarded_by}
use Rattle.guarded_reduction.specs.Keeping.{IsKeeping}
use Rattle.guarded_reduction.specs.Linking.{IsShowing, Linked}
use Rattle.guarded_reduction.specs.Numbers.{left_arcs}
use Rattle.guarded_reduction.specs.Sharing.{level_after, without_all}
use Rattle.guarded_reduction.proofs.Keeping.{IsGoing, first_keeping, fixed_still, going, owners_at, still_below}
use Rattle.guarded_reduction.proofs.Next.{none_at_all, one_gone, showing_next}
use Rattle.guarded_reduction.proofs.Shares.{level_ends, level_step, none_at_zero, over_step, stays_still, without_many}
use Rattle.guarded_reduction.proofs.Showing.{chained}
use Rattle.guarded_reduction.proofs.Starts.{all_left, begins, first_showing}
use Rattle.guarded_reduction.proofs.sharing.level_reached.Goals as goal

pub corners-init : goal.corners-init
corners-init c =
    let b = c.args.places.now.no_crossings in
    let arcs = c.args.arcs.now in
    let many : c.len-n.result ≡ length (joined arcs) = c.len-n.ensures ∙ ap (λ (s : Linked). length s.positions) c.requires.first in
    let left : c.args.places.now.left ≡ replicate (length (joined arcs)) true = ap (λ (s : Linked). s.left) c.requires.first in
    let stays : c.in_ok-stays.stays.items ≡ replicate (length (joined arcs)) true = c.in_ok-stays.ensures.items_if_clones_equal (λ y h. h) ∙ ap (λ n. replicate n true) many in
    let steps : c.args.most - 0 ≡ c.args.most = omega arith in
    record {
      queued = c.in_ok-begin_round.ensures.queued;
      round = c.next_threshold-round.ensures.within;
      showing = subst (IsShowing arcs) (sym c.requires.first) (first_showing b arcs);
      flag = ap (λ (s : Linked). s.no_crossings) c.requires.first;
      keeping = first_keeping b arcs c.args.rings.now c.args.places.now c.in_ok-kept.kept c.requires.first c.in_ok-kept.ensures.rings c.in_ok-kept.ensures.counted c.requires.meet;
      below = c.in_ok-begin_round.ensures.below;
      left = left ∙ sym stays ∙ sym (ap (λ zs. without_all zs c.in_ok-stays.stays.items) c.new-gone.ensures.items);
      area = ap (λ n. level_after (guarded_by b c.args.rings.now) n 0 (left_arcs arcs c.args.places.now.left)) steps
          ∙ ap (level_after (guarded_by b c.args.rings.now) c.args.most 0) (ap (left_arcs arcs) left ∙ all_left b arcs);
      stays = ap (left_arcs arcs) stays ∙ all_left b arcs ∙ none_at_zero (guarded_by b c.args.rings.now) arcs;
      rest = λ t l. begins (guarded_by b c.args.rings.now) t b arcs c.args.places.now c.len-n.result c.requires.first c.len-n.ensures;
    }

pub next_in_rounds-requires-clause-chained : goal.next_in_rounds-requires-clause-chained
next_in_rounds-requires-clause-chained c = chained c.args.arcs.now c.corners.places c.corners.invariant.showing

pub next_in_rounds-requires-clause-owners : goal.next_in_rounds-requires-clause-owners
next_in_rounds-requires-clause-owners c = owners_at c.args.arcs.now c.args.rings.now c.corners.places c.corners.kept c.corners.invariant.showing c.corners.invariant.keeping

pub take_out-requires-clause-chained : goal.take_out-requires-clause-chained
take_out-requires-clause-chained c = chained c.args.arcs.now c.next_in_rounds.new.places
    (fixed_still c.args.arcs.now c.args.rings.now c.corners.places c.corners.invariant.showing c.corners.kept c.corners.invariant.keeping c.next_in_rounds.new.places c.in_ok-next.ensures.fixing).showing

pub corners-preserved : goal.corners-preserved
corners-preserved c =
    let arcs = c.args.arcs.now in
    let rings = c.args.rings.now in
    let b = c.args.places.now.no_crossings in
    let guard = guarded_by b rings in
    let s = c.next_in_rounds.new.places in
    let e = c.in-Some.entry in
    let n = rw c.in-Some.is at c.in_ok-next.ensures.next in
    let f = fixed_still arcs rings c.corners.places c.corners.invariant.showing c.corners.kept c.corners.invariant.keeping s c.in_ok-next.ensures.fixing in
    let g : IsGoing arcs rings s c.corners.kept c.next_in_rounds.new.rings e.place = going arcs rings s f.showing c.corners.kept c.next_in_rounds.new.rings f.keeping c.law.ensures e.place n.due.corner
    (rw c.in-Some.is at c.in_ok-next.ensures.stay) (rw c.in-Some.is at c.in_ok-next.ensures.counted) in
    let flag = f.flag ∙ c.corners.invariant.flag in
    let below = still_below c.corners.places c.corners.kept s c.in_ok-next.ensures.fixing c.corners.invariant.below in
    let step : c.args.most - c.corners._step ≡ suc (c.args.most - (c.corners._step + 1)) = omega (arith, c.corners-test.true) in
    let steps : c.len-n.result - c.corners._step ≡ suc (c.len-n.result - (c.corners._step + 1)) = omega (arith, c.corners-test.true, c.requires.most, c.len-n.ensures) in
    let gone = one_gone b rings arcs s f.showing flag f.keeping.fixed below c.next_in_rounds.new.round c.next_in_rounds.new.queue c.next_in_rounds.new.waiting e c.law.ensures n g.stay in
    let taken : c.take_out.new.places.left ≡ slice_set s.left e.place false = ap (λ (x : Linked). x.left) c.in_ok-take_out.ensures.places in
    let rest : (t : ℕ) → c.corners.level.area < t → eliminate_arcs guard (c.len-n.result - c.corners._step) t (left_arcs arcs s.left) ≡ remaining_arcs guard t arcs =
    λ t l. ap (λ bs. eliminate_arcs guard (c.len-n.result - c.corners._step) t (left_arcs arcs bs)) f.left ∙ c.corners.invariant.rest t l in
    record {
      queued = c.in_ok-take_out.ensures.queued;
      round = c.in_ok-next.ensures.round;
      showing = subst (IsShowing arcs) (sym c.in_ok-take_out.ensures.places)
          (showing_next b rings arcs c.next_in_rounds.new.round s f.showing flag f.keeping.fixed c.next_in_rounds.new.queue c.next_in_rounds.new.waiting e n g.stay c.law.ensures);
      flag = ap (λ (x : Linked). x.no_crossings) c.in_ok-take_out.ensures.places ∙ flag;
      keeping = subst (λ (x : Linked). IsKeeping arcs rings x c.next_in_rounds.new.rings) (sym c.in_ok-take_out.ensures.places) g.keeping;
      below = c.in_ok-take_out.ensures.below below;
      left = taken ∙ ap (λ bs. slice_set bs e.place false) (f.left ∙ c.corners.invariant.left) ∙ sym c.in_ok-add.ensures.left;
      area = ap (λ bs. level_after guard (c.args.most - (c.corners._step + 1)) c.add.new.self.area (left_arcs arcs bs)) taken
          ∙ ap (λ a. level_after guard (c.args.most - (c.corners._step + 1)) a (left_arcs arcs (slice_set s.left e.place false))) c.in_ok-add.ensures.area
          ∙ level_step guard arcs s e gone (c.args.most - c.corners._step) (c.args.most - (c.corners._step + 1)) c.corners.level.area (level_after guard c.args.most 0 (map (numbered 0) arcs)) step
          (ap (λ bs. level_after guard (c.args.most - c.corners._step) c.corners.level.area (left_arcs arcs bs)) f.left ∙ c.corners.invariant.area);
      stays = stays_still guard arcs s e gone (c.len-n.result - c.corners._step) c.corners.level.area c.add.new.self.area c.corners.level.stays.items c.add.new.self.stays.items
          (without_all c.corners.level.gone.items c.corners.level.stays.items) (f.left ∙ c.corners.invariant.left) c.in_ok-add.ensures.area c.in_ok-add.ensures.same c.in_ok-add.ensures.risen rest c.corners.invariant.stays;
      rest = λ t l. ap (λ bs. eliminate_arcs guard (c.len-n.result - (c.corners._step + 1)) t (left_arcs arcs bs)) taken
          ∙ over_step guard arcs s e gone (c.len-n.result - c.corners._step) (c.len-n.result - (c.corners._step + 1)) t (remaining_arcs guard t arcs) steps (omega (arith, l, c.in_ok-add.ensures.area)) (rest t (omega (arith, l, c.in_ok-add.ensures.area)));
    }

pub returns-in_default-clause-many : goal.returns-in_default-clause-many
returns-in_default-clause-many c =
    let arcs = c.args.arcs.now in
    let f = fixed_still arcs c.args.rings.now c.corners.places c.corners.invariant.showing c.corners.kept c.corners.invariant.keeping c.next_in_rounds.new.places c.in_ok-next.ensures.fixing in
    sym (without_many c.corners.level.gone.items c.corners.level.stays.items) ∙ ap (λ (bs : List Bool). length bs) (sym (f.left ∙ c.corners.invariant.left)) ∙ c.law.ensures.left ∙ ap (λ (l : List _). length l) f.showing.positions

pub returns-in_default-clause-area : goal.returns-in_default-clause-area
returns-in_default-clause-area c =
    let arcs = c.args.arcs.now in
    let rings = c.args.rings.now in
    let b = c.args.places.now.no_crossings in
    let s = c.next_in_rounds.new.places in
    let n = rw c.in_default.is at c.in_ok-next.ensures.none in
    let f = fixed_still arcs rings c.corners.places c.corners.invariant.showing c.corners.kept c.corners.invariant.keeping s c.in_ok-next.ensures.fixing in
    let below = still_below c.corners.places c.corners.kept s c.in_ok-next.ensures.fixing c.corners.invariant.below in
    sym (level_ends (guarded_by b rings) (c.args.most - c.corners._step) c.corners.level.area (left_arcs arcs s.left) (none_at_all b rings arcs s f.showing (f.flag ∙ c.corners.invariant.flag) f.keeping.fixed below c.next_in_rounds.new.waiting n))
    ∙ ap (λ bs. level_after (guarded_by b rings) (c.args.most - c.corners._step) c.corners.level.area (left_arcs arcs bs)) f.left ∙ c.corners.invariant.area

pub returns-clause-many : goal.returns-clause-many
returns-clause-many c =
    sym (without_many c.corners.level.gone.items c.corners.level.stays.items) ∙ ap (λ (bs : List Bool). length bs) (sym c.corners.invariant.left) ∙ c.law-2.ensures.left ∙ ap (λ (l : List _). length l) c.corners.invariant.showing.positions

pub returns-clause-area : goal.returns-clause-area
returns-clause-area c =
    let done : 0 ≡ c.args.most - c.corners._step = omega (arith, c.corners-test.false) in
    ap (λ k. level_after (guarded_by c.args.places.now.no_crossings c.args.rings.now) k c.corners.level.area (left_arcs c.args.arcs.now c.corners.places.left)) done ∙ c.corners.invariant.area

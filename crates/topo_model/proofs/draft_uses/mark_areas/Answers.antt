use Rattle.std.proofs.Common.{◌≡◌, ℕ, ℤ, suc, ◌+◌, List, Bool, true, refl, ap, arith, ◌∙◌}
use Rattle.std.specs.List.{list_any}
use Rattle.geometry.specs.Lists.{map_some}
use Rattle.geometry.specs.Pruning.{area_by}
use Rattle.build_meaning.specs.OuterRings.{along, into_part, rings_marked}
use Rattle.build_meaning.specs.Protected.{sparing}
use Rattle.topo_model.specs.DraftUses.{refs_at_first, rings_name}
use Rattle.topo_model.specs.Marks.{also_set}
use Rattle.topo_model.proofs.DraftUses.{turns, ends}
use Rattle.topo_model.proofs.draft_uses.mark_areas.Goals as goal

pub areas-init : goal.areas-init
areas-init c = refl

pub areas-preserved : goal.areas-preserved
areas-preserved c =
    let way = map_some (λ w. w.now) c.args.way in
    let uses : List (Bool × List ℤ) → ℕ → Bool = λ rs n. rings_name (area_by (sparing (refs_at_first (map_some (λ r. r.now) c.args.first)) true) rs) n in
    let on : c.areas.i + 1 ≡ suc c.areas.i = omega arith in
    turns (λ (i : ℕ) (rs : List (List ℤ)). uses (rings_marked rs (into_part i way))) (λ i rs. suc i) (λ i rss n. list_any (λ rs. uses rs n) (along rings_marked i rss way)) (λ i n. refl) (λ i rs rss n. refl)
    c.areas.i (c.areas.i + 1) c.areas.used c.mark_rings.new.used _ c.args.areas.now c.areas.i c.index-areas-i.result c.areas-test.true c.index-areas-i.is c.areas.invariant
    (c.mark_rings.ensures ∙ ap (λ rs. also_set (uses (rings_marked rs (map_some (λ w. w.now) c.into_part.result))) 0 c.areas.used) c.as_slice.ensures
    ∙ ap (λ w. also_set (uses (rings_marked c.index-areas-i.result w)) 0 c.areas.used) c.into_part.ensures) on

pub returns : goal.returns
returns c =
    let way = map_some (λ w. w.now) c.args.way in
    let uses : List (Bool × List ℤ) → ℕ → Bool = λ rs n. rings_name (area_by (sparing (refs_at_first (map_some (λ r. r.now) c.args.first)) true) rs) n in
    ends (λ (i : ℕ) (rs : List (List ℤ)). uses (rings_marked rs (into_part i way))) (λ i rs. suc i) (λ i rss n. list_any (λ rs. uses rs n) (along rings_marked i rss way)) (λ i n. refl) (λ i rs rss n. refl)
    c.areas.i c.areas.used _ c.args.areas.now c.areas.i c.areas-test.false c.areas.invariant

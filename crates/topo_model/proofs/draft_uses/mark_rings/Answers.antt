use Rattle.std.proofs.Common.{◌≡◌, ℕ, ℤ, Bool, ◌||◌, None, Some, List, true, if◌then◌else◌, sym, ap, ◌∙◌}
use Rattle.std.specs.List.{list_any}
use Rattle.geometry.specs.Lists.{map_some}
use Rattle.geometry.specs.Pruning.{area_by}
use Rattle.build_meaning.specs.OuterRings.{ends_here, rings_marked}
use Rattle.build_meaning.specs.Protected.{sparing}
use Rattle.topo_model.specs.DraftUses.{left_names, refs_at_first, rings_name}
use Rattle.topo_model.specs.Marks.{also_set, names_arc}
use Rattle.topo_model.proofs.DraftUses.{marks, marks_none, no_rings, with_outer, without_outer}
use Rattle.topo_model.proofs.Marked.{also_twice}
use Rattle.topo_model.proofs.draft_uses.mark_rings.Goals as goal

pub returns-in_default : goal.returns-in_default
returns-in_default c =
    let r = refs_at_first (map_some (λ r. r.now) c.args.first) in
    let way = map_some (λ w. w.now) c.args.way in
    marks_none (rings_name (area_by (sparing r true) (rings_marked c.args.rings.now way))) c.args.used.now (no_rings r way c.args.rings.now c.in_default.ensures.cases)

pub returns-then-outer_stays : goal.returns-then-outer_stays
returns-then-outer_stays c =
    let r = refs_at_first (map_some (λ r. r.now) c.args.first) in
    let way = map_some (λ w. w.now) c.args.way in
    let o = c.in-Some.outer.now in
    let holes : List (List ℤ) = c.in-Some.holes.now in
    let names : ℕ → Bool = λ n. list_any (λ l. left_names (r true l) n) holes in
    let stays : sparing r true (ends_here way, o) ≡ Some o = ap (λ l. sparing r true (ends_here way, l)) (sym c.as_slice-outer.ensures) ∙ c.outer_stays.ensures ∙ ap (λ b. if b then Some c.as_slice-outer.result.now else None) c.if-outer_stays.true ∙ ap (λ l. Some l) c.as_slice-outer.ensures in
    marks (λ n. names_arc o n || names n) (rings_name (area_by (sparing r true) (rings_marked c.args.rings.now way))) c.args.used.now c.mark_lines.new.used
    (λ n. ap (λ rs. rings_name (area_by (sparing r true) (rings_marked rs way)) n) c.in-Some.ensures.cases.0 ∙ with_outer r way o holes stays n)
    (c.mark_lines.ensures ∙ ap (also_set names 0) (c.mark_refs.ensures ∙ ap (λ l. also_set (names_arc l) 0 c.args.used.now) c.as_slice-outer.ensures) ∙ also_twice (names_arc o) names 0 c.args.used.now)

pub returns-else-outer_stays : goal.returns-else-outer_stays
returns-else-outer_stays c =
    let r = refs_at_first (map_some (λ r. r.now) c.args.first) in
    let way = map_some (λ w. w.now) c.args.way in
    let o = c.in-Some.outer.now in
    let goes : sparing r true (ends_here way, o) ≡ None = ap (λ l. sparing r true (ends_here way, l)) (sym c.as_slice-outer.ensures) ∙ c.outer_stays.ensures ∙ ap (λ b. if b then Some c.as_slice-outer.result.now else None) c.if-outer_stays.false in
    marks_none (rings_name (area_by (sparing r true) (rings_marked c.args.rings.now way))) c.args.used.now
    (λ n. ap (λ rs. rings_name (area_by (sparing r true) (rings_marked rs way)) n) c.in-Some.ensures.cases.0 ∙ without_outer r way o c.in-Some.holes.now goes n)

-- At a threshold of zero no corner goes, whatever the guard, so what is written is what is written without one.
use Rattle.std.proofs.Common.{◌≡◌, ◌∙◌, ℕ, Bool, true, false, List, map, refl, ap, sym}
use Rattle.std.specs.Prelude.{◌&&◌}
use Rattle.build_meaning.specs.ArcPositions.{arc_positions}
use Rattle.build_meaning.specs.Left.{guard_of, is_at_once, left_indexes, left_of, no_guards}
use Rattle.build_meaning.specs.LeftLaws.{UnprotectedIsSimplified}
use Rattle.build_meaning.specs.Protected.{protection, spared_by}
use Rattle.build_meaning.specs.Simplified.{retained_arcs, simplified_by}
use Rattle.build_meaning.specs.declared.guards.Guards.{Guards}
use Rattle.geometry.specs.Points.{Point}
use Rattle.guarded_meaning.specs.Elimination.{Guard, reduce_arcs}
use Rattle.guarded_meaning.specs.Laws.{KeptByWeight}
use Rattle.guarded_meaning.specs.Weights.{passing, weight}
use Rattle.guarded_meaning.proofs.Weights.{kept_at_zero}
use Rattle.elimination_meaning.specs.Elimination.{Vertex, numbered}
use Rattle.layer_topology.specs.GuardLaws.{GuardedAtZero, UnguardedIsWritten, WrittenLeftLaw}
use Rattle.layer_topology.specs.Written.{written}
use Rattle.layer_topology.proofs.Guarded.{at_once_is}
use Rattle.layer_topology.proofs.SparedAtZero.{nothing_goes, spared_alike}
use Rattle.topojson_types.specs.Topologies.{Contents}

same_at_zero : KeptByWeight → (guard other : Guard) (arcs : List (List Point)) → reduce_arcs guard 0 arcs ≡ reduce_arcs other 0 arcs
unfolding reduce_arcs
same_at_zero by_weight guard other arcs =
    ap (map (map (λ (v : Vertex). v.index)))
    (by_weight guard 0 arcs ∙ (λ i. passing (λ x. (kept_at_zero (weight guard arcs x) ∙ sym (kept_at_zero (weight other arcs x))) i) 0 (map (numbered 0) arcs)) ∙ sym (by_weight other 0 arcs))

-- where all cells stay it doesn't matter whether rings are protected
plain_at : UnprotectedIsSimplified → (s : Bool) (kept : List (List ℕ)) (y : Contents) → retained_arcs kept y.arcs ≡ y.arcs → spared_by (protection s (arc_positions y)) kept 0 y ≡ simplified_by kept 0 y
plain_at plain true kept y whole = spared_alike kept y whole
plain_at plain false kept y whole = (plain kept 0 y).contents

pub left_at : KeptByWeight → UnprotectedIsSimplified → (guards : Guards) (y : Contents) → (left_of guards 0 0 y).contents ≡ (left_of no_guards 0 0 y).contents
unfolding left_of
left_at by_weight plain guards y =
    plain_at plain guards.keep_shapes (left_indexes guards 0 y) y (nothing_goes by_weight (guard_of guards y) y)
    ∙ ap (λ kept. simplified_by kept 0 y) (same_at_zero by_weight (guard_of guards y) (guard_of no_guards y) (arc_positions y))
    ∙ sym (plain_at plain false (left_indexes no_guards 0 y) y (nothing_goes by_weight (guard_of no_guards y) y))

-- nothing goes first
and_false : (b : Bool) → b && false ≡ false
and_false true = refl
and_false false = refl

pub guarded_at_zero : KeptByWeight → UnprotectedIsSimplified → WrittenLeftLaw → UnguardedIsWritten → GuardedAtZero
guarded_at_zero by_weight plain law unguarded guards count ls taken =
    let whole = written count 0 0 ls in
    sym (law guards count 0 0 ls taken).simplified ∙ at_once_is guards 0 0 whole (and_false (is_at_once guards)) ∙ left_at by_weight plain guards whole ∙ (law no_guards count 0 0 ls taken).simplified
    ∙ unguarded count 0 0 ls taken

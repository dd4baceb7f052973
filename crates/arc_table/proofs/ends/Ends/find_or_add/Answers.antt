use Rattle.std.proofs.Common.{◌≡◌, [], ◌∷◌, ◌++◌, false, position, get_or, ap, sym, ◌∙◌, subst, arith, Some}
use Rattle.std.proofs.lemmas.Option.{slice_get-get_or}
use Rattle.std.specs.Prelude.{length, slice_get}
use Rattle.arc_table.specs.Ends.{equal, same_way, is_turned, EndsAndWays, AreEnds}
use Rattle.arc_table.specs.Growth.{directed, grown}
use Rattle.junctions.specs.Numbering.{with_key}
use Rattle.arc_table.proofs.Numbers.{found_old, found_new}
use Rattle.arc_table.proofs.ends.Ends.find_or_add.Goals as goal

pub returns-then-number-known-clause-found : goal.returns-then-number-known-clause-found
returns-then-number-known-clause-found c = λ arcs known identifies.
    let i = c.in_ok-number.number in
    let s = c.lesser_end-end.result.0 in
    let ends : EndsAndWays = record { segments = c.self.inside.segments; turned = c.self.inside.turned.items } in
    let placed : position (equal s) (with_key equal ends.segments s) ≡ Some i = ap (position (equal s)) (sym c.in_ok-number.ensures.keys) ∙ c.in_ok-number.ensures.first in
    let b = get_or c.as_slice-known.result.now i false in
    let f = found_old arcs ends c.args.piece.now s i (subst (AreEnds arcs) (sym c.self.view_is) known) identifies c.lesser_end-end.ensures.end placed b
    (omega (arith, c.if-number-known.true, ap length c.as_slice-known.ensures.value))
    (ap (λ l. slice_get l i) (sym c.as_slice-known.ensures.value) ∙ slice_get-get_or c.as_slice-known.result.now i false c.if-number-known.true) in
    ap (λ z. Some z) (c.directed.ensures ∙ ap (λ w. directed w i) (c.is_same_way-forward.ensures ∙ ap (λ t. same_way t b) (sym c.lesser_end-end.ensures.turned))) ∙ f.0

pub returns-then-number-known-clause-known : goal.returns-then-number-known-clause-known
returns-then-number-known-clause-known c = λ arcs known identifies.
    let i = c.in_ok-number.number in
    let s = c.lesser_end-end.result.0 in
    let ends : EndsAndWays = record { segments = c.self.inside.segments; turned = c.self.inside.turned.items } in
    let placed : position (equal s) (with_key equal ends.segments s) ≡ Some i = ap (position (equal s)) (sym c.in_ok-number.ensures.keys) ∙ c.in_ok-number.ensures.first in
    let b = get_or c.as_slice-known.result.now i false in
    let f = found_old arcs ends c.args.piece.now s i (subst (AreEnds arcs) (sym c.self.view_is) known) identifies c.lesser_end-end.ensures.end placed b
    (omega (arith, c.if-number-known.true, ap length c.as_slice-known.ensures.value))
    (ap (λ l. slice_get l i) (sym c.as_slice-known.ensures.value) ∙ slice_get-get_or c.as_slice-known.result.now i false c.if-number-known.true) in
    subst (λ l. AreEnds (grown arcs c.args.piece.now) (record { segments = l; turned = c.self.inside.turned.items })) (sym c.in_ok-number.ensures.keys) f.1

pub returns-clause-found : goal.returns-clause-found
returns-clause-found c = λ arcs known identifies.
    let i = c.in_ok-number.number in
    let s = c.lesser_end-end.result.0 in
    let ends : EndsAndWays = record { segments = c.self.inside.segments; turned = c.self.inside.turned.items } in
    let placed : position (equal s) (with_key equal ends.segments s) ≡ Some i = ap (position (equal s)) (sym c.in_ok-number.ensures.keys) ∙ c.in_ok-number.ensures.first in
    (found_new arcs ends c.args.piece.now s i (subst (AreEnds arcs) (sym c.self.view_is) known) identifies c.lesser_end-end.ensures.end placed
    (omega (arith, c.if-number-known.false, ap length c.as_slice-known.ensures.value))).0

pub returns-clause-known : goal.returns-clause-known
returns-clause-known c = λ arcs known identifies.
    let i = c.in_ok-number.number in
    let s = c.lesser_end-end.result.0 in
    let ends : EndsAndWays = record { segments = c.self.inside.segments; turned = c.self.inside.turned.items } in
    let placed : position (equal s) (with_key equal ends.segments s) ≡ Some i = ap (position (equal s)) (sym c.in_ok-number.ensures.keys) ∙ c.in_ok-number.ensures.first in
    let f = found_new arcs ends c.args.piece.now s i (subst (AreEnds arcs) (sym c.self.view_is) known) identifies c.lesser_end-end.ensures.end placed
    (omega (arith, c.if-number-known.false, ap length c.as_slice-known.ensures.value)) in
    let pushed : c.push.new.self.items ≡ c.self.inside.turned.items ++ (is_turned c.args.piece.now ∷ []) =
    c.in_ok-push.ensures.items ∙ ap (λ t. c.self.inside.turned.items ++ (t ∷ [])) (sym c.lesser_end-end.ensures.turned) in
    subst (λ l. AreEnds (grown arcs c.args.piece.now) (record { segments = l; turned = c.push.new.self.items })) (sym c.in_ok-number.ensures.keys)
    (subst (λ l. AreEnds (grown arcs c.args.piece.now) (record { segments = with_key equal c.self.inside.segments s; turned = l })) (sym pushed) f.1)

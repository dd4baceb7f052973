use Rattle.std.proofs.Common.{Some, length, slice_get, refl, ap, sym, ◌∙◌}
use Rattle.junctions.proofs.Names.{slice_get_read, same_is}
use Rattle.junctions.proofs.Numbers.{seen_at}
use Rattle.junctions.proofs.visiting.number_from.Goals as goal

pub returns-then-is_same-clause-keys : goal.returns-then-is_same-clause-keys
returns-then-is_same-clause-keys c =
    let n = c.args.place in
    let ps = c.keys-positions.result.now in
    let q = c.index-positions-place.result in
    let read = ap (λ l. slice_get l n) (sym c.keys-positions.ensures)
    ∙ slice_get_read ps (length ps) n q refl c.if-place-positions.true c.index-positions-place.is ∙ ap Some (same_is q c.args.p (sym c.is_same.ensures ∙ c.if-is_same.true)) in
    sym (seen_at c.args.numbering.now c.args.p n read)

pub returns-then-is_same-clause-number : goal.returns-then-is_same-clause-number
returns-then-is_same-clause-number c =
    let n = c.args.place in
    let ps = c.keys-positions.result.now in
    let q = c.index-positions-place.result in
    ap (λ l. slice_get l n) (sym c.keys-positions.ensures)
    ∙ slice_get_read ps (length ps) n q refl c.if-place-positions.true c.index-positions-place.is ∙ ap Some (same_is q c.args.p (sym c.is_same.ensures ∙ c.if-is_same.true))

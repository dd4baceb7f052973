use Rattle.std.proofs.Common.{get_or, not, ap, ap₂, ◌∙◌, arith, Some}
use Rattle.std.proofs.lemmas.Grind.{get_or_default_zero}
use Rattle.geometry.specs.Joins.{number_of}
use Rattle.arc_table.specs.Growth.{directed}
use Rattle.arc_table.specs.Lookup.{listed}
use Rattle.arc_table.proofs.Listing.{listed_identify, old, new, translated_directed}
use Rattle.arc_table.proofs.lookup.Lookup.find_or_list.Goals as goal

pub index-number-requires : goal.index-number-requires
index-number-requires c =
    let arcs = c.args.arcs.now in
    let numbers = c.args.self.now.numbers.items in
    let x = c.args.piece.now in
    let found = c.in_ok-r.ensures.found (listed 0 numbers arcs) c.requires.known.1 (listed_identify numbers arcs x c.requires.identifies) in
    let o = old numbers arcs x c.requires.known.0 c.requires.apart c.in_ok-r.field-0 found c.in-Some.r c.in-Some.is in
    omega (arith, o.within, c.index.ensures)

pub directed-requires : goal.directed-requires
directed-requires c =
    let arcs = c.args.arcs.now in
    let numbers = c.args.self.now.numbers.items in
    let x = c.args.piece.now in
    let found = c.in_ok-r.ensures.found (listed 0 numbers arcs) c.requires.known.1 (listed_identify numbers arcs x c.requires.identifies) in
    let o = old numbers arcs x c.requires.known.0 c.requires.apart c.in_ok-r.field-0 found c.in-Some.r c.in-Some.is in
    let e = c.index-number.ensures ∙ ap (λ k. get_or numbers k c.index-number.result.now) c.index.ensures ∙ get_or_default_zero numbers (number_of c.in-Some.r) c.index-number.result.now o.within in
    omega (arith, e, o.number, c.requires.small)

pub returns-in-Some : goal.returns-in-Some
returns-in-Some c =
    let arcs = c.args.arcs.now in
    let numbers = c.args.self.now.numbers.items in
    let x = c.args.piece.now in
    let identifies = listed_identify numbers arcs x c.requires.identifies in
    let o = old numbers arcs x c.requires.known.0 c.requires.apart c.in_ok-r.field-0 (c.in_ok-r.ensures.found (listed 0 numbers arcs) c.requires.known.1 identifies) c.in-Some.r c.in-Some.is in
    let e = c.index-number.ensures ∙ ap (λ k. get_or numbers k c.index-number.result.now) c.index.ensures ∙ get_or_default_zero numbers (number_of c.in-Some.r) c.index-number.result.now o.within in
    record {
      found = ap (λ z. Some z) (c.directed.ensures ∙ ap₂ (λ b n. directed (not b) n) c.reversed.ensures e ∙ translated_directed numbers c.in-Some.r) ∙ o.index;
      known = o.known c.find_or_add.new.self (c.in_ok-r.ensures.known (listed 0 numbers arcs) c.requires.known.1 identifies);
      unlisted = o.others;
    }

pub returns : goal.returns
returns c =
    let arcs = c.args.arcs.now in
    let numbers = c.args.self.now.numbers.items in
    let x = c.args.piece.now in
    let identifies = listed_identify numbers arcs x c.requires.identifies in
    let n = new numbers arcs x c.requires.known.0 c.requires.apart c.in_ok-r.field-0 (c.in_ok-r.ensures.found (listed 0 numbers arcs) c.requires.known.1 identifies) c.push.new.self.items c.in_default.is c.in_ok-push.ensures.items in
    record { found = n.index; known = n.known c.find_or_add.new.self (c.in_ok-r.ensures.known (listed 0 numbers arcs) c.requires.known.1 identifies); unlisted = n.others }

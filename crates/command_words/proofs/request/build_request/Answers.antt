use Rattle.std.proofs.Common.{◌≡◌, ◌⊎◌, ◌∙◌, None, ap, codes, inl, inr, refl, rules, sym}
use Rattle.clap.specs.Matches.{found_of}
use Rattle.command_words.specs.Asked.{build_in, entries_of, layers_of}
use Rattle.command_words.specs.Faults.{IsBuildFault}
use Rattle.command_words.specs.declared.words_fault.WordsFault.TheVariants.{Memory}
use Rattle.command_words.proofs.Getters.{both_given, build_asked, build_unasked, layers_fault, no_build, read_all_or}
use Rattle.command_words.proofs.request.build_request.Goals as goal

pub returns-then-has_both-clause-asked : goal.returns-then-has_both-clause-asked
returns-then-has_both-clause-asked c = both_given (entries_of c.args.arguments.now) (sym c.has_both.ensures ∙ c.if-has_both.true)

pub returns-in_err-grid-clause-asked : goal.returns-in_err-grid-clause-asked
returns-in_err-grid-clause-asked c =
    let rows = entries_of c.args.arguments.now in
    let one = sym c.has_both.ensures ∙ c.if-has_both.false in
    let fact : (c.in_err-grid.field-0.0 ≡ Memory) ⊎ (build_in rows ≡ None) = elim c.in_err-grid.ensures.grid [
      | inl h ↦ inl h
      | inr h ↦ inr (no_build rows one h)
    ] in
    search (rules, fact)

pub returns-in_err-layers-clause-asked : goal.returns-in_err-layers-clause-asked
returns-in_err-layers-clause-asked c =
    let rows = entries_of c.args.arguments.now in
    let one = sym c.has_both.ensures ∙ c.if-has_both.false in
    let texts = read_all_or (found_of c.args.arguments.now) (codes "layers") c.get_strs.result c.unwrap_or-words.result _ c.get_strs.ensures c.unwrap_or-words.ensures refl in
    let fact : (c.in_err-layers.field-0.0 ≡ Memory) ⊎ (build_in rows ≡ None) = elim c.in_err-layers.ensures.layers [
      | inl h ↦ inl h
      | inr h ↦ inr (build_unasked rows c.in_ok-grid.grid one c.in_ok-grid.ensures.grid (ap layers_of (sym texts) ∙ h))
    ] in
    search (rules, fact)

pub returns-clause-asked : goal.returns-clause-asked
returns-clause-asked c =
    let rows = entries_of c.args.arguments.now in
    let one = sym c.has_both.ensures ∙ c.if-has_both.false in
    let texts = read_all_or (found_of c.args.arguments.now) (codes "layers") c.get_strs.result c.unwrap_or-words.result _ c.get_strs.ensures c.unwrap_or-words.ensures refl in
    build_asked rows c.in_ok-grid.grid _ c.is_set-exact.result _ _ _ c.is_set-no_crossings.result c.is_set-keep_shapes.result one c.in_ok-grid.ensures.grid (ap layers_of (sym texts) ∙ c.in_ok-layers.ensures.layers)
    c.is_set-exact.ensures c.text_or-area.ensures c.given-keep.ensures c.text_or-ring_area.ensures c.is_set-no_crossings.ensures c.is_set-keep_shapes.ensures

pub returns-in_err-layers-clause-fault : goal.returns-in_err-layers-clause-fault
returns-in_err-layers-clause-fault c =
    let rows = entries_of c.args.arguments.now in
    let one = sym c.has_both.ensures ∙ c.if-has_both.false in
    let texts = read_all_or (found_of c.args.arguments.now) (codes "layers") c.get_strs.result c.unwrap_or-words.result _ c.get_strs.ensures c.unwrap_or-words.ensures refl in
    let fact : IsBuildFault rows c.in_err-layers.field-0.0 = layers_fault rows c.in_ok-grid.grid _ c.in_err-layers.field-0.0 one c.in_ok-grid.ensures.grid texts (rw c.is_set.ensures at c.in_err-layers.ensures.fault) in
    search (rules, fact)

use Rattle.std.proofs.Common.{◌∙◌, ap, inr, option_map, sym}
use Rattle.command_words.proofs.LayerLemmas.{as_texts, first_without, more_cut, next_layer, no_layer}
use Rattle.command_words.proofs.layer_words.names_and_paths.Goals as goal

pub returns-in-None-clause-layers : goal.returns-in-None-clause-layers
returns-in-None-clause-layers c =
    inr (no_layer c.args.words.now c.words.layers.items c.words.layer _ c.words-test.true c.words.invariant.layers
    (sym c.name_and_path.ensures.layer ∙ ap (option_map as_texts) c.in-None.is))

pub returns-in-None-clause-fault : goal.returns-in-None-clause-fault
returns-in-None-clause-fault c = (
  first_without c.args.words.now c.words.layer _ c.words-test.true c.words.invariant.cut
      (sym c.name_and_path.ensures.layer ∙ ap (option_map as_texts) c.in-None.is),
  c.in_ok-advice-in-None.ensures,
)

pub words-preserved : goal.words-preserved
words-preserved c = record {
  layers = rw c.in_ok-push-in-Some.ensures.items (next_layer c.args.words.now c.words.layers.items c.words.layer _ c.in-Some.split c.words-test.true
      c.words.invariant.layers (sym c.name_and_path.ensures.layer ∙ ap (option_map as_texts) c.in-Some.is));
  cut = more_cut c.args.words.now c.words.layer _ (as_texts c.in-Some.split) c.words-test.true c.words.invariant.cut
      (sym c.name_and_path.ensures.layer ∙ ap (option_map as_texts) c.in-Some.is);
}

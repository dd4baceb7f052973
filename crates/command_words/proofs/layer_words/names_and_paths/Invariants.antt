use Rattle.std.proofs.Common.{◌≡◌, false, map, drop}
use Rattle.std.specs.List.{list_any}
use Rattle.std.specs.Prelude.{take}
use Rattle.command_words.specs.Asked.{layers_of}
use Rattle.command_words.proofs.LayerLemmas.{before, lacks}
use Rattle.command_words.proofs.layer_words.names_and_paths.Given as goal

abbrev pub invariant-words : goal.invariant-words
invariant-words l = record {
  layers : layers_of (map (λ w. w.now) l.words)
      ≡ before (map (λ layer. (layer.0.now, layer.1.now)) l.layers.items) (layers_of (drop l.layer (map (λ w. w.now) l.words)));
  cut : list_any lacks (take l.layer l.words) ≡ false;
}

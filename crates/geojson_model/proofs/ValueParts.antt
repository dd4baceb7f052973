-- A layer that is read through its value's text.
use Rattle.std.proofs.Common.{◌≡◌, ℕ, Bool, List, [], Some, sym, ap, ◌∙◌}
use Rattle.json_value.specs.declared.json.Json.{Json}
use Rattle.json_reading.proofs.Steps.{pair_is}
use Rattle.json_cursor.specs.Arrays.{prefix_value}
use Rattle.geojson_types.specs.Counting.{no_counts}
use Rattle.geojson_meaning.specs.Layers.{features, layer}

-- the text is read as the value, at the front of it
module _ (exact : Bool) (d : ℕ) (text : List ℕ) (v : Json) (is : prefix_value d text ≡ Some (v, [])) where
  same : (w : Json) (rest : List ℕ) → prefix_value d text ≡ Some (w, rest) → w ≡ v
  same w rest e = (pair_is w rest (v, []) (sym e ∙ is)).0

  pub layer_is : (w : Json) (rest : List ℕ) → prefix_value d text ≡ Some (w, rest) → layer exact v ≡ features exact w no_counts
  unfolding layer
  layer_is w rest e = ap (λ x. features exact x no_counts) (sym (same w rest e))

-- A value that is read through its text.
use Rattle.std.proofs.Common.{◌≡◌, ℕ, List, [], Some, Ok, Err, sym, subst, ◌∙◌}
use Rattle.json_value.specs.declared.json.Json.{Json}
use Rattle.json_reading.proofs.Steps.{pair_is}
use Rattle.json_cursor.specs.Answers.{Reads}
use Rattle.json_cursor.specs.Arrays.{prefix_value}
use Rattle.geojson_types.specs.declared.counts.Counts.{Counts}
use Rattle.geojson_types.specs.Counting.{no_counts}
use Rattle.topojson_types.specs.Topologies.{Contents}
use Rattle.topojson_meaning.specs.declared.fault.TopoFault.{TopoFault}
use Rattle.topojson_meaning.specs.Topologies.{topology, value_contents}
use Rattle.topojson_decoder.proofs.TextParts.{stands_for, stands_for_none}

-- the text is read as the value, at the front of it
module _ (d : ℕ) (text : List ℕ) (v : Json) (is : prefix_value d text ≡ Some (v, [])) where
  same : (w : Json) (rest : List ℕ) → prefix_value d text ≡ Some (w, rest) → w ≡ v
  same w rest e = (pair_is w rest (v, []) (sym e ∙ is)).0

  pub topology_read : (t : Contents) (c : Counts) (rest : List ℕ) → Reads value_contents (prefix_value d text) t rest no_counts c → topology v ≡ Ok (t, c)
  topology_read t c rest r = subst (λ w. topology w ≡ Ok (t, c)) (same r.value rest r.prefix_is) (stands_for r.value t c r.means)

  pub topology_fails : (e : TopoFault) → ((w : Json) (rest : List ℕ) → prefix_value d text ≡ Some (w, rest) → value_contents w no_counts ≡ Err e) → topology v ≡ Err e
  topology_fails e stops = stands_for_none v e (stops v [] is)

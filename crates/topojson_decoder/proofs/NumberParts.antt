-- Numbers by their texts.
use Rattle.std.proofs.Common.{◌≡◌, ℕ, ◌≤◌, Bool, List, Some, None, Ok, Err, refl, ap, ◌∙◌}
use Rattle.std.specs.Prelude.{ℤ}
use Rattle.std.specs.Str.{is_utf8}
use Rattle.decimal_text.specs.Scaling.{scaled_of}
use Rattle.json_value.specs.declared.json.Json.{Json}
use Rattle.json_value.specs.declared.json.Json.TheVariants as j
use Rattle.json_value.specs.declared.json.Json.TheOpen.{Json-F}
use Rattle.json_value.specs.declared.json.Json.TheViews.{out-Json}
use Rattle.json_value.specs.Kinds.{number_in, number_of}
use Rattle.json_value.proofs.KindsOf.{number_of-number}
use Rattle.geojson_types.specs.declared.counts.Counts.{Counts}
use Rattle.unit_scanning.specs.Numbers.{IsNumberAt}
use Rattle.topojson_decoder.proofs.Wider.{wider}
use Rattle.topojson_meaning.specs.declared.fault.TopoFault.TheVariants.{WrongKind}
use Rattle.topojson_meaning.specs.Arcs.{number_text}
use Rattle.json_cursor.specs.Answers.{Reads}
use Rattle.json_cursor.specs.Kinds.{kind_in, kind_of}
use Rattle.json_cursor.specs.declared.kinds.Kind.TheVariants.{Number}
use Rattle.json_cursor.specs.Arrays.{prefix_value}
use Rattle.topojson_decoder.specs.Numbers.{in_range, scaled_at}

-- a value of another kind is no number
other_in : (x : Json-F Json) → (kind_in x ≡ Number → ⊥) → number_in x ≡ None
other_in Json-F.Null h = refl
other_in (Json-F.Bool b) h = refl
other_in (Json-F.Number n) h = absurd (h refl)
other_in (Json-F.Text t) h = refl
other_in (Json-F.Array vs) h = refl
other_in (Json-F.Object ms) h = refl

pub other_kind : (v : Json) → (kind_of v ≡ Number → ⊥) → number_of v ≡ None
unfolding number_of
other_kind v h = other_in (out-Json v) h

module _ (places limit : ℕ) (v : Json) (c : Counts) where
  pub no_number : number_of v ≡ None → scaled_at places limit v c ≡ Err WrongKind
  unfolding number_text
  no_number h = rw h refl

  pub is_number : (t : List ℕ) → number_of v ≡ Some t → scaled_at places limit v c ≡ Ok (in_range (scaled_of places limit t), c)
  unfolding number_text
  is_number t h = rw h refl

-- a number that was read within a limit is within a wider one
pub number_reads : (places low limit d : ℕ) (bytes rest : List ℕ) (value : ℤ) (exact : Bool) (c : Counts) → low ≤ limit → IsNumberAt places low bytes value exact rest
    → Reads (scaled_at places limit) (prefix_value d bytes) (Some (record { value = value; exact = exact })) rest c c
number_reads places low limit d bytes rest value exact c le u = record {
  value = j.Number u.text;
  prefix_is = u.prefix is_utf8 d;
  means = is_number places limit (j.Number u.text) c u.text (number_of-number u.text) ∙ ap (λ r. Ok (in_range r, c)) (wider places low limit u.text (record { value = value; exact = exact }) le u.scaled);
}

-- What a value is, one equation a variant, and which value has which kind.
use Rattle.std.proofs.Common.{◌≡◌, ℕ, Bool, List, Some, None, sym, ap, ◌∙◌}
use Rattle.json_value.specs.declared.json.Json.{Json, roll-Json}
use Rattle.json_value.specs.declared.json.Json.TheViews.{out-Json, roll-out-Json}
use Rattle.json_value.specs.declared.json.Json.TheOpen.{Json-F}
use Rattle.json_value.specs.declared.json.Json.TheVariants as j
use Rattle.json_value.specs.Kinds.{array_of, array_in, object_of, object_in, text_of, text_in, number_of, number_in}

-- ---- an array

pub array_of-null : array_of j.Null ≡ None
array_of-null = unfold array_of in ap array_in j.outs-Null

pub array_of-bool : (b : Bool) → array_of (j.Bool b) ≡ None
array_of-bool b = unfold array_of in ap array_in (j.outs-Bool b)

pub array_of-number : (t : List ℕ) → array_of (j.Number t) ≡ None
array_of-number t = unfold array_of in ap array_in (j.outs-Number t)

pub array_of-text : (t : List ℕ) → array_of (j.Text t) ≡ None
array_of-text t = unfold array_of in ap array_in (j.outs-Text t)

pub array_of-array : (vs : List Json) → array_of (j.Array vs) ≡ Some vs
array_of-array vs = unfold array_of in ap array_in (j.outs-Array vs)

pub array_of-object : (ms : List (List ℕ × Json)) → array_of (j.Object ms) ≡ None
array_of-object ms = unfold array_of in ap array_in (j.outs-Object ms)

array_is : (x : Json-F Json) (vs : List Json) → array_in x ≡ Some vs → roll-Json x ≡ j.Array vs
array_is (Json-F.Array vs1) vs e = j.rolls-Array vs1 ∙ ap j.Array cc
array_is x vs e = cc

pub array_of_is : (v : Json) (vs : List Json) → array_of v ≡ Some vs → v ≡ j.Array vs
array_of_is v vs e = unfold array_of in sym (roll-out-Json v) ∙ array_is (out-Json v) vs e

pub ruleset array_kinds = (array_of-null, array_of-bool, array_of-number, array_of-text, array_of-array, array_of-object)

-- ---- an object

pub object_of-null : object_of j.Null ≡ None
object_of-null = unfold object_of in ap object_in j.outs-Null

pub object_of-bool : (b : Bool) → object_of (j.Bool b) ≡ None
object_of-bool b = unfold object_of in ap object_in (j.outs-Bool b)

pub object_of-number : (t : List ℕ) → object_of (j.Number t) ≡ None
object_of-number t = unfold object_of in ap object_in (j.outs-Number t)

pub object_of-text : (t : List ℕ) → object_of (j.Text t) ≡ None
object_of-text t = unfold object_of in ap object_in (j.outs-Text t)

pub object_of-array : (vs : List Json) → object_of (j.Array vs) ≡ None
object_of-array vs = unfold object_of in ap object_in (j.outs-Array vs)

pub object_of-object : (ms : List (List ℕ × Json)) → object_of (j.Object ms) ≡ Some ms
object_of-object ms = unfold object_of in ap object_in (j.outs-Object ms)

object_is : (x : Json-F Json) (ms : List (List ℕ × Json)) → object_in x ≡ Some ms → roll-Json x ≡ j.Object ms
object_is (Json-F.Object ms1) ms e = j.rolls-Object ms1 ∙ ap j.Object cc
object_is x ms e = cc

pub object_of_is : (v : Json) (ms : List (List ℕ × Json)) → object_of v ≡ Some ms → v ≡ j.Object ms
object_of_is v ms e = unfold object_of in sym (roll-out-Json v) ∙ object_is (out-Json v) ms e

pub ruleset object_kinds = (object_of-null, object_of-bool, object_of-number, object_of-text, object_of-array, object_of-object)

-- ---- a text

pub text_of-null : text_of j.Null ≡ None
text_of-null = unfold text_of in ap text_in j.outs-Null

pub text_of-bool : (b : Bool) → text_of (j.Bool b) ≡ None
text_of-bool b = unfold text_of in ap text_in (j.outs-Bool b)

pub text_of-number : (t : List ℕ) → text_of (j.Number t) ≡ None
text_of-number t = unfold text_of in ap text_in (j.outs-Number t)

pub text_of-text : (t : List ℕ) → text_of (j.Text t) ≡ Some t
text_of-text t = unfold text_of in ap text_in (j.outs-Text t)

pub text_of-array : (vs : List Json) → text_of (j.Array vs) ≡ None
text_of-array vs = unfold text_of in ap text_in (j.outs-Array vs)

pub text_of-object : (ms : List (List ℕ × Json)) → text_of (j.Object ms) ≡ None
text_of-object ms = unfold text_of in ap text_in (j.outs-Object ms)

pub ruleset text_kinds = (text_of-null, text_of-bool, text_of-number, text_of-text, text_of-array, text_of-object)

-- ---- a number

pub number_of-null : number_of j.Null ≡ None
number_of-null = unfold number_of in ap number_in j.outs-Null

pub number_of-bool : (b : Bool) → number_of (j.Bool b) ≡ None
number_of-bool b = unfold number_of in ap number_in (j.outs-Bool b)

pub number_of-number : (t : List ℕ) → number_of (j.Number t) ≡ Some t
number_of-number t = unfold number_of in ap number_in (j.outs-Number t)

pub number_of-text : (t : List ℕ) → number_of (j.Text t) ≡ None
number_of-text t = unfold number_of in ap number_in (j.outs-Text t)

pub number_of-array : (vs : List Json) → number_of (j.Array vs) ≡ None
number_of-array vs = unfold number_of in ap number_in (j.outs-Array vs)

pub number_of-object : (ms : List (List ℕ × Json)) → number_of (j.Object ms) ≡ None
number_of-object ms = unfold number_of in ap number_in (j.outs-Object ms)

pub ruleset number_kinds = (number_of-null, number_of-bool, number_of-number, number_of-text, number_of-array, number_of-object)

-- The texts and names of a value, one equation a variant.
use Rattle.std.proofs.Common.{◌≡◌, ℕ, Bool, List, [], ◌∷◌, refl, sym, ap, ◌∙◌}
use Rattle.std.specs.List.{flat_map}
use Rattle.json_value.specs.declared.json.Json.{Json, fold-Json, fold-roll-Json}
use Rattle.json_value.specs.declared.json.Json.TheOpen.{Json-F}
use Rattle.json_value.specs.declared.json.Json.TheVariants as j
use Rattle.json_value.specs.WellFormed.{texts_of, texts_step}
use Rattle.json_value.proofs.NumbersOf.{gathered}

pub texts-null : texts_of j.Null ≡ []
texts-null = unfold texts_of in ap (fold-Json _ texts_step) (sym j.rolls-Null) ∙ fold-roll-Json _ texts_step Json-F.Null

pub texts-bool : (b : Bool) → texts_of (j.Bool b) ≡ []
texts-bool b = unfold texts_of in ap (fold-Json _ texts_step) (sym (j.rolls-Bool b)) ∙ fold-roll-Json _ texts_step (Json-F.Bool b)

pub texts-number : (t : List ℕ) → texts_of (j.Number t) ≡ []
texts-number t = unfold texts_of in ap (fold-Json _ texts_step) (sym (j.rolls-Number t)) ∙ fold-roll-Json _ texts_step (Json-F.Number t)

pub texts-text : (t : List ℕ) → texts_of (j.Text t) ≡ t ∷ []
texts-text t = unfold texts_of in ap (fold-Json _ texts_step) (sym (j.rolls-Text t)) ∙ fold-roll-Json _ texts_step (Json-F.Text t)

pub texts-array : (vs : List Json) → texts_of (j.Array vs) ≡ flat_map texts_of vs
texts-array vs = unfold texts_of in ap (fold-Json _ texts_step) (sym (j.rolls-Array vs)) ∙ fold-roll-Json _ texts_step (Json-F.Array vs)
    ∙ gathered (λ ns. ns) _ texts_of (λ v. refl) vs

pub texts-object : (ms : List (List ℕ × Json)) → texts_of (j.Object ms) ≡ flat_map (λ m. m.0 ∷ texts_of m.1) ms
texts-object ms = unfold texts_of in ap (fold-Json _ texts_step) (sym (j.rolls-Object ms)) ∙ fold-roll-Json _ texts_step (Json-F.Object ms)
    ∙ gathered (λ m. m.0 ∷ m.1) _ (λ m. m.0 ∷ texts_of m.1) (λ m. refl) ms

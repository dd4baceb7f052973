-- The text of a value, one equation a variant.
use Rattle.std.proofs.Common.{◌≡◌, ℕ, Bool, List, [], ◌∷◌, ◌++◌, map, refl, sym, ap, ◌∙◌}
use Rattle.std.specs.Prelude.{codes}
use Rattle.owned_values.specs.Commas.{comma_separated}
use Rattle.json_value.specs.declared.json.Json.{Json, fold-Json, fold-roll-Json}
use Rattle.json_value.specs.declared.json.Json.TheOpen.{Json-F}
use Rattle.json_value.specs.declared.json.Json.TheVariants as j
use Rattle.json_value.specs.Text.{json_text, text_step, bool_text, quoted, member_text}

pub text-null : json_text j.Null ≡ codes "null"
text-null = unfold json_text in ap (fold-Json (List ℕ) text_step) (sym j.rolls-Null) ∙ fold-roll-Json (List ℕ) text_step Json-F.Null

pub text-bool : (b : Bool) → json_text (j.Bool b) ≡ bool_text b
text-bool b = unfold json_text in ap (fold-Json _ text_step) (sym (j.rolls-Bool b)) ∙ fold-roll-Json _ text_step (Json-F.Bool b)

pub text-number : (t : List ℕ) → json_text (j.Number t) ≡ t
text-number t = unfold json_text in ap (fold-Json _ text_step) (sym (j.rolls-Number t)) ∙ fold-roll-Json _ text_step (Json-F.Number t)

pub text-text : (t : List ℕ) → json_text (j.Text t) ≡ quoted t
text-text t = unfold json_text in ap (fold-Json _ text_step) (sym (j.rolls-Text t)) ∙ fold-roll-Json _ text_step (Json-F.Text t)

pub text-array : (vs : List Json) → json_text (j.Array vs) ≡ codes "[" ++ comma_separated (map json_text vs) ++ codes "]"
text-array vs = unfold json_text in ap (fold-Json _ text_step) (sym (j.rolls-Array vs)) ∙ fold-roll-Json _ text_step (Json-F.Array vs)

-- two steps through a list are one
pub fused : {A B C : Type 0} (h : B → C) (g : A → B) (k : A → C) → ((a : A) → h (g a) ≡ k a) → (xs : List A) → map h (map g xs) ≡ map k xs
fused h g k e [] = refl
fused h g k e (x ∷ xs) = rw (e x, fused h g k e xs) refl

-- the text of a member
abbrev pub one_member : List ℕ × Json → List ℕ
one_member m = member_text (m.0, json_text m.1)

pub text-object : (ms : List (List ℕ × Json)) → json_text (j.Object ms) ≡ codes "{" ++ comma_separated (map one_member ms) ++ codes "}"
text-object ms = unfold json_text in ap (fold-Json _ text_step) (sym (j.rolls-Object ms)) ∙ fold-roll-Json _ text_step (Json-F.Object ms)
    ∙ ap (λ ts. codes "{" ++ comma_separated ts ++ codes "}") (fused member_text _ one_member (λ m. refl) ms)

pub ruleset texts = (text-null, text-bool, text-number, text-text, text-array, text-object)

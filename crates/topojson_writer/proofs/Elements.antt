-- The texts of arrays of what elements are decoded to.
use Rattle.std.proofs.Common.{◌≡◌, List, ◌++◌, ◌∙◌, true, map, refl, ap}
use Rattle.std.specs.Prelude.{codes}
use Rattle.json_value.specs.declared.json.Json.{Json}
use Rattle.json_value.specs.declared.json.Json.TheVariants as j
use Rattle.json_value.specs.Text.{json_text}
use Rattle.json_value.proofs.Texts.{fused}
use Rattle.json_writer.proofs.Lists.{list_left, array-text, text_by}

pub decoded-text : {A B : Type 0} (value_of : B → Json) (decoded : A → B) (items : List A)
    → json_text (j.Array (map value_of (map decoded items))) ≡ codes "[" ++ list_left (text_by (λ a. value_of (decoded a))) (codes "]") true items
decoded-text value_of decoded items =
    ap (λ vs. json_text (j.Array vs)) (fused value_of decoded (λ a. value_of (decoded a)) (λ a. refl) items) ∙ array-text (λ a. value_of (decoded a)) items

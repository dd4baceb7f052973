-- The texts of paths that are written in parts.
use Rattle.std.proofs.Common.{◌≡◌, false, List, ℕ, [], ◌∷◌, ◌++◌, map, refl, ap, sym, ◌∙◌, append_assoc}
use Rattle.std.specs.Prelude.{codes, decimal}
use Rattle.owned_values.specs.Commas.{with_commas}
use Rattle.json_value.specs.declared.json.Json.TheVariants as j
use Rattle.json_value.specs.Text.{json_text}
use Rattle.json_value.proofs.Texts.{text-number}
use Rattle.json_writer.proofs.Lists.{array-text, text_by}
use Rattle.reports.specs.Reports.{path_text, path_rest}
use Rattle.reports.specs.Values.{number}

pub rest_of_both : (between : List ℕ) (ms ns : List ℕ) → path_rest between (ms ++ ns) ≡ path_rest between ms ++ path_rest between ns
rest_of_both between [] ns = refl
rest_of_both between (m ∷ ms) ns = ap (λ z. (between ++ decimal m) ++ z) (rest_of_both between ms ns) ∙ sym (append_assoc (between ++ decimal m) (path_rest between ms) (path_rest between ns))

after_commas : (ns : List ℕ) → with_commas false (map (text_by number) ns) ≡ path_rest (codes ",") ns
after_commas [] = refl
after_commas (n ∷ ns) = rw (text-number (decimal n), after_commas ns) refl

-- the array of the numbers is their path with commas, in brackets
pub array_of_path : (ns : List ℕ) → json_text (j.Array (map number ns)) ≡ (codes "[" ++ path_text (codes ",") [] ns) ++ codes "]"
array_of_path [] = array-text number []
array_of_path (n ∷ ns) = array-text number (n ∷ ns) ∙ rw (text-number (decimal n), after_commas ns) refl

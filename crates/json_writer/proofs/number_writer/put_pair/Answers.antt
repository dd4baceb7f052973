use Rattle.std.proofs.Common.{◌≡◌, ◌∙◌, ℕ, List, [], ◌∷◌, ◌++◌, ap, sym}
use Rattle.std.specs.Prelude.{codes}
use mir.Syntax.{w64}
use Rattle.std.proofs.lemmas.Int.{to_z-of_z}
use Rattle.json_value.specs.Text.{json_text}
use Rattle.json_value.specs.declared.json.Json.TheVariants as j
use Rattle.json_value.proofs.Texts.{text-number}
use Rattle.json_writer.proofs.Lists.{pair-text}
use Rattle.json_writer.proofs.number_writer.put_pair.Goals as goal

pair : (x y : List ℕ) → json_text (j.Array (j.Number x ∷ (j.Number y ∷ []))) ≡ codes "[" ++ (x ++ (codes "," ++ (y ++ codes "]")))
pair x y =
    pair-text x y
    ∙ ap (λ t. codes "[" ++ (t ++ (codes "," ++ (json_text (j.Number y) ++ codes "]")))) (text-number x)
    ∙ ap (λ t. codes "[" ++ (x ++ (codes "," ++ (t ++ codes "]")))) (text-number y)

pub returns-clause-text : goal.returns-clause-text
returns-clause-text g c =
    let written = rw (to_z-of_z w64 c.args.x c.ranges.x, to_z-of_z w64 c.args.y c.ranges.y) at c.put_units_pair.ensures.text in
    written ∙ ap (λ t. g.O.Out.text c.args.out.now ++ t) (sym (pair _ _))

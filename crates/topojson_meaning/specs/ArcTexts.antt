-- Texts that stand in an input and are what is written of an arc where there is no transform.
use Rattle.std.specs.Prelude.{◌≡◌, ℕ, List, [], ◌∷◌, Option, None, IfSome}
use Rattle.std.specs.Borrow.{Bor}
use Rattle.json_value.specs.Text.{json_text}
use Rattle.geometry.specs.Points.{Point}
use Rattle.topojson_types.specs.declared.transform.Transform.{Transform}
use Rattle.topojson_types.specs.Values.{arc_value}

-- if a text is known, there is no transform, and it is what is written of the arc
abbrev pub IsArcText : Option Transform → List Point → Option (Bor (List ℕ)) → Type 0
IsArcText transform arc text = IfSome text (λ t. (transform ≡ None) × (t.now ≡ json_text (arc_value None arc)))

-- so of each arc, as far as the texts go
abbrev pub AreArcTexts : Option Transform → List (List Point) → List (Option (Bor (List ℕ))) → Type 0
AreArcTexts transform arcs [] = Unit {0}
AreArcTexts transform [] (text ∷ texts) = ⊥
AreArcTexts transform (arc ∷ arcs) (text ∷ texts) = IsArcText transform arc text × AreArcTexts transform arcs texts

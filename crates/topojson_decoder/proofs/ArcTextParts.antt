-- The texts of arcs, where one more arc is read.
use Rattle.std.proofs.Common.{◌≡◌, ℕ, List, [], ◌∷◌, ◌++◌, length, Option, arith}
use Rattle.std.specs.Borrow.{Bor}
use Rattle.geometry.specs.Points.{Point}
use Rattle.topojson_types.specs.declared.transform.Transform.{Transform}
use Rattle.topojson_meaning.specs.ArcTexts.{AreArcTexts, IsArcText}

module _ (transform : Option Transform) (arc : List Point) where
  pub no_more : (arcs : List (List Point)) (texts : List (Option (Bor (List ℕ)))) → AreArcTexts transform arcs texts → AreArcTexts transform (arcs ++ arc ∷ []) texts
  no_more arcs [] h = tt
  no_more [] (t ∷ texts) h = absurd h
  no_more (a ∷ arcs) (t ∷ texts) h = (h.0, no_more arcs texts h.1)

  pub one_more : (arcs : List (List Point)) (texts : List (Option (Bor (List ℕ)))) (text : Option (Bor (List ℕ))) → length texts ≡ length arcs → IsArcText transform arc text → AreArcTexts transform arcs texts
      → AreArcTexts transform (arcs ++ arc ∷ []) (texts ++ text ∷ [])
  one_more [] [] text same is h = (is, tt)
  one_more [] (t ∷ texts) text same is h = absurd h
  one_more (a ∷ arcs) [] text same is h = absurd (omega arith)
  one_more (a ∷ arcs) (t ∷ texts) text same is h = (h.0, one_more arcs texts text (omega arith) is h.1)

-- Arcs whose texts are known, and what they add to a line or a ring.
use Rattle.std.proofs.Common.{◌≡◌, ℕ, zero, suc, ◌-◌, ◌<◌, ◌≤◌, ℤ, Bool, true, false, List, [], ◌∷◌, ◌++◌, length, get_or, Option, None, Some, refl, ap, sym, ◌∙◌, arith, append-nil}
use Rattle.std.proofs.lemmas.List.{get_or_default}
use Rattle.std.specs.Borrow.{Bor}
use Rattle.json_value.specs.Text.{json_text}
use Rattle.geometry.specs.Joins.{arc_at, is_reversed, number_of}
use Rattle.geometry.specs.Points.{Point}
use Rattle.topojson_meaning.specs.ArcTexts.{AreArcTexts}
use Rattle.topojson_types.specs.declared.transform.Transform.{Transform}
use Rattle.topojson_types.specs.Decoding.{completed, repeated}
use Rattle.topojson_types.specs.Topologies.{Contents}
use Rattle.topojson_types.proofs.Opening.{arc_is}
use Rattle.topojson_writer.specs.Decoded.{arc_in}
use Rattle.topojson_writer.specs.FeatureValues.{positions_value}

-- the text of the arc of this number, where there is no transform
pub record Spells (transform : Option Transform) (arcs : List (List Point)) (number : ℕ) (text : List ℕ) : Type 0 where
  pub within : number < length arcs
  pub plain : transform ≡ None
  pub is : text ≡ json_text (positions_value (get_or arcs number []))

pub spelled : (transform : Option Transform) (arcs : List (List Point)) (texts : List (Option (Bor (List ℕ)))) (number : ℕ) (text : Bor (List ℕ))
    → AreArcTexts transform arcs texts → number < length texts → get_or texts number (Some text) ≡ Some text → Spells transform arcs number text.now
spelled transform arcs [] number text h within found = absurd (omega arith)
spelled transform [] (t ∷ texts) number text h within found = absurd h
spelled transform (arc ∷ arcs) (None ∷ texts) zero text h within found = grind arith
spelled transform (arc ∷ arcs) (Some t ∷ texts) zero text h within found =
    let same : t ≡ text = grind arith in
    record { within = omega arith; plain = h.0.0; is = ap (λ b. b.now) (sym same) ∙ h.0.1 }
spelled transform (arc ∷ arcs) (t ∷ texts) (suc number) text h within found =
    let later = spelled transform arcs texts number text h.1 (omega arith) found in
    record { within = omega (arith, later.within); plain = later.plain; is = later.is }

-- a ring of four positions or more is not filled up
pub completed_long : (closed : Bool) (ps : List Point) → (closed ≡ true → 4 ≤ length ps) → completed closed ps ≡ ps
completed_long false ps long = refl
completed_long true [] long = refl
completed_long true (p ∷ ps) long =
    let none : 4 - length (p ∷ ps) ≡ 0 = omega (arith, long refl) in
    ap (λ n. (p ∷ ps) ++ repeated n p) none ∙ append-nil (p ∷ ps)

module _ (t : Contents) (r : ℤ) (number : ℕ) (text : List ℕ) (h : Spells t.transform t.arcs number text) where
  pub arc_spelled : number ≡ number_of r → false ≡ is_reversed r → text ≡ json_text (positions_value (arc_in t r))
  arc_spelled e forwards =
      let arc = get_or t.arcs number [] in
      let there : arc ≡ arc_at t.arcs r = arc_is t.arcs r number false arc (rw e at h.within) e forwards (get_or_default t.arcs number [] arc h.within) in
      rw (h.plain, ← there) h.is

-- What holds of each kind of value, where it holds of the elements and of the values of the members, holds of all.
use Rattle.std.proofs.Common.{◌≡◌, ℕ, Bool, List, [], ◌∷◌, map, sym, subst}
use Rattle.std.specs.List.{AllByRecursion}
use Rattle.json_value.specs.declared.json.Json.{Json, roll-Json, ind-Json, map-Json}
use Rattle.json_value.specs.declared.json.Json.TheOpen.{Json-F}
use Rattle.json_value.specs.declared.json.Json.TheVariants as j

pub record AtKinds (P : Json → Type 0) : Type 0 where
  pub null : P j.Null
  pub bool : (b : Bool) → P (j.Bool b)
  pub number : (t : List ℕ) → P (j.Number t)
  pub text : (t : List ℕ) → P (j.Text t)
  pub array : (vs : List Json) → AllByRecursion P vs → P (j.Array vs)
  pub object : (ms : List (List ℕ × Json)) → AllByRecursion (λ (m : List ℕ × Json). P m.1) ms → P (j.Object ms)

module _ (P : Json → Type 0) (at : AtKinds P) where
  abbrev Such : Type 0
  Such = (v : Json) × P v

  elements : (ys : List Such) → AllByRecursion P (map (λ y. y.0) ys)
  elements [] = tt
  elements (y ∷ ys) = (y.1, elements ys)

  members : (ys : List (List ℕ × Such)) → AllByRecursion (λ (m : List ℕ × Json). P m.1) (map (λ (m : List ℕ × Such). (m.0, m.1.0)) ys)
  members [] = tt
  members (y ∷ ys) = (y.1.1, members ys)

  step : (x : Json-F Json) (y : Json-F Such) → map-Json Such Json (λ e. e.0) y ≡ x → P (roll-Json x)
  step x Json-F.Null e = subst (λ z. P (roll-Json z)) e (subst P (sym j.rolls-Null) at.null)
  step x (Json-F.Bool b) e = subst (λ z. P (roll-Json z)) e (subst P (sym (j.rolls-Bool b)) (at.bool b))
  step x (Json-F.Number t) e = subst (λ z. P (roll-Json z)) e (subst P (sym (j.rolls-Number t)) (at.number t))
  step x (Json-F.Text t) e = subst (λ z. P (roll-Json z)) e (subst P (sym (j.rolls-Text t)) (at.text t))
  step x (Json-F.Array ys) e =
      let vs : List Json = map (λ y. y.0) ys in
      subst (λ z. P (roll-Json z)) e (subst P (sym (j.rolls-Array vs)) (at.array vs (elements ys)))
  step x (Json-F.Object ys) e =
      let ms : List (List ℕ × Json) = map (λ (m : List ℕ × Such). (m.0, m.1.0)) ys in
      subst (λ z. P (roll-Json z)) e (subst P (sym (j.rolls-Object ms)) (at.object ms (members ys)))

  pub by_kinds : (v : Json) → P v
  by_kinds = ind-Json P step

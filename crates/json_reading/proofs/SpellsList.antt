-- One thing or more, with commas between: elements and members alike.
use Rattle.std.proofs.Common.{◌≡◌, ℕ, List, [], ◌∷◌, ◌++◌, append_assoc, arith}
use Rattle.std.specs.List.{AllByRecursion}
use Rattle.json_value.specs.declared.json.Json.{Json}
use Rattle.json_value.specs.Grammar.{IsSpace, Spells, SpellsMember, SpellsElements, SpellsMembers, elements_last, elements_more, members_last, members_more}

pub data SpellsList {A : Type 0} (R : List ℕ → A → Type 0) : List ℕ → List A → Type 0 where
  list_last : (w t u : List ℕ) {x : A} → IsSpace w → R t x → IsSpace u → SpellsList R (w ++ t ++ u) (x ∷ [])
  list_more : (w t u ts : List ℕ) {x : A} {xs : List A} → IsSpace w → R t x → IsSpace u → SpellsList R ts xs → SpellsList R (w ++ t ++ u ++ 44 ∷ ts) (x ∷ xs)

pub to_elements : {d : ℕ} {t : List ℕ} {vs : List Json} → SpellsList (Spells d) t vs → SpellsElements d t vs
to_elements (list_last w t u hw s hu) = elements_last w t u hw s hu
to_elements (list_more w t u ts hw s hu more) = elements_more w t u ts hw s hu (to_elements more)

pub to_members : {d : ℕ} {t : List ℕ} {ms : List (List ℕ × Json)} → SpellsList (SpellsMember d) t ms → SpellsMembers d t ms
to_members (list_last w t u hw s hu) = members_last w t u hw s hu
to_members (list_more w t u ts hw s hu more) = members_more w t u ts hw s hu (to_members more)

-- what is spelled, and what holds of each thing
pub spelled_parts : {A : Type 0} (R : List ℕ → A → Type 0) (P : A → Type 0) {t : List ℕ} {xs : List A} → SpellsList (λ s x. R s x × P x) t xs → SpellsList R t xs × AllByRecursion P xs
spelled_parts R P (list_last w t u hw s hu) = (list_last w t u hw s.0 hu, (s.1, tt))
spelled_parts R P (list_more w t u ts hw s hu more) = let k = spelled_parts R P more in (list_more w t u ts hw s.0 hu k.0, (s.1, k.1))

-- a member's bytes, and what follows
pub regroup : (s w u t rest : List ℕ) → (34 ∷ s ++ 34 ∷ (w ++ 58 ∷ (u ++ t))) ++ rest ≡ 34 ∷ (s ++ (34 ∷ (w ++ (58 ∷ (u ++ (t ++ rest))))))
regroup s w u t rest = grind (arith, append_assoc s (34 ∷ (w ++ 58 ∷ (u ++ t))) rest, append_assoc w (58 ∷ (u ++ t)) rest, append_assoc u t rest)

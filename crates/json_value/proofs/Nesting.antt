-- The number in `Spells` bounds the depth of the value, and says no more.
use Rattle.std.proofs.Common.{◌≡◌, ℕ, zero, suc, ◌≤◌, List, [], ◌∷◌, ◌++◌, map, refl, sym, subst, inl, inr, arith}
use Rattle.json_value.specs.declared.json.Json.{Json}
use Rattle.json_value.specs.declared.json.Json.TheVariants as j
use Rattle.json_value.specs.Depth.{depth, greatest}
use Rattle.json_value.proofs.Depths.{depth-array, depth-object}
use Rattle.json_value.proofs.Inherits.{depth_inherits}
use Rattle.json_value.proofs.Spelled.{spelled_has}
use Rattle.json_value.specs.Grammar.{Spells, SpellsMember, SpellsElements, SpellsMembers, spells_null, spells_true, spells_false, spells_text, spells_number, spells_empty_array, spells_array, spells_empty_object, spells_object, spells_member, elements_last, elements_more, members_last, members_more, SpellsText, Reads}

-- a number above another has one before it
above : (d e : ℕ) → suc d ≤ e → (k : ℕ) × (e ≡ suc k) × (d ≤ k)
above d zero h = absurd (omega arith)
above d (suc e) h = (e, refl, omega arith)

-- the value nests no deeper than the number says
pub no_deeper : {d : ℕ} {t : List ℕ} {v : Json} → Spells d t v → depth v ≤ d
no_deeper s = spelled_has (λ t. Unit {0}) (λ p r x h f. (tt, tt)) depth_inherits (λ t n. tt) (λ s t h f. tt) s tt

-- each number that is no less than the depth of the value will do
mutual
  pub as_deep : {d : ℕ} {t : List ℕ} {v : Json} → Spells d t v → (e : ℕ) → depth v ≤ e → Spells e t v
  as_deep spells_null e h = spells_null
  as_deep spells_true e h = spells_true
  as_deep spells_false e h = spells_false
  as_deep (spells_text s k) e h = spells_text s k
  as_deep (spells_number n) e h = spells_number n
  as_deep (spells_empty_array w s) e h = let k = above 0 e (rw (depth-array []) at h) in subst (λ n. Spells n (91 ∷ w ++ 93 ∷ []) (j.Array [])) (sym k.1) (spells_empty_array w s)
  as_deep (spells_array t {vs} s) e h = let k = above _ e (rw (depth-array vs) at h) in subst (λ n. Spells n (91 ∷ t ++ 93 ∷ []) (j.Array vs)) (sym k.1) (spells_array t (elements_as_deep s k.0 k.2))
  as_deep (spells_empty_object w s) e h = let k = above 0 e (rw (depth-object []) at h) in subst (λ n. Spells n (123 ∷ w ++ 125 ∷ []) (j.Object [])) (sym k.1) (spells_empty_object w s)
  as_deep (spells_object t {ms} s) e h = let k = above _ e (rw (depth-object ms) at h) in subst (λ n. Spells n (123 ∷ t ++ 125 ∷ []) (j.Object ms)) (sym k.1) (spells_object t (members_as_deep s k.0 k.2))

  pub member_as_deep : {d : ℕ} {t : List ℕ} {m : List ℕ × Json} → SpellsMember d t m → (e : ℕ) → depth m.1 ≤ e → SpellsMember e t m
  member_as_deep (spells_member s w u t h hw hu v) e le = spells_member s w u t h hw hu (as_deep v e le)

  pub elements_as_deep : {d : ℕ} {t : List ℕ} {vs : List Json} → SpellsElements d t vs → (e : ℕ) → greatest (map depth vs) ≤ e → SpellsElements e t vs
  elements_as_deep (elements_last w t u hw s hu) e h = elements_last w t u hw (as_deep s e (omega arith)) hu
  elements_as_deep (elements_more w t u ts hw s hu more) e h = elements_more w t u ts hw (as_deep s e (omega arith)) hu (elements_as_deep more e (omega arith))

  pub members_as_deep : {d : ℕ} {t : List ℕ} {ms : List (List ℕ × Json)} → SpellsMembers d t ms → (e : ℕ) → greatest (map (λ m. depth m.1) ms) ≤ e → SpellsMembers e t ms
  members_as_deep (members_last w t u hw s hu) e h = members_last w t u hw (member_as_deep s e (omega arith)) hu
  members_as_deep (members_more w t u ts hw s hu more) e h = members_more w t u ts hw (member_as_deep s e (omega arith)) hu (members_as_deep more e (omega arith))

-- the number may be raised
pub deeper : {d : ℕ} {t : List ℕ} {v : Json} → Spells d t v → (e : ℕ) → d ≤ e → Spells e t v
deeper s e h = let le = no_deeper s in as_deep s e (omega arith)

-- the value of a whole text nests no deeper than the text may
text_no_deeper : {d : ℕ} {b : List ℕ} {v : Json} → SpellsText d b v → depth v ≤ d
text_no_deeper r = no_deeper r.4

text_deeper : {d : ℕ} {b : List ℕ} {v : Json} → SpellsText d b v → (e : ℕ) → depth v ≤ e → SpellsText e b v
text_deeper r e h = (r.0, r.1, r.2, r.3, as_deep r.4 e h, r.5, r.6)

pub reads_no_deeper : (d : ℕ) (b : List ℕ) (v : Json) → Reads d b v → depth v ≤ d
reads_no_deeper d b v (inl r) = text_no_deeper r
reads_no_deeper d b v (inr r) = text_no_deeper r.2

pub reads_deeper : (d : ℕ) (b : List ℕ) (v : Json) → Reads d b v → (e : ℕ) → depth v ≤ e → Reads e b v
reads_deeper d b v (inl r) e h = inl (text_deeper r e h)
reads_deeper d b v (inr r) e h = inr (r.0, r.1, text_deeper r.2 e h)

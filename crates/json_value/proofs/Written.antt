-- The text of a value spells it, at the depth of the value.
use Rattle.owned_values.proofs.Elements.{all_of}
use Rattle.std.proofs.Common.{◌≡◌, ℕ, suc, ◌≤◌, Bool, true, false, inl, List, [], ◌∷◌, ◌++◌, map, sym, ap, subst, ◌∙◌, append_assoc}
use Rattle.std.specs.List.{AllByRecursion}
use Rattle.std.proofs.lemmas.List.{append-nil}
use Rattle.decimal_text.specs.Grammar.{IsNumber}
use Rattle.owned_values.specs.Commas.{comma_separated}
use Rattle.json_value.specs.declared.json.Json.{Json}
use Rattle.json_value.specs.declared.json.Json.TheVariants as j
use Rattle.json_value.specs.Depth.{depth}
use Rattle.json_value.specs.Grammar.{Spells, SpellsMember, SpellsElements, SpellsMembers, spells_null, spells_true, spells_false, spells_text, spells_number, spells_empty_array, spells_array, spells_empty_object, spells_object, spells_member, elements_last, elements_more, members_last, members_more, Reads}
use Rattle.json_value.specs.Numbers.{HasNumbers}
use Rattle.json_value.specs.Text.{json_text, escaped}
use Rattle.json_value.specs.WellFormed.{texts_of}
use Rattle.json_value.proofs.Escapes.{escaped_spells}
use Rattle.json_value.proofs.Inherits.{Inherits, inherited}
use Rattle.json_value.proofs.Nesting.{deeper}
use Rattle.json_value.proofs.Texts.{text-null, text-bool, text-number, text-text, text-array, text-object, one_member}

-- ---- arrays

more_elements : (d : ℕ) (t ts : List ℕ) (v : Json) (vs : List Json) → Spells d t v → SpellsElements d ts vs → SpellsElements d (t ++ 44 ∷ ts) (v ∷ vs)
more_elements d t ts v vs s more = subst (λ z. SpellsElements d (z ++ 44 ∷ ts) (v ∷ vs)) (append-nil t) (elements_more [] t [] ts tt s tt more)

-- its text spells it, where arrays and objects nest so deep
abbrev Spelled : ℕ → Json → Type 0
Spelled d v = Spells d (json_text v) v

elements_spelled : (d : ℕ) (v : Json) (vs : List Json) → AllByRecursion (Spelled d) (v ∷ vs) → SpellsElements d (comma_separated (map json_text (v ∷ vs))) (v ∷ vs)
elements_spelled d v [] h = elements_last [] (json_text v) [] tt h.0 tt
elements_spelled d v (w ∷ vs) h = more_elements d (json_text v) _ v _ h.0 (elements_spelled d w vs h.1)

array_spelled : (d : ℕ) (vs : List Json) → AllByRecursion (Spelled d) vs → Spelled (suc d) (j.Array vs)
array_spelled d [] h = rw (text-array []) (spells_empty_array [] tt)
array_spelled d (v ∷ vs) h = rw (text-array (v ∷ vs)) (spells_array _ (elements_spelled d v vs h))

-- ---- objects

member_is : (s t : List ℕ) → (34 ∷ s ++ 34 ∷ []) ++ 58 ∷ [] ++ t ≡ 34 ∷ s ++ 34 ∷ ([] ++ 58 ∷ ([] ++ t))
member_is s t = ap (λ z. 34 ∷ z) (append_assoc (s ++ 34 ∷ []) (58 ∷ []) t ∙ append_assoc s (34 ∷ []) (58 ∷ t))

member_spelled : (d : ℕ) (m : List ℕ × Json) → Spelled d m.1 → SpellsMember d (one_member m) m
member_spelled d m h = rw (member_is (escaped m.0) (json_text m.1)) (spells_member (escaped m.0) [] [] (json_text m.1) (escaped_spells m.0) tt tt h)

more_members : (d : ℕ) (t ts : List ℕ) (m : List ℕ × Json) (ms : List (List ℕ × Json)) → SpellsMember d t m → SpellsMembers d ts ms → SpellsMembers d (t ++ 44 ∷ ts) (m ∷ ms)
more_members d t ts m ms s more = subst (λ z. SpellsMembers d (z ++ 44 ∷ ts) (m ∷ ms)) (append-nil t) (members_more [] t [] ts tt s tt more)

members_spelled : (d : ℕ) (m : List ℕ × Json) (ms : List (List ℕ × Json)) → AllByRecursion (λ n. Unit {0} × Spelled d n.1) (m ∷ ms) → SpellsMembers d (comma_separated (map one_member (m ∷ ms))) (m ∷ ms)
members_spelled d m [] h = members_last [] (one_member m) [] tt (member_spelled d m h.0.1) tt
members_spelled d m (n ∷ ms) h = more_members d (one_member m) _ m _ (member_spelled d m h.0.1) (members_spelled d n ms h.1)

object_spelled : (d : ℕ) (ms : List (List ℕ × Json)) → AllByRecursion (λ m. Unit {0} × Spelled d m.1) ms → Spelled (suc d) (j.Object ms)
object_spelled d [] h = rw (text-object []) (spells_empty_object [] tt)
object_spelled d (m ∷ ms) h = rw (text-object (m ∷ ms)) (spells_object _ (members_spelled d m ms h))

-- ---- each value

bool_spelled : (d : ℕ) (b : Bool) → Spelled d (j.Bool b)
bool_spelled d true = rw (text-bool true) spells_true
bool_spelled d false = rw (text-bool false) spells_false

spells_inherit : Inherits IsNumber (λ t. Unit {0}) Spelled
spells_inherit = record {
  word = λ t h. tt;
  null = λ d. rw text-null spells_null;
  bool = bool_spelled;
  number = λ d t h. rw (text-number t) (spells_number h);
  text = λ d t h. rw (text-text t) (spells_text (escaped t) (escaped_spells t));
  array = array_spelled;
  object = object_spelled;
  deeper = λ d e v le s. deeper s e le;
}

pub text_spells : (v : Json) → HasNumbers v → Spells (depth v) (json_text v) v
text_spells v h = inherited spells_inherit v h (all_of (λ t. Unit {0}) (texts_of v) (λ t k. tt))

pub text_reads : (v : Json) (d : ℕ) → HasNumbers v → depth v ≤ d → Reads d (json_text v) v
text_reads v d h le = inl ([], json_text v, [], tt, deeper (text_spells v h) d le, tt, sym (append-nil (json_text v)))

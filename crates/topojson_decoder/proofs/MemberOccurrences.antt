-- Members that are looked up, seen one after another.
use Rattle.std.proofs.Common.{◌≡◌, ℕ, Bool, true, false, List, [], ◌∷◌, ◌++◌, Option, Some, Ok, Err, refl, sym, subst, ◌∙◌}
use Rattle.std.specs.Prelude.{bytes_eq, Result}
use Rattle.std.proofs.lemmas.Slice.Eq.{bytes_eq-Decides}
use Rattle.std.specs.Borrow.{Bor}
use Rattle.json_value.specs.declared.json.Json.{Json}
use Rattle.json_value.specs.Reading.{◌>>=◌}
use Rattle.json_value.specs.Members.{Members, named}
use Rattle.json_reading.specs.declared.fault.Fault.{Fault}
use Rattle.json_reading.specs.declared.fault.Fault.TheVariants as text
use Rattle.json_cursor.proofs.Steps.{found_stops}
use Rattle.geojson_types.specs.declared.counts.Counts.{Counts}
use Rattle.topojson_meaning.specs.Reader.{Reader}
use Rattle.topojson_meaning.specs.declared.fault.TopoFault.{TopoFault}
use Rattle.json_cursor.specs.Answers.{Reads, Stops}
use Rattle.json_cursor.specs.declared.stop.Stop.{Stop}
use Rattle.json_cursor.specs.declared.stop.Stop.TheVariants as stop
use Rattle.json_cursor.specs.Arrays.{prefix_value}
use Rattle.json_cursor.specs.Members.{GoesOn, Made, prefix_member}
pub use Rattle.json_cursor.proofs.Occurrences.{judged, judged_read, not_other as no_other, passes, sees}
use Rattle.json_cursor.proofs.Occurrences.{member_found, no_more, one_more}
use Rattle.topojson_decoder.specs.Members.{GoesOnWith, IsOnly, Judges}

-- ---- values of which one alone counts

module _ (Is : Json → Type 0) where
  only_more : (vs : List Json) (v : Json) → IsOnly Is vs → IsOnly Is (vs ++ v ∷ [])
  only_more [] v h = absurd h
  only_more (x ∷ []) v h = tt
  only_more (x ∷ y ∷ us) v h = tt

  only_last : (vs : List Json) (v : Json) → Is v → IsOnly Is (vs ++ v ∷ [])
  only_last [] v is = is
  only_last (x ∷ []) v is = tt
  only_last (x ∷ y ∷ us) v is = tt

  module _ (word : List ℕ) (ms : Members) (name : List ℕ) (v : Json) where
    only_by : (same : Bool) → bytes_eq name word ≡ same → IsOnly Is (named word ms) → IsOnly Is (named word (ms ++ (name, v) ∷ []))
    only_by true e h = subst (IsOnly Is) (sym (one_more word ms v name e)) (only_more (named word ms) v h)
    only_by false e h = subst (IsOnly Is) (sym (no_more word ms v name e)) h

    -- one more member, whatever its name is
    pub only_stays : IsOnly Is (named word ms) → IsOnly Is (named word (ms ++ (name, v) ∷ []))
    only_stays h = only_by (bytes_eq name word) refl h

    -- a member of this name, whose value is so
    pub only_sees : bytes_eq name word ≡ true → Is v → IsOnly Is (named word (ms ++ (name, v) ∷ []))
    only_sees same is = subst (IsOnly Is) (sym (one_more word ms v name same)) (only_last (named word ms) v is)

-- ---- a member, as soon as its name was found

-- of a name that is this word
pub by_word : {S : Type 0} (Holds : Made S) (d : ℕ) (name word : List ℕ) → bytes_eq name word ≡ true → (before after : S) (bytes : List ℕ) (answer : Result (Bor (List ℕ)) Fault)
    → GoesOnWith Holds d word before after bytes answer → GoesOnWith Holds d name before after bytes answer
by_word Holds d name word same before after bytes answer h = let is : name ≡ word = (bytes_eq-Decides name word).0 same in subst (λ n. GoesOnWith Holds d n before after bytes answer) (sym is) h

pub member_goes_on : {S : Type 0} (Holds : Made S) (d : ℕ) (before after : S) (bytes name value : List ℕ) → prefix_member d bytes ≡ (prefix_value d value >>= λ x. Some ((name, x.0), x.1))
    → (answer : Result (Bor (List ℕ)) Fault) → GoesOnWith Holds d name before after value answer → GoesOn Holds d before after bytes answer
member_goes_on Holds d before after bytes name value named (Ok rest) h = record { member = (name, h.value); prefix = member_found d bytes name value rest.now h.value named h.prefix; holds = h.holds }
member_goes_on Holds d before after bytes name value named (Err (text.Malformed why left)) h = named ∙ rw h refl
member_goes_on Holds d before after bytes name value named (Err text.Memory) h = tt

-- readers that answer the same are judged by the same
pub judges_same : {B : Type 0} (r s : Reader B) (old new : Counts) → r old ≡ s old → (result : Result B (Stop TopoFault)) → Judges s old new result → Judges r old new result
judges_same r s old new e (Ok x) h = e ∙ h
judges_same r s old new e (Err (stop.Fault k)) h = e ∙ h
judges_same r s old new e (Err stop.NoValue) h = absurd h
judges_same r s old new e (Err stop.Memory) h = tt

-- ---- what is judged of the object that stands there is answered of it

module _ {B : Type 0} (read : Json → Reader B) (inner : Reader B) (prefix : Option (Json × List ℕ)) (v : Json) (rest : List ℕ) (old : Counts) (is : prefix ≡ Some (v, rest)) (law : read v old ≡ inner old) where
  pub object_stops : (new : Counts) (why : Stop TopoFault) → Judges inner old new (Err why) → Stops read prefix old why
  object_stops new (stop.Fault e) h = found_stops read prefix old v rest e is (law ∙ h)
  object_stops new stop.NoValue h = absurd h
  object_stops new stop.Memory h = tt

  pub object_reads : (x : B) (new : Counts) → inner old ≡ Ok (x, new) → Reads read prefix x rest old new
  object_reads x new h = record { value = v; prefix_is = is; means = law ∙ h }

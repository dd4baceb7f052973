-- The elements of an array that were read so far, without those of which nothing is left, where the first fault is held.
use Rattle.std.proofs.Common.{◌≡◌, ℕ, ◌+◌, ◌-◌, ◌<◌, ◌≤◌, List, [], ◌∷◌, ◌++◌, Option, Some, None, Ok, Err, refl, ap, ◌∙◌}
use Rattle.std.specs.Prelude.{option_to_list}
use Rattle.std.specs.Str.{is_utf8}
use Rattle.json_value.specs.declared.json.Json.{Json}
use Rattle.json_value.specs.Reading.{Parse, elements_at, list_after, skip, value_at}
use Rattle.json_value.specs.Readers.{Counting, kept}
use Rattle.json_reading.specs.declared.fault.Fault.{Fault}
use Rattle.json_reading.specs.declared.fault.Fault.TheVariants as fault
use Rattle.json_reading.specs.Gives.{Fails}
use Rattle.json_cursor.specs.Answers.{Reads, Stops}
use Rattle.json_cursor.specs.Arrays.{prefix_elements, prefix_value}
use Rattle.json_cursor.specs.Folds.{fold, some_one, with_read}
use Rattle.json_cursor.specs.declared.stop.Stop.{Stop}
use Rattle.json_cursor.specs.declared.stop.Stop.TheVariants as stop
use Rattle.json_cursor.proofs.ArrayParts.{as_list, same_reads, same_stops}
use Rattle.json_cursor.proofs.FoldedSoFar as so_far
use Rattle.json_cursor.proofs.Lists as list
use Rattle.json_cursor.proofs.Steps.{found_stops, made, made_found}

module _ {C E B : Type 0} (read : Json → Counting C E (Option B)) (d n : ℕ) (inside : List ℕ) (old : C) where
  abbrev whole : Option (List Json × List ℕ)
  whole = prefix_elements d n inside

  -- these were read so far, and those from here on make the whole
  abbrev pub ReadSoFar : ℕ → List ℕ → List B → C → Type 0
  ReadSoFar i rest now mid = so_far.FoldedSoFar (with_read (some_one read)) (value_at is_utf8 d) n whole [] old i rest now mid

  pub starts : ReadSoFar 0 inside [] old
  starts = so_far.starts (with_read (some_one read)) (value_at is_utf8 d) n whole [] old inside refl

  -- one more
  taken_stops : (now : List B) (prefix : Option (Json × List ℕ)) (mid : C) (why : Stop E) → Stops read prefix mid why → Stops (with_read (some_one read) now) prefix mid why
  taken_stops now prefix mid (stop.Fault e) h = λ v rest found. rw (h v rest found) refl
  taken_stops now prefix mid stop.NoValue h = h
  taken_stops now prefix mid stop.Memory h = tt

  taken_reads : (now : List B) (prefix : Option (Json × List ℕ)) (x : Option B) (rest : List ℕ) (mid new : C) → Reads read prefix x rest mid new → Reads (with_read (some_one read) now) prefix (now ++ option_to_list x) rest mid new
  taken_reads now prefix x rest mid new r = record { value = r.value; prefix_is = r.prefix_is; means = rw r.means refl }

  module _ (i : ℕ) (rest : List ℕ) (now : List B) (mid : C) (s : ReadSoFar i rest now mid) where
    pub turns_over : n ≤ i → whole ≡ None
    turns_over le = so_far.turns_over (with_read (some_one read)) (value_at is_utf8 d) n whole [] old i rest now mid s le

    module _ (lt : i < n) where
      pub no_element : (f : Fault) → Fails f (prefix_value d (skip rest)) → Fails f whole
      no_element f h = list.turn_fails (value_at is_utf8 d) n i rest s.values whole s.so_far lt f h

      rest_fails : (f : Fault) → Fails f (elements_at is_utf8 d (n - i) rest) → Fails f whole
      rest_fails (fault.Malformed why left) h = s.so_far ∙ ap (made (λ xs. s.values ++ xs)) h
      rest_fails fault.Memory h = tt

      module _ (v : Json) (after : List ℕ) (found : prefix_value d (skip rest) ≡ Some (v, after)) where
        -- a faulty one, after which the others are passed over
        pub others_fail : (f : Fault) → ((first : Json) (bytes : List ℕ) → value_at is_utf8 d (skip bytes) ≡ Some (first, after) → Fails f (elements_at is_utf8 d (n - i) bytes)) → Fails f whole
        others_fail f h = rest_fails f (h v rest found)

        pub faulty : (e : E) → read v mid ≡ Err e → (end : List ℕ)
            → ((first : Json) (bytes : List ℕ) → value_at is_utf8 d (skip bytes) ≡ Some (first, after) → (vs : List Json) × (elements_at is_utf8 d (n - i) bytes ≡ Some (vs, end)))
            → (vs : List Json) × (whole ≡ Some (vs, end)) × (kept read vs old ≡ Err e)
        faulty e means end passed =
            let p = passed v rest found in
            let all = made_found (λ xs. s.values ++ xs) whole (elements_at is_utf8 d (n - i) rest) s.so_far p.0 end p.1 in
            let stops = same_stops (fold (with_read (some_one read)) []) (kept read) whole old (λ vs. as_list (some_one read) vs old) (stop.Fault e)
            (so_far.stops (with_read (some_one read)) (value_at is_utf8 d) n whole [] old i rest now mid s lt (stop.Fault e)
            (taken_stops now (prefix_value d (skip rest)) mid (stop.Fault e) (found_stops read (prefix_value d (skip rest)) mid v after e found means))) in
            (s.values ++ p.0, all, stops (s.values ++ p.0) end all)

        module _ (x : Option B) (new : C) (means : read v mid ≡ Ok (x, new)) where
          one_read : Reads (with_read (some_one read) now) (prefix_value d (skip rest)) (now ++ option_to_list x) after mid new
          one_read = taken_reads now (prefix_value d (skip rest)) x after mid new (record { value = v; prefix_is = found; means = means })

          pub ends : (end : List ℕ) → skip after ≡ 93 ∷ end → (vs : List Json) × (whole ≡ Some (vs, end)) × (kept read vs old ≡ Ok (now ++ option_to_list x, new))
          ends end h =
              let r = same_reads (fold (with_read (some_one read)) []) (kept read) whole old (λ vs. as_list (some_one read) vs old) (now ++ option_to_list x) end new
              (so_far.ends (with_read (some_one read)) (value_at is_utf8 d) n whole [] old i rest now mid s lt (now ++ option_to_list x) after new one_read end h) in
              (r.value, r.prefix_is, r.means)

          pub goes_on : (following : List ℕ) → skip after ≡ 44 ∷ following → ReadSoFar (i + 1) following (now ++ option_to_list x) new
          goes_on following h = so_far.goes_on (with_read (some_one read)) (value_at is_utf8 d) n whole [] old i rest now mid s lt (now ++ option_to_list x) after new one_read following h

          pub breaks : ((others : Parse (List Json)) (w : Json) → list_after 93 others w (skip after) ≡ None) → whole ≡ None
          breaks h = so_far.breaks (with_read (some_one read)) (value_at is_utf8 d) n whole [] old i rest now mid s lt (now ++ option_to_list x) after new one_read h

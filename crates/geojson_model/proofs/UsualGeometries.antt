-- A geometry of coordinates as most programs write it.
use Rattle.std.proofs.Common.{◌≡◌, ◌≢◌, ℕ, suc, ◌-◌, ◌<◌, Bool, eqb, if◌then◌else◌, List, [], ◌∷◌, length, Option, Some, None, Result, Ok, Err, true, false, refl, sym, ap, subst, ◌∙◌, arith}
use Rattle.std.specs.Prelude.{codes, ◌||◌}
use Rattle.json_value.specs.declared.json.Json.{Json}
use Rattle.json_value.specs.declared.json.Json.TheVariants as j
use Rattle.json_value.specs.Reading.{Parse, ◌>>=◌, skip, after_word, list_after, list_at}
use Rattle.json_value.specs.Kinds.{object_of}
use Rattle.json_reading.specs.declared.fault.Fault.{Fault}
use Rattle.json_reading.specs.declared.fault.Fault.TheVariants as fault
use Rattle.json_reading.specs.Gives.{Fails}
use Rattle.json_reading.proofs.Passed.{first_fails}
use Rattle.json_reading.specs.declared.fault.Why.TheVariants as why
use Rattle.json_reading.proofs.Steps.{pair_is}
use Rattle.json_reading.proofs.ListLoop as turns
use Rattle.json_reading.proofs.StringLoop.{with_prefix}
use Rattle.json_value.proofs.KindsOf.{object_of-object, text_of-text}
use Rattle.geojson_types.specs.declared.counts.Counts.{Counts}
use Rattle.geojson_types.specs.Features.{Shape}
use Rattle.geojson_meaning.specs.declared.types.CoordinatesType.{CoordinatesType}
use Rattle.geojson_meaning.specs.declared.types.GeometryType.TheVariants.{Coordinates}
use Rattle.geojson_meaning.specs.Geometries.{coordinates_shape, geometry, shape, typed_geometry}
use Rattle.geojson_meaning.specs.Members.{named, need, type_name}
use Rattle.geojson_meaning.specs.Types.{geometry_type}
use Rattle.geojson_meaning.specs.declared.fault.GeoFaultKind.{GeoFaultKind}
use Rattle.geojson_meaning.specs.declared.fault.GeoFaultKind.TheVariants.{Duplicate}
use Rattle.json_cursor.specs.declared.stop.Stop.TheVariants as stop
use Rattle.json_cursor.specs.Answers.{Reads, Stops}
use Rattle.json_cursor.specs.Arrays.{prefix_value}
use Rattle.json_cursor.specs.Members.{Members, prefix_member}
use Rattle.json_cursor.proofs.Openings.{first_byte, members_fail, some_members}
use Rattle.json_cursor.proofs.Steps.{bound, made, unmade}
use Rattle.geojson_model.specs.declared.leading.Seen.{Seen}
use Rattle.json_cursor.specs.declared.occurrence.Occurrence.{Occurrence}
use Rattle.json_cursor.specs.declared.occurrence.Occurrence.TheVariants.{Never, Once, Again}
use Rattle.geojson_model.specs.Members.{IsLed, IsOccurrence, IsSeen, LeadsGeometry, RepeatsIn, first_fault, is_again, twice}
use Rattle.geojson_model.proofs.GeometryParts.{object_reads, object_stops}
use Rattle.geojson_model.proofs.MemberOccurrences.{judged_read}

nothing_before : (o : Option (Members × List ℕ)) → with_prefix [] o ≡ o
nothing_before None = refl
nothing_before (Some x) = refl

-- two members, one after the other
pub two_members : (d : ℕ) (inside : List ℕ) (m k : List ℕ × Json) (rest more after end : List ℕ)
    → prefix_member d (skip inside) ≡ Some (m, rest) → Some more ≡ after_word (44 ∷ []) (skip rest)
    → prefix_member d (skip more) ≡ Some (k, after) → skip after ≡ 125 ∷ end → 1 < length inside
    → list_at 125 (prefix_member d) (length inside) inside ≡ Some (m ∷ k ∷ [], end)
two_members d inside m k rest more after end first comma second close long =
    let n = length inside in
    let total = list_at 125 (prefix_member d) n inside in
    let all : n - 0 ≡ n = omega arith in
    let start : with_prefix [] (list_at 125 (prefix_member d) (n - 0) inside) ≡ total = nothing_before _ ∙ ap (λ i. list_at 125 (prefix_member d) i inside) all in
    let one = turns.at_comma _ 125 (prefix_member d) [] n 0 inside total start m rest (omega (arith, long)) first 44 more (first_byte 44 (skip rest) more comma) refl in
    turns.at_end _ 125 (prefix_member d) (m ∷ []) n 1 more total one k after (omega (arith, long)) second 125 end close (omega (arith)) refl

-- ---- what it is read as

module _ (exact : Bool) (v : Json) (name : List ℕ) (old : Counts) (kind : CoordinatesType) (typed : geometry_type name ≡ Some (Coordinates kind)) where
  abbrev members : Members
  members = (codes "type", j.Text name) ∷ (codes "coordinates", v) ∷ []

  means_alone : geometry exact members old ≡ coordinates_shape exact kind v old
  unfolding geometry type_name named typed_geometry need
  means_alone = rw (text_of-text name, typed) refl

  pub is_usual : (s : Option Shape) (new : Counts) → coordinates_shape exact kind v old ≡ Ok (s, new) → (prefix : Option (Json × List ℕ)) (end : List ℕ)
      → prefix ≡ Some (j.Object members, end) → Reads (shape exact) prefix s end old new
  is_usual s new h prefix end stands = object_reads exact prefix members end old stands s new (means_alone ∙ h)

-- ---- two members first, and whatever follows them

by_tests : (comma close : Bool) (more : Option (Members × List ℕ)) (x : List ℕ × Json) (bs : List ℕ) (xs : Members) (rest : List ℕ)
    → (if comma then made (λ ys. x ∷ ys) more else (if close then Some (x ∷ [], bs) else None)) ≡ Some (xs, rest) → (ys : Members) × (xs ≡ x ∷ ys)
by_tests true close more x bs xs rest h = let u = unmade (λ ys. x ∷ ys) more xs rest h in (u.0, u.1.1)
by_tests false true more x bs xs rest h = ([], sym (pair_is (x ∷ []) bs (xs, rest) h).0)
by_tests false false more x bs xs rest h = absurd cc

begins : (more : Parse Members) (x : List ℕ × Json) (bs : List ℕ) (xs : Members) (rest : List ℕ) → list_after 125 more x bs ≡ Some (xs, rest) → (ys : Members) × (xs ≡ x ∷ ys)
unfolding list_after
begins more x [] xs rest h = absurd cc
begins more x (b ∷ bs) xs rest h = by_tests (eqb b 44) (eqb b 125) (more bs) x bs xs rest h

module _ (item : Parse (List ℕ × Json)) (n : ℕ) (bs : List ℕ) (some : 0 < n) where
  one_turn : list_at 125 item n bs ≡ (item (skip bs) >>= λ x. list_after 125 (list_at 125 item (n - 1)) x.0 (skip x.1))
  one_turn = unfold list_at in
      let k : n ≡ suc (n - 1) = omega arith in
      let one : list_at 125 item n bs ≡ list_at 125 item (suc (n - 1)) bs = ap (λ m. list_at 125 item m bs) k in
      one

  goes_on : (m : List ℕ × Json) (rest more : List ℕ) → item (skip bs) ≡ Some (m, rest) → skip rest ≡ 44 ∷ more → list_at 125 item n bs ≡ made (λ ys. m ∷ ys) (list_at 125 item (n - 1) more)
  unfolding list_after
  goes_on m rest more found comma = one_turn ∙ rw (found, comma) refl

module _ (d : ℕ) (inside : List ℕ) (m : List ℕ × Json) (rest more name prefix : List ℕ) (first : prefix_member d (skip inside) ≡ Some (m, rest)) (comma : Some more ≡ after_word (44 ∷ []) (skip rest))
    (second : prefix_member d (skip more) ≡ (prefix_value d prefix >>= λ v. Some ((name, v.0), v.1))) (long : 1 < length inside) where
  pub begin_so : (ms : Members) (end : List ℕ) → list_at 125 (prefix_member d) (length inside) inside ≡ Some (ms, end)
      → (w : Json) × ((after : List ℕ) × ((others : Members) × ((prefix_value d prefix ≡ Some (w, after)) × (ms ≡ m ∷ (name, w) ∷ others))))
  begin_so ms end h =
      let n = length inside in
      let u = unmade (λ ys. m ∷ ys) (list_at 125 (prefix_member d) (n - 1) more) ms end (sym (goes_on (prefix_member d) n inside (omega (arith, long)) m rest more first (first_byte 44 (skip rest) more comma)) ∙ h) in
      let b = bound (prefix_member d (skip more)) (λ x after. list_after 125 (list_at 125 (prefix_member d) (n - 1 - 1)) x (skip after)) u.0 end (sym (one_turn (prefix_member d) (n - 1) more (omega (arith, long))) ∙ u.1.0) in
      let k = unmade (λ v. (name, v)) (prefix_value d prefix) b.0 b.1.0 (sym second ∙ b.1.1.0) in
      let t = begins (list_at 125 (prefix_member d) (n - 1 - 1)) b.0 (skip b.1.0) u.0 end b.1.1.1 in
      (k.0, (b.1.0, (t.0, (k.1.0, u.1.1 ∙ ap (λ ys. m ∷ ys) (t.1 ∙ ap (λ x. x ∷ t.0) k.1.1)))))

module _ (d : ℕ) (bytes inside : List ℕ) (opens : Some inside ≡ after_word (123 ∷ []) bytes) (depth_left : d ≢ 0) (filled : None ≡ after_word (125 ∷ []) (skip inside)) (v : Json) (end : List ℕ) (found : prefix_value d bytes ≡ Some (v, end)) where
  by_members : (o : Option (Members × List ℕ)) → list_at 125 (prefix_member (d - 1)) (length inside) inside ≡ o → (ms : Members) × ((list_at 125 (prefix_member (d - 1)) (length inside) inside ≡ Some (ms, end)) × (v ≡ j.Object ms))
  by_members None h = let wrong = sym (members_fail d bytes inside opens depth_left filled (fault.Malformed why.Syntax 0) h) ∙ found in absurd cc
  by_members (Some x) h =
      let e = pair_is v end (j.Object x.0, x.1) (sym found ∙ some_members d bytes inside opens depth_left filled x.0 x.1 h) in
      (x.0, (h ∙ ap (λ r. Some (x.0, r)) (sym e.1), e.0))

  pub members_of : (ms : Members) × ((list_at 125 (prefix_member (d - 1)) (length inside) inside ≡ Some (ms, end)) × (v ≡ j.Object ms))
  members_of = by_members (list_at 125 (prefix_member (d - 1)) (length inside) inside) refl

-- no value after the first name, and so no object
module _ (d : ℕ) (bytes inside : List ℕ) (opens : Some inside ≡ after_word (123 ∷ []) bytes) (depth_left : d ≢ 0) (filled : None ≡ after_word (125 ∷ []) (skip inside)) (some : 0 < length inside) where
  pub first_fails_all : (name value : List ℕ) → prefix_member (d - 1) (skip inside) ≡ (prefix_value (d - 1) value >>= λ v. Some ((name, v.0), v.1)) → (f : Fault) → Fails f (prefix_value (d - 1) value) → Fails f (prefix_value d bytes)
  first_fails_all name value named f h =
      let one : Fails f (prefix_member (d - 1) (skip inside)) = rw named (first_fails (prefix_value (d - 1) value) _ f h) in
      let all : Fails f (list_at 125 (prefix_member (d - 1)) (length inside) inside) = rw (one_turn (prefix_member (d - 1)) (length inside) inside some) (first_fails (prefix_member (d - 1) (skip inside)) _ f one) in
      members_fail d bytes inside opens depth_left filled f all

-- ---- what it is read as, whatever follows them

abbrev Following : List Json → Bool → Type 0
Following us true = (w : Json) × ((ws : List Json) × (us ≡ w ∷ ws))
Following us false = us ≡ []

following : {A : Type 0} (Is : Json → A → Type 0) (v : Json) (us : List Json) (s : Occurrence A) → IsOccurrence Is (v ∷ us) s → Following us (is_again s)
following Is v us Never h = absurd cc
following Is v us (Once y) (w, same, k) = cc
following Is v us Again (w, u, ws, same) = (u, (ws, cc))

module _ (exact : Bool) (v : Json) (name : List ℕ) (more : Members) (old : Counts) (kind : CoordinatesType) (typed : geometry_type name ≡ Some (Coordinates kind)) where
  abbrev led : Members
  led = (codes "type", j.Text name) ∷ (codes "coordinates", v) ∷ more

  abbrev MeansBy : Bool → Type 0
  MeansBy is = geometry exact led old ≡ (if is then Err Duplicate else coordinates_shape exact kind v old)

  by_repeats : (again doubled : Bool) → Following (named (codes "type") more) again → Following (named (codes "coordinates") more) doubled → MeansBy (again || doubled)
  unfolding geometry type_name named typed_geometry need
  by_repeats true doubled t u = rw t.1.1 refl
  by_repeats false true t u = rw (t, text_of-text name, typed, u.1.1) refl
  by_repeats false false t u = rw (t, text_of-text name, typed, u) refl

  means_by : (seen : Seen) → IsSeen led seen → MeansBy (twice seen)
  unfolding named
  means_by seen h =
      by_repeats (is_again seen.kind) (is_again seen.coordinates) (following (λ w x. Unit {0}) (j.Text name) (named (codes "type") more) seen.kind h.kind)
      (following (λ w x. Unit {0}) v (named (codes "coordinates") more) seen.coordinates h.coordinates)

module _ (exact : Bool) (kind : CoordinatesType) (d : ℕ) (bytes prefix : List ℕ) (old : Counts) (leads : LeadsGeometry kind d bytes prefix) where
  nothing_by : (o : Option (Json × List ℕ)) → prefix_value d bytes ≡ o → prefix_value (d - 1) prefix ≡ None → prefix_value d bytes ≡ None
  nothing_by None h none = h
  nothing_by (Some x) h none = let wrong = sym none ∙ (leads x.0 x.1 h).found in absurd cc

  pub led_nothing : prefix_value (d - 1) prefix ≡ None → prefix_value d bytes ≡ None
  led_nothing none = nothing_by (prefix_value d bytes) refl none

  module _ (is : Bool) (rest : List ℕ) (r : RepeatsIn d bytes is rest) where
    this : IsLed kind d prefix (j.Object r.members)
    this = leads (j.Object r.members) rest r.prefix

    these : r.members ≡ led exact this.part this.name this.more old kind this.typed
    these =
        let same : ◌≡◌ {A = Option Members} (Some r.members) (Some (led exact this.part this.name this.more old kind this.typed)) = sym (object_of-object r.members) ∙ ap object_of this.object ∙ object_of-object (led exact this.part this.name this.more old kind this.typed) in cc

    abbrev chosen : Bool → Result (Option Shape × Counts) GeoFaultKind
    chosen t = if t then Err Duplicate else coordinates_shape exact kind this.part old

    means : geometry exact r.members old ≡ chosen is
    means =
        ap (λ ms. geometry exact ms old) these ∙ means_by exact this.part this.name this.more old kind this.typed r.seen (subst (λ ms. IsSeen ms r.seen) these r.occurrence)
        ∙ ap chosen (sym r.answer)

    pub led_twice : is ≡ true → Stops (shape exact) (prefix_value d bytes) old (stop.Fault Duplicate)
    led_twice is_so = object_stops exact (prefix_value d bytes) r.members rest old r.prefix old (stop.Fault Duplicate) (means ∙ ap chosen is_so)

    by_fault : (t : Bool) (read : Result (Option Shape × Counts) GeoFaultKind) (e : GeoFaultKind) → read ≡ Err e → (if t then Err Duplicate else read) ≡ Err (first_fault t e)
    by_fault true read e h = refl
    by_fault false read e h = h

    pub led_faulty : (e : GeoFaultKind) → Stops (coordinates_shape exact kind) (prefix_value (d - 1) prefix) old (stop.Fault e) → Stops (shape exact) (prefix_value d bytes) old (stop.Fault (first_fault is e))
    led_faulty e h = object_stops exact (prefix_value d bytes) r.members rest old r.prefix old (stop.Fault (first_fault is e)) (means ∙ by_fault is _ e (h this.part this.after this.found))

    pub led_read : is ≡ false → (s : Option Shape) (after : List ℕ) (new : Counts) → Reads (coordinates_shape exact kind) (prefix_value (d - 1) prefix) s after old new → Reads (shape exact) (prefix_value d bytes) s rest old new
    led_read is_not s after new q = object_reads exact (prefix_value d bytes) r.members rest old r.prefix s new (means ∙ ap chosen is_not ∙ judged_read (coordinates_shape exact kind) (prefix_value (d - 1) prefix) this.part this.after old new this.found s after q)
